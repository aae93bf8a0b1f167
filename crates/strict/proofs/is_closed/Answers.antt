-- `strict::is_closed` meets its contract: the last coordinate's numbers are among those of the ring.
use native.Mathlib.Omega.{arith}
use borrow.Author.Tests.{eq-eqb, ne_eqb}
use Rattle.strict.specs.Rules.{closed}
use Rattle.strict.proofs.Rules.{last_fits}
use Rattle.strict.proofs.is_closed.Goals as goal

pub returns-then-v-eq0 : goal.returns-then-v-eq0
unfolding closed
returns-then-v-eq0 c = rw (eq-eqb _ _ c.if-v-eq0.true)

pub overflow_mul-last : goal.overflow_mul-last
overflow_mul-last c = omega (arith, last_fits c.args.v c.args.numbers.now c.width_of-width.result c.width_of-width.ensures c.requires c.if-v-eq0.false)

pub overflow_add-last : goal.overflow_add-last
overflow_add-last c = omega (arith, last_fits c.args.v c.args.numbers.now c.width_of-width.result c.width_of-width.ensures c.requires c.if-v-eq0.false)

pub same_texts-requires : goal.same_texts-requires
same_texts-requires c =
    let h = last_fits c.args.v c.args.numbers.now c.width_of-width.result c.width_of-width.ensures c.requires c.if-v-eq0.false in
    record { near = omega (arith, h); far = omega (arith, h) }

pub returns : goal.returns
unfolding closed
returns c = rw (ne_eqb _ _ c.if-v-eq0.false, ← c.width_of-width.ensures) c.same_texts.ensures
