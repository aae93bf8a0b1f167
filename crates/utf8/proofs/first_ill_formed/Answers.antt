-- The loop keeps the answer: i, and how far whole characters go from there.
use mathlib.Core.Path.{sym, ◌∙◌}
use native.Mathlib.Omega.{arith}
use Rattle.utf8.proofs.Walk.{inside, on, on_ascii, stop, past}
use borrow.Author.Rules.{rules}
use Rattle.utf8.proofs.first_ill_formed.Goals as goal

pub loop-i-init : goal.loop-i-init
loop-i-init c = c.ascii_front-i.ensures

pub loop-i-preserved-then-text-i-lt-ASCII_END : goal.loop-i-preserved-then-text-i-lt-ASCII_END
loop-i-preserved-then-text-i-lt-ASCII_END c = (omega arith, on_ascii _ _ (search rules) c.if-text-i-lt-ASCII_END.true ∙ c.loop-i.invariant.1)

pub returns-then-width-eq0 : goal.returns-then-width-eq0
returns-then-width-eq0 c = stop _ _ (sym c.if-width-eq0.true ∙ c.width_at-width.ensures) ∙ c.loop-i.invariant.1

pub overflow_add-i-else-text-i-lt-ASCII_END : goal.overflow_add-i-else-text-i-lt-ASCII_END
overflow_add-i-else-text-i-lt-ASCII_END c = omega (arith, inside _ _ _ c.width_at-width.ensures c.loop-i.invariant.0)

pub loop-i-preserved : goal.loop-i-preserved
loop-i-preserved c =
    (inside _ _ _ c.width_at-width.ensures c.loop-i.invariant.0, on _ _ _ c.width_at-width.ensures (omega arith) ∙ c.loop-i.invariant.1)

pub returns : goal.returns
returns c = past _ _ c.loop-i-test.false ∙ c.loop-i.invariant.1
