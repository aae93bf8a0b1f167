-- `put_part` meets its contract.
use borrow.Author.Rules.{rules}
use native.Mathlib.Omega.{arith}
use Rattle.line_places.proofs.Turns.{next_after, next_within}
use Rattle.explain.proofs.ShownLaws.{part_start, part_on, part_end}
use Rattle.explain.proofs.characters.put_part.Goals as goal

pub loop-i-init : goal.loop-i-init
loop-i-init c = (omega arith, λ last p. part_start c.args.under c.args.part.now 0 p)

pub slice_bounds-bytes-count : goal.slice_bounds-bytes-count
slice_bounds-bytes-count c = omega (arith, next_after _ _ _ (search rules) c.next_begin-next.ensures.value)

pub slice_bounds-bytes-start : goal.slice_bounds-bytes-start
slice_bounds-bytes-start c = omega (arith, next_after _ _ _ (search rules) c.next_begin-next.ensures.value)

pub slice_bounds-bytes-end : goal.slice_bounds-bytes-end
slice_bounds-bytes-end c = omega (arith, next_within _ _ _ c.next_begin-next.ensures.value)

pub loop-i-smaller : goal.loop-i-smaller
loop-i-smaller c = omega (arith, next_after _ _ _ (search rules) c.next_begin-next.ensures.value, next_within _ _ _ c.next_begin-next.ensures.value)

pub loop-i-preserved : goal.loop-i-preserved
loop-i-preserved c = (next_within _ _ _ c.next_begin-next.ensures.value, λ last p. c.loop-i.invariant.1 last (part_on c.args.under c.args.part.now _ c.loop-i-test.true c.next_begin-next.ensures.value c.shown_for.ensures c.put_one.ensures p))

pub returns : goal.returns
returns c = c.loop-i.invariant.1 _ (part_end c.args.under c.args.part.now _ _ (omega arith))
