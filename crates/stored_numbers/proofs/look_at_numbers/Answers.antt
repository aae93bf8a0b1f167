-- `stored_numbers::look_at_numbers` meets its contract.
use mathlib.Core.Path.{sym, ◌∙◌}
use Prim.Native.Nat.{◌+◌}
use native.Mathlib.Omega.{arith}
use Rattle.scan.proofs.Front.{tail_part}
use Rattle.stored_numbers.proofs.Looks.{numbers_begin, number_faulty, number_room_law, number_lexeme, numbers_extra, numbers_whole}
use Rattle.stored_numbers.proofs.look_at_numbers.Goals as goal

pub loop-init : goal.loop-init
loop-init c = numbers_begin _ _ _

pub returns-in_default : goal.returns-in_default
returns-in_default c = number_faulty c.loop.invariant c.loop-test.true (sym c.in_default.ensures)

pub overflow_add-start : goal.overflow_add-start
overflow_add-start c = omega (arith, number_room_law c.loop.invariant c.loop-test.true (sym c.in-Some.ensures))

pub slice_bounds-front_is_lexeme-count : goal.slice_bounds-front_is_lexeme-count
slice_bounds-front_is_lexeme-count c = omega (arith, number_room_law c.loop.invariant c.loop-test.true (sym c.in-Some.ensures))

pub slice_bounds-front_is_lexeme-start : goal.slice_bounds-front_is_lexeme-start
slice_bounds-front_is_lexeme-start c = omega (arith, number_room_law c.loop.invariant c.loop-test.true (sym c.in-Some.ensures))

pub overflow_sub-end : goal.overflow_sub-end
overflow_sub-end c = omega (arith, number_room_law c.loop.invariant c.loop-test.true (sym c.in-Some.ensures))

pub loop-preserved : goal.loop-preserved
loop-preserved c =
    let e = sym c.in-Some.ensures in
    number_lexeme c.loop.invariant c.loop-test.true e (c.front_is_lexeme-good.ensures ∙ rw (tail_part (c.loop.at + 3) c.args.bytes.now))

pub returns-then-at-bytes : goal.returns-then-at-bytes
returns-then-at-bytes c = numbers_extra c.loop.invariant c.loop-test.false c.if-at-bytes.true

pub returns : goal.returns
returns c = numbers_whole c.loop.invariant c.loop-test.false c.if-at-bytes.false
