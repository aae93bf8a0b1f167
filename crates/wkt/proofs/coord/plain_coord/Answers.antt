-- `wkt::coord::plain_coord` meets its contract: each plain number is one number token more, in the next number row.
use native.Mathlib.Omega.{arith}
use Rattle.plain_numbers.proofs.Reading.{plain_number}
use Rattle.wkt.proofs.Numbers.{next_row, kept_all, no_plains, plain_kept, kept_on, no_numbers, one_more, all_read}
use Rattle.wkt.proofs.coord.plain_coord.Goals as goal

pub overflow_sub-number_room : goal.overflow_sub-number_room
overflow_sub-number_room c = omega (arith, c.number_room.ensures, c.requires.1)

pub returns-then-number_room-used : goal.returns-then-number_room-used
returns-then-number_room-used c = no_plains kept_all

pub loop-k-init : goal.loop-k-init
loop-k-init c = (omega arith, omega (arith, rw c.number_room.ensures at c.if-number_room-used.false, c.requires.1), kept_all, no_numbers)

pub returns-in_default : goal.returns-in_default
returns-in_default c = no_plains c.loop-k.invariant.2

pub overflow_add-used : goal.overflow_add-used
overflow_add-used c = omega (arith, c.loop-k.invariant.1, c.loop-k-test.true)

pub overflow_cast-here : goal.overflow_cast-here
overflow_cast-here c = let x = plain_number _ _ c.in-Some.ensures in omega (arith, x.behind, x.inside, c.requires.0)

pub overflow_sub-number : goal.overflow_sub-number
overflow_sub-number c = let x = plain_number _ _ c.in-Some.ensures in omega (arith, x.behind)

pub overflow_cast-number : goal.overflow_cast-number
overflow_cast-number c = let x = plain_number _ _ c.in-Some.ensures in omega (arith, x.inside, c.requires.0)

pub loop-k-preserved : goal.loop-k-preserved
loop-k-preserved c =
    let x = plain_number _ _ c.in-Some.ensures in
    let v = c.loop-k.invariant in
    let u = next_row _ _ _ _ c.loop-k-test.true v.1 in
    (omega (arith, c.loop-k-test.true), rw c.put_number.auto.numbers v.1, kept_on _ v.2 (plain_kept c.requires.0 x u c.put_number.ensures), one_more c.requires.0 v.3 x u c.put_number.ensures)

pub returns : goal.returns
returns c = all_read c.loop-k.invariant.0 c.loop-k-test.false c.loop-k.invariant.2 c.loop-k.invariant.3
