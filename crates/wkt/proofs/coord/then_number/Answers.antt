-- `wkt::coord::then_number` meets its contract: behind what was read and asked for a number follows, and else the prior answer stays.
use mathlib.Core.Path.{refl}
use Rattle.std.proofs.lemmas.Result.{err_from_is_err_and}
use Rattle.wkt.proofs.Numbers.{spot_ready, on_number, on_unasked, on_lost}
use Rattle.wkt.proofs.coord.then_number.Goals as goal

pub returns-in_err-end : goal.returns-in_err-end
returns-in_err-end c =
    let p = err_from_is_err_and c.from_residual.result c.from_residual.ensures.1 in
    rw (p.1, p.2, c.in_err-end.was) (on_lost _ _ _ refl)

pub number-requires : goal.number-requires
number-requires c = rw c.state_of.ensures (spot_ready (rw c.in_ok-end.was at c.requires))

pub returns-then-asked : goal.returns-then-asked
returns-then-asked c = on_number _ c.in_ok-end.was c.if-asked.true (rw c.state_of.ensures at c.number.ensures)

pub returns-else-asked : goal.returns-else-asked
returns-else-asked c = rw c.in_ok-end.was (on_unasked _ _ _ c.if-asked.false)
