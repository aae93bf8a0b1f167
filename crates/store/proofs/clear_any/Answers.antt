-- `store::clear_any` meets its contract: the places from `from` on are filled, or there is none.
use mathlib.Core.Path.{sym}
use Rattle.store.proofs.Zeros.{cleared_filled, cleared_past}
use Rattle.store.proofs.clear_any.Goals as goal

pub returns-then-from-slice : goal.returns-then-from-slice
returns-then-from-slice g c =
    cleared_filled _ _ _ _ (rw c.ZERO.ensures at (c.fill.ensures.after (rw c.ZERO.ensures g.met.T.Zero.same)))

pub returns-else-from-slice : goal.returns-else-from-slice
returns-else-from-slice g c = sym (cleared_past _ _ _ c.if-from-slice.false)
