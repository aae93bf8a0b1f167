-- `store::put_row` meets its contract: with room its three stores are `put_row`, and without it nothing changes.
use mathlib.Core.Path.{sym}
use Rattle.store.specs.Rows.{put_row}
use Rattle.store.proofs.Cells.{put_out}
use Rattle.store.proofs.Rows.{put_row_in}
use Rattle.store.proofs.put_row.Goals as goal

pub returns-in-Some : goal.returns-in-Some
returns-in-Some c = let r = c.in-Some.ensures.there in rw r.1 (put_row_in _ _ _ _ _ r.0)

pub returns-in_default : goal.returns-in_default
unfolding put_row
returns-in_default c = sym (put_out _ _ _ _ _ c.in_default.ensures.none)
