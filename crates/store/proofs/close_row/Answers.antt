-- `store::close_row` meets its contract: with room its store is `close_row`, and without it nothing changes.
use mathlib.Core.Path.{sym}
use Rattle.store.specs.Rows.{close_row}
use Rattle.store.proofs.Cells.{put_in, put_out}
use Rattle.store.proofs.close_row.Goals as goal

pub returns-in-Some : goal.returns-in-Some
unfolding close_row
returns-in-Some c = let r = c.in-Some.ensures.there in rw r.1 (sym (put_in _ _ _ _ _ r.0))

pub returns-in_default : goal.returns-in_default
unfolding close_row
returns-in_default c = sym (put_out _ _ _ _ _ c.in_default.ensures.none)
