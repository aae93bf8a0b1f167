-- `store::cell_at` meets its contract: a row that is there has the column.
use mathlib.Core.Path.{sym}
use Rattle.store.proofs.Cells.{cell_in, cell_out}
use Rattle.store.proofs.cell_at.Goals as goal

pub returns-in-Some : goal.returns-in-Some
returns-in-Some g c = let r = c.in-Some.ensures.there in rw r.1 (sym (cell_in _ _ _ _ r.0))

pub returns-in-None : goal.returns-in-None
returns-in-None g c = sym (cell_out _ _ _ _ c.in-None.ensures.none)
