-- `store::open_row` meets its contract: a whole row is put, with no parts.
use mathlib.Core.Path.{sym, ◌∙◌}
use Rattle.store.proofs.Rows.{open_row_puts}
use Rattle.store.proofs.open_row.Goals as goal

pub returns : goal.returns
returns c = c.put_row.ensures ∙ sym (open_row_puts _ _ _ _)
