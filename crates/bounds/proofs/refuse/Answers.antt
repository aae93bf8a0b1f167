-- `bounds::refuse` meets its contract: all is cleared.
use mathlib.Core.Path.{refl, ◌∙◌}
use Rattle.bounds.proofs.Tables.{cleared_zeros}
use Rattle.bounds.proofs.refuse.Goals as goal

pub returns : goal.returns
returns c = record { answer = refl; table = c.clear_any.ensures ∙ cleared_zeros _ }
