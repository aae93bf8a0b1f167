-- `pen::refuse` meets its contract.
use mathlib.Core.Path.{refl, ◌∙◌}
use Rattle.store.proofs.Zeros.{cleared_zeros}
use Rattle.pen.proofs.refuse.Goals as goal

pub returns : goal.returns
returns c = record { answer = refl; bytes = c.clear_any.ensures ∙ cleared_zeros _ }
