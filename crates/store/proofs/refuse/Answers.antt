-- `store::refuse` meets its contract.
use mathlib.Core.Path.{refl, ◌∙◌}
use Rattle.store.proofs.Zeros.{cleared_all}
use Rattle.store.proofs.refuse.Goals as goal

pub returns : goal.returns
returns c = record { answer = refl; nodes = c.clear.ensures ∙ cleared_all _; numbers = c.clear-2.ensures ∙ cleared_all _ }
