-- `expected::expected_of` meets its contract: an arm for each case of the definition.
use mathlib.Core.Path.{◌∙◌}
use native.Mathlib.Omega.{arith}
use Rattle.expected.proofs.Laws.{of_plus, of_wrong, of_other}
use Rattle.expected.proofs.expected_of.Goals as goal

pub returns-in-28 : goal.returns-in-28
returns-in-28 c = of_plus _ _ _ c.in-28.is

pub returns-in-29 : goal.returns-in-29
returns-in-29 c = c.expected_at.ensures ∙ of_wrong _ _ _ c.in-29.is

pub returns-in_default : goal.returns-in_default
returns-in_default c = of_other _ _ _ (omega arith) (omega arith)
