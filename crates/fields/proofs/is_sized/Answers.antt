-- `fields::is_sized` meets its contract.
use mathlib.Core.Path.{sym}
use native.Mathlib.Omega.{arith}
use Rattle.fields.proofs.Looks.{whole_field, sized_by, not_sized}
use Rattle.fields.proofs.is_sized.Goals as goal

pub overflow_sub-result : goal.overflow_sub-result
overflow_sub-result c = omega (arith, (whole_field _ _ _ (sym c.in-Some.ensures)).1)

pub overflow_sub-result-in-Some : goal.overflow_sub-result-in-Some
overflow_sub-result-in-Some c = omega (arith, (whole_field _ _ _ (sym c.in-Some.ensures)).1)

pub returns-in-Some : goal.returns-in-Some
returns-in-Some c = sized_by _ _ _ _ (sym c.in-Some.ensures)

pub returns-in-None : goal.returns-in-None
returns-in-None c = not_sized _ _ _ _ (sym c.in-None.ensures)
