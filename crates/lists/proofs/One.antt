-- A contract that gives its answer by an equation leaves no choice.
-- Assumes nothing.
use mathlib.Core.Path.{◌≡◌, sym, ◌∙◌}
use Rattle.lists.specs.One.{One}

pub one : {A : Type 0} {x : A} → One (λ r. r ≡ x)
one r s p q = p ∙ sym q
