-- What it is for a contract to leave no choice: "prove that two outcomes allowed by it coincide" (document 01).
use Rattle.std.specs.Prelude.{◌≡◌}

-- two values that a contract allows are one
abbrev pub One : {A : Type 0} → (A → Type 0) → Type 0
One {A} Allowed = (r s : A) → Allowed r → Allowed s → r ≡ s
