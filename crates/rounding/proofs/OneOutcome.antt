-- Two answers that a public function's contract allows for one input are one answer.
-- Assumes nothing.
use Prim.Native.Nat.{ℕ}
use mathlib.Core.Path.{◌≡◌}
use mathlib.Core.Bool.{Bool}
use Rattle.lists.specs.One.{One}
use Rattle.lists.proofs.One.{one}
use Rattle.rounding.specs.Rounding.{rounded}

pub round_one : (minus : Bool) (whole : ℕ) (left : Bool) → One (λ r. r ≡ rounded minus whole left)
round_one minus whole left = one
