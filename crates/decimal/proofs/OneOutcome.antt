-- Two answers that a public function's contract allows for one input are one answer.
-- Assumes nothing.
use Prim.Native.Nat.{ℕ}
use mathlib.Core.Path.{◌≡◌}
use mathlib.Core.List.{List}
use Rattle.lists.specs.One.{One}
use Rattle.lists.proofs.One.{one}
use Rattle.decimal.specs.Reckon.{reckoned}

pub reckon_one : (w : List ℕ) → One (λ r. r ≡ reckoned w)
reckon_one w = one
