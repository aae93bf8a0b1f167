-- Two answers that a public function's contract allows for one input are one answer.
-- Assumes nothing.
use Prim.Native.Nat.{ℕ}
use mathlib.Core.Path.{◌≡◌}
use mathlib.Core.List.{List}
use Rattle.lists.specs.One.{One}
use Rattle.lists.proofs.One.{one}
use Rattle.infer_type.specs.Infer.{infer_type}

pub infer_type_one : (text : List ℕ) → One (λ r. r ≡ infer_type text)
infer_type_one text = one
