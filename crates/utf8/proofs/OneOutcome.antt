-- Two answers that a public function's contract allows for one input are one answer.
-- Assumes nothing.
use Prim.Native.Nat.{ℕ}
use mathlib.Core.Path.{◌≡◌}
use mathlib.Core.List.{List}
use Rattle.lists.specs.One.{One}
use Rattle.lists.proofs.One.{one}
use Rattle.utf8.specs.Utf8.{first_ill}

pub first_ill_formed_one : (text : List ℕ) → One (λ r. r ≡ first_ill text)
first_ill_formed_one text = one
