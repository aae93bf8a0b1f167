-- Two answers that a public function's contract allows for one input are one answer.
-- Assumes nothing.
use Prim.Native.Nat.{ℕ}
use mathlib.Core.Path.{◌≡◌}
use mathlib.Core.List.{List}
use Rattle.lists.specs.One.{One}
use Rattle.lists.proofs.One.{one}
use Rattle.plain_numbers.specs.Plain.{plain_at}

pub plain_number_one : (text : List ℕ) (i : ℕ) → One (λ r. r ≡ plain_at text i)
plain_number_one text i = one
