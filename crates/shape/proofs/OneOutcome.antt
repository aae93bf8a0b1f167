-- Two answers that a public function's contract allows for one input are one answer.
-- Assumes nothing.
use Prim.Native.Nat.{ℕ}
use mathlib.Core.Path.{◌≡◌}
use mathlib.Core.List.{List}
use Rattle.lists.specs.One.{One}
use Rattle.lists.proofs.One.{one}
use Rattle.shape.specs.Numbers.{text_at, is_number_at}
use Rattle.shape.specs.Store.{well_formed}
use Rattle.shape.specs.Walk.{are_rows}

module _ (text ns ms : List ℕ) where
  pub number_text_one : (i : ℕ) → One (λ r. r ≡ text_at text ms i)
  number_text_one i = one

  pub is_number_at_one : (i : ℕ) → One (λ r. r ≡ is_number_at text ms i)
  is_number_at_one i = one

  pub are_rows_one : One (λ r. r ≡ are_rows text ns ms)
  are_rows_one = one

  pub check_one : One (λ r. r ≡ well_formed text ns ms)
  check_one = one
