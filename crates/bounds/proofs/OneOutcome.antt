-- Two outcomes that a public function's contract allows for one input are one outcome: the answer, and what the lent table is left with.
-- Assumes nothing.
use Prim.Native.Nat.{ℕ}
use mathlib.Core.Path.{◌≡◌, sym, ◌∙◌}
use mathlib.Core.List.{List}
use lib.IntN.{ℤ}
use Rattle.lists.specs.One.{One}
use Rattle.lists.proofs.One.{one}
use Rattle.bounds.specs.declared.BoxAnswer.{BoxAnswer}
use Rattle.bounds.specs.declared.Bounds.{Bounds}
use Rattle.bounds.specs.Bounds.{merge, opened, settled, closed, Refuses}

pub around_one : (a b : Bounds) → One (λ r. r ≡ merge a b)
around_one a b = one

module _ (table : List ℤ) where
  pub open_one : (row parent : ℕ) → One (λ left. left ≡ opened table row parent)
  open_one row parent = one

  pub settle_one : (row parent : ℕ) (b : Bounds) → One (λ after. after ≡ settled table row parent b)
  settle_one row parent b = one

  pub close_one : (row : ℕ) → One (λ left. left ≡ closed table row)
  close_one row = one

-- two outcomes of `refuse`: the answer and the table
pub refuse_one : {number place : ℕ} {table : List ℤ} {a a' : BoxAnswer} {left left' : List ℤ} → Refuses number place table a left → Refuses number place table a' left' → (a ≡ a') × (left ≡ left')
refuse_one x y = (x.answer ∙ sym y.answer, x.table ∙ sym y.table)
