-- Two answers that a public function's contract allows for one input are one answer, and so are two slices that are left.
-- Assumes nothing.
use Prim.Native.Nat.{ℕ, ◌%◌, ◌^◌}
use mathlib.Core.Path.{◌≡◌}
use mathlib.Core.List.{List}
use lib.ListN.{length}
use Rattle.lists.specs.One.{One}
use Rattle.lists.proofs.One.{one}
use Rattle.pen.specs.declared.Pen.{Pen}
use Rattle.pen.specs.Pen.{Puts}
use Rattle.pen.proofs.OneOutcome.{put_one}
use Rattle.fields.specs.Counts.{count_in, count_bytes}
use Rattle.fields.specs.Fields.{field, field_at, is_sized}

module _ (bytes : List ℕ) where
  pub count_in_one : One (λ r. r ≡ count_in bytes % 2 ^ 32)
  count_in_one = one

  pub put_count_one : (count : ℕ) → One (λ left. left ≡ count_bytes (length bytes) count)
  put_count_one count = one

  pub field_at_one : (at tag : ℕ) → One (λ r. r ≡ field_at tag bytes at)
  field_at_one at tag = one

  pub is_sized_one : (at tag size : ℕ) → One (λ r. r ≡ is_sized tag size bytes at)
  is_sized_one at tag size = one

-- two outcomes of `put_field`: the pen and the slice
pub put_field_one : (tag : ℕ) (content : List ℕ) {out left left' : List ℕ} {p r r' : Pen} → Puts (field tag content) p out r left → Puts (field tag content) p out r' left' → (r ≡ r') × (left ≡ left')
put_field_one tag content x y = put_one x y
