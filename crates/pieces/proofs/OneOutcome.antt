-- Two answers that a public function's contract allows for one input are one answer, and so are two slices that are left.
-- Assumes nothing.
use Prim.Native.Nat.{ℕ}
use mathlib.Core.Path.{◌≡◌, sym, ◌∙◌}
use mathlib.Core.List.{List}
use Rattle.nodes.specs.declared.Visit.{Visit}
use Rattle.shape.specs.Numbers.{text_at}
use Rattle.pen.specs.declared.Pen.{Pen}
use Rattle.pieces.specs.Pieces.{PutsEach, number_pieces, comma_pieces, head_pieces}

-- the pen and the slice
pub each_one : {pieces : List (List ℕ)} {out left left' : List ℕ} {p r r' : Pen} → PutsEach pieces p out r left → PutsEach pieces p out r' left' → (r ≡ r') × (left ≡ left')
each_one x y = (x.stands ∙ sym y.stands, x.bytes ∙ sym y.bytes)

module _ {out left left' : List ℕ} {p r r' : Pen} where
  pub put_number_one : (lead : ℕ) (text numbers : List ℕ) (i : ℕ) → PutsEach (number_pieces lead (text_at text numbers i)) p out r left → PutsEach (number_pieces lead (text_at text numbers i)) p out r' left' → (r ≡ r') × (left ≡ left')
  put_number_one lead text numbers i x y = each_one x y

  pub put_comma_one : (v : Visit) → PutsEach (comma_pieces v) p out r left → PutsEach (comma_pieces v) p out r' left' → (r ≡ r') × (left ≡ left')
  put_comma_one v x y = each_one x y

  pub put_head_one : (v : Visit) → PutsEach (head_pieces v) p out r left → PutsEach (head_pieces v) p out r' left' → (r ≡ r') × (left ≡ left')
  put_head_one v x y = each_one x y
