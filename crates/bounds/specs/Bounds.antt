-- Boxes, and rows of them in a lent table (request 2026-03: "Five i64 a row: 1, low X, high X, low Y, high Y; all 0 without coordinates.").
use Rattle.std.specs.Prelude.{◌≡◌, Bool, cond, List, [], ◌∷◌, ◌++◌, ℕ, ◌+◌, ◌-◌, ◌*◌, ◌/◌, ltb, ℤ, pos, neg_ℤ, nat_abs, length, get_or, replicate}
use Rattle.std.specs.Int.Signed.{lt_z, non_neg}
use Rattle.std.proofs.lemmas.List.Edits.{sets}
use Rattle.store.specs.Rows.{cleared_to}
use Rattle.bounds.specs.declared.Bounds.{Bounds}
use Rattle.bounds.specs.declared.BoxAnswer.{BoxAnswer}

-- ---- boxes
-- the lower and the higher of two
abbrev pub lower : ℤ → ℤ → ℤ
lower a b = cond (lt_z b a) b a

abbrev pub higher : ℤ → ℤ → ℤ
higher a b = cond (lt_z a b) b a

-- low X, high X, low Y, high Y
abbrev pub box : ℤ → ℤ → ℤ → ℤ → Bounds
box left right bottom top = record { left = left; right = right; bottom = bottom; top = top }

-- the box around two
unfoldable pub merge : Bounds → Bounds → Bounds
merge a b = box (lower a.left b.left) (higher a.right b.right) (lower a.bottom b.bottom) (higher a.top b.top)

-- the box around nothing: its sides are farther in than any number's
abbrev pub edge : ℕ
edge = 1000000000000000000

abbrev pub nothing : Bounds
nothing = box (pos edge) (neg_ℤ (pos edge)) (pos edge) (neg_ℤ (pos edge))

abbrev pub is_nothing : Bounds → Bool
is_nothing b = lt_z b.right b.left

-- ---- rows
-- "Five i64 a row"
abbrev pub box_width : ℕ
box_width = 5

-- "The table's rows are its length divided by 5"
abbrev pub box_room : List ℤ → ℕ
box_room t = length t / box_width

pub record BoxRow : Type 0 where
  pub first : ℤ
  pub bounds : Bounds

abbrev pub box_row : ℤ → Bounds → BoxRow
box_row first b = record { first = first; bounds = b }

abbrev pub five : ℤ → Bounds → List ℤ
five first b = first ∷ b.left ∷ b.right ∷ b.bottom ∷ b.top ∷ []

abbrev pub five_of : BoxRow → List ℤ
five_of r = five r.first r.bounds

-- "all 0 without coordinates"
abbrev pub no_box : BoxRow
no_box = box_row (pos 0) (box (pos 0) (pos 0) (pos 0) (pos 0))

-- "1, low X, high X, low Y, high Y; all 0 without coordinates"
unfoldable pub done_row : Bounds → BoxRow
done_row b = cond (is_nothing b) no_box (box_row (pos 1) b)

-- row i: nothing changes where there is no such row
unfoldable pub put_five : List ℤ → ℕ → List ℤ → List ℤ
put_five t i vs = cond (ltb i (box_room t)) (sets t (i * box_width) vs) t

-- the number in column c of row i, and the box there: zeros where there is no such row
unfoldable pub box_cell : List ℤ → ℕ → ℕ → ℤ
box_cell t i c = cond (ltb i (box_room t)) (get_or t (i * box_width + c) (pos 0)) (pos 0)

abbrev pub first_at : List ℤ → ℕ → ℤ
first_at t i = box_cell t i 0

abbrev pub bounds_at : List ℤ → ℕ → Bounds
bounds_at t i = box (box_cell t i 1) (box_cell t i 2) (box_cell t i 3) (box_cell t i 4)

-- ---- a table that is filled while nodes are met. The row of a node that is open has its parent's row in its first place, and then the box around what was
-- met under it
-- a node is opened below the row p: there is nothing under it yet
unfoldable pub opened : List ℤ → ℕ → ℕ → List ℤ
opened t i p = cond (ltb p (box_room t)) (put_five t i (five (pos p) nothing)) t

-- the box of row i is widened by another
unfoldable pub widened : List ℤ → ℕ → Bounds → List ℤ
widened t i b = put_five t i (five (first_at t i) (merge (bounds_at t i) b))

-- so is that of the row p above it; the root has none above it, though it is told to stand below row 0
abbrev pub widened_above : List ℤ → ℕ → ℕ → Bounds → List ℤ
widened_above t i p b = cond (ltb p i) (widened t p b) t

-- a node below the row p has ended: its box is known
abbrev pub settled : List ℤ → ℕ → ℕ → Bounds → List ℤ
settled t i p b = put_five (widened_above t i p b) i (five_of (done_row b))

unfoldable pub closed : List ℤ → ℕ → List ℤ
closed t i = cond (non_neg (first_at t i)) (settled t i (nat_abs (first_at t i)) (bounds_at t i)) t

-- ---- what is left in the table
abbrev pub zeros : ℕ → List ℤ
zeros n = replicate n (pos 0)

abbrev pub padded : List ℤ → ℕ → List ℤ
padded l n = l ++ zeros (n - length l)

abbrev pub cleared : List ℤ → ℕ → List ℤ
cleared t from = cleared_to (pos 0) t from

abbrev pub box_answer : ℕ → ℕ → BoxAnswer
box_answer number place = record { number = number; place = place }

-- a refusal: its number and place, and "all zero on a refusal"
pub record Refuses (number place : ℕ) (t : List ℤ) (a : BoxAnswer) (t' : List ℤ) : Type 0 where
  pub answer : a ≡ box_answer number place
  pub table : t' ≡ zeros (length t)
