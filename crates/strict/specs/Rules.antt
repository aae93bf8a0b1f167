-- The rules of the strict check (document 01, "Strict check"), for a node of a well-formed store in its place.
use Rattle.std.specs.Prelude.{Option, Some, None, Bool, true, false, cond, not, ◌&&◌, List, [], ◌∷◌, ℕ, zero, suc, ◌+◌, ◌-◌, ◌*◌, ◌^◌, ◌<◌, eqb, ltb}
use Rattle.kinds.specs.Kinds.{kind_line_string, kind_polygon, kind_geometry_collection, width}
use Rattle.nodes.specs.declared.Visit.{Visit}
use Rattle.shape.specs.Numbers.{text_at}

-- a letter's ASCII byte
abbrev pub letter_a : ℕ
letter_a = 65

abbrev pub letter_b : ℕ
letter_b = 66

abbrev pub letter_c : ℕ
letter_c = 67

abbrev pub letter_d : ℕ
letter_d = 68

-- no rule
abbrev pub no_letter : ℕ
no_letter = 0

unfoldable pub same_bytes : List ℕ → List ℕ → Bool
same_bytes [] [] = true
same_bytes [] (b ∷ m) = false
same_bytes (a ∷ l) [] = false
same_bytes (a ∷ l) (b ∷ m) = eqb a b && same_bytes l m

-- n numbers from i on have the texts of those from j on
unfoldable pub same_texts : List ℕ → List ℕ → ℕ → ℕ → ℕ → Bool
same_texts text numbers i j zero = true
same_texts text numbers i j (suc n) = same_bytes (text_at text numbers i) (text_at text numbers j) && same_texts text numbers (i + 1) (j + 1) n

abbrev pub is_line : Visit → Bool
is_line v = eqb v.kind kind_line_string

abbrev pub is_ring : Visit → Bool
is_ring v = is_line v && eqb v.parent.kind kind_polygon

-- not empty, with fewer than n coordinates
abbrev pub is_short : Visit → ℕ → Bool
is_short v n = not (eqb v.parts 0) && ltb v.parts n

-- "A, a non-empty line string has at least 2 coordinates"
abbrev pub fails_a : Visit → Bool
fails_a v = is_line v && is_short v 2

-- "B, a polygon's non-empty ring has at least 4"
abbrev pub fails_b : Visit → Bool
fails_b v = is_ring v && is_short v 4

-- "its first and last coordinate have the same number texts": when a ring is closed. An empty one is
unfoldable pub closed : List ℕ → List ℕ → Visit → Bool
closed text numbers v =
    cond (eqb v.parts 0) true
    (same_texts text numbers v.number (v.number + (v.parts - 1) * width v.dimension) (width v.dimension))

-- "C, its first and last coordinate have the same number texts"
unfoldable pub fails_c : List ℕ → List ℕ → Visit → Bool
fails_c text numbers v = is_ring v && not (closed text numbers v)

-- "D, a collection's children have its dimension"
abbrev pub fails_d : Visit → Bool
fails_d v = eqb v.parent.kind kind_geometry_collection && not (eqb v.dimension v.parent.dimension)

-- "Several at one node: lowest letter."
unfoldable pub fault : List ℕ → List ℕ → Visit → Option ℕ
fault text numbers v =
    cond (fails_a v) (Some letter_a)
    (cond (fails_b v) (Some letter_b)
    (cond (fails_c text numbers v) (Some letter_c)
    (cond (fails_d v) (Some letter_d) None)))

-- ---- what private functions ask
-- n indexes from each of the two fit
pub record BothFit (i j n : ℕ) : Type 0 where
  pub near : i + n < 2 ^ 64
  pub far : j + n < 2 ^ 64
