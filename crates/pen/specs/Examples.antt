-- Worked examples of this crate's definitions, by computation.
use Rattle.std.specs.Prelude.{◌≡◌, refl, true, false, List, [], ◌∷◌, ℕ, Some, None}
use Rattle.pen.specs.Pen.{pen, end_of, has_room, pen_after, out_after}

-- one byte stands in a slice of three
out : List ℕ
out = 65 ∷ 0 ∷ 9 ∷ []

all : ℕ
unfolding out has_room pen_after out_after
all = 0

-- two bytes from place 1 on end at 3, three have no room; a full pen has none, nor has one past the end
ends : (end_of (pen 1 false) out 2 ≡ Some 3) × (end_of (pen 1 false) out 3 ≡ None) × (end_of (pen 3 false) out 0 ≡ Some 3) × (end_of (pen 4 false) out 0 ≡ None) × (end_of (pen 1 true) out 1 ≡ None)
unfolding all
ends = (refl, refl, refl, refl, refl)

-- two bytes have room, three have none
put : (out_after (pen 1 false) out (66 ∷ 67 ∷ []) ≡ 65 ∷ 66 ∷ 67 ∷ []) × (pen_after (pen 1 false) out (66 ∷ 67 ∷ []) ≡ pen 3 false) × (out_after (pen 1 false) out (66 ∷ 67 ∷ 68 ∷ []) ≡ out) × (pen_after (pen 1 false) out (66 ∷ 67 ∷ 68 ∷ []) ≡ pen 1 true)
unfolding all
put = (refl, refl, refl, refl)

-- a full pen puts nothing, though there is room
full : (out_after (pen 1 true) out (66 ∷ []) ≡ out) × (pen_after (pen 1 true) out (66 ∷ []) ≡ pen 1 true)
unfolding all
full = (refl, refl)

-- nothing has room everywhere within the slice, at its end too, and past the end not even that
nothing : (pen_after (pen 3 false) out [] ≡ pen 3 false) × (pen_after (pen 4 false) out [] ≡ pen 4 true) × (out_after (pen 3 false) out (66 ∷ []) ≡ out) × (pen_after (pen 2 false) out (66 ∷ []) ≡ pen 3 false) × (pen_after (pen 3 false) out (66 ∷ []) ≡ pen 3 true)
unfolding all
nothing = (refl, refl, refl, refl, refl)
