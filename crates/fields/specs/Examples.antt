-- Worked examples of this crate's definitions, by computation.
use Rattle.std.specs.Prelude.{◌≡◌, refl, true, false, List, [], ◌∷◌, map, ℕ}
use Rattle.fields.specs.Counts.{count_after, count_in, count_bytes, is_count}
use Rattle.std.specs.Prelude.{Some, None}
use Rattle.fields.specs.Fields.{field, length_in, content_end, content_in, is_field, field_at, is_sized}

all : ℕ
unfolding count_after count_bytes field length_in is_field field_at is_sized
all = 0

-- the highest byte comes first, whatever the width; what doesn't fit loses its highest bytes
written : (count_bytes 2 258 ≡ 1 ∷ 2 ∷ []) × (count_bytes 2 65535 ≡ 255 ∷ 255 ∷ []) × (count_bytes 2 65536 ≡ 0 ∷ 0 ∷ []) × (count_bytes 4 258 ≡ 0 ∷ 0 ∷ 1 ∷ 2 ∷ []) × (count_bytes 4 16909060 ≡ 1 ∷ 2 ∷ 3 ∷ 4 ∷ []) × (count_bytes 0 7 ≡ [])
unfolding all
written = (refl, refl, refl, refl, refl, refl)

read : (count_in (1 ∷ 2 ∷ []) ≡ 258) × (count_in (2 ∷ 1 ∷ []) ≡ 513) × (count_in (255 ∷ 255 ∷ []) ≡ 65535) × (count_in (1 ∷ 2 ∷ 3 ∷ 4 ∷ []) ≡ 16909060) × (count_in [] ≡ 0)
unfolding all
read = (refl, refl, refl, refl, refl)

fitting : (is_count 2 65535 ≡ true) × (is_count 2 65536 ≡ false) × (is_count 4 4294967295 ≡ true) × (is_count 4 4294967296 ≡ false)
fitting = (refl, refl, refl, refl)

fields : (field 3 (49 ∷ []) ≡ 3 ∷ 0 ∷ 1 ∷ 49 ∷ []) × (field 7 [] ≡ 7 ∷ 0 ∷ 0 ∷ []) × (field 2 (1 ∷ 0 ∷ 0 ∷ 1 ∷ []) ≡ 2 ∷ 0 ∷ 4 ∷ 1 ∷ 0 ∷ 0 ∷ 1 ∷ [])
unfolding all
fields = (refl, refl, refl)

-- two fields, the first of two bytes, the second of one
two : List ℕ
two = 3 ∷ 0 ∷ 2 ∷ 49 ∷ 50 ∷ 3 ∷ 0 ∷ 1 ∷ 51 ∷ []

told : (length_in two 0 ≡ 2) × (content_end two 0 ≡ 5) × (content_in two 0 ≡ 49 ∷ 50 ∷ []) × (content_in two 5 ≡ 51 ∷ [])
unfolding all two
told = (refl, refl, refl, refl)

-- at its tag it is whole; of another tag, inside, and where nothing is left there is none
found : (map (field_at 3 two) (0 ∷ 1 ∷ 5 ∷ 8 ∷ 9 ∷ []) ≡ Some 5 ∷ None ∷ Some 9 ∷ None ∷ None ∷ []) × (field_at 2 two 0 ≡ None)
unfolding all two
found = (refl, refl)

-- cut in the content, in the length, before the length
cut : (is_field 3 (3 ∷ 0 ∷ 2 ∷ 49 ∷ []) 0 ≡ false) × (is_field 3 (3 ∷ 0 ∷ []) 0 ≡ false) × (is_field 3 (3 ∷ []) 0 ≡ false) × (is_field 3 [] 0 ≡ false) × (is_field 3 (3 ∷ 0 ∷ 0 ∷ []) 0 ≡ true)
unfolding all
cut = (refl, refl, refl, refl, refl)

-- the length is the one asked for, neither more nor less, and its high byte counts
sized : (is_sized 3 2 two 0 ≡ true) × (is_sized 3 1 two 0 ≡ false) × (is_sized 3 3 two 0 ≡ false) × (is_sized 2 2 two 0 ≡ false) × (is_sized 3 0 (3 ∷ 1 ∷ 0 ∷ []) 0 ≡ false) × (is_sized 3 2 (3 ∷ 0 ∷ 2 ∷ 49 ∷ []) 0 ≡ false)
unfolding all two
sized = (refl, refl, refl, refl, refl, refl)
