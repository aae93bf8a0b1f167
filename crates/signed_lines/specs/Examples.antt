-- Worked examples of this crate's definitions, by computation.
use Rattle.std.specs.Prelude.{◌≡◌, refl, ℕ, pos, negsuc}
use mathlib.Core.List.{List, [], ◌∷◌, ◌++◌, flat_map}
use Rattle.scan.specs.Text.{bytes}
use Rattle.printing.specs.Printing.{buffer, has_room_at, put_in, put_all_in, places_from, decimal}
use Rattle.signed_lines.specs.Signed.{signed, fraction, units, spaced_units}
use Rattle.signed_lines.specs.Places.{each_signed, not_nought, signed_left}

-- what these texts are together
unfoldable pub joined : List (List ℕ) → List ℕ
joined [] = []
joined (t ∷ ts) = t ++ joined ts

all : ℕ
unfolding joined flat_map has_room_at put_in put_all_in places_from decimal fraction each_signed not_nought
all = 0

-- larger ones are in proofs/Larger: the digits' count is not computed so far
whole : (joined (signed (pos 0)) ≡ bytes "0") × (joined (signed (pos 1)) ≡ bytes "1") × (joined (signed (negsuc 0)) ≡ bytes "-1") × (joined (signed (pos 9999)) ≡ bytes "9999") × (joined (signed (negsuc 9999)) ≡ bytes "-10000")
unfolding all
whole = (refl, refl, refl, refl, refl)

decimals : (joined (units (pos 0)) ≡ bytes "0.0000000") × (joined (units (pos 1)) ≡ bytes "0.0000001") × (joined (units (negsuc 0)) ≡ bytes "-0.0000001") × (joined (units (pos 10000000)) ≡ bytes "1.0000000") × (joined (units (negsuc 9999999)) ≡ bytes "-1.0000000") × (joined (units (negsuc 24999999)) ≡ bytes "-2.5000000") × (joined (units (pos 1234567890)) ≡ bytes "123.4567890")
unfolding all
decimals = (refl, refl, refl, refl, refl, refl, refl)

-- behind what a buffer holds
put : put_all_in (spaced_units (negsuc 4)) (buffer (bytes "ab                ") 2) ≡ buffer (bytes "ab -0.0000005     ") 13
unfolding all
put = refl

-- the used places, and how many of the others aren't zero
table : (joined (each_signed (pos 1 ∷ negsuc 1 ∷ pos 0 ∷ pos 5 ∷ []) 3) ≡ bytes " 1 -2 0") × (each_signed (pos 1 ∷ []) 0 ≡ []) × (signed_left (pos 1 ∷ negsuc 1 ∷ pos 0 ∷ negsuc 0 ∷ []) 1 ≡ 2) × (signed_left (pos 1 ∷ []) 5 ≡ 0)
unfolding all
table = (refl, refl, refl, refl)
