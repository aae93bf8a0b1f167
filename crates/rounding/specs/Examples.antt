-- Worked examples of this crate's definitions, by computation: each side of a size, both signs, and the limit from either side.
use Rattle.std.specs.Prelude.{◌≡◌, refl, true, false, [], ◌∷◌, ℕ, ◌^◌, ℤ, pos, negsuc, neg_ℤ, Ok, Err}
use Rattle.rounding.specs.declared.NoSides.TheVariants.{Beyond}
use Rattle.rounding.specs.Rounding.{size_limit, Reckoned, outward, sides, low_of, high_of, is_over, rounded}

both : ℤ → ℤ → Reckoned
both low high = Ok (sides low high)

all : ℕ
unfolding rounded both
all = 0

-- "10^17"
limit : (size_limit ≡ 100000000000000000) × (size_limit ≡ 10 ^ 17)
limit = (refl, refl)

-- nothing, and minus nothing: both sides are 0
nought : (rounded false 0 false ≡ both (pos 0) (pos 0)) × (rounded true 0 false ≡ both (pos 0) (pos 0))
unfolding all
nought = (refl, refl)

-- an exact size is its own low and high: 3 and -3; a ℤ below 0 has its size less one in it
exact : (rounded false 3 false ≡ both (pos 3) (pos 3)) × (rounded true 3 false ≡ both (neg_ℤ (pos 3)) (neg_ℤ (pos 3))) × (rounded true 3 false ≡ both (negsuc 2) (negsuc 2))
unfolding all
exact = (refl, refl, refl)

-- 3 and something lies between 3 and 4; less than a unit between 0 and 1
between : (rounded false 3 true ≡ both (pos 3) (pos 4)) × (rounded false 0 true ≡ both (pos 0) (pos 1))
unfolding all
between = (refl, refl)

-- minus 3 and something lies between -4 and -3: "toward minus infinity for lows"; less than a unit below 0 between -1 and 0
below : (rounded true 3 true ≡ both (neg_ℤ (pos 4)) (neg_ℤ (pos 3))) × (rounded true 0 true ≡ both (neg_ℤ (pos 1)) (pos 0))
unfolding all
below = (refl, refl)

-- 10^17 is taken, and -10^17
at_limit :
    (rounded false 100000000000000000 false ≡ both (pos 100000000000000000) (pos 100000000000000000))
    × (rounded true 100000000000000000 false ≡ both (neg_ℤ (pos 100000000000000000)) (neg_ℤ (pos 100000000000000000)))
unfolding all
at_limit = (refl, refl)

-- with something left over, or a unit more, it is "over 10^17", of either sign
over :
    (rounded false 100000000000000000 true ≡ Err Beyond) × (rounded true 100000000000000000 true ≡ Err Beyond)
    × (rounded false 100000000000000001 false ≡ Err Beyond) × (rounded true 100000000000000001 false ≡ Err Beyond)
    × (rounded false 100000000000000001 true ≡ Err Beyond) × (rounded false 18446744073709551615 false ≡ Err Beyond)
unfolding all
over = (refl, refl, refl, refl, refl, refl)

-- a unit below the limit something may be left over: "before rounding"
under :
    (rounded false 99999999999999999 true ≡ both (pos 99999999999999999) (pos 100000000000000000))
    × (rounded true 99999999999999999 true ≡ both (neg_ℤ (pos 100000000000000000)) (neg_ℤ (pos 99999999999999999)))
    × (rounded false 99999999999999999 false ≡ both (pos 99999999999999999) (pos 99999999999999999))
unfolding all
under = (refl, refl, refl)

-- the parts by themselves: away from zero, down, up, and over the limit
parts :
    (outward 3 false ∷ outward 3 true ∷ [] ≡ 3 ∷ 4 ∷ [])
    × (low_of false 3 true ∷ low_of true 3 true ∷ low_of false 3 false ∷ low_of true 3 false ∷ [] ≡ pos 3 ∷ neg_ℤ (pos 4) ∷ pos 3 ∷ neg_ℤ (pos 3) ∷ [])
    × (high_of false 3 true ∷ high_of true 3 true ∷ high_of false 3 false ∷ high_of true 3 false ∷ [] ≡ pos 4 ∷ neg_ℤ (pos 3) ∷ pos 3 ∷ neg_ℤ (pos 3) ∷ [])
    × (is_over 100000000000000000 false ∷ is_over 100000000000000000 true ∷ is_over 99999999999999999 true ∷ is_over 100000000000000001 false ∷ [] ≡ false ∷ true ∷ false ∷ true ∷ [])
parts = (refl, refl, refl, refl)
