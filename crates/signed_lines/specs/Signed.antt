-- Signed numbers as they are printed: "the four numbers as decimals with seven places" (request 2026-03), and "`i64` values are signed decimals" (the replay
-- program).
use Rattle.std.specs.Prelude.{ℕ, ◌/◌, cond, List, [], ◌∷◌, ◌++◌, ℤ, nat_abs}
use Rattle.std.specs.Int.Signed.{non_neg}
use Rattle.scan.specs.Bytes.{space}
use Rattle.scan.specs.Text.{bytes}
use Rattle.io.specs.Digits.{last_digits}
use Rattle.printing.specs.Printing.{decimal}

-- a minus, where it is negative
abbrev pub sign : ℤ → List (List ℕ)
sign z = cond (non_neg z) [] (bytes "-" ∷ [])

-- the sign, and the digits of its size
abbrev pub signed : ℤ → List (List ℕ)
signed z = sign z ++ (decimal (nat_abs z) ∷ [])

abbrev pub spaced_signed : ℤ → List (List ℕ)
spaced_signed z = (space ∷ []) ∷ signed z

-- "in ten-millionths": how many are a whole, and how many places they have behind the point
abbrev pub units_in_one : ℕ
units_in_one = 10000000

abbrev pub places_behind : ℕ
places_behind = 7

-- a point, and so many of a size's last digits
unfoldable pub fraction : ℕ → List ℕ
fraction n = bytes "." ++ last_digits 10 places_behind n

-- units as a decimal: sign, wholes, point, seven digits
abbrev pub units : ℤ → List (List ℕ)
units z = sign z ++ (decimal (nat_abs z / units_in_one) ∷ fraction (nat_abs z) ∷ [])

abbrev pub spaced_units : ℤ → List (List ℕ)
spaced_units z = (space ∷ []) ∷ units z
