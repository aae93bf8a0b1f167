-- A decimal in units of a ten-millionth, rounded down and up (request 2026-03: "in units of a ten-millionth: lows rounded down, highs rounded up [..]
-- Negative numbers round by the same rule, toward minus infinity for lows.").
use Rattle.std.specs.Prelude.{Bool, cond, not, ℕ, ◌*◌, ◌/◌, ◌%◌, ◌^◌, eqb, ltb, ℤ, pos, neg_ℤ}
use Rattle.rounding.specs.Rounding.{size_limit, low_of, high_of}
use Rattle.decimal.specs.Decimal.{Decimal, numerator, denominator}

-- "a ten-millionth": so many units make one
abbrev pub unit_places : ℕ
unit_places = 7

-- "an exponent beyond 9,999 either way"
abbrev pub exponent_limit : ℕ
exponent_limit = 9999

-- the size in units is this number over the denominator
abbrev pub scaled : Decimal → ℕ
scaled x = numerator x * 10 ^ unit_places

-- "The definition is the exact decimal as a fraction of whole numbers.": with its sign, the exact value in units is this number over the denominator
abbrev pub signed : Bool → ℕ → ℤ
signed negative n = cond negative (neg_ℤ (pos n)) (pos n)

abbrev pub exact_units : Decimal → ℤ
exact_units x = signed x.negative (scaled x)

-- whole units, and whether something is left over
unfoldable pub whole_units : Decimal → ℕ
whole_units x = scaled x / denominator x

unfoldable pub is_left : Decimal → Bool
is_left x = not (eqb (scaled x % denominator x) 0)

-- rounded down and up
unfoldable pub low : Decimal → ℤ
low x = low_of x.negative (whole_units x) (is_left x)

unfoldable pub high : Decimal → ℤ
high x = high_of x.negative (whole_units x) (is_left x)

-- "31 for an exponent beyond 9,999 either way": the one that is written
abbrev pub is_far : Decimal → Bool
is_far x = ltb exponent_limit x.exponent

-- "or a scaled size over 10^17": exact, before it is rounded
unfoldable pub is_large : Decimal → Bool
is_large x = ltb (size_limit * denominator x) (scaled x)
