-- A size in units with its sign, rounded down and up (request 2026-03: "lows rounded down, highs rounded up [..] Negative numbers round by the same rule,
-- toward minus infinity for lows.").
use Rattle.std.specs.Prelude.{Bool, cond, ℕ, ◌+◌, leb, ltb, ℤ, pos, neg_ℤ, Result, Ok, Err}
use Rattle.rounding.specs.declared.Sides.{Sides}
use Rattle.rounding.specs.declared.NoSides.{NoSides}
use Rattle.rounding.specs.declared.NoSides.TheVariants.{Beyond}

-- "a scaled size over 10^17"
abbrev pub size_limit : ℕ
size_limit = 100000000000000000

-- what a number's text comes to: its two sides, or why it has none
abbrev pub Reckoned : Type 0
Reckoned = Result Sides NoSides

abbrev pub sides : ℤ → ℤ → Sides
sides low high = record { low = low; high = high }

-- a size of so many whole units, with something left over or not: away from zero
abbrev pub outward : ℕ → Bool → ℕ
outward whole left = cond left (whole + 1) whole

-- the sign applied: down, "toward minus infinity", and up
abbrev pub low_of : Bool → ℕ → Bool → ℤ
low_of minus whole left = cond minus (neg_ℤ (pos (outward whole left))) (pos whole)

abbrev pub high_of : Bool → ℕ → Bool → ℤ
high_of minus whole left = cond minus (neg_ℤ (pos whole)) (pos (outward whole left))

-- over the limit "before rounding": by a whole unit, or by what is left over
abbrev pub is_over : ℕ → Bool → Bool
is_over whole left = cond left (leb size_limit whole) (ltb size_limit whole)

-- the two sides of a size, or beyond the limit
unfoldable pub rounded : Bool → ℕ → Bool → Reckoned
rounded minus whole left = cond (is_over whole left) (Err Beyond) (Ok (sides (low_of minus whole left) (high_of minus whole left)))
