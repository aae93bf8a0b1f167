-- Decimals that are one number come to the same units, the same sides and the same judgement by size.
-- Assumes nothing.
use mathlib.Core.Path.{◌≡◌, refl, sym, ap, ap₂, ◌∙◌}
use mathlib.Core.Bool.{Bool, true, false}
use Prim.Native.Nat.{ℕ, ◌+◌, ◌*◌, ◌^◌, ◌<◌}
use native.Mathlib.Nat.{zero-mul, mul_right_comm}
use lib.IntN.{pos}
use Rattle.rounding.specs.Rounding.{low_of, high_of, is_over}
use Rattle.decimal.specs.Decimal.{Decimal, below, numerator, denominator, SameSize, SameNumber, alike, nought}
use Rattle.decimal.specs.Units.{unit_places, scaled, whole_units, is_left, low, high, is_large}
use Rattle.decimal.proofs.Value.{ten_pos}
use Rattle.decimal.proofs.Parts.{Parts, quotient, remains, exact, same}
use Rattle.decimal.proofs.Exact.{units_parts, large_over}

denominator_pos : (x : Decimal) → 0 < denominator x
denominator_pos x = ten_pos (x.places + below x)

-- ---- of one size
module _ (x y : Decimal) (s : SameSize x y) where
  same_line : scaled x * denominator y ≡ scaled y * denominator x
  same_line =
      mul_right_comm (numerator x) (10 ^ unit_places) (denominator y) ∙ ap (λ (z : ℕ). z * 10 ^ unit_places) s
      ∙ mul_right_comm (numerator y) (denominator x) (10 ^ unit_places)

  same_parts : Parts (scaled y) (whole_units x) (denominator y) (is_left x)
  same_parts = same (scaled x) (scaled y) (denominator x) (denominator y) (whole_units x) (is_left x) (denominator_pos y) same_line (units_parts x)

  pub same_units : whole_units x ≡ whole_units y
  unfolding whole_units
  same_units = sym (quotient (scaled y) (whole_units x) (denominator y) (is_left x) same_parts)

  pub same_left : is_left x ≡ is_left y
  unfolding is_left
  same_left = sym (remains (scaled y) (whole_units x) (denominator y) (is_left x) same_parts)

-- ---- zero
module _ (x : Decimal) (z : numerator x ≡ 0) where
  nought_parts : Parts (scaled x) 0 (denominator x) false
  nought_parts = exact (scaled x) 0 (denominator x) (denominator_pos x) (ap (λ (n : ℕ). n * 10 ^ unit_places) z ∙ zero-mul (10 ^ unit_places) ∙ sym (zero-mul (denominator x)))

  pub nought_units : whole_units x ≡ 0
  unfolding whole_units
  nought_units = quotient (scaled x) 0 (denominator x) false nought_parts

  pub nought_left : is_left x ≡ false
  unfolding is_left
  nought_left = remains (scaled x) 0 (denominator x) false nought_parts

  low_none : (t : Bool) → low_of t 0 false ≡ pos 0
  low_none true = refl
  low_none false = refl

  high_none : (t : Bool) → high_of t 0 false ≡ pos 0
  high_none true = refl
  high_none false = refl

  nought_low : low x ≡ pos 0
  unfolding low
  nought_low = ap₂ (low_of x.negative) nought_units nought_left ∙ low_none x.negative

  nought_high : high x ≡ pos 0
  unfolding high
  nought_high = ap₂ (high_of x.negative) nought_units nought_left ∙ high_none x.negative

  nought_large : is_large x ≡ false
  nought_large = large_over x ∙ ap₂ is_over nought_units nought_left

-- ---- one number
pub same_low : (x y : Decimal) → SameNumber x y → low x ≡ low y
unfolding low
same_low x y (alike sign s) = ap (λ (t : Bool). low_of t (whole_units x) (is_left x)) sign ∙ ap₂ (low_of y.negative) (same_units x y s) (same_left x y s)
same_low x y (nought a b) = nought_low x a ∙ sym (nought_low y b)

pub same_high : (x y : Decimal) → SameNumber x y → high x ≡ high y
unfolding high
same_high x y (alike sign s) = ap (λ (t : Bool). high_of t (whole_units x) (is_left x)) sign ∙ ap₂ (high_of y.negative) (same_units x y s) (same_left x y s)
same_high x y (nought a b) = nought_high x a ∙ sym (nought_high y b)

pub same_large : (x y : Decimal) → SameNumber x y → is_large x ≡ is_large y
same_large x y (alike sign s) = large_over x ∙ ap₂ is_over (same_units x y s) (same_left x y s) ∙ sym (large_over y)
same_large x y (nought a b) = nought_large x a ∙ sym (nought_large y b)
