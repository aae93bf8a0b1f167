-- The low side is the next whole unit at or below the exact value, the high side the next at or above it; and within the limit both are.
-- Assumes nothing.
use mathlib.Core.Path.{◌≡◌, refl, sym, ap, ◌∙◌, subst}
use mathlib.Core.Bool.{Bool, true, false, cond}
use Prim.Native.Nat.{ℕ, zero, suc, ◌+◌, ◌-◌, ◌*◌, ◌≤◌, ◌<◌, zero-le}
use native.Mathlib.Nat.{zero-mul, add-mul, one-mul, mul-le-mul_right}
use native.Mathlib.Omega.{arith}
use lib.Dec.{T, ltb, le→leb, leb→le, lt→ltb}
use lib.IntN.{ℤ, pos, negsuc, neg_ℤ, ◌+ℤ◌, ◌-ℤ◌, ◌*ℤ◌, +ℤ_one, -ℤ_one, suc_ℤ-*ℤ, pred_ℤ-*ℤ, neg_ℤ-+ℤ}
use lib.Signed.{lt_z, ◌≤ℤ◌, ◌<ℤ◌, le_z_yes, lt_z_yes}
use borrow.Author.Tests.{ltb-true, ltb-false}
use Rattle.rounding.specs.Rounding.{size_limit, outward, low_of, high_of, is_over}
use Rattle.rounding.proofs.Limits.{within, outward_within}
use Rattle.decimal.specs.Decimal.{Decimal, denominator}
use Rattle.decimal.specs.Units.{scaled, signed, exact_units, whole_units, is_left, low, high, is_large}
use Rattle.decimal.proofs.Parts.{Parts, none_left, some_left}
use Rattle.decimal.proofs.Exact.{units_parts, large_over}

-- ---- whole numbers with a sign
pos_le : (a b : ℕ) → a ≤ b → pos a ≤ℤ pos b
pos_le a b h = le_z_yes (le→leb a b h)

pos_lt : (a b : ℕ) → a < b → pos a <ℤ pos b
pos_lt a b h = lt_z_yes (lt→ltb a b h)

neg_le : (a b : ℕ) → a ≤ b → neg_ℤ (pos b) ≤ℤ neg_ℤ (pos a)
neg_le zero zero h = le_z_yes tt
neg_le zero (suc b) h = le_z_yes tt
neg_le (suc a) zero h = absurd (omega arith)
neg_le (suc a) (suc b) h = le_z_yes (le→leb a b (omega arith))

neg_lt : (a b : ℕ) → a < b → neg_ℤ (pos b) <ℤ neg_ℤ (pos a)
neg_lt zero zero h = absurd (omega arith)
neg_lt zero (suc b) h = lt_z_yes tt
neg_lt (suc a) zero h = absurd (omega arith)
neg_lt (suc a) (suc b) h = lt_z_yes (lt→ltb a b (omega arith))

neg_pos : (a b : ℕ) → neg_ℤ (pos a) ≤ℤ pos b
neg_pos zero b = le_z_yes (le→leb 0 b zero-le)
neg_pos (suc a) b = le_z_yes tt

neg_times : (a b : ℕ) → neg_ℤ (pos a) *ℤ pos b ≡ neg_ℤ (pos (a * b))
neg_times zero b = ap pos (zero-mul b) ∙ ap (λ (z : ℕ). neg_ℤ (pos z)) (sym (zero-mul b))
neg_times (suc a) b = refl

-- as many times as much keeps the order
pub times_le : (a b : ℤ) (d : ℕ) → a ≤ℤ b → (a *ℤ pos d) ≤ℤ (b *ℤ pos d)
times_le (pos a) (pos b) d h = pos_le (a * d) (b * d) (mul-le-mul_right d (leb→le a b h.le))
times_le (pos a) (negsuc b) d h = absurd h.le
times_le (negsuc a) (pos b) d h = neg_pos (suc a * d) (b * d)
times_le (negsuc a) (negsuc b) d h = let l = leb→le b a h.le in neg_le (suc b * d) (suc a * d) (mul-le-mul_right d (omega (arith, l)))

one_more : (a : ℤ) (d : ℕ) → (a +ℤ pos 1) *ℤ pos d ≡ a *ℤ pos d +ℤ pos d
one_more a d = ap (λ (z : ℤ). z *ℤ pos d) (+ℤ_one a) ∙ suc_ℤ-*ℤ a (pos d)

one_less : (a : ℤ) (d : ℕ) → (a -ℤ pos 1) *ℤ pos d ≡ a *ℤ pos d -ℤ pos d
one_less a d = ap (λ (z : ℤ). z *ℤ pos d) (-ℤ_one a) ∙ pred_ℤ-*ℤ a (pos d)

-- a difference above a number below zero, and one below a number above zero
neg_below : (n a d : ℕ) (t : Bool) → ltb d a ≡ t → a < n + d → T (lt_z (neg_ℤ (pos n)) (cond t (negsuc (a - suc d)) (pos (d - a))))
neg_below zero a d true e h = absurd (omega (arith, ltb-true d a e))
neg_below zero a d false e h = lt→ltb 0 (d - a) (omega arith)
neg_below (suc n) a d true e h = lt→ltb (a - suc d) n (omega (arith, ltb-true d a e))
neg_below (suc n) a d false e h = tt

neg_plus : (n a d : ℕ) → a < n + d → neg_ℤ (pos n) <ℤ (neg_ℤ (pos a) +ℤ pos d)
neg_plus zero zero d h = lt_z_yes (lt→ltb 0 (0 + d) (omega arith))
neg_plus (suc n) zero d h = lt_z_yes tt
neg_plus n (suc a) d h = lt_z_yes (neg_below n (suc a) d (ltb d (suc a)) refl h)

pos_above : (n a d : ℕ) (t : Bool) → ltb a d ≡ t → a < n + d → T (lt_z (cond t (negsuc (d - suc a)) (pos (a - d))) (pos n))
pos_above n a d true e h = tt
pos_above n a d false e h = lt→ltb (a - d) n (omega (arith, ltb-false a d e))

pos_minus : (n a d : ℕ) → a < n + d → (pos a -ℤ pos d) <ℤ pos n
pos_minus n a zero h = lt_z_yes (lt→ltb (a + 0) n (omega arith))
pos_minus n a (suc d) h = lt_z_yes (pos_above n a (suc d) (ltb a (suc d)) refl h)

-- ---- the parts of a size lie between its sides
module _ (n whole size : ℕ) (left : Bool) (p : Parts n whole size left) where
  whole_below : whole * size ≤ n
  whole_below = omega (arith, p.sum)

  whole_near : n < whole * size + size
  whole_near = omega (arith, p.sum, p.less)

one_outward : (whole size : ℕ) → (whole + 1) * size ≡ whole * size + size
one_outward whole size = add-mul whole 1 size ∙ ap (λ (z : ℕ). whole * size + z) (one-mul size)

outward_above : (n whole size : ℕ) (left : Bool) → Parts n whole size left → n ≤ outward whole left * size
outward_above n whole size true p = omega (arith, p.sum, p.less, one_outward whole size)
outward_above n whole size false p = omega (arith, p.sum, none_left p.over p.some)

outward_near : (n whole size : ℕ) (left : Bool) → Parts n whole size left → outward whole left * size < n + size
outward_near n whole size true p = omega (arith, p.sum, some_left p.over p.some, one_outward whole size)
outward_near n whole size false p = omega (arith, p.sum, p.less)

-- ---- with the sign
module _ (n whole size : ℕ) (left : Bool) (p : Parts n whole size left) where
  low_at_most : (t : Bool) → (low_of t whole left *ℤ pos size) ≤ℤ signed t n
  low_at_most true = subst (λ (z : ℤ). z ≤ℤ neg_ℤ (pos n)) (sym (neg_times (outward whole left) size)) (neg_le n (outward whole left * size) (outward_above n whole size left p))
  low_at_most false = pos_le (whole * size) n (whole_below n whole size left p)

  high_at_least : (t : Bool) → signed t n ≤ℤ (high_of t whole left *ℤ pos size)
  high_at_least true = subst (λ (z : ℤ). neg_ℤ (pos n) ≤ℤ z) (sym (neg_times whole size)) (neg_le (whole * size) n (whole_below n whole size left p))
  high_at_least false = pos_le n (outward whole left * size) (outward_above n whole size left p)

  low_next : (t : Bool) → signed t n <ℤ ((low_of t whole left +ℤ pos 1) *ℤ pos size)
  low_next true =
      subst (λ (z : ℤ). neg_ℤ (pos n) <ℤ z) (sym (one_more (neg_ℤ (pos (outward whole left))) size ∙ ap (λ (z : ℤ). z +ℤ pos size) (neg_times (outward whole left) size)))
      (neg_plus n (outward whole left * size) size (outward_near n whole size left p))
  low_next false = subst (λ (z : ℤ). pos n <ℤ z) (sym (one_more (pos whole) size)) (pos_lt n (whole * size + size) (whole_near n whole size left p))

  high_next : (t : Bool) → ((high_of t whole left -ℤ pos 1) *ℤ pos size) <ℤ signed t n
  high_next true =
      subst (λ (z : ℤ). z <ℤ neg_ℤ (pos n)) (sym (one_less (neg_ℤ (pos whole)) size ∙ ap (λ (z : ℤ). z -ℤ pos size) (neg_times whole size) ∙ sym (neg_ℤ-+ℤ (pos (whole * size)) (pos size))))
      (neg_lt n (whole * size + size) (whole_near n whole size left p))
  high_next false =
      subst (λ (z : ℤ). z <ℤ pos n) (sym (one_less (pos (outward whole left)) size))
      (pos_minus n (outward whole left * size) size (outward_near n whole size left p))

-- ---- a decimal's sides: at or below it and at or above it, and less than a unit from it
module _ (x : Decimal) where
  pub low_below : (low x *ℤ pos (denominator x)) ≤ℤ exact_units x
  unfolding low
  low_below = low_at_most (scaled x) (whole_units x) (denominator x) (is_left x) (units_parts x) x.negative

  pub high_above : exact_units x ≤ℤ (high x *ℤ pos (denominator x))
  unfolding high
  high_above = high_at_least (scaled x) (whole_units x) (denominator x) (is_left x) (units_parts x) x.negative

  pub low_near : exact_units x <ℤ ((low x +ℤ pos 1) *ℤ pos (denominator x))
  unfolding low
  low_near = low_next (scaled x) (whole_units x) (denominator x) (is_left x) (units_parts x) x.negative

  pub high_near : ((high x -ℤ pos 1) *ℤ pos (denominator x)) <ℤ exact_units x
  unfolding high
  high_near = high_next (scaled x) (whole_units x) (denominator x) (is_left x) (units_parts x) x.negative

-- ---- within the limit both sides are
low_fits : (whole : ℕ) (left : Bool) → is_over whole left ≡ false → (t : Bool) → (neg_ℤ (pos size_limit) ≤ℤ low_of t whole left) × (low_of t whole left ≤ℤ pos size_limit)
low_fits whole left e true = (neg_le (outward whole left) size_limit (outward_within whole left e), neg_pos (outward whole left) size_limit)
low_fits whole left e false = (neg_pos size_limit whole, pos_le whole size_limit (within whole left e))

high_fits : (whole : ℕ) (left : Bool) → is_over whole left ≡ false → (t : Bool) → (neg_ℤ (pos size_limit) ≤ℤ high_of t whole left) × (high_of t whole left ≤ℤ pos size_limit)
high_fits whole left e true = (neg_le whole size_limit (within whole left e), neg_pos whole size_limit)
high_fits whole left e false = (neg_pos size_limit (outward whole left), pos_le (outward whole left) size_limit (outward_within whole left e))

pub low_range : (x : Decimal) → is_large x ≡ false → (neg_ℤ (pos size_limit) ≤ℤ low x) × (low x ≤ℤ pos size_limit)
unfolding low
low_range x e = low_fits (whole_units x) (is_left x) (sym (large_over x) ∙ e) x.negative

pub high_range : (x : Decimal) → is_large x ≡ false → (neg_ℤ (pos size_limit) ≤ℤ high x) × (high x ≤ℤ pos size_limit)
unfolding high
high_range x e = high_fits (whole_units x) (is_left x) (sym (large_over x) ∙ e) x.negative
