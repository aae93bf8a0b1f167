-- What any bytes come to: what holds of words, of what is beyond and of no number, and of the two sides of a decimal within the limits, holds of all. And the
-- sides lie within the limits, the low one not past the high one.
-- Assumes nothing.
use mathlib.Core.Path.{◌≡◌, refl}
use mathlib.Core.Bool.{Bool, true, false, cond}
use mathlib.Core.List.{List}
use Prim.Native.Nat.{ℕ, zero, suc, ◌≤◌}
use native.Mathlib.Omega.{arith}
use borrow.Author.Tests.{le-ltb}
use lib.IntN.{pos, neg_ℤ}
use lib.Signed.{lt_z}
use Rattle.scan.specs.Bytes.{is_sign}
use Rattle.scan.specs.Front.{after_one}
use Rattle.number.specs.Lexeme.{is_named, is_lexeme}
use Rattle.std.specs.Prelude.{Ok, Err}
use Rattle.rounding.specs.declared.NoSides.TheVariants.{Named, Beyond, NoNumber}
use Rattle.rounding.specs.Rounding.{Reckoned, sides, outward, low_of, high_of}
use Rattle.decimal.specs.Decimal.{Decimal, written}
use Rattle.decimal.specs.Units.{whole_units, is_left, low, high, is_far, is_large}
use Rattle.decimal.specs.Reckon.{sides_of, reckoned}

pub each_reckoned : (P : Reckoned → Type 0) → P (Err Named) → P (Err Beyond) → P (Err NoNumber) → ((x : Decimal) → is_large x ≡ false → P (Ok (sides (low x) (high x)))) → (l : List ℕ) → P (reckoned l)
unfolding reckoned sides_of
each_reckoned P named beyond none some l = go (is_lexeme l) (is_named (after_one is_sign l)) (is_far (written l)) (is_large (written l)) refl
  where
    go : (a b c d : Bool) → is_large (written l) ≡ d → P (cond a (cond b (Err Named) (cond c (Err Beyond) (cond d (Err Beyond) (Ok (sides (low (written l)) (high (written l))))))) (Err NoNumber))
    go true true c d e = named
    go true false true d e = beyond
    go true false false true e = beyond
    go true false false false e = some (written l) e
    go false b c d e = none

negatives : (a b : ℕ) → a ≤ b → lt_z (neg_ℤ (pos a)) (neg_ℤ (pos b)) ≡ false
negatives zero zero h = refl
negatives zero (suc b) h = refl
negatives (suc a) zero h = absurd (omega arith)
negatives (suc a) (suc b) h = le-ltb b a (omega arith)

not_past : (minus : Bool) (n : ℕ) (left : Bool) → lt_z (high_of minus n left) (low_of minus n left) ≡ false
not_past true n true = negatives n (outward n true) (omega arith)
not_past true n false = negatives n n (omega arith)
not_past false n true = le-ltb (outward n true) n (omega arith)
not_past false n false = le-ltb n n (omega arith)

pub low_not_past : (x : Decimal) → lt_z (high x) (low x) ≡ false
unfolding low high
low_not_past x = not_past x.negative (whole_units x) (is_left x)
