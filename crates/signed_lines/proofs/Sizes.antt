-- Signed numbers as the machine reads them, and whether they are negative.
-- Assumes nothing.
use mathlib.Core.Path.{◌≡◌, refl, sym, ap, ◌∙◌}
use mathlib.Core.Bool.{Bool, true, false, true≢false, false≢true}
use native.Mathlib.Omega.{arith}
use borrow.Author.Tests.{le-ltb}
use lib.IntN.{ℤ, pos, negsuc}
use lib.Signed.{lt_z, non_neg}
use mir.Syntax.{w64}
use mir.Val.{SFits, to_z, of_z}
use mir.ValLaws.{to_z-of_z}

-- the bits of a number are read as the number
pub back : (z : ℤ) → SFits w64 z → to_z w64 (of_z w64 z) ≡ z
back z f = to_z-of_z w64 z f

pub below_nought : (z : ℤ) → lt_z z (pos 0) ≡ true → non_neg z ≡ false
below_nought (pos n) e = absurd (false≢true (sym (le-ltb n 0 (omega arith)) ∙ e))
below_nought (negsuc n) e = refl

pub not_below : (z : ℤ) → lt_z z (pos 0) ≡ false → non_neg z ≡ true
not_below (pos n) e = refl
not_below (negsuc n) e = absurd (true≢false e)

-- as the machine reads the bits
pub told : (z : ℤ) {t : Bool} → SFits w64 z → lt_z (to_z w64 (of_z w64 z)) (pos 0) ≡ t → lt_z z (pos 0) ≡ t
told z f e = sym (ap (λ (y : ℤ). lt_z y (pos 0)) (back z f)) ∙ e
