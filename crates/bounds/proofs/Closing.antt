-- A row is closed: the tests of the code are the definition's.
-- Assumes nothing.
use mathlib.Core.Path.{◌≡◌, refl, sym, ap, ◌∙◌}
use mathlib.Core.Bool.{cond, true, false, true≢false, false≢true}
use mathlib.Core.List.{List}
use Prim.Native.Nat.{ℕ}
use native.Mathlib.Omega.{arith}
use borrow.Author.Tests.{le-ltb}
use lib.IntN.{ℤ, pos, negsuc, nat_abs}
use lib.Signed.{lt_z, non_neg}
use Rattle.bounds.specs.declared.Bounds.{Bounds}
use Rattle.bounds.specs.Bounds.{first_at, bounds_at, settled, closed}

pub below_nought : (z : ℤ) → lt_z z (pos 0) ≡ true → non_neg z ≡ false
below_nought (pos n) e = absurd (false≢true (sym (le-ltb n 0 (omega arith)) ∙ e))
below_nought (negsuc n) e = refl

pub not_below : (z : ℤ) → lt_z z (pos 0) ≡ false → non_neg z ≡ true
not_below (pos n) e = refl
not_below (negsuc n) e = absurd (true≢false e)

module _ (t : List ℤ) (i : ℕ) (f : ℤ) (first : f ≡ first_at t i) where
  pub stays_open : lt_z f (pos 0) ≡ true → t ≡ closed t i
  unfolding closed
  stays_open e =
      sym (ap (λ x. cond x (settled t i (nat_abs f) (bounds_at t i)) t) (below_nought f e))
      ∙ ap (λ z. cond (non_neg z) (settled t i (nat_abs z) (bounds_at t i)) t) first

  pub closes : lt_z f (pos 0) ≡ false → (b : Bounds) → b ≡ bounds_at t i → settled t i (nat_abs f) b ≡ closed t i
  unfolding closed
  closes e b its =
      ap (settled t i (nat_abs f)) its
      ∙ sym (ap (λ x. cond x (settled t i (nat_abs f) (bounds_at t i)) t) (not_below f e))
      ∙ ap (λ z. cond (non_neg z) (settled t i (nat_abs z) (bounds_at t i)) t) first
