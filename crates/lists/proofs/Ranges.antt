-- A test of numbers that is computed for a whole range, and so known for any number of it.
-- Assumes nothing.
use mathlib.Core.Path.{◌≡◌, refl, subst}
use mathlib.Core.Bool.{Bool, true, false, ◌&&◌, and-eq-true_iff}
use Prim.Native.Nat.{ℕ, zero, suc, ◌+◌, ◌≤◌, ◌<◌}
use native.Mathlib.Omega.{arith}
use lib.Dec.{eqb}
use borrow.Author.Tests.{eqb-true, eqb-false}

-- do the n numbers from `low` on pass the test
unfoldable pub all_from : (ℕ → Bool) → ℕ → ℕ → Bool
all_from p low zero = true
all_from p low (suc n) = p low && all_from p (suc low) n

pub all_from_law : (p : ℕ → Bool) (low n b : ℕ) → all_from p low n ≡ true → low ≤ b → b < low + n → p b ≡ true
unfolding all_from
all_from_law p low zero b e h k = absurd (omega arith)
all_from_law p low (suc n) b e h k = go (eqb low b) refl ((and-eq-true_iff (p low) (all_from p (suc low) n)).0 e) (all_from_law p (suc low) n b)
  where
    go : (t : Bool) → eqb low b ≡ t → (p low ≡ true) × (all_from p (suc low) n ≡ true) → (all_from p (suc low) n ≡ true → suc low ≤ b → b < suc low + n → p b ≡ true) → p b ≡ true
    go true q both ih = subst (λ (x : ℕ). p x ≡ true) (eqb-true low b q) both.0
    go false q both ih = ih both.1 (omega (arith, eqb-false low b q)) (omega arith)
