-- The law of a depth that fits.
-- Assumes nothing.
use mathlib.Core.Path.{◌≡◌}
use mathlib.Core.Bool.{Bool, true, false, false≢true, not, ◌||◌}
use Prim.Native.Nat.{ℕ, ◌<◌}
use lib.Dec.{ltb}
use borrow.Author.Tests.{ltb-true}

-- a collection that may be opened
pub below_limit : (b : Bool) (n m : ℕ) → b ≡ true → (not b || ltb n m) ≡ true → n < m
below_limit true n m x e = ltb-true n m e
below_limit false n m x e = absurd (false≢true x)
