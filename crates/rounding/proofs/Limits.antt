-- A size that isn't over the limit is at most the limit.
-- Assumes nothing.
use mathlib.Core.Path.{◌≡◌}
use mathlib.Core.Bool.{Bool, true, false}
use Prim.Native.Nat.{ℕ, ◌≤◌}
use native.Mathlib.Omega.{arith}
use borrow.Author.Tests.{leb-false, ltb-false}
use Rattle.rounding.specs.Rounding.{size_limit, outward, is_over}

pub within : (whole : ℕ) (left : Bool) → is_over whole left ≡ false → whole ≤ size_limit
within whole true e = omega (arith, leb-false size_limit whole e)
within whole false e = ltb-false size_limit whole e

-- and so is what it is rounded to
pub outward_within : (whole : ℕ) (left : Bool) → is_over whole left ≡ false → outward whole left ≤ size_limit
outward_within whole true e = omega (arith, leb-false size_limit whole e)
outward_within whole false e = ltb-false size_limit whole e
