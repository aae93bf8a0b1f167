-- The law of a product that fits.
-- Assumes nothing.
use mathlib.Core.Path.{◌≡◌}
use Prim.Native.Nat.{ℕ, zero, suc, ◌*◌, ◌≤◌, ◌<◌}
use native.Mathlib.Omega.{arith}

pub four_fit : (n w : ℕ) → n < 4294967296 → w ≤ 4 → n * w < 18446744073709551616
four_fit n zero h l = omega arith
four_fit n (suc zero) h l = omega arith
four_fit n (suc (suc zero)) h l = omega arith
four_fit n (suc (suc (suc zero))) h l = omega arith
four_fit n (suc (suc (suc (suc w)))) h l = let z : w ≡ 0 = omega arith in rw z (omega arith)
