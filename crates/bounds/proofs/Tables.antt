-- A table that is cleared from its beginning on is all zeros.
-- Assumes nothing.
use mathlib.Core.Path.{◌≡◌}
use mathlib.Core.List.{List}
use Prim.Native.Nat.{◌-◌}
use native.Mathlib.Omega.{arith}
use lib.IntN.{ℤ}
use lib.ListN.{length}
use Rattle.store.specs.Rows.{cleared_to}
use Rattle.bounds.specs.Bounds.{zeros, cleared}

pub cleared_zeros : (t : List ℤ) → cleared t 0 ≡ zeros (length t)
unfolding cleared_to
cleared_zeros t = let z : length t - 0 ≡ length t = omega arith in rw z
