-- How many numbers a coordinate has.
-- Assumes nothing.
use mathlib.Core.Bool.{Bool, true, false, cond}
use Prim.Native.Nat.{ℕ, ◌≤◌}
use native.Mathlib.Omega.{arith}
use Rattle.kinds.specs.Kinds.{has_z, has_m, width}

bit_few : (b : Bool) → cond b 1 0 ≤ 1
bit_few true = omega arith
bit_few false = omega arith

pub width_few : (d : ℕ) → width d ≤ 4
unfolding width
width_few d = omega (arith, bit_few (has_z d), bit_few (has_m d))

pub width_some : (d : ℕ) → 2 ≤ width d
unfolding width
width_some d = omega arith
