-- A slice after numbers were copied into a part of it.
-- Assumes nothing.
use mathlib.Core.Path.{◌≡◌}
use mathlib.Core.List.{List, append_assoc}
use Prim.Native.Nat.{ℕ, ◌+◌, ◌-◌, ◌≤◌}
use native.Mathlib.Omega.{arith}
use borrow.Rule.Slice.PartMut.{put_mid}
use lib.ListN.{length}
use lib.Seq.{sets, sets-eq, drop-drop}

-- the part from `at` up to `end` holds `vs` now
pub pasted : {A : Type 0} (s vs part : List A) (at end : ℕ) → part ≡ vs → end ≡ at + length vs → end ≤ length s → put_mid at (end - at) s part ≡ sets s at vs
pasted s vs part at end e n h =
    let len : end - at ≡ length vs = omega arith in
    let fits : at + length vs ≤ length s = omega arith in
    rw (sets-eq vs s at fits, e, len, drop-drop, append_assoc)
