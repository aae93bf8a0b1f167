-- Laws of a number of a record: it is there whole, or 0.
-- Assumes nothing.
use mathlib.Core.Path.{◌≡◌}
use mathlib.Core.List.{List, [], ◌∷◌}
use mir.Syntax.{w32}
use Prim.Native.Nat.{ℕ, ◌+◌, ◌≤◌, ◌<◌}
use lib.ListN.{length, get_or}
use native.Mathlib.Omega.{arith}
use Rattle.std.specs.Int.{from_le_bytes}
use borrow.Author.Tests.{le-leb, lt-leb}
use Rattle.console.specs.Console.{u32_at}

module _ (l : List ℕ) (at : ℕ) where
  pub u32_cut : length l < at + 4 → 0 ≡ u32_at l at
  unfolding u32_at
  u32_cut h = rw (lt-leb (at + 4) (length l) h)

  pub u32_whole : {n : ℕ} → at + 4 ≤ length l → n ≡ from_le_bytes w32 (get_or l at 0 ∷ get_or l (at + 1) 0 ∷ get_or l (at + 2) 0 ∷ get_or l (at + 3) 0 ∷ []) → n ≡ u32_at l at
  unfolding u32_at
  u32_whole h e = rw (le-leb (at + 4) (length l) h) (omega (arith, e))
