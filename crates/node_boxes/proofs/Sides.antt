-- The box of a coordinate lies inside the edges, and no side of it is past the other.
-- Assumes nothing.
use mathlib.Core.Path.{◌≡◌, refl}
use mathlib.Core.Bool.{true, false}
use mathlib.Core.List.{List}
use Prim.Native.Nat.{ℕ}
use native.Mathlib.Omega.{arith}
use borrow.Author.Tests.{lt-ltb}
use lib.Dec.{leb→le}
use lib.IntN.{ℤ, pos, negsuc, neg_ℤ}
use lib.Signed.{lt_z, ◌≤ℤ◌}
use Rattle.tree.specs.Tree.{Coord}
use Rattle.rounding.specs.Rounding.{size_limit}
use Rattle.decimal.specs.Units.{low, high}
use Rattle.decimal.specs.Reckon.{reckoned}
use Rattle.decimal.proofs.Bounds.{low_range, high_range}
use Rattle.decimal.proofs.Reckonings.{each_reckoned, low_not_past}
use Rattle.bounds.specs.declared.Bounds.{Bounds}
use Rattle.bounds.specs.Bounds.{box, edge}
use Rattle.node_boxes.specs.Boxes.{x_text, y_text, low_in, high_in, low_x, high_x, low_y, high_y}
use Rattle.node_boxes.proofs.Algebra.{Corner}

under_edge : (z : ℤ) → z ≤ℤ pos size_limit → lt_z z (pos edge) ≡ true
under_edge (pos n) h = let l = leb→le n size_limit h.le in lt-ltb n edge (omega (arith, l))
under_edge (negsuc n) h = refl

over_edge : (z : ℤ) → neg_ℤ (pos size_limit) ≤ℤ z → lt_z (neg_ℤ (pos edge)) z ≡ true
over_edge (pos n) h = refl
over_edge (negsuc n) h = let l = leb→le n 99999999999999999 h.le in lt-ltb n 999999999999999999 (omega (arith, l))

low_in_law : (l : List ℕ) → lt_z (low_in (reckoned l)) (pos edge) ≡ true
low_in_law = each_reckoned (λ x. lt_z (low_in x) (pos edge) ≡ true) refl refl refl (λ x e. under_edge (low x) (low_range x e).1)

high_in_law : (l : List ℕ) → lt_z (neg_ℤ (pos edge)) (high_in (reckoned l)) ≡ true
high_in_law = each_reckoned (λ x. lt_z (neg_ℤ (pos edge)) (high_in x) ≡ true) refl refl refl (λ x e. over_edge (high x) (high_range x e).0)

wide : (l : List ℕ) → lt_z (high_in (reckoned l)) (low_in (reckoned l)) ≡ false
wide = each_reckoned (λ x. lt_z (high_in x) (low_in x) ≡ false) refl refl refl (λ x e. low_not_past x)

-- the box of a coordinate
abbrev pub corner : Coord → Bounds
corner c = box (low_x c) (high_x c) (low_y c) (high_y c)

pub its_corner : (c : Coord) → Corner (corner c)
its_corner c = record { left = low_in_law (x_text c); right = high_in_law (x_text c); bottom = low_in_law (y_text c); top = high_in_law (y_text c); wide = wide (x_text c) }
