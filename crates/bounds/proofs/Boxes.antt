-- Rows are the same whose numbers are, and the stores of a row are its numbers'.
-- Assumes nothing.
use mathlib.Core.Path.{◌≡◌, ap₂, ◌∙◌}
use mathlib.Core.List.{List}
use Prim.Native.Nat.{ℕ, suc, ◌+◌}
use native.Mathlib.Omega.{arith}
use lib.IntN.{ℤ}
use lib.ListN.{set}
use lib.Seq.{sets}
use mir.Syntax.{w64}
use mir.Val.{SFits, to_z, of_z}
use Rattle.std.specs.Int.{int_min, int_max}
use Rattle.std.proofs.lemmas.Int.{ints, to_z-of_z}
use Rattle.bounds.specs.declared.Bounds.{Bounds}
use Rattle.bounds.specs.Bounds.{box, five, lower, higher}

pub same_box : {a a' b b' c c' d d' : ℤ} → a ≡ a' → b ≡ b' → c ≡ c' → d ≡ d' → box a b c d ≡ box a' b' c' d'
same_box p q r s = rw (p, q, r, s)

-- the bits of a side of two boxes, of which the lower or the higher was taken, are those of the side of both
pub lower_is : (a b : ℤ) {r : ℤ} → SFits w64 a → SFits w64 b → SFits w64 r → r ≡ int_min (to_z w64 (of_z w64 a)) (to_z w64 (of_z w64 b)) → to_z w64 (of_z w64 r) ≡ lower a b
lower_is a b {r} f g h e = to_z-of_z w64 r h ∙ e ∙ ap₂ lower (to_z-of_z w64 a f) (to_z-of_z w64 b g)

max_is : (a b : ℤ) → int_max a b ≡ higher a b
max_is a b = grind (arith, ints)

pub higher_is : (a b : ℤ) {r : ℤ} → SFits w64 a → SFits w64 b → SFits w64 r → r ≡ int_max (to_z w64 (of_z w64 a)) (to_z w64 (of_z w64 b)) → to_z w64 (of_z w64 r) ≡ higher a b
higher_is a b {r} f g h e = to_z-of_z w64 r h ∙ e ∙ ap₂ int_max (to_z-of_z w64 a f) (to_z-of_z w64 b g) ∙ max_is a b

-- five stores, one place after the other
pub five_stores : (l : List ℤ) (i : ℕ) (first : ℤ) (b : Bounds) → SFits w64 first → SFits w64 b.left → SFits w64 b.right → SFits w64 b.bottom → SFits w64 b.top →
    set (set (set (set (set l i (to_z w64 (of_z w64 first))) (i + 1) (to_z w64 (of_z w64 b.left))) (i + 2) (to_z w64 (of_z w64 b.right))) (i + 3) (to_z w64 (of_z w64 b.bottom))) (i + 4) (to_z w64 (of_z w64 b.top)) ≡ sets l i (five first b)
five_stores l i first b f p q r s =
    let x : i + 1 ≡ suc i = omega arith in
    let y : i + 2 ≡ suc (suc i) = omega arith in
    let z : i + 3 ≡ suc (suc (suc i)) = omega arith in
    let w : i + 4 ≡ suc (suc (suc (suc i))) = omega arith in
    rw (to_z-of_z w64 first f, to_z-of_z w64 b.left p, to_z-of_z w64 b.right q, to_z-of_z w64 b.bottom r, to_z-of_z w64 b.top s, x, y, z, w)
