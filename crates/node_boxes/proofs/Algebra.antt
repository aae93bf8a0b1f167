-- The algebra of boxes: merging is associative, and the box around nothing changes no box that lies inside the edges.
-- Assumes nothing.
use mathlib.Core.Path.{◌≡◌, refl, sym, ◌∙◌}
use mathlib.Core.Bool.{Bool, true, false, false≢true, cond, not}
use native.Mathlib.Omega.{arith}
use borrow.Author.Tests.{ltb-true, le-ltb}
use lib.Dec.{T}
use lib.IntN.{ℤ, pos, negsuc, neg_ℤ}
use lib.Signed.{lt_z, lt_z_yes, lt_z_no, <ℤ-≤ℤ_trans}
use Rattle.bounds.specs.declared.Bounds.{Bounds}
use Rattle.bounds.specs.Bounds.{lower, higher, merge, edge, nothing}

-- ---- the order, by its test
told : (b : Bool) → b ≡ true → T b
told true e = tt
told false e = absurd (false≢true e)

told_not : (b : Bool) → b ≡ false → T (not b)
told_not true e = absurd (false≢true (sym e))
told_not false e = tt

tells : (b : Bool) → T b → b ≡ true
tells true t = refl
tells false t = absurd t

pub less_then : (a b c : ℤ) → lt_z a b ≡ true → lt_z c b ≡ false → lt_z a c ≡ true
less_then a b c e f = tells (lt_z a c) (<ℤ-≤ℤ_trans (lt_z_yes {a = a} {b = b} (told (lt_z a b) e)) (lt_z_no {a = c} {b = b} (told_not (lt_z c b) f))).lt

pub not_less : (a b c : ℤ) → lt_z b a ≡ false → lt_z c b ≡ false → lt_z c a ≡ false
not_less a b c e f = go (lt_z c a) refl
  where
    go : (x : Bool) → lt_z c a ≡ x → x ≡ false
    go true h = absurd (false≢true (sym f ∙ less_then c a b h e))
    go false h = refl

pub not_both : (a b : ℤ) → lt_z a b ≡ true → lt_z b a ≡ false
not_both (pos a) (pos b) e = let h = ltb-true a b e in le-ltb b a (omega (arith, h))
not_both (pos a) (negsuc b) e = absurd (false≢true e)
not_both (negsuc a) (pos b) e = refl
not_both (negsuc a) (negsuc b) e = let h = ltb-true b a e in le-ltb a b (omega (arith, h))

-- ---- the lower and the higher of three
pub lower_assoc : (a b c : ℤ) → lower (lower a b) c ≡ lower a (lower b c)
lower_assoc a b c = go (lt_z b a) refl (lt_z c b) refl
  where
    go : (x : Bool) → lt_z b a ≡ x → (y : Bool) → lt_z c b ≡ y → lower (lower a b) c ≡ lower a (lower b c)
    go true x true y = rw (x, y, less_then c b a y (not_both b a x))
    go true x false y = rw (x, y, x)
    go false x true y = rw (x, y)
    go false x false y = rw (x, y, not_less a b c x y, x)

pub higher_assoc : (a b c : ℤ) → higher (higher a b) c ≡ higher a (higher b c)
higher_assoc a b c = go (lt_z a b) refl (lt_z b c) refl
  where
    go : (x : Bool) → lt_z a b ≡ x → (y : Bool) → lt_z b c ≡ y → higher (higher a b) c ≡ higher a (higher b c)
    go true x true y = rw (x, y, less_then a b c x (not_both b c y))
    go true x false y = rw (x, y, x)
    go false x true y = rw (x, y)
    go false x false y = rw (x, y, not_less c b a y x, x)

pub merge_assoc : (a b c : Bounds) → merge (merge a b) c ≡ merge a (merge b c)
unfolding merge
merge_assoc a b c = rw (lower_assoc a.left b.left c.left, higher_assoc a.right b.right c.right, lower_assoc a.bottom b.bottom c.bottom, higher_assoc a.top b.top c.top)

-- ---- boxes inside the edges
abbrev low_edge : ℤ
low_edge = neg_ℤ (pos edge)

pub record Inside (b : Bounds) : Type 0 where
  pub left : lt_z (pos edge) b.left ≡ false
  pub right : lt_z b.right low_edge ≡ false
  pub bottom : lt_z (pos edge) b.bottom ≡ false
  pub top : lt_z b.top low_edge ≡ false

pub nothing_inside : Inside nothing
nothing_inside = record { left = refl; right = refl; bottom = refl; top = refl }

either : (P : ℤ → Type 0) (x : Bool) (a b : ℤ) → P a → P b → P (cond x b a)
either P true a b p q = q
either P false a b p q = p

pub merge_inside : {a b : Bounds} → Inside a → Inside b → Inside (merge a b)
unfolding merge
merge_inside {a} {b} p q = record {
  left = either (λ z. lt_z (pos edge) z ≡ false) (lt_z b.left a.left) a.left b.left p.left q.left;
  right = either (λ z. lt_z z low_edge ≡ false) (lt_z a.right b.right) a.right b.right p.right q.right;
  bottom = either (λ z. lt_z (pos edge) z ≡ false) (lt_z b.bottom a.bottom) a.bottom b.bottom p.bottom q.bottom;
  top = either (λ z. lt_z z low_edge ≡ false) (lt_z a.top b.top) a.top b.top p.top q.top;
}

pub merge_nothing : (a : Bounds) → Inside a → merge a nothing ≡ a
unfolding merge
merge_nothing a p = rw (p.left, p.right, p.bottom, p.top)

-- ---- the box of a coordinate: farther in than the edges, and no side past the other
pub record Corner (b : Bounds) : Type 0 where
  pub left : lt_z b.left (pos edge) ≡ true
  pub right : lt_z low_edge b.right ≡ true
  pub bottom : lt_z b.bottom (pos edge) ≡ true
  pub top : lt_z low_edge b.top ≡ true
  pub wide : lt_z b.right b.left ≡ false

pub corner_inside : (b : Bounds) → Corner b → Inside b
corner_inside b p = record {
  left = not_both b.left (pos edge) p.left;
  right = not_both low_edge b.right p.right;
  bottom = not_both b.bottom (pos edge) p.bottom;
  top = not_both low_edge b.top p.top;
}

pub merge_first : (b : Bounds) → Corner b → merge nothing b ≡ b
unfolding merge
merge_first b p = rw (p.left, p.right, p.bottom, p.top)

-- a box that holds something still does when it is widened
pub stays_wide : (a b : Bounds) → lt_z a.right a.left ≡ false → lt_z (merge a b).right (merge a b).left ≡ false
unfolding merge
stays_wide a b e = not_less (lower a.left b.left) a.left (higher a.right b.right) (goes_low (lt_z b.left a.left) refl) (not_less a.left a.right (higher a.right b.right) e (goes_high (lt_z a.right b.right) refl))
  where
    irrefl : (z : ℤ) → lt_z z z ≡ false
    irrefl (pos n) = le-ltb n n (omega arith)
    irrefl (negsuc n) = le-ltb n n (omega arith)

    goes_low : (x : Bool) → lt_z b.left a.left ≡ x → lt_z a.left (cond x b.left a.left) ≡ false
    goes_low true h = not_both b.left a.left h
    goes_low false h = irrefl a.left

    goes_high : (x : Bool) → lt_z a.right b.right ≡ x → lt_z (cond x b.right a.right) a.right ≡ false
    goes_high true h = not_both a.right b.right h
    goes_high false h = irrefl a.right
