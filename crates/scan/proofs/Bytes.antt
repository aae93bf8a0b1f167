-- The classes of bytes, held against each other.
-- Assumes nothing.
use mathlib.Core.Path.{◌≡◌, refl, sym, ap, ◌∙◌}
use mathlib.Core.Bool.{Bool, true, false, ◌||◌, or-false, false≢true, and-eq-true_iff}
use mathlib.Core.Logic.{◌⊎◌, ⊎_elim}
use Prim.Native.Nat.{ℕ, ◌+◌, ◌≤◌, ◌<◌}
use native.Mathlib.Omega.{arith}
use lib.Dec.{eqb, leb}
use borrow.Author.Tests.{leb-true, eqb-true, eqb-false, ne_eqb}
use Rattle.scan.specs.Bytes.{is_blank, is_stop, is_inner, is_digit, is_sign, is_plus, is_point, plus, minus, point}

pub or_elim : {C : Type 0} (a b : Bool) → (a ≡ true → C) → (b ≡ true → C) → (a || b) ≡ true → C
or_elim true b f g e = f refl
or_elim false b f g e = g e

pub or_none : (a b : Bool) → (a || b) ≡ false → (a ≡ false) × (b ≡ false)
or_none true b e = absurd (false≢true (sym e))
or_none false b e = (refl, e)

-- a test that is true where another is can't be true where that other is false
pub not_wider : (p q : ℕ → Bool) → ((b : ℕ) → p b ≡ true → q b ≡ true) → (b : ℕ) → q b ≡ false → p b ≡ false
not_wider p q wider b e = go (p b) refl
  where
    go : (t : Bool) → p b ≡ t → t ≡ false
    go true h = absurd (false≢true (sym e ∙ wider b h))
    go false h = refl

-- a byte that is one of two that pass a test: of any two, and of two neighbours
module _ (p : ℕ → Bool) where
  pub either_key : (j k b : ℕ) → p j ≡ true → p k ≡ true → (b ≡ j) ⊎ (b ≡ k) → true ≡ p b
  either_key j k b f g = ⊎_elim (λ e. sym (ap p e ∙ f)) (λ e. sym (ap p e ∙ g))

  pub either_next : (j b : ℕ) → p j ≡ true → p (j + 1) ≡ true → j ≤ b → b < j + 2 → true ≡ p b
  either_next j b f g h k = go (eqb b j) refl
    where
      go : (t : Bool) → eqb b j ≡ t → true ≡ p b
      go true e = sym (ap p (eqb-true b j e) ∙ f)
      go false e = let n : b ≡ j + 1 = omega (arith, eqb-false b j e) in sym (ap p n ∙ g)

pub no_blank : (b : ℕ) → (b ≡ 32 → ⊥) → (b ≡ 9 → ⊥) → (b ≡ 10 → ⊥) → (b ≡ 13 → ⊥) → false ≡ is_blank b
no_blank b s t l c = rw (ne_eqb b 32 s, ne_eqb b 9 t, ne_eqb b 10 l, ne_eqb b 13 c)

-- what is no mark stops where it is a blank
pub no_mark : (b : ℕ) → (b ≡ 0 → ⊥) → (b ≡ 40 → ⊥) → (b ≡ 41 → ⊥) → (b ≡ 44 → ⊥) → is_blank b ≡ is_stop b
no_mark b n o c k = rw (ne_eqb b 0 n, ne_eqb b 40 o, ne_eqb b 41 c, ne_eqb b 44 k) (sym (or-false (is_blank b)))

-- past the comma stands no blank and no mark
pub above_inner : (b : ℕ) → 45 ≤ b → is_inner b ≡ true
above_inner b h =
    rw (ne_eqb b 32 (λ e. omega arith), ne_eqb b 9 (λ e. omega arith), ne_eqb b 10 (λ e. omega arith), ne_eqb b 13 (λ e. omega arith), ne_eqb b 0 (λ e. omega arith), ne_eqb b 40 (λ e. omega arith), ne_eqb b 41 (λ e. omega arith), ne_eqb b 44 (λ e. omega arith))

pub digit_low : (b : ℕ) → is_digit b ≡ true → 48 ≤ b
digit_low b e = leb-true 48 b ((and-eq-true_iff _ _).0 e).0

pub digit_high : (b : ℕ) → is_digit b ≡ true → b ≤ 57
digit_high b e = leb-true b 57 ((and-eq-true_iff (leb 48 b) _).0 e).1

pub digit_inner : (b : ℕ) → is_digit b ≡ true → is_inner b ≡ true
digit_inner b e = above_inner b (omega (arith, digit_low b e))

pub point_inner : (b : ℕ) → is_point b ≡ true → is_inner b ≡ true
point_inner b e = ap is_inner (eqb-true b point e)

pub plus_inner : (b : ℕ) → is_plus b ≡ true → is_inner b ≡ true
plus_inner b e = ap is_inner (eqb-true b plus e)

pub sign_inner : (b : ℕ) → is_sign b ≡ true → is_inner b ≡ true
sign_inner b e = or_elim (eqb b plus) (eqb b minus) (plus_inner b) (λ m. ap is_inner (eqb-true b minus m)) e
