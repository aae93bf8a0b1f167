-- Laws of the strict check's rules, a step at a time.
-- Assumes nothing.
use mathlib.Core.Path.{◌≡◌, refl, ap, ap₂, sym, subst, ◌∙◌}
use mathlib.Core.Bool.{Bool, true, false, ◌&&◌, and-false, and-eq-true_iff}
use mathlib.Core.List.{List, [], ◌∷◌}
use Prim.Native.Nat.{ℕ, zero, suc, ◌+◌, ◌-◌, ◌*◌, ◌≤◌, ◌<◌}
use native.Mathlib.Omega.{arith}
use native.Mathlib.Nat.{add-zero, suc-mul}
use borrow.Author.Tests.{eq-eqb, eqb-true}
use lib.Dec.{eqb}
use Rattle.kinds.specs.Kinds.{kind_line_string, width}
use Rattle.nodes.specs.declared.Visit.{Visit}
use Rattle.walk.specs.Walk.{CoordinatesIn}
use Rattle.shape.specs.Numbers.{text_at}
use Rattle.store.specs.Rows.{number_room}
use Rattle.strict.specs.Rules.{same_bytes, same_texts, is_ring}

-- ---- bytes
same_bytes_law : (l : List ℕ) → same_bytes l l ≡ true
unfolding same_bytes
same_bytes_law [] = refl
same_bytes_law (a ∷ l) = rw (eq-eqb a a refl, same_bytes_law l)

bytes_differ : (l m : List ℕ) → (l ≡ m → ⊥) → same_bytes l m ≡ false
unfolding same_bytes
bytes_differ [] [] h = absurd (h refl)
bytes_differ [] (b ∷ m) h = refl
bytes_differ (a ∷ l) [] h = refl
bytes_differ (a ∷ l) (b ∷ m) h = go (eqb a b) refl (bytes_differ l m)
  where
    go : (t : Bool) → eqb a b ≡ t → ((l ≡ m → ⊥) → same_bytes l m ≡ false) → (t && same_bytes l m) ≡ false
    go true e ih = ih (λ z. h (ap₂ (λ x y. x ∷ y) (eqb-true a b e) z))
    go false e ih = refl

-- ---- number texts
module _ (text numbers : List ℕ) where
  abbrev Same : ℕ → ℕ → Type 0
  Same i j = text_at text numbers i ≡ text_at text numbers j

  next : (k i : ℕ) → k + suc i ≡ k + 1 + i
  next k i = omega arith

  subst₂ : (P : ℕ → ℕ → Type 0) {a b x y : ℕ} → a ≡ x → b ≡ y → P a b → P x y
  subst₂ P {a} {b} {x} {y} p q t = subst (P x) q (subst (λ z. P z b) p t)

  all_same : (first last n : ℕ) → ((i : ℕ) → i < n → Same (first + i) (last + i)) → same_texts text numbers first last n ≡ true
  unfolding same_texts
  all_same first last zero h = refl
  all_same first last (suc n) h =
      let here : Same first last = subst₂ Same (add-zero first) (add-zero last) (h 0 (omega arith)) in
      let rest : (i : ℕ) → i < n → Same (first + 1 + i) (last + 1 + i) = λ i l. subst₂ Same (next first i) (next last i) (h (suc i) (omega arith)) in
      rw (here, same_bytes_law (text_at text numbers last)) (all_same (first + 1) (last + 1) n rest)

  some_differ : (first last n i : ℕ) → i < n → (Same (first + i) (last + i) → ⊥) → same_texts text numbers first last n ≡ false
  unfolding same_texts
  some_differ first last zero i l h = absurd (omega arith)
  some_differ first last (suc n) zero l h = rw (bytes_differ (text_at text numbers first) (text_at text numbers last) (λ e. h (subst₂ Same (sym (add-zero first)) (sym (add-zero last)) e)))
  some_differ first last (suc n) (suc i) l h =
      rw (some_differ (first + 1) (last + 1) n i (omega arith) (λ e. h (subst₂ Same (sym (next first i)) (sym (next last i)) e)), and-false)

  -- each has the text of the other, or some has not
  pub texts_told : (first last n : ℕ) (b : Bool) → (b ≡ true → (i : ℕ) → i < n → Same (first + i) (last + i)) → (b ≡ false → (i : ℕ) × (i < n) × (Same (first + i) (last + i) → ⊥)) → b ≡ same_texts text numbers first last n
  texts_told first last n true good bad = sym (all_same first last n (good refl))
  texts_told first last n false good bad = let b = bad refl in sym (some_differ first last n b.0 b.1 b.2)

-- ---- indexes
-- n coordinates of w numbers are one and the others
pub one_more : (n w : ℕ) → 1 ≤ n → n * w ≡ (n - 1) * w + w
one_more n w h = let z : n ≡ suc (n - 1) = omega arith in ap (λ m. m * w) z ∙ suc-mul (n - 1) w

-- a ring is a line string
pub ring_kind : (v : Visit) → is_ring v ≡ true → v.kind ≤ kind_line_string
ring_kind v e = let k = eqb-true v.kind kind_line_string ((and-eq-true_iff _ _).0 e).0 in omega (arith, k)

-- the last coordinate's numbers are among them
pub last_fits : (v : Visit) (numbers : List ℕ) (w : ℕ) → w ≡ width v.dimension → CoordinatesIn (number_room numbers) v → (v.parts ≡ 0 → ⊥) → v.number + ((v.parts - 1) * w + w) ≤ number_room numbers
last_fits v numbers w e h z =
    let g : v.number + v.parts * w ≤ number_room numbers = rw e h in
    let o = one_more v.parts w (omega (arith, z)) in
    omega (arith, g, o)
