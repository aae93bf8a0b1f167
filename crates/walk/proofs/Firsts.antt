-- Laws of the first of what a function gives: one of them, and those from there on.
-- Assumes nothing.
use mathlib.Core.Path.{◌≡◌, ap, sym, ◌∙◌}
use mathlib.Core.List.{[], ◌∷◌, ◌++◌}
use Prim.Native.Nat.{ℕ, zero, suc, ◌+◌, ◌≤◌, ◌<◌}
use native.Mathlib.Omega.{arith}
use native.Mathlib.Numerals.{add-one}
use native.Mathlib.Decide.{dec_lt}
use lib.ListN.{length, drop, get_or, drop_of_length-le, get_or-append}
use lib.Seq.{drop-cons, get_or-append-add}
use Rattle.store.specs.Rows.{firsts}
use Rattle.store.proofs.Cells.{firsts_length}

-- the first n of what f gives, from one on
module _ {A : Type 0} (f : ℕ → A) where
  firsts_at : (n i : ℕ) (a : A) → i < n → get_or (firsts f n) i a ≡ f i
  unfolding firsts
  firsts_at zero i a h = absurd (omega arith)
  firsts_at (suc n) i a h = go (dec_lt i n) (firsts_at n i a)
    where
      len : length (firsts f n) ≡ n
      len = firsts_length f n

      go : Dec (i < n) → (i < n → get_or (firsts f n) i a ≡ f i) → get_or (firsts f n ++ (f n ∷ [])) i a ≡ f i
      go (yes l) ih = get_or-append (firsts f n) (f n ∷ []) a i (omega (arith, len)) ∙ ih l
      go (no l) ih =
          let z : i ≡ length (firsts f n) + 0 = omega (arith, l, len) in
          let y : i ≡ n = omega (arith, l) in
          rw z (get_or-append-add (firsts f n) (f n ∷ []) 0 a) ∙ ap f (sym y)

  module _ (n i : ℕ) where
    pub firsts_cut : i < n → drop i (firsts f n) ≡ f i ∷ drop (i + 1) (firsts f n)
    firsts_cut h = drop-cons (firsts f n) i (f i) (omega (arith, firsts_length f n)) ∙ rw (firsts_at n i (f i) h, add-one i)

    pub firsts_past : n ≤ i → drop i (firsts f n) ≡ []
    firsts_past h = drop_of_length-le (firsts f n) {i = i} (omega (arith, firsts_length f n))

-- where two give the same from i on
pub firsts_alike : {A : Type 0} (f g : ℕ → A) (n k i : ℕ) → k + i ≡ n → ((j : ℕ) → i ≤ j → j < n → g j ≡ f j) → drop i (firsts g n) ≡ drop i (firsts f n)
firsts_alike f g n zero i e h = firsts_past g n i (omega arith) ∙ sym (firsts_past f n i (omega arith))
firsts_alike f g n (suc k) i e h =
    let l : i < n = omega arith in
    firsts_cut g n i l ∙ rw (h i (omega arith) l, firsts_alike f g n k (i + 1) (omega arith) (λ j m o. h j (omega arith) o)) (sym (firsts_cut f n i l))
