-- Laws of looking for a word: what a place in the list shows, and that a word stands somewhere exactly where its first place is no end.
-- Assumes nothing.
use mathlib.Core.Path.{◌≡◌, refl, ap, ◌∙◌}
use mathlib.Core.Bool.{Bool, true, false, cond, ◌||◌}
use mathlib.Core.List.{List, [], ◌∷◌}
use Prim.Native.Nat.{ℕ, suc, ◌+◌, ◌-◌, ◌≤◌, ◌<◌, suc-le-suc}
use native.Mathlib.Numerals.{add-one}
use native.Mathlib.Omega.{arith}
use lib.ListN.{length, take, drop, drop_of_length-le}
use lib.Seq.{drop-cons}
use Rattle.scan.proofs.Front.{tail_part}
use Rattle.words.specs.Words.{starts_word}
use Rattle.infer_type.specs.Search.{has_word, first_word}

module _ (w l : List ℕ) (i : ℕ) where
  pub has_in : i < length l → has_word w (drop i l) ≡ (starts_word (drop i l) w || has_word w (drop (i + 1) l))
  unfolding has_word
  has_in h = rw (add-one, drop-cons l i 0)

  pub has_past : length l ≤ i → has_word w (drop i l) ≡ false
  unfolding has_word
  has_past h = rw drop_of_length-le

  -- what `&l[i..]` begins with
  pub starts_tail : {t : Bool} → t ≡ starts_word (take (length l - i) (drop i l)) w → t ≡ starts_word (drop i l) w
  starts_tail e = e ∙ ap (λ (r : List ℕ). starts_word r w) (tail_part i l)

  -- a turn of the search that finds the word, that goes on, and that reaches the end
  pub first_here : i < length l → true ≡ starts_word (drop i l) w → i ≡ i + first_word w (drop i l)
  unfolding first_word
  first_here h = rw (drop-cons l i 0) (λ t. rw (← t) (omega arith))

  pub first_on : i < length l → false ≡ starts_word (drop i l) w → (i + 1) + first_word w (drop (i + 1) l) ≡ i + first_word w (drop i l)
  unfolding first_word
  first_on h = rw (add-one, drop-cons l i 0) (λ t. rw (← t) (omega arith))

  pub first_past : length l ≤ i → i ≡ i + first_word w (drop i l)
  unfolding first_word
  first_past h = rw drop_of_length-le (omega arith)

module _ (w : List ℕ) where
  pub first_fits : (l : List ℕ) → first_word w l ≤ length l
  unfolding first_word
  first_fits [] = omega arith
  first_fits (b ∷ l) = go (starts_word (b ∷ l) w) (first_fits l)
    where
      go : (t : Bool) → first_word w l ≤ length l → cond t 0 (suc (first_word w l)) ≤ suc (length l)
      go true h = omega arith
      go false h = suc-le-suc h

  pub has_none : (l : List ℕ) → first_word w l ≡ length l → has_word w l ≡ false
  unfolding first_word has_word
  has_none [] e = refl
  has_none (b ∷ l) e = go (starts_word (b ∷ l) w) e (has_none l)
    where
      go : (t : Bool) → cond t 0 (suc (first_word w l)) ≡ suc (length l) → (first_word w l ≡ length l → has_word w l ≡ false) → (t || has_word w l) ≡ false
      go true h on = absurd (omega arith)
      go false h on = on (omega arith)

  pub has_some : (l : List ℕ) → (first_word w l ≡ length l → ⊥) → has_word w l ≡ true
  unfolding first_word has_word
  has_some [] n = absurd (n refl)
  has_some (b ∷ l) n = go (starts_word (b ∷ l) w) n (has_some l)
    where
      go : (t : Bool) → (cond t 0 (suc (first_word w l)) ≡ suc (length l) → ⊥) → ((first_word w l ≡ length l → ⊥) → has_word w l ≡ true) → (t || has_word w l) ≡ true
      go true h on = refl
      go false h on = on (λ e. h (ap suc e))
