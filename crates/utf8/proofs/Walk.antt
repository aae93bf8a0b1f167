-- `first_ill` by characters: one at the front and on past it, or none there. Only this file opens `walk`.
-- Assumes nothing.
use mathlib.Core.Path.{◌≡◌, refl, sym}
use mathlib.Core.Bool.{Bool, true, false, cond, false≢true, and-eq-true_iff}
use mathlib.Core.List.{List, [], ◌∷◌}
use Prim.Native.Nat.{ℕ, zero, suc, ◌+◌, ◌≤◌, ◌<◌, suc-le-suc}
use native.Mathlib.Nat.{zero-add, le_of_suc-le-suc}
use native.Mathlib.Omega.{arith}
use lib.Dec.{leb-zero}
use borrow.Author.Tests.{le-leb}
use lib.ListN.{length, get_or, drop, length-drop}
use lib.Seq.{drop-drop}
use Rattle.scan.specs.Front.{rest}
use Rattle.scan.proofs.Front.{rest_in, rest_past}
use Rattle.utf8.specs.Utf8.{Range, holds, table, fits, first_fit, char_width, past_char, walk, first_ill}

-- a row that fits is no longer than the list
fits_long : (row : List Range) (l : List ℕ) → fits row l ≡ true → length row ≤ length l
unfolding fits
fits_long [] l e = omega arith
fits_long (r ∷ rs) [] e = absurd (false≢true e)
fits_long (r ∷ rs) (b ∷ l) e = suc-le-suc (fits_long rs l ((and-eq-true_iff (holds r b) (fits rs l)).0 e).1)

first_long : (rows : List (List Range)) (l : List ℕ) → first_fit rows l ≤ length l
unfolding first_fit
first_long [] l = omega arith
first_long (row ∷ rows) l = go (fits row l) refl (first_long rows l)
  where
    go : (x : Bool) → fits row l ≡ x → first_fit rows l ≤ length l → cond x (length row) (first_fit rows l) ≤ length l
    go true e h = fits_long row l e
    go false e h = h

-- a character is no longer than the list
pub width_long : (l : List ℕ) → char_width l ≤ length l
unfolding char_width
width_long l = first_long table l

-- a byte below 80 is a character
pub width_ascii : (b : ℕ) (l : List ℕ) → b < 0x80 → char_width (b ∷ l) ≡ 1
unfolding char_width table first_fit fits
width_ascii b l h = rw (leb-zero b, le-leb b 0x7F (omega arith))

walk_skip : (k : ℕ) (l : List ℕ) → k ≤ length l → walk k l ≡ k + first_ill (drop k l)
unfolding walk first_ill
walk_skip zero l h = sym (zero-add (walk 0 l))
walk_skip (suc k) [] h = absurd (omega arith)
walk_skip (suc k) (b ∷ l) h = omega (arith, walk_skip k l (le_of_suc-le-suc h))

walk_char : (w : ℕ) (l : List ℕ) → w ≤ length l → char_width l ≡ w → 0 < w → first_ill l ≡ w + first_ill (drop w l)
unfolding walk first_ill
walk_char zero l k e h = absurd (omega arith)
walk_char (suc m) [] k e h = absurd (omega arith)
walk_char (suc m) (b ∷ l) k e h = rw e (omega (arith, walk_skip m l (le_of_suc-le-suc k)))

module _ (w : ℕ) (l : List ℕ) (e : char_width l ≡ w) where
  pub character : 0 < w → first_ill l ≡ w + first_ill (drop w l)
  character h = walk_char w l (rw (sym e) (width_long l)) e h

pub no_character : (l : List ℕ) → char_width l ≡ 0 → first_ill l ≡ 0
unfolding walk first_ill
no_character [] e = refl
no_character (b ∷ l) e = rw e

walk_long : (k : ℕ) (l : List ℕ) → walk k l ≤ length l
unfolding walk
walk_long k [] = omega arith
walk_long zero (b ∷ l) = go (char_width (b ∷ l)) (λ m. walk_long m l)
  where
    go : (w : ℕ) → ((m : ℕ) → walk m l ≤ length l) → past_char w (λ more. walk more l) ≤ suc (length l)
    go zero h = omega arith
    go (suc m) h = suc-le-suc (h m)
walk_long (suc k) (b ∷ l) = suc-le-suc (walk_long k l)

pub in_text : (text : List ℕ) → first_ill text ≤ length text
unfolding first_ill
in_text text = walk_long 0 text

-- a turn at the place i of a text: a character of w bytes, none, and the end
module _ (text : List ℕ) (i : ℕ) where
  pub inside : (w : ℕ) → w ≡ char_width (rest text i) → i ≤ length text → i + w ≤ length text
  unfolding rest
  inside w e h = omega (arith, width_long (drop i text), length-drop i text)

  pub on : (w : ℕ) → w ≡ char_width (rest text i) → 0 < w → (i + w) + first_ill (rest text (i + w)) ≡ i + first_ill (rest text i)
  unfolding rest
  on w e h = rw (← drop-drop w i text) (omega (arith, character w (drop i text) (sym e) h))

  pub on_ascii : i < length text → get_or text i 0 < 0x80 → (i + 1) + first_ill (rest text (i + 1)) ≡ i + first_ill (rest text i)
  on_ascii h k = on 1 (rw (rest_in text i h) (sym (width_ascii (get_or text i 0) (rest text (i + 1)) k))) (omega arith)

  pub stop : 0 ≡ char_width (rest text i) → i ≡ i + first_ill (rest text i)
  stop e = omega (arith, no_character (rest text i) (sym e))

  pub past : length text ≤ i → i ≡ i + first_ill (rest text i)
  past h = rw (rest_past text i h) (omega (arith, in_text []))
