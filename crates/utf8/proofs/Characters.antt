-- A text has no ill-formed place exactly where it is whole characters, one after the other; and what lies before the first ill-formed
-- place is such a text, while no character starts there. Assumes nothing.
use mathlib.Core.Path.{◌≡◌, refl, sym, ap, ◌∙◌}
use mathlib.Core.Bool.{Bool, true, false, cond, ◌&&◌, false≢true, and-eq-true_iff}
use mathlib.Core.List.Memᴰ
use mathlib.Core.List.{List, [], ◌∷◌, ◌++◌, append_assoc, Memᴰ}
use mathlib.Core.Logic.{◌⊎◌, inl, inr, ◌↔◌}
use Prim.Native.Nat.{ℕ, zero, suc, ◌+◌, ◌≤◌, ◌<◌}
use native.Mathlib.Omega.{arith}
use lib.Dec.{leb}
use borrow.Author.Tests.{leb-true, lt-leb, eqb-true, eq-eqb}
use lib.ListN.{length, take, drop, length-append, length-drop}
use lib.Seq.{take-length, take-add, drop-drop, drop-append_seam}
use Rattle.scan.specs.Front.{rest}
use Rattle.scan.specs.Runs.{Many, none, more}
use Rattle.utf8.specs.Utf8.{Range, holds, table, fits, first_fit, char_width, first_ill, is_utf8}
use Rattle.scan.specs.Bytes.{is_ascii}
use Rattle.utf8.specs.Leads.{leads}
use Rattle.utf8.specs.Characters.{Fills, full, byte, Char, char, Whole, empty, then}
use Rattle.utf8.proofs.Table.{Rising, top, up, table_rises, within}
use Rattle.utf8.proofs.Walk.{character, no_character, width_ascii, width_long, in_text}

-- from a character to the width

fills_fits : {row : List Range} {c : List ℕ} (l : List ℕ) → Fills row c → fits row (c ++ l) ≡ true
unfolding fits
fills_fits l full = refl
fills_fits l (byte e f) = rw e (fills_fits l f)

fills_long : {row : List Range} {c : List ℕ} → Fills row c → length row ≡ length c
fills_long full = refl
fills_long (byte e f) = ap suc (fills_long f)

above : (r : Range) (b : ℕ) → r.high < b → holds r b ≡ false
above r b h = go (leb r.low b)
  where
    go : (x : Bool) → (x && leb b r.high) ≡ false
    go true = lt-leb b r.high h
    go false = refl

not_empty : {n : ℕ} {t : List (List Range)} → Rising n t → Memᴰ [] t → ⊥
not_empty top m = Memᴰ.not-nil m
not_empty (up {r} {rs} {t} p q s u) m = go (Memᴰ.cases_cons m) (not_empty u)
  where
    go : ([] ≡ (r ∷ rs)) ⊎ Memᴰ [] t → (Memᴰ [] t → ⊥) → ⊥
    go (inl d) ih = let z : ◌≡◌ {A = ℕ} 0 1 = cc in omega arith
    go (inr m) ih = ih m

module _ (b : ℕ) {row : List Range} (e : leads row b ≡ true) where
  not_below : {n : ℕ} {t : List (List Range)} → Rising n t → Memᴰ row t → n ≤ b
  not_below top m = absurd (Memᴰ.not-nil m)
  not_below (up {n} {r} {rs} {t} p q s u) m = go (Memᴰ.cases_cons m) (not_below u)
    where
      go : (row ≡ (r ∷ rs)) ⊎ Memᴰ row t → (Memᴰ row t → suc r.high ≤ b) → n ≤ b
      go (inl d) ih = omega (arith, leb-true, (within r b (rw d at e)).0)
      go (inr m) ih = omega (arith, leb-true, ih m)

  fit_only : (l : List ℕ) {n : ℕ} {t : List (List Range)} → Rising n t → Memᴰ row t → fits row (b ∷ l) ≡ true → first_fit t (b ∷ l) ≡ length row
  unfolding first_fit fits
  fit_only l top m f = absurd (Memᴰ.not-nil m)
  fit_only l (up {r} {rs} {t} p q s u) m f = go (Memᴰ.cases_cons m) (λ m. fit_only l u m f)
    where
      go : (row ≡ (r ∷ rs)) ⊎ Memᴰ row t → (Memᴰ row t → first_fit t (b ∷ l) ≡ length row) → cond (holds r b && fits rs l) (suc (length rs)) (first_fit t (b ∷ l)) ≡ length row
      go (inl d) ih =
          let g : (holds r b && fits rs l) ≡ true = rw d at f in
          rw g (sym (ap length d))
      go (inr m) ih = rw (above r b (not_below u m)) (ih m)

fills_width : {row : List Range} {c : List ℕ} (l : List ℕ) → Memᴰ row table → Fills row c → (0 < length c) × (char_width (c ++ l) ≡ length c)
unfolding char_width
fills_width l m full = absurd (not_empty table_rises m)
fills_width l m (byte {b} {l = bs} e f) = (omega arith, fit_only b e (bs ++ l) table_rises m (fills_fits l (byte e f)) ∙ ap suc (fills_long f))

-- a character at the front is what the width counts
pub char_width_law : {c : List ℕ} (l : List ℕ) → Char c → (0 < length c) × (char_width (c ++ l) ≡ length c)
char_width_law l (char m f) = fills_width l m f

pub past_char_law : {c : List ℕ} (l : List ℕ) → Char c → first_ill (c ++ l) ≡ length c + first_ill l
past_char_law {c} l k =
    character (length c) (c ++ l) (char_width_law l k).1 (char_width_law l k).0 ∙ ap (λ (x : List ℕ). length c + first_ill x) (drop-append_seam c l)

-- whole characters in front of any list
pub past_whole : {a : List ℕ} (l : List ℕ) → Whole a → first_ill (a ++ l) ≡ length a + first_ill l
past_whole l empty = omega arith
past_whole l (then {c} {l = a} k w) = rw append_assoc (omega (arith, past_char_law (a ++ l) k, past_whole l w, length-append c a))

pub whole_text : {text : List ℕ} → Whole text → first_ill text ≡ length text
whole_text empty = omega (arith, in_text [])
whole_text (then {c} {l} k w) = omega (arith, past_char_law l k, whole_text w, length-append c l)

-- from the width to a character

fits_fills : (row : List Range) (l : List ℕ) → fits row l ≡ true → Fills row (take (length row) l)
unfolding fits
fits_fills [] l e = full
fits_fills (r ∷ rs) [] e = absurd (false≢true e)
fits_fills (r ∷ rs) (b ∷ l) e =
    let both = (and-eq-true_iff (holds r b) (fits rs l)).0 e in
    byte both.0 (fits_fills rs l both.1)

-- a row of t that the front of l fills, as far as `first_fit` says
Found : List (List Range) → List ℕ → ℕ → Type 0
Found t l w = (row : List Range) × Memᴰ row t × Fills row (take w l)

pick : (t : List (List Range)) (l : List ℕ) → 0 < first_fit t l → Found t l (first_fit t l)
unfolding first_fit Found
pick [] l h = absurd (omega arith)
pick (row ∷ t) l h = go (fits row l) refl h (pick t l)
  where
    go : (x : Bool) → fits row l ≡ x → 0 < cond x (length row) (first_fit t l) → (0 < first_fit t l → Found t l (first_fit t l)) → Found (row ∷ t) l (cond x (length row) (first_fit t l))
    go true e h ih = (row, Memᴰ.head refl, fits_fills row l e)
    go false e h ih = ((ih h).0, Memᴰ.tail (ih h).1, (ih h).2)

pub width_char : (l : List ℕ) → 0 < char_width l → Char (take (char_width l) l)
unfolding char_width Found
width_char l h = let p = pick table l h in char p.1 p.2

-- whole characters up to the first ill-formed place, and none there
Split : List ℕ → Type 0
Split l = Whole (take (first_ill l) l) × (char_width (drop (first_ill l) l) ≡ 0)

none_here : (l : List ℕ) → char_width l ≡ 0 → Split l
unfolding Split
none_here l e = rw (no_character l e) (empty, e)

one_more : (l : List ℕ) → 0 < char_width l → Split (drop (char_width l) l) → Split l
unfolding Split
one_more l h s =
    rw (character (char_width l) l refl h)
    (rw (take-add (char_width l) (first_ill (drop (char_width l) l)) l) (then (width_char l h) s.0), rw (← drop-drop (first_ill (drop (char_width l) l)) (char_width l) l) s.1)

split_by : (n : ℕ) (l : List ℕ) → length l ≤ n → Split l
split_by zero l h = none_here l (omega (arith, width_long l))
split_by (suc n) l h = go (char_width l) refl (split_by n (drop (char_width l) l))
  where
    go : (w : ℕ) → char_width l ≡ w → (length (drop (char_width l) l) ≤ n → Split (drop (char_width l) l)) → Split l
    go zero e ih = none_here l e
    go (suc m) e ih = one_more l (omega arith) (ih (omega (arith, length-drop (char_width l) l)))

split : (text : List ℕ) → Split text
split text = split_by (length text) text (omega arith)

-- what lies before the first ill-formed place is whole characters
pub whole_before : (text : List ℕ) → Whole (take (first_ill text) text)
unfolding Split
whole_before text = (split text).0

-- at the first ill-formed place stands no character, or the text ends
pub width_there : (text : List ℕ) → char_width (rest text (first_ill text)) ≡ 0
unfolding Split rest
width_there text = (split text).1

-- "first byte where no whole character starts"
pub none_starts : (text : List ℕ) {c : List ℕ} (l : List ℕ) → Char c → rest text (first_ill text) ≡ c ++ l → ⊥
none_starts text {c} l k e =
    let w : char_width (c ++ l) ≡ 0 = rw e at (width_there text) in
    omega (arith, (char_width_law l k).0, (char_width_law l k).1)

pub text_whole : (text : List ℕ) → first_ill text ≡ length text → Whole text
text_whole text e = rw (e, take-length text) at (whole_before text)

-- to pass refusal 2 is to be whole characters, one after the other
pub utf8_whole : (text : List ℕ) → is_utf8 text ≡ true ↔ Whole text
utf8_whole text = (λ e. text_whole text (eqb-true _ _ e), λ w. eq-eqb _ _ (whole_text w))

-- a text of ASCII bytes only
pub ascii_whole : {text : List ℕ} → Many is_ascii text → first_ill text ≡ length text
ascii_whole none = omega (arith, in_text [])
ascii_whole (more {b} {l} e m) =
    omega (arith, character 1 (b ∷ l) (width_ascii b l (omega (arith, leb-true b 0x7F e))) (omega arith), ascii_whole m)
