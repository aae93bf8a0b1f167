-- The code's table is the definitions': row by row, the names with their kinds and the endings with their dimensions.
-- Assumes nothing.
use Prim.Native.Nat.{ℕ, zero, suc, ◌+◌, ◌≤◌, ◌<◌}
use native.Mathlib.Omega.{arith}
use mathlib.Core.Path.{◌≡◌, refl, sym, ap, ◌∙◌}
use mathlib.Core.Bool.{Bool, true, false, ◌&&◌, and-true}
use mathlib.Core.Logic.{◌⊎◌, ⊎_elim}
use mathlib.Core.List.{List, [], ◌∷◌, map}
use borrow.Author.Tests.{ne_eqb}
use lib.Dec.{eqb}
use Rattle.std.specs.Prelude.{Option, Some, None}
use lib.ListN.{length, get_or, take, drop, drop_of_length-le}
use lib.Seq.{length-take-le, get_or-take}
use Rattle.lists.specs.Lists.{every}
use Rattle.scan.specs.Bytes.{space}
use Rattle.words.specs.Words.{upper, same_word, starts_word}
use Rattle.words.proofs.Words.{starts_off, not_same}
use Rattle.names.specs.declared.Front.{Front}
use Rattle.names.specs.Letters.{is_capital, letter_at, has_both}
use Rattle.names.specs.Names.{names, endings, string_of, lookup, ending, front_row, front}
use Rattle.names.proofs.Lookup.{miss, hit}
use Rattle.names.proofs.Capitals.{no_case, byte_same, capital_at}

-- the first n places of a string with blanks behind it
abbrev pad : ℕ → List ℕ → List ℕ
pad zero s = []
pad (suc n) [] = space ∷ pad n []
pad (suc n) (b ∷ s) = b ∷ pad n s

-- ---- the names
-- with blanks up to the longest, as the code has them
abbrev pub padded : List (List ℕ)
padded = map (λ entry. pad 18 entry.1) names

abbrev pub lengths : List ℕ
lengths = map (λ entry. length entry.1) names

abbrev pub name_at : ℕ → List ℕ
name_at row = take (get_or lengths row 0) (get_or padded row [])

-- what is true of a row
pub record NameRow (row : ℕ) : Type 0 where
  pub stands : drop row names ≡ (row + 1, name_at row) ∷ drop (row + 1) names
  pub sized : length (name_at row) ≡ get_or lengths row 0
  pub inside : get_or lengths row 0 ≤ length (get_or padded row [])
  pub some : 0 < get_or lengths row 0
  pub small : get_or lengths row 0 < 256
  pub capital : every is_capital (name_at row) ≡ true

pub name_row : (row : ℕ) → row < 7 → NameRow row
unfolding every
name_row zero h = record { stands = refl; sized = refl; inside = omega arith; some = omega arith; small = omega arith; capital = refl }
name_row (suc zero) h = record { stands = refl; sized = refl; inside = omega arith; some = omega arith; small = omega arith; capital = refl }
name_row (suc (suc zero)) h = record { stands = refl; sized = refl; inside = omega arith; some = omega arith; small = omega arith; capital = refl }
name_row (suc (suc (suc zero))) h = record { stands = refl; sized = refl; inside = omega arith; some = omega arith; small = omega arith; capital = refl }
name_row (suc (suc (suc (suc zero)))) h = record { stands = refl; sized = refl; inside = omega arith; some = omega arith; small = omega arith; capital = refl }
name_row (suc (suc (suc (suc (suc zero))))) h = record { stands = refl; sized = refl; inside = omega arith; some = omega arith; small = omega arith; capital = refl }
name_row (suc (suc (suc (suc (suc (suc zero)))))) h = record { stands = refl; sized = refl; inside = omega arith; some = omega arith; small = omega arith; capital = refl }
name_row (suc (suc (suc (suc (suc (suc (suc row))))))) h = absurd (omega arith)

-- ---- a row of any table is passed over, or found
module _ {A : Type 0} (test : List ℕ → List ℕ → Bool) (w : List ℕ) {rows more : List (A × List ℕ)} {entry : A × List ℕ} (stands : rows ≡ entry ∷ more) where
  row_passed : test w entry.1 ≡ false → lookup test more w ≡ lookup test rows w
  row_passed t = sym (ap (λ (r : List (A × List ℕ)). lookup test r w) stands ∙ miss test w entry more t)

  row_found : test w entry.1 ≡ true → Some entry.0 ≡ lookup test rows w
  row_found t = sym (ap (λ (r : List (A × List ℕ)). lookup test r w) stands ∙ hit test w entry more t)

-- ---- what the names from a row on tell of a word
abbrev pub names_from : ℕ → List ℕ → Option Front
names_from row w = lookup starts_word (map front_row (drop row names)) w

pub names_start : (w : List ℕ) → names_from 0 w ≡ front w
unfolding front
names_start w = refl

pub names_none : (w : List ℕ) (row : ℕ) → 7 ≤ row → None ≡ names_from row w
unfolding lookup
names_none w row h = rw (drop_of_length-le names h)

-- the word of no bytes begins with none
pub no_front : (w : List ℕ) → length w ≡ 0 → None ≡ front w
unfolding front lookup starts_word
no_front [] h = refl
no_front (a ∷ l) h = absurd (omega (arith, h))

module _ (w : List ℕ) (row : ℕ) (h : row < 7) where
  pub name_passed : starts_word w (name_at row) ≡ false → names_from (row + 1) w ≡ names_from row w
  name_passed t = row_passed starts_word w (ap (map front_row) (name_row row h).stands) t

  -- for either of two reasons
  pub passed_either : {A B : Type 0} → A ⊎ B → (A → starts_word w (name_at row) ≡ false) → (B → starts_word w (name_at row) ≡ false) → names_from (row + 1) w ≡ names_from row w
  passed_either came f g = name_passed (⊎_elim f g came)

  pub name_found : starts_word w (name_at row) ≡ true → Some (record { kind = row + 1; len = get_or lengths row 0 }) ≡ names_from row w
  name_found t = rw (← (name_row row h).sized) (row_found starts_word w (ap (map front_row) (name_row row h).stands) t)

  -- a first letter of its own tells
  pub other_first : 0 < length w → get_or w 0 0 < 256 → (get_or (get_or padded row []) 0 0 ≡ no_case (get_or w 0 0) → ⊥) → starts_word w (name_at row) ≡ false
  other_first some byte ne =
      let own : get_or (name_at row) 0 0 ≡ get_or (get_or padded row []) 0 0 = get_or-take (get_or lengths row 0) (get_or padded row []) 0 0 (name_row row h).some in
      let long : 0 < length (name_at row) = omega (arith, (name_row row h).sized, (name_row row h).some) in
      let same = byte_same (get_or w 0 0) (get_or (name_at row) 0 0) byte (capital_at (name_at row) (name_row row h).capital 0 long) in
      sym (starts_off w (name_at row) 0 some long (sym same ∙ ne_eqb _ _ (λ e. ne (sym own ∙ sym e))))

-- ---- the endings
abbrev pub padded_endings : List (List ℕ)
padded_endings = map (λ entry. pad 2 entry.1) endings

abbrev pub ending_lengths : List ℕ
ending_lengths = map (λ entry. length entry.1) endings

abbrev pub ending_at : ℕ → List ℕ
ending_at row = take (get_or ending_lengths row 0) (get_or padded_endings row [])

pub record EndingRow (row : ℕ) : Type 0 where
  pub stands : drop row endings ≡ (row, ending_at row) ∷ drop (row + 1) endings
  pub string : string_of endings row ≡ ending_at row
  pub inside : get_or ending_lengths row 0 ≤ length (get_or padded_endings row [])
  pub small : get_or ending_lengths row 0 ≤ 2

pub ending_row_law : (row : ℕ) → row < 4 → EndingRow row
unfolding string_of
ending_row_law zero h = record { stands = refl; string = refl; inside = omega arith; small = omega arith }
ending_row_law (suc zero) h = record { stands = refl; string = refl; inside = omega arith; small = omega arith }
ending_row_law (suc (suc zero)) h = record { stands = refl; string = refl; inside = omega arith; small = omega arith }
ending_row_law (suc (suc (suc zero))) h = record { stands = refl; string = refl; inside = omega arith; small = omega arith }
ending_row_law (suc (suc (suc (suc row)))) h = absurd (omega arith)

-- a number that is no dimension has none
pub no_ending : (n : ℕ) → 4 ≤ n → string_of endings n ≡ []
unfolding string_of
no_ending n h = rw (ne_eqb n 0 (omega arith), ne_eqb n 1 (omega arith), ne_eqb n 2 (omega arith), ne_eqb n 3 (omega arith))

-- ---- what the endings from a row on tell of a word
abbrev pub endings_from : ℕ → List ℕ → Option ℕ
endings_from row w = lookup same_word (drop row endings) w

pub endings_start : (w : List ℕ) → endings_from 0 w ≡ ending w
unfolding ending
endings_start w = refl

pub endings_none : (w : List ℕ) (row : ℕ) → 4 ≤ row → None ≡ endings_from row w
unfolding lookup
endings_none w row h = rw (drop_of_length-le endings h)

-- as many letters, and the same two with blanks behind them
both_same : (w : List ℕ) (row : ℕ) → row < 4 → length w ≡ get_or ending_lengths row 0 → has_both (get_or padded_endings row []) (letter_at w 0) (letter_at w 1) ≡ same_word w (ending_at row)
unfolding letter_at same_word
both_same [] zero h e = refl
both_same (a ∷ l) zero h e = absurd (omega (arith, e))
both_same [] (suc zero) h e = absurd (omega (arith, e))
both_same (a ∷ []) (suc zero) h e = refl
both_same (a ∷ b ∷ l) (suc zero) h e = absurd (omega (arith, e))
both_same [] (suc (suc zero)) h e = absurd (omega (arith, e))
both_same (a ∷ []) (suc (suc zero)) h e = refl
both_same (a ∷ b ∷ l) (suc (suc zero)) h e = absurd (omega (arith, e))
both_same [] (suc (suc (suc zero))) h e = absurd (omega (arith, e))
both_same (a ∷ []) (suc (suc (suc zero))) h e = absurd (omega (arith, e))
both_same (a ∷ b ∷ []) (suc (suc (suc zero))) h e = ap (λ t. eqb (upper a) 90 && t) (sym (and-true (eqb (upper b) 77)))
both_same (a ∷ b ∷ c ∷ l) (suc (suc (suc zero))) h e = absurd (omega (arith, e))
both_same w (suc (suc (suc (suc row)))) h e = absurd (omega arith)

module _ (w : List ℕ) (row : ℕ) (h : row < 4) where
  passed : same_word w (ending_at row) ≡ false → endings_from (row + 1) w ≡ endings_from row w
  passed t = row_passed same_word w (ending_row_law row h).stands t

  -- another length, or other letters, or neither
  pub ending_sized : (length w ≡ get_or ending_lengths row 0 → ⊥) → endings_from (row + 1) w ≡ endings_from row w
  ending_sized ne = passed (sym (not_same w (ending_at row) (λ e. ne (e ∙ length-take-le (get_or ending_lengths row 0) (get_or padded_endings row []) (ending_row_law row h).inside))))

  pub ending_passed : length w ≡ get_or ending_lengths row 0 → has_both (get_or padded_endings row []) (letter_at w 0) (letter_at w 1) ≡ false → endings_from (row + 1) w ≡ endings_from row w
  ending_passed e t = passed (sym (both_same w row h e) ∙ t)

  pub ending_found : length w ≡ get_or ending_lengths row 0 → has_both (get_or padded_endings row []) (letter_at w 0) (letter_at w 1) ≡ true → Some row ≡ endings_from row w
  ending_found e t = row_found same_word w (ending_row_law row h).stands (sym (both_same w row h e) ∙ t)
