-- A word that is a name, an ending or EMPTY has only ASCII letters, so it is a token's inner bytes and no number; one test over each table.
-- Assumes nothing.
use Prim.Native.Nat.{ℕ, ◌-◌, ◌≤◌, ◌<◌}
use native.Mathlib.Omega.{arith}
use mathlib.Core.Path.{◌≡◌, refl, sym, ◌∙◌}
use mathlib.Core.Bool.{Bool, true, false, cond, ◌&&◌, and-eq-true_iff, false≢true}
use mathlib.Core.List.{List, [], ◌∷◌, flat_map}
use lib.Dec.{leb}
use Rattle.std.specs.Prelude.{Some, None}
use lib.ListN.{length}
use borrow.Author.Tests.{leb-true, le-leb, lt-leb, eqb-true, ne_eqb}
use Rattle.scan.specs.Bytes.{is_inner, is_numberlike, is_ascii}
use Rattle.scan.specs.Front.{begins}
use Rattle.words.specs.Words.{upper, is_lower, same_byte, same_word}
use Rattle.names.specs.Strings.{empty}
use Rattle.lists.specs.Lists.{every}
use Rattle.names.specs.Names.{spellings, lookup, meaning, ending, is_empty_word, endings}
use Rattle.names.specs.Table.{is_known}
use Rattle.names.specs.Letters.{is_letter}
use Rattle.lists.proofs.Lists.{every_mem, every_head, every_weaker}
use Rattle.names.proofs.Lookup.{found}
use Rattle.names.proofs.Table.{means_spelled, not_known, known_means}

-- words that are the same pass the same tests of their raised bytes
pub same_every : (p : ℕ → Bool) (l m : List ℕ) → same_word l m ≡ true → every (λ b. p (upper b)) m ≡ every (λ b. p (upper b)) l
unfolding same_word every
same_every p [] [] h = refl
same_every p [] (b ∷ m) h = absurd (false≢true h)
same_every p (a ∷ l) [] h = absurd (false≢true h)
same_every p (a ∷ l) (b ∷ m) h =
    let both = (and-eq-true_iff (same_byte a b) (same_word l m)).0 h in
    rw (eqb-true (upper a) (upper b) both.0, same_every p l m both.1)

range : (b : ℕ) → is_letter b ≡ true → (65 ≤ b) × (b ≤ 122)
range b h = go (is_lower b) refl ((and-eq-true_iff (leb 65 (upper b)) (leb (upper b) 90)).0 h)
  where
    go : (t : Bool) → is_lower b ≡ t → (leb 65 (cond t (b - 32) b) ≡ true) × (leb (cond t (b - 32) b) 90 ≡ true) → (65 ≤ b) × (b ≤ 122)
    go true e k = (omega (arith, leb-true 65 (b - 32) k.0), omega (arith, leb-true (b - 32) 90 k.1))
    go false e k = (omega (arith, leb-true 65 b k.0), omega (arith, leb-true b 90 k.1))

module _ (b : ℕ) (h : is_letter b ≡ true) where
  pub letter_ascii : is_ascii b ≡ true
  letter_ascii = let r : b ≤ 122 = (range b h).1 in le-leb b 127 (omega arith)

  -- a letter is within a word
  pub letter_inner : is_inner b ≡ true
  letter_inner =
      let l : 65 ≤ b = (range b h).0 in
      rw (ne_eqb b 32 (omega arith), ne_eqb b 9 (omega arith), ne_eqb b 10 (omega arith), ne_eqb b 13 (omega arith), ne_eqb b 0 (omega arith), ne_eqb b 40 (omega arith), ne_eqb b 41 (omega arith), ne_eqb b 44 (omega arith))

  -- no number starts with a letter
  pub letter_no_number : is_numberlike b ≡ false
  letter_no_number =
      let l : 65 ≤ b = (range b h).0 in
      rw (le-leb 48 b (omega arith), lt-leb b 57 (omega arith), ne_eqb b 46 (omega arith), ne_eqb b 43 (omega arith), ne_eqb b 45 (omega arith))

-- what is true of the bytes of a word that is one of the fixed strings
pub record Lettered (w : List ℕ) : Type 0 where
  pub letters : every is_letter w ≡ true
  pub ascii : every is_ascii w ≡ true
  pub inner : every is_inner w ≡ true
  pub no_number : begins is_numberlike w ≡ false

begins_no : (w : List ℕ) → every is_letter w ≡ true → begins is_numberlike w ≡ false
unfolding begins
begins_no [] h = refl
begins_no (b ∷ w) h = letter_no_number b (every_head is_letter b w h)

lettered : (w string : List ℕ) → same_word w string ≡ true → every is_letter string ≡ true → Lettered w
lettered w string e h =
    let l : every is_letter w ≡ true = sym (same_every (λ (b : ℕ). leb 65 b && leb b 90) w string e) ∙ h in
    record {
      letters = l;
      ascii = every_weaker is_letter is_ascii letter_ascii w l;
      inner = every_weaker is_letter is_inner letter_inner w l;
      no_number = begins_no w l;
    }

spellings_letters : every (λ row. every is_letter row.1) spellings ≡ true
unfolding spellings flat_map every
spellings_letters = refl

pub name_lettered : (w : List ℕ) → is_known (meaning w) ≡ true → Lettered w
name_lettered w k =
    let m = known_means w k in
    let s = means_spelled w m.0 m.1 in
    lettered w s.string s.same (every_mem (λ row. every is_letter row.1) spellings (m.0, s.string) spellings_letters s.row)

-- a word that is not all ASCII is no name
pub wide_unknown : (w : List ℕ) → every is_ascii w ≡ false → meaning w ≡ None
wide_unknown w h = not_known (meaning w) (λ k. false≢true (sym h ∙ (name_lettered w k).ascii))

pub name_nonempty : (w : List ℕ) → is_known (meaning w) ≡ true → 0 < length w
unfolding meaning spellings flat_map lookup same_word
name_nonempty [] k = absurd (false≢true k)
name_nonempty (b ∷ w) k = omega arith

endings_letters : every (λ row. every is_letter row.1) endings ≡ true
unfolding every
endings_letters = refl

pub ending_lettered : (w : List ℕ) (dim : ℕ) → ending w ≡ Some dim → Lettered w
unfolding ending
ending_lettered w dim e =
    let f = found same_word w endings dim e in
    lettered w f.string f.passes (every_mem (λ row. every is_letter row.1) endings (dim, f.string) endings_letters f.row)

empty_letters : every is_letter empty ≡ true
unfolding every
empty_letters = refl

pub empty_lettered : (w : List ℕ) → is_empty_word w ≡ true → Lettered w
empty_lettered w e = lettered w empty e empty_letters
