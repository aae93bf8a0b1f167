-- Laws of `upper`, `same_word` and `starts_word`: by their lengths and pair by pair, at a place of both words, joined, and that it is sameness of the raised words.
-- Assumes nothing.
use mathlib.Core.Path.{◌≡◌, refl, sym, ap, ◌∙◌}
use mathlib.Core.Bool.{Bool, true, false, ◌&&◌, and_assoc, and-false, ◌||◌, and-eq-true_iff, false≢true, or-true}
use mathlib.Core.List.{List, [], ◌∷◌, ◌++◌, map, head-eq_of_cons-eq, tail-eq_of_cons-eq, nil≢cons, cons≢nil}
use Prim.Native.Nat.{ℕ, suc, ◌+◌, ◌≤◌, ◌<◌, suc-le-suc}
use native.Mathlib.Numerals.{add-one}
use native.Mathlib.Nat.{le_of_suc-le-suc, suc_inj}
use native.Mathlib.Omega.{arith}
use Rattle.std.proofs.lemmas.Bool.Decides.{nat_tests}
use borrow.Author.Tests.{eqb-true, eq-eqb}
use lib.ListN.{length, get_or, take, drop, drop_of_length-le, length-map}
use lib.Seq.{drop-cons, take_at, drop_at}
use Rattle.std.specs.List.{list_all, zip}
use Rattle.words.specs.Words.{upper, same_byte, same_word, starts_word}

-- What is raised stays as it is.
pub upper_upper : (b : ℕ) → upper (upper b) ≡ upper b
upper_upper b = grind (arith, nat_tests)

-- At the place i of both words: the test goes on, fails, or has come to the end of the second.
module _ (l m : List ℕ) (i : ℕ) where
  pub starts_on : i < length l → i < length m → same_byte (get_or l i 0) (get_or m i 0) ≡ true → starts_word (drop (i + 1) l) (drop (i + 1) m) ≡ starts_word (drop i l) (drop i m)
  unfolding starts_word
  starts_on h k t = rw (add-one, drop-cons l i 0, drop-cons m i 0, t)

  pub starts_off : i < length l → i < length m → same_byte (get_or l i 0) (get_or m i 0) ≡ false → false ≡ starts_word (drop i l) (drop i m)
  unfolding starts_word
  starts_off h k t = rw (drop-cons l i 0, drop-cons m i 0, t)

starts_nil : (l : List ℕ) → true ≡ starts_word l []
unfolding starts_word
starts_nil l = refl

pub starts_end : (l m : List ℕ) (i : ℕ) → length m ≤ i → true ≡ starts_word (drop i l) (drop i m)
starts_end l m i k = rw (drop_of_length-le m k) (starts_nil (drop i l))

-- By their lengths, and by their bytes pair by pair: `zip` goes as far as the shorter one.
abbrev pub pairs_same : List ℕ → List ℕ → Bool
pairs_same l m = list_all (λ p. same_byte p.0 p.1) (zip l m)

pub starts_pairs : (l m : List ℕ) → length m ≤ length l → pairs_same l m ≡ starts_word l m
unfolding starts_word
starts_pairs [] [] h = refl
starts_pairs (a ∷ l) [] h = refl
starts_pairs [] (b ∷ m) h = absurd (omega arith)
starts_pairs (a ∷ l) (b ∷ m) h = rw (starts_pairs l m (le_of_suc-le-suc h))

pub too_short : (l m : List ℕ) → length l < length m → false ≡ starts_word l m
unfolding starts_word
too_short l [] h = absurd (omega arith)
too_short [] (b ∷ m) h = refl
too_short (a ∷ l) (b ∷ m) h = rw (← too_short l m (le_of_suc-le-suc h), and-false)

pub not_same : (l m : List ℕ) → (length l ≡ length m → ⊥) → false ≡ same_word l m
unfolding same_word
not_same [] [] h = absurd (h refl)
not_same [] (b ∷ m) h = refl
not_same (a ∷ l) [] h = refl
not_same (a ∷ l) (b ∷ m) h = rw (← not_same l m (λ e. h (ap suc e)), and-false)

pub starts_same : (l m : List ℕ) → length l ≡ length m → starts_word l m ≡ same_word l m
unfolding same_word starts_word
starts_same [] [] h = refl
starts_same [] (b ∷ m) h = absurd (omega arith)
starts_same (a ∷ l) [] h = absurd (omega arith)
starts_same (a ∷ l) (b ∷ m) h = rw (starts_same l m (suc_inj h))

-- A word begins with a name where its first bytes, as many as the name has, are the name.
pub starts_take : (l m : List ℕ) → starts_word l m ≡ same_word (take (length m) l) m
unfolding same_word starts_word
starts_take l [] = refl
starts_take [] (b ∷ m) = refl
starts_take (a ∷ l) (b ∷ m) = rw (starts_take l m)

-- A word is two words joined where it begins with the first and what is left is the second.
pub starts_joined : (l n e : List ℕ) → same_word l (n ++ e) ≡ (starts_word l n && same_word (drop (length n) l) e)
unfolding same_word starts_word
starts_joined l [] e = refl
starts_joined [] (b ∷ n) e = refl
starts_joined (a ∷ l) (b ∷ n) e = rw (starts_joined l n e, and_assoc)

pub same_joined : (l n e : List ℕ) → same_word l (n ++ e) ≡ (same_word (take (length n) l) n && same_word (drop (length n) l) e)
same_joined l n e = rw (← starts_take l n) (starts_joined l n e)

pub same_append : (l m n e : List ℕ) → length l ≡ length n → same_word (l ++ m) (n ++ e) ≡ (same_word l n && same_word m e)
same_append l m n e h = same_joined (l ++ m) n e ∙ rw (take_at l m (length n) h, drop_at l m (length n) h)

-- Words are the same exactly where their raised bytes are equal.
pub same_raised : (l m : List ℕ) → same_word l m ≡ true → map upper l ≡ map upper m
unfolding same_word
same_raised [] [] h = refl
same_raised [] (b ∷ m) h = absurd (false≢true h)
same_raised (a ∷ l) [] h = absurd (false≢true h)
same_raised (a ∷ l) (b ∷ m) h =
    let both = (and-eq-true_iff (same_byte a b) (same_word l m)).0 h in
    let first : upper a ≡ upper b = eqb-true _ _ both.0 in
    let others : map upper l ≡ map upper m = same_raised l m both.1 in
    rw (first, others)

pub raised_same : (l m : List ℕ) → map upper l ≡ map upper m → same_word l m ≡ true
unfolding same_word
raised_same [] [] h = refl
raised_same [] (b ∷ m) h = absurd (nil≢cons h)
raised_same (a ∷ l) [] h = absurd (cons≢nil h)
raised_same (a ∷ l) (b ∷ m) h = rw (raised_same l m (tail-eq_of_cons-eq h), eq-eqb _ _ (head-eq_of_cons-eq h))

-- So it is an equivalence, and words of different lengths are never the same.
pub same_refl : (l : List ℕ) → same_word l l ≡ true
same_refl l = raised_same l l refl

pub same_sym : (l m : List ℕ) → same_word l m ≡ true → same_word m l ≡ true
same_sym l m h = raised_same m l (sym (same_raised l m h))

pub same_trans : (l m n : List ℕ) → same_word l m ≡ true → same_word m n ≡ true → same_word l n ≡ true
same_trans l m n h k = raised_same l n (same_raised l m h ∙ same_raised m n k)

-- What one word is the same as, is the same.
pub same_both : (l m n : List ℕ) → same_word l m ≡ true → same_word l n ≡ true → same_word m n ≡ true
same_both l m n h k = same_trans m l n (same_sym l m h) k

-- tests of which each implies the other
by_both : (a b : Bool) → (a ≡ true → b ≡ true) → (b ≡ true → a ≡ true) → a ≡ b
by_both true b h k = sym (h refl)
by_both false true h k = k refl
by_both false false h k = refl

pub same_comm : (l m : List ℕ) → same_word l m ≡ same_word m l
same_comm l m = by_both _ _ (same_sym l m) (same_sym m l)

-- Words that are the same are told from no third word.
pub same_alike : (l m n : List ℕ) → same_word l m ≡ true → same_word l n ≡ same_word m n
same_alike l m n h = by_both _ _ (same_both l m n h) (same_trans l m n h)

pub same_length : (l m : List ℕ) → same_word l m ≡ true → length l ≡ length m
same_length l m h = sym (length-map l upper) ∙ ap length (same_raised l m h) ∙ length-map m upper

pub same_starts : (l m : List ℕ) → same_word l m ≡ true → starts_word l m ≡ true
same_starts l m h = starts_same l m (same_length l m h) ∙ h

-- Of two words that a third begins with, one begins with the other.
pub starts_both : (l m n : List ℕ) → starts_word l m ≡ true → starts_word l n ≡ true → (starts_word m n || starts_word n m) ≡ true
unfolding starts_word
starts_both l [] n h k = or-true (starts_word [] n)
starts_both l (b ∷ m) [] h k = refl
starts_both [] (b ∷ m) (d ∷ n) h k = absurd (false≢true h)
starts_both (a ∷ l) (b ∷ m) (d ∷ n) h k =
    let p = (and-eq-true_iff (same_byte a b) (starts_word l m)).0 h in
    let q = (and-eq-true_iff (same_byte a d) (starts_word l n)).0 k in
    let e : upper b ≡ upper d = sym (eqb-true _ _ p.0) ∙ eqb-true _ _ q.0 in
    rw (eq-eqb _ _ e, eq-eqb _ _ (sym e)) (starts_both l m n p.1 q.1)

-- A word is at least as long as one that it begins with.
pub starts_fits : (l m : List ℕ) → starts_word l m ≡ true → length m ≤ length l
unfolding starts_word
starts_fits l [] h = omega arith
starts_fits [] (b ∷ m) h = absurd (false≢true h)
starts_fits (a ∷ l) (b ∷ m) h = suc-le-suc (starts_fits l m ((and-eq-true_iff (same_byte a b) (starts_word l m)).0 h).1)
