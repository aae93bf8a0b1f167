-- Whether some lexeme begins so: the test `opens` is that, both ways. And the longest beginning that passes is where a number goes wrong, and nowhere else.
-- Assumes nothing.
use mathlib.Core.Path.{◌≡◌, refl, sym, ap, subst, ◌∙◌}
use mathlib.Core.Bool.{Bool, true, false, cond, ◌||◌, false≢true, and-eq-true_iff}
use mathlib.Core.List.{List, [], ◌∷◌, ◌++◌, append_assoc}
use Prim.Native.Nat.{ℕ, zero, suc, ◌+◌, ◌≤◌, ◌<◌}
use native.Mathlib.Decide.{dec_lt}
use native.Mathlib.Omega.{arith}
use lib.ListN.{length, take, drop, take-append-drop}
use lib.Seq.{take-take}
use borrow.Author.Tests.{eqb-true, eq-eqb}
use Rattle.lists.proofs.Cases.{either, or_left, or_right}
use Rattle.scan.specs.Text.{bytes}
use Rattle.scan.specs.Bytes.{is_sign}
use Rattle.scan.specs.Front.{begins, after_one, after_all, is_nil}
use Rattle.scan.proofs.Bytes.{or_elim}
use Rattle.words.specs.Words.{upper, same_byte, same_word, starts_word}
use Rattle.words.proofs.Words.{same_refl}
use Rattle.number.specs.Grammar.{Float}
use Rattle.number.specs.Lexeme.{inf, infinity, nan, is_named, is_exponent, is_decimal, is_unsigned, is_lexeme}
use Rattle.number.proofs.Equal.{passes, sound}
use Rattle.bad_numbers.specs.Openings.{Opens, GoesWrongAt, opens_decimal, opens_word, opens, longest_up_to, longest, goes_wrong}
use Rattle.bad_numbers.proofs.Decimals.{decimal_opens}

-- ---- words: what begins so, and what stands behind it
same_byte_law : (a b : ℕ) → same_byte a b ≡ true → same_byte b a ≡ true
same_byte_law a b e = eq-eqb (upper b) (upper a) (sym (eqb-true (upper a) (upper b) e))

-- a word's beginning with the rest of the word is the word
word_whole : (w x : List ℕ) → starts_word w x ≡ true → same_word (x ++ drop (length x) w) w ≡ true
unfolding starts_word same_word
word_whole w [] e = same_refl w
word_whole [] (b ∷ x) e = absurd (false≢true e)
word_whole (a ∷ w) (b ∷ x) e =
    let h = (and-eq-true_iff (same_byte a b) (starts_word w x)).0 e in
    rw (same_byte_law a b h.0) (word_whole w x h.1)

word_front : (w x y : List ℕ) → same_word (x ++ y) w ≡ true → starts_word w x ≡ true
unfolding starts_word same_word
word_front w [] y e = nil w
  where
    nil : (w : List ℕ) → starts_word w [] ≡ true
    nil [] = refl
    nil (a ∷ w) = refl
word_front [] (b ∷ x) y e = absurd (false≢true e)
word_front (a ∷ w) (b ∷ x) y e =
    let h = (and-eq-true_iff (same_byte b a) (same_word (x ++ y) w)).0 e in
    rw (same_byte_law b a h.0) (word_front w x y h.1)

-- ---- "optional sign": behind a first byte the sign is passed over whatever follows
signed : (b : ℕ) (x y : List ℕ) → after_one is_sign ((b ∷ x) ++ y) ≡ after_one is_sign (b ∷ x) ++ y
unfolding after_one
signed b x y = go (is_sign b)
  where
    go : (t : Bool) → cond t (x ++ y) (b ∷ (x ++ y)) ≡ cond t x (b ∷ x) ++ y
    go true = refl
    go false = refl

-- nothing can begin a lexeme: `0` is one
nothing_opens : opens [] ≡ true
unfolding opens opens_decimal is_decimal is_exponent begins after_one after_all is_nil
nothing_opens = refl

zero_is : is_lexeme (bytes "0") ≡ true
unfolding is_lexeme is_unsigned is_named is_decimal is_exponent same_word begins after_one after_all is_nil
zero_is = refl

-- ---- the test is passed where some lexeme begins so, ..
unsigned_opens : (u y : List ℕ) → is_unsigned (u ++ y) ≡ true → (opens_decimal u || opens_word u) ≡ true
unfolding is_unsigned is_named opens_word
unsigned_opens u y e =
    or_elim (is_named (u ++ y)) (is_decimal is_nil (u ++ y))
    (λ n. or_right (opens_decimal u) _
    (or_elim (same_word (u ++ y) inf || same_word (u ++ y) infinity) (same_word (u ++ y) nan)
    (λ m. or_elim (same_word (u ++ y) inf) (same_word (u ++ y) infinity)
    (λ s. rw (word_front inf u y s))
    (λ s. or_left (starts_word inf u || starts_word infinity u) _ (or_right (starts_word inf u) _ (word_front infinity u y s))) m)
    (λ s. or_right (starts_word inf u || starts_word infinity u) _ (word_front nan u y s)) n))
    (λ d. or_left (opens_decimal u) _ (decimal_opens u y d)) e

lexeme_opens : (x y : List ℕ) → is_lexeme (x ++ y) ≡ true → opens x ≡ true
unfolding is_lexeme opens
lexeme_opens [] y e = nothing_opens
lexeme_opens (b ∷ x) y e = unsigned_opens (after_one is_sign (b ∷ x)) y (ap is_unsigned (sym (signed b x y)) ∙ e)

pub opens_test : {x : List ℕ} → Opens x → opens x ≡ true
opens_test {x} o = lexeme_opens x o.behind (passes o.lexeme)

-- ---- .. and nowhere else
opened : (x y : List ℕ) → is_lexeme (x ++ y) ≡ true → Opens x
opened x y e = record { behind = y; lexeme = sound (x ++ y) e }

module _ (b : ℕ) (x : List ℕ) where
  by_word : (w : List ℕ) → ((l : List ℕ) → same_word l w ≡ true → is_named l ≡ true) → starts_word w (after_one is_sign (b ∷ x)) ≡ true → Opens (b ∷ x)
  unfolding is_lexeme is_unsigned
  by_word w names e =
      let y = drop (length (after_one is_sign (b ∷ x))) w in
      opened (b ∷ x) y (rw (signed b x y, names _ (word_whole w (after_one is_sign (b ∷ x)) e)))

  by_decimal : opens_decimal (after_one is_sign (b ∷ x)) ≡ true → Opens (b ∷ x)
  unfolding is_lexeme is_unsigned opens_decimal
  by_decimal e = opened (b ∷ x) (bytes "0") (rw (signed b x (bytes "0")) (or_right (is_named (after_one is_sign (b ∷ x) ++ bytes "0")) _ e))

  by_test : opens (b ∷ x) ≡ true → Opens (b ∷ x)
  unfolding opens opens_word is_named
  by_test e =
      or_elim (opens_decimal (after_one is_sign (b ∷ x))) (opens_word (after_one is_sign (b ∷ x))) by_decimal
      (λ n. or_elim (starts_word inf (after_one is_sign (b ∷ x)) || starts_word infinity (after_one is_sign (b ∷ x))) (starts_word nan (after_one is_sign (b ∷ x)))
      (λ m. or_elim (starts_word inf (after_one is_sign (b ∷ x))) (starts_word infinity (after_one is_sign (b ∷ x)))
      (by_word inf λ l s. rw s)
      (by_word infinity λ l s. or_left (same_word l inf || same_word l infinity) _ (or_right (same_word l inf) _ s)) m)
      (by_word nan λ l s. or_right (same_word l inf || same_word l infinity) _ s) n) e

pub test_opens : (x : List ℕ) → opens x ≡ true → Opens x
test_opens [] e = opened [] (bytes "0") zero_is
test_opens (b ∷ x) e = by_test b x e

-- what some lexeme begins with has only such beginnings
pub opens_front : (x y : List ℕ) → opens (x ++ y) ≡ true → opens x ≡ true
opens_front x y e =
    let o = test_opens (x ++ y) e in
    opens_test (record { behind = y ++ o.behind; lexeme = subst Float (append_assoc x y o.behind) o.lexeme })

-- ---- the longest beginning that passes
module _ (test : List ℕ → Bool) (w : List ℕ) where
  pub up_to_within : (n : ℕ) → longest_up_to test w n ≤ n
  unfolding longest_up_to
  up_to_within zero = omega arith
  up_to_within (suc n) = either (test (take (suc n) w)) (λ k. k ≤ suc n) _ _ (λ e. omega arith) λ e. omega (arith, up_to_within n)

  pub up_to_passes : test [] ≡ true → (n : ℕ) → test (take (longest_up_to test w n) w) ≡ true
  unfolding longest_up_to
  up_to_passes z zero = z
  up_to_passes z (suc n) = either (test (take (suc n) w)) (λ k. test (take k w) ≡ true) _ _ (λ e. e) λ e. up_to_passes z n

  up_to_most : (n m : ℕ) → m ≤ n → test (take m w) ≡ true → m ≤ longest_up_to test w n
  unfolding longest_up_to
  up_to_most zero m h t = h
  up_to_most (suc n) m h t =
      either (test (take (suc n) w)) (λ k. m ≤ k) _ _ (λ e. h)
      λ e. up_to_most n m (less (dec_lt n m) e) t
    where
      less : Dec (n < m) → test (take (suc n) w) ≡ false → m ≤ n
      less (yes l) e = let z : m ≡ suc n = omega arith in absurd (false≢true (sym e ∙ ap (λ (k : ℕ). test (take k w)) (sym z) ∙ t))
      less (no l) e = omega arith

  -- where what has passed has only beginnings that pass, it is enough to look at one byte more
  pub longest_is : ((x y : List ℕ) → test (x ++ y) ≡ true → test x ≡ true) → (n : ℕ) → n ≤ length w → test (take n w) ≡ true → (n < length w → test (take (n + 1) w) ≡ false) → longest test w ≡ n
  longest_is front n h t s = go (dec_lt n (longest test w))
    where
      most : n ≤ longest test w
      most = up_to_most (length w) n h t

      whole : test (take (longest test w) w) ≡ true
      whole = up_to_passes (front [] (take n w) t) (length w)

      go : Dec (n < longest test w) → longest test w ≡ n
      go (no l) = omega (arith, most)
      go (yes l) =
          let b = take (n + 1) (take (longest test w) w) in
          let c : b ++ drop (n + 1) (take (longest test w) w) ≡ take (longest test w) w = take-append-drop (n + 1) (take (longest test w) w) in
          let d : test (take (n + 1) w) ≡ true = ap test (sym (take-take (n + 1) (longest test w) w (omega arith))) ∙ front b _ (ap test c ∙ whole) in
          absurd (false≢true (sym (s (omega (arith, up_to_within (length w)))) ∙ d))

  -- one byte more than the longest has none that passes
  pub longest_more : longest test w < length w → test (take (longest test w + 1) w) ≡ false
  longest_more l = go (test (take (longest test w + 1) w)) refl
    where
      go : (t : Bool) → test (take (longest test w + 1) w) ≡ t → t ≡ false
      go true e = absurd (omega (arith, up_to_most (length w) (longest test w + 1) (omega arith) e))
      go false e = refl

-- how far a number goes is no further than its end
pub wrong_within : (w : List ℕ) → goes_wrong w ≤ length w
wrong_within w = up_to_within opens w (length w)

-- "the longest beginning [..] that some lexeme begins with": `goes_wrong` is its length, ..
pub goes_wrong_at : (w : List ℕ) → GoesWrongAt w (goes_wrong w)
goes_wrong_at w = record {
  within = wrong_within w;
  opens = test_opens (take (goes_wrong w) w) (up_to_passes opens w nothing_opens (length w));
  longest = λ m h o. up_to_most opens w (length w) m h (opens_test o);
}

-- .. and no other number is
pub goes_wrong_only_at : (w : List ℕ) (n : ℕ) → GoesWrongAt w n → n ≡ goes_wrong w
goes_wrong_only_at w n g =
    let h : goes_wrong w ≤ n = g.longest (goes_wrong w) (wrong_within w) (goes_wrong_at w).opens in
    omega (arith, (goes_wrong_at w).longest n g.within g.opens)
