-- Laws of the number rows: a number's text as a part of the text, and the test of each.
-- Assumes nothing.
use mathlib.Core.Path.{◌≡◌, refl, sym, ◌∙◌}
use mathlib.Core.Bool.{Bool, true, false, ◌&&◌, false≢true, and-eq-true_iff}
use mathlib.Core.List.{List, [], ◌∷◌, ◌++◌}
use Prim.Native.Nat.{ℕ, zero, suc, ◌+◌, ◌-◌, ◌≤◌, ◌<◌}
use native.Mathlib.Omega.{arith}
use native.Mathlib.Numerals.{add-one}
use native.Mathlib.Decide.{dec_lt}
use lib.Dec.{leb}
use borrow.Author.Tests.{le-leb, lt-leb}
use lib.ListN.{length, take, drop, length-drop, drop_of_length-le}
use lib.Seq.{take_all}
use Rattle.scan.specs.Front.{part}
use Rattle.lists.specs.Lists.{every}
use Rattle.number.specs.Lexeme.{is_lexeme}
use Rattle.store.specs.Rows.{span_start_at, span_length_at, span_at, number_room, firsts, spans_in}
use Rattle.shape.specs.Numbers.{text_at, is_number, is_number_at, are_numbers}

-- a span's text: all of it lies in the text, or some, or none
module _ (text numbers : List ℕ) (i start len : ℕ) (s : start ≡ span_start_at numbers i) (e : len ≡ span_length_at numbers i) where
  pub text_all : part text start (start + len) ≡ text_at text numbers i
  unfolding text_at
  text_all = let z : start + len - start ≡ len = omega arith in rw (z, s, e)

  pub text_some : length text ≤ start + len → take (length text - start) (drop start text) ≡ text_at text numbers i
  unfolding text_at
  text_some h =
      let n = length-drop start text in
      take_all (length text - start) (drop start text) (omega arith) ∙ sym (take_all len (drop start text) (omega arith)) ∙ rw (s, e)

  pub text_none : length text ≤ start → [] ≡ text_at text numbers i
  unfolding text_at
  text_none h = let z : drop start text ≡ [] = drop_of_length-le text h in rw (← s, z) (sym (take_all (span_length_at numbers i) [] (omega arith)))

  pub number_off : length text < start + len → false ≡ is_number_at text numbers i
  unfolding is_number_at
  number_off h = rw (← s, ← e, lt-leb (start + len) (length text) h)

  pub number_in : (b : Bool) → start + len ≤ length text → b ≡ is_lexeme (part text start (start + len)) → b ≡ is_number_at text numbers i
  unfolding is_number_at
  number_in b h l =
      let z : start + len - start ≡ len = omega arith in
      rw (← s, ← e, le-leb (start + len) (length text) h) (rw z at l)

and_false : (b : Bool) → (b && false) ≡ false
and_false true = refl
and_false false = refl

module _ {A : Type 0} (p : A → Bool) where
  pub every_snoc : (l : List A) (a : A) → every p (l ++ (a ∷ [])) ≡ (every p l && p a)
  unfolding every
  every_snoc [] a = go (p a)
    where
      go : (b : Bool) → (b && true) ≡ (true && b)
      go true = refl
      go false = refl
  every_snoc (b ∷ l) a = rw (every_snoc l a) (go (p b) (every p l) (p a))
    where
      go : (x y z : Bool) → (x && (y && z)) ≡ ((x && y) && z)
      go true y z = refl
      go false y z = refl

  module _ (f : ℕ → A) where
    pub every_none : every p (firsts f 0) ≡ true
    unfolding every firsts
    every_none = refl

    pub every_more : (n : ℕ) → every p (firsts f n) ≡ true → p (f n) ≡ true → every p (firsts f (n + 1)) ≡ true
    unfolding firsts
    every_more n a b = rw (add-one n, every_snoc (firsts f n) (f n), a, b)

    pub every_fails : (n i : ℕ) → i < n → p (f i) ≡ false → every p (firsts f n) ≡ false
    unfolding firsts
    every_fails zero i h e = absurd (omega arith)
    every_fails (suc n) i h e = go (dec_lt i n) (λ l. every_fails n i l e)
      where
        go : Dec (i < n) → (i < n → every p (firsts f n) ≡ false) → every p (firsts f n ++ (f n ∷ [])) ≡ false
        go (yes l) ih = rw (every_snoc (firsts f n) (f n), ih l)
        go (no l) ih =
            let z : n ≡ i = omega (arith, l) in
            every_snoc (firsts f n) (f n) ∙ rw (z, e) (and_false (every p (firsts f i)))

    pub every_at : (n i : ℕ) → every p (firsts f n) ≡ true → i < n → p (f i) ≡ true
    every_at n i e h = go (p (f i)) refl
      where
        go : (b : Bool) → p (f i) ≡ b → b ≡ true
        go true q = refl
        go false q = absurd (false≢true (sym (every_fails n i h q) ∙ e))

-- the test of each number, one after the other
module _ (text numbers : List ℕ) where
  pub numbers_none : every (is_number text) (spans_in text numbers 0) ≡ true
  unfolding spans_in
  numbers_none = every_none (is_number text) (span_at text numbers)

  pub numbers_more : (i : ℕ) → every (is_number text) (spans_in text numbers i) ≡ true → is_number_at text numbers i ≡ true → every (is_number text) (spans_in text numbers (i + 1)) ≡ true
  unfolding spans_in is_number_at
  numbers_more i a b = every_more (is_number text) (span_at text numbers) i a b

  pub numbers_fail : (i : ℕ) → i < number_room numbers → is_number_at text numbers i ≡ false → false ≡ are_numbers text numbers
  unfolding are_numbers spans_in is_number_at
  numbers_fail i h e = sym (every_fails (is_number text) (span_at text numbers) (number_room numbers) i h e)

  pub numbers_end : (i : ℕ) → number_room numbers ≡ i → every (is_number text) (spans_in text numbers i) ≡ true → true ≡ are_numbers text numbers
  unfolding are_numbers
  numbers_end i z e = sym (rw z e)

  -- a number of a well-formed store is a lexeme
  pub number_lexeme : (i : ℕ) → are_numbers text numbers ≡ true → i < number_room numbers → is_lexeme (text_at text numbers i) ≡ true
  unfolding are_numbers spans_in text_at
  number_lexeme i e h = ((and-eq-true_iff (leb (span_start_at numbers i + span_length_at numbers i) (length text)) (is_lexeme (take (span_length_at numbers i) (drop (span_start_at numbers i) text)))).0 (every_at (is_number text) (span_at text numbers) (number_room numbers) i e h)).1
