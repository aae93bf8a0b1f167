-- Laws of what was expected: one for each answer of the code.
-- Assumes nothing.
use mathlib.Core.Path.{◌≡◌, refl, ap, ◌∙◌}
use mathlib.Core.Bool.{true, false}
use mathlib.Core.List.{List}
use Prim.Native.Nat.{ℕ, zero, suc, ◌-◌, ◌≤◌, ◌<◌}
use native.Mathlib.Decide.{dec_lt}
use native.Mathlib.Omega.{arith}
use lib.ListN.{length, get_or, get_or-eq_default}
use borrow.Author.Tests.{le-leb, lt-leb, ne_eqb}
use Rattle.scan.specs.Bytes.{is_stop, is_plus, is_sign}
use Rattle.scan.specs.Front.{rest, part, begins, after_one, after_all, is_nil}
use Rattle.scan.specs.Runs.{after_one_at}
use Rattle.scan.proofs.Front.{tail_part, rest_zero, nil_at, part_none}
use Rattle.scan.proofs.Runs.{rest_one, one_not_before}
use Rattle.words.specs.Words.{same_word}
use Rattle.number.specs.Lexeme.{is_e, is_named, is_decimal, is_unsigned, is_lexeme}
use Rattle.bad_numbers.specs.Openings.{opens_word}
use Rattle.refusals.specs.Refusals.{nothing_after_plus, number_goes_wrong}
use Rattle.expected.specs.Expectations.{no_expectation, nothing_more, a_digit, digit_or_sign, number_or_word, rest_of_word}
use Rattle.expected.specs.Expected.{expected_after, run_start, expected_at, expected_of}

-- ---- behind x
pub is_whole : (x : List ℕ) → is_lexeme x ≡ true → nothing_more ≡ expected_after x
unfolding expected_after
is_whole x e = rw e

module _ (x : List ℕ) (n : is_lexeme x ≡ false) (at : ℕ) (s : at ≡ after_one_at is_sign x 0) where
  unsigned : rest x at ≡ after_one is_sign x
  unsigned = rw s (rest_one is_sign x 0 refl ∙ ap (after_one is_sign) (rest_zero x))

  pub is_sign_law : length x ≤ at → number_or_word ≡ expected_after x
  unfolding expected_after
  is_sign_law h = rw (n, ← unsigned, ← nil_at x at, le-leb (length x) at h)

  module _ (h : at < length x) where
    not_nil : is_nil (after_one is_sign x) ≡ false
    not_nil = rw (← unsigned, ← nil_at x at) (lt-leb (length x) at h)

    word_is : opens_word (part x at (length x)) ≡ opens_word (after_one is_sign x)
    unfolding rest
    word_is = ap opens_word (tail_part at x ∙ unsigned)

    pub is_word : opens_word (part x at (length x)) ≡ true → rest_of_word ≡ expected_after x
    unfolding expected_after
    is_word w = rw (n, not_nil, ← word_is, w)

    module _ (w : opens_word (part x at (length x)) ≡ false) where
      pub is_e_law : is_e (get_or x (length x - 1) 0) ≡ true → digit_or_sign ≡ expected_after x
      unfolding expected_after
      is_e_law e = rw (n, not_nil, ← word_is, w, e)

      pub is_other : is_e (get_or x (length x - 1) 0) ≡ false → a_digit ≡ expected_after x
      unfolding expected_after
      is_other e = rw (n, not_nil, ← word_is, w, e)

-- ---- where a run begins
prior : (i : ℕ) → suc i - 1 ≡ i
prior i = omega arith

module _ (text : List ℕ) where
  -- past the end stands no byte of a run
  pub start_past : (i : ℕ) → length text < i → i ≡ run_start text i
  unfolding run_start
  start_past zero h = absurd (omega arith)
  start_past (suc i) h =
      let far : length text ≤ i = omega arith in
      rw (get_or-eq_default text 0 far)

  pub start_on : (i : ℕ) → 0 < i → is_stop (get_or text (i - 1) 0) ≡ false → run_start text (i - 1) ≡ run_start text i
  unfolding run_start
  start_on zero h e = absurd (omega arith)
  start_on (suc i) h e = rw (prior i, rw (prior i) at e)

  pub start_stop : (i : ℕ) → 0 < i → is_stop (get_or text (i - 1) 0) ≡ true → i ≡ run_start text i
  unfolding run_start
  start_stop zero h e = absurd (omega arith)
  start_stop (suc i) h e = rw (rw (prior i) at e)

  pub start_none : (i : ℕ) → i ≤ 0 → i ≡ run_start text i
  unfolding run_start
  start_none zero h = refl
  start_none (suc i) h = absurd (omega arith)

  -- ---- at a place
  module _ (place start : ℕ) (s : start ≡ after_one_at is_plus text (run_start text place)) where
    pub at_start : place ≤ start → number_or_word ≡ expected_at text place
    unfolding expected_at expected_after is_lexeme is_unsigned is_named is_decimal same_word begins after_one after_all is_nil
    at_start h = rw (← s, part_none text start place h)

    pub at_behind : expected_after (part text start place) ≡ expected_at text place
    unfolding expected_at
    at_behind = rw (← s)

    -- a run that isn't empty ends within the text
    pub at_within : start < place → place ≤ length text
    at_within h = go (dec_lt (length text) place)
      where
        go : Dec (length text < place) → place ≤ length text
        go (yes l) = absurd (omega (arith, start_past place l, one_not_before is_plus text (run_start text place) refl))
        go (no l) = omega arith

-- ---- of a refusal
module _ (text : List ℕ) (number place : ℕ) where
  pub of_plus : number ≡ nothing_after_plus → number_or_word ≡ expected_of text number place
  unfolding expected_of
  of_plus e = rw e

  pub of_wrong : number ≡ number_goes_wrong → expected_at text place ≡ expected_of text number place
  unfolding expected_of
  of_wrong e = rw e

  pub of_other : (number ≡ nothing_after_plus → ⊥) → (number ≡ number_goes_wrong → ⊥) → no_expectation ≡ expected_of text number place
  unfolding expected_of
  of_other m n = rw (ne_eqb number nothing_after_plus m, ne_eqb number number_goes_wrong n)
