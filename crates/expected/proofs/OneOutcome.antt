-- Two answers that a public function's contract allows for one input are one answer.
-- Assumes nothing.
use Prim.Native.Nat.{ℕ}
use mathlib.Core.Path.{◌≡◌, refl, sym, ap, ◌∙◌}
use mathlib.Core.Bool.{cond}
use mathlib.Core.List.{List}
use Rattle.std.specs.Prelude.{Option, Some, None, eqb}
use Rattle.lists.specs.One.{One}
use Rattle.lists.proofs.One.{one}
use Rattle.expected.specs.declared.expectations.Expectation.{Expectation}
use Rattle.expected.specs.declared.expectations.Expectation.TheVariants.{NothingMore, ADigit, DigitOrSign, NumberOrWord, RestOfWord}
use Rattle.expected.specs.Expectations.{no_expectation, nothing_more, a_digit, digit_or_sign, number_or_word, expectation_number, told_number}
use Rattle.expected.specs.Expected.{expected_after, expected_at, expected_of}

-- ---- no two expectations have one number: each is found again by its own
with_number : ℕ → Expectation
with_number n =
    cond (eqb n nothing_more) NothingMore
    (cond (eqb n a_digit) ADigit
    (cond (eqb n digit_or_sign) DigitOrSign
    (cond (eqb n number_or_word) NumberOrWord RestOfWord)))

found : (e : Expectation) → with_number (expectation_number e) ≡ e
unfolding with_number
found NothingMore = refl
found ADigit = refl
found DigitOrSign = refl
found NumberOrWord = refl
found RestOfWord = refl

told_by : ℕ → Option Expectation
told_by n = cond (eqb n no_expectation) None (Some (with_number n))

told_found : (e : Option Expectation) → told_by (told_number e) ≡ e
unfolding told_by with_number
told_found None = refl
told_found (Some NothingMore) = refl
told_found (Some ADigit) = refl
told_found (Some DigitOrSign) = refl
told_found (Some NumberOrWord) = refl
told_found (Some RestOfWord) = refl

one_expectation : {k : ℕ} → One (λ r. expectation_number r ≡ k)
one_expectation r s p q = sym (found r) ∙ ap with_number (p ∙ sym q) ∙ found s

one_told : {k : ℕ} → One (λ r. told_number r ≡ k)
one_told r s p q = sym (told_found r) ∙ ap told_by (p ∙ sym q) ∙ told_found s

-- ---- the public functions
pub number_one : (self : Expectation) → One (λ r. r ≡ expectation_number self)
number_one self = one

pub number_of_one : (expected : Option Expectation) → One (λ r. r ≡ told_number expected)
number_of_one expected = one

pub expected_after_one : (x : List ℕ) → One (λ r. expectation_number r ≡ expected_after x)
expected_after_one x = one_expectation

module _ (text : List ℕ) where
  pub expected_at_one : (place : ℕ) → One (λ r. expectation_number r ≡ expected_at text place)
  expected_at_one place = one_expectation

  pub expected_of_one : (number place : ℕ) → One (λ r. told_number r ≡ expected_of text number place)
  expected_of_one number place = one_told
