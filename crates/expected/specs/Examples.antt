-- Worked examples of this crate's definitions, by computation.
use Rattle.std.specs.Prelude.{◌≡◌, refl, Bool, true, ◌&&◌, List, [], ◌∷◌, ◌++◌, ℕ, eqb, Some, None}
use Rattle.lists.specs.Lists.{passing, bytes_that, every}
use Rattle.scan.specs.Text.{bytes}
use Rattle.scan.specs.Front.{begins, after_one, after_all, is_nil}
use Rattle.scan.specs.Runs.{after_one_at}
use Rattle.words.specs.Words.{same_word, starts_word}
use Rattle.number.specs.Lexeme.{is_named, is_digits, is_exponent, is_decimal, is_unsigned, is_lexeme}
use Rattle.bad_numbers.specs.Openings.{opens_decimal, opens_word, opens}
use Rattle.refusals.specs.Refusals.{bad_number, not_closed, nothing_after_plus, number_goes_wrong}
use Rattle.expected.specs.declared.expectations.Expectation.TheVariants.{NothingMore, ADigit, DigitOrSign, NumberOrWord, RestOfWord}
use Rattle.expected.specs.Expectations.{no_expectation, nothing_more, a_digit, digit_or_sign, number_or_word, rest_of_word, told_number}
use Rattle.expected.specs.Expected.{expected_after, run_start, expected_at, expected_of}

all : ℕ
unfolding passing every begins after_one after_all is_nil after_one_at same_word starts_word is_named is_digits is_exponent is_decimal is_unsigned is_lexeme opens_decimal opens_word opens expected_after run_start expected_at expected_of
all = 0

-- ---- behind what a number begins with, in both cases
are : ℕ → List (List ℕ) → Bool
are k xs = every (λ (x : List ℕ). eqb (expected_after x) k) xs

-- "nothing more": it is a number already
whole : are nothing_more
    (bytes "1" ∷ bytes "4" ∷ bytes "-1" ∷ bytes "+1" ∷ bytes "1." ∷ bytes ".5" ∷ bytes "1.2" ∷ bytes "-1.5e3" ∷ bytes "1E05" ∷ bytes ".5e-0" ∷ bytes "inf" ∷ bytes "-INF" ∷ bytes "Infinity" ∷ bytes "+infinitY" ∷ bytes "nan" ∷ bytes "-NaN" ∷ [])
    ≡ true
unfolding all are
whole = refl

-- "a digit": behind a point alone, or an exponent's sign
digit : are a_digit (bytes "." ∷ bytes "-." ∷ bytes "+." ∷ bytes "1e+" ∷ bytes "1E-" ∷ bytes "-.5e+" ∷ bytes "1.e-" ∷ []) ≡ true
unfolding all are
digit = refl

-- "a digit or sign after `e`"
after_e : are digit_or_sign (bytes "1e" ∷ bytes "1E" ∷ bytes "1.e" ∷ bytes ".5E" ∷ bytes "-12.5e" ∷ []) ≡ true
unfolding all are
after_e = refl

-- "`inf`, `infinity` or `nan` after a sign", or a number: nothing stands there but the sign, one of which may be dropped
sign : are number_or_word ([] ∷ bytes "+" ∷ bytes "-" ∷ []) ≡ true
unfolding all are
sign = refl

-- "`inf`, `infinity` or `nan` after a sign": one of them is begun
in_word : are rest_of_word
    (bytes "i" ∷ bytes "I" ∷ bytes "-in" ∷ bytes "IN" ∷ bytes "infi" ∷ bytes "+InFiN" ∷ bytes "infini" ∷ bytes "-INFINIT" ∷ bytes "n" ∷ bytes "-na" ∷ bytes "+NA" ∷ [])
    ≡ true
unfolding all are
in_word = refl

-- ---- by the whole range of bytes: behind x, the bytes with which a number still can go on and after which this is expected
ending : ℕ → List ℕ → List ℕ
ending k x = bytes_that (λ b. opens (x ++ b ∷ []) && eqb (expected_after (x ++ b ∷ [])) k)

digits : List ℕ
digits = 48 ∷ 49 ∷ 50 ∷ 51 ∷ 52 ∷ 53 ∷ 54 ∷ 55 ∷ 56 ∷ 57 ∷ []

-- a number of one byte is a digit; a sign, a point and the letters `I`, `N`, `i` and `n` ask for more
first : (ending nothing_more [] ≡ digits) × (ending a_digit [] ≡ 46 ∷ []) × (ending digit_or_sign [] ≡ []) × (ending number_or_word [] ≡ 43 ∷ 45 ∷ []) × (ending rest_of_word [] ≡ 73 ∷ 78 ∷ 105 ∷ 110 ∷ [])
unfolding all ending digits
first = (refl, refl, refl, refl, refl)

-- behind digits a point and a digit end a number, and `e` asks for more; behind `e` a digit ends it, and a sign asks for more
behind : (ending nothing_more (bytes "-1") ≡ 46 ∷ digits) × (ending digit_or_sign (bytes "-1") ≡ 69 ∷ 101 ∷ []) × (ending nothing_more (bytes "1e") ≡ digits) × (ending a_digit (bytes "1e") ≡ 43 ∷ 45 ∷ [])
unfolding all ending digits
behind = (refl, refl, refl, refl)

-- the last letter of a word ends it, and any other asks for more
letters : (ending nothing_more (bytes "in") ≡ 70 ∷ 102 ∷ []) × (ending rest_of_word (bytes "inf") ≡ 73 ∷ 105 ∷ []) × (ending nothing_more (bytes "infinit") ≡ 89 ∷ 121 ∷ []) × (ending nothing_more (bytes "-Na") ≡ 78 ∷ 110 ∷ [])
unfolding all ending
letters = (refl, refl, refl, refl)

-- ---- at a place of a text
-- within a token: at the byte at fault, or at its end, before a blank, a mark or the text's end
at_place : (expected_at (bytes "POINT(4x 2)") 7 ≡ nothing_more) × (expected_at (bytes "POINT( +infi 2)") 12 ≡ rest_of_word) × (expected_at (bytes "POINT(1e 2)") 8 ≡ digit_or_sign) × (expected_at (bytes "POINT(1 1e+)") 11 ≡ a_digit) × (expected_at (bytes "LINESTRING(1 2,.,") 16 ≡ a_digit) × (expected_at (bytes "POINT(1\t--1)") 9 ≡ number_or_word) × (expected_at (bytes "POINT(1\n2\r1.2.3") 13 ≡ nothing_more)
unfolding all
at_place = (refl, refl, refl, refl, refl, refl, refl)

-- the plus that is dropped is no part of it, and a second one is
plus : (expected_at (bytes "POINT(+q 1)") 7 ≡ number_or_word) × (expected_at (bytes "POINT(++ 1)") 8 ≡ number_or_word) × (expected_at (bytes "POINT(+4x 1)") 8 ≡ nothing_more) × (expected_at (bytes "POINT(+-infx 1)") 11 ≡ nothing_more) × (expected_at (bytes "POINT(+1e+ 1)") 10 ≡ a_digit)
unfolding all
plus = (refl, refl, refl, refl, refl)

-- at the text's start and end, behind NUL, and where no number goes wrong: any place may be asked for
any_place : (expected_at (bytes ".e5") 1 ≡ a_digit) × (expected_at (bytes "-") 1 ≡ number_or_word) × (expected_at (bytes "1e") 2 ≡ digit_or_sign) × (expected_at (0 ∷ bytes "1e+") 4 ≡ a_digit) × (expected_at [] 0 ≡ number_or_word) × (expected_at (bytes "+1") 0 ≡ number_or_word) × (expected_at (bytes "1 2") 2 ≡ number_or_word) × (expected_at (bytes "1") 5 ≡ number_or_word)
unfolding all
any_place = (refl, refl, refl, refl, refl, refl, refl, refl)

-- a wide character (京), before the token, and where a number goes wrong
wide : (expected_at (0xE4 ∷ 0xBA ∷ 0xAC ∷ bytes "(1e)") 6 ≡ digit_or_sign) × (expected_at (bytes "POINT(-" ++ 0xE4 ∷ 0xBA ∷ 0xAC ∷ bytes " 2)") 7 ≡ number_or_word) × (expected_at (bytes "POINT(1." ++ 0xE4 ∷ 0xBA ∷ 0xAC ∷ []) 8 ≡ nothing_more)
unfolding all
wide = (refl, refl, refl)

-- ---- of a refusal: 28 and 29, and any other, 6 with them
of_refusal : (expected_of (bytes "POINT(1 +)") nothing_after_plus 8 ≡ number_or_word) × (expected_of (bytes "POINT(1 4x)") number_goes_wrong 9 ≡ nothing_more) × (expected_of (bytes "POINT(1 1e)") number_goes_wrong 10 ≡ digit_or_sign) × (expected_of (bytes "POINT(x 2)") not_closed 8 ≡ no_expectation) × (expected_of (bytes "POINT(1 4x)") bad_number 9 ≡ no_expectation) × (expected_of (bytes "POINT(1 4x)") 0 9 ≡ no_expectation)
unfolding all
of_refusal = (refl, refl, refl, refl, refl, refl)

-- ---- the number of each, as C has it, and of none
numbers : (told_number None ≡ 0) × (told_number (Some NothingMore) ≡ 1) × (told_number (Some ADigit) ≡ 2) × (told_number (Some DigitOrSign) ≡ 3) × (told_number (Some NumberOrWord) ≡ 4) × (told_number (Some RestOfWord) ≡ 5)
numbers = (refl, refl, refl, refl, refl, refl)
