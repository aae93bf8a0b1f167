-- Worked examples of this crate's definitions, by computation.
use Rattle.std.specs.Prelude.{◌≡◌, refl, Bool, true, false, not, List, [], ◌∷◌, ℕ}
use Rattle.std.proofs.Common.{arith}
use Rattle.lists.specs.Lists.{passing, bytes_that, every}
use Rattle.scan.specs.Text.{bytes}
use Rattle.scan.specs.Front.{begins, after_one, after_all, is_nil}
use Rattle.scan.specs.Runs.{run, first_not}
use Rattle.words.specs.Words.{same_word}
use Rattle.number.specs.Lexeme.{is_e, is_named, is_digits, is_exponent, is_decimal, is_unsigned, is_lexeme, is_plain, DigitsAfter, up_to_stop}

good : (is_lexeme (bytes "-1.5e+3") ≡ true)
    × (is_lexeme (bytes "5.") ≡ true)
    × (is_lexeme (bytes ".5") ≡ true)
    × (is_lexeme (bytes "+4") ≡ true)
    × (is_lexeme (bytes "InF") ≡ true)
    × (is_lexeme (bytes "infinity") ≡ true)
    × (is_lexeme (bytes "-nan") ≡ true)
unfolding is_lexeme is_unsigned is_named is_decimal is_exponent is_digits begins after_one after_all is_nil same_word
good = (refl, refl, refl, refl, refl, refl, refl)

bad : (is_lexeme [] ≡ false)
    × (is_lexeme (bytes "-") ≡ false)
    × (is_lexeme (bytes ".") ≡ false)
    × (is_lexeme (bytes "1e") ≡ false)
    × (is_lexeme (bytes "1e+") ≡ false)
    × (is_lexeme (bytes "1.2.3") ≡ false)
    × (is_lexeme (bytes "infi") ≡ false)
    × (is_lexeme (bytes "4x") ≡ false)
    × (is_lexeme (bytes "1_0") ≡ false)
    × (is_lexeme (bytes "++4") ≡ false)
unfolding is_lexeme is_unsigned is_named is_decimal is_exponent is_digits begins after_one after_all is_nil same_word
bad = (refl, refl, refl, refl, refl, refl, refl, refl, refl, refl)

-- from 1 on stands a lexeme that ends at 4; from 0 on stands nothing before a stop
within : (up_to_stop is_lexeme (bytes "(1e5,") 1 ≡ record { good = true; end = 4 })
    × (up_to_stop is_lexeme (bytes "(1e5,") 0 ≡ record { good = false; end = 0 })
unfolding run first_not is_lexeme is_unsigned is_named is_decimal is_exponent is_digits begins after_one after_all is_nil same_word
within = (refl, refl)

-- ---- by the whole range of bytes: those that make a number's text where they stand
all : ℕ
unfolding passing every run first_not is_lexeme is_plain is_unsigned is_named is_decimal is_exponent is_digits begins after_one after_all is_nil same_word
all = 0

-- `E` and `e`
exponents : bytes_that is_e ≡ 69 ∷ 101 ∷ []
unfolding all
exponents = refl

-- alone: a digit
alone : bytes_that (λ b. is_lexeme (b ∷ [])) ≡ 48 ∷ 49 ∷ 50 ∷ 51 ∷ 52 ∷ 53 ∷ 54 ∷ 55 ∷ 56 ∷ 57 ∷ []
unfolding all
alone = refl

-- before `5`: `+`, `-`, `.` or a digit
before : bytes_that (λ b. is_lexeme (b ∷ bytes "5")) ≡ 43 ∷ 45 ∷ 46 ∷ 48 ∷ 49 ∷ 50 ∷ 51 ∷ 52 ∷ 53 ∷ 54 ∷ 55 ∷ 56 ∷ 57 ∷ []
unfolding all
before = refl

-- after `1`: `.` or a digit
after : bytes_that (λ b. is_lexeme (49 ∷ b ∷ [])) ≡ 46 ∷ 48 ∷ 49 ∷ 50 ∷ 51 ∷ 52 ∷ 53 ∷ 54 ∷ 55 ∷ 56 ∷ 57 ∷ []
unfolding all
after = refl

-- between `1` and `5`: `.`, a digit, `E` or `e`
between : bytes_that (λ b. is_lexeme (49 ∷ b ∷ bytes "5")) ≡ 46 ∷ 48 ∷ 49 ∷ 50 ∷ 51 ∷ 52 ∷ 53 ∷ 54 ∷ 55 ∷ 56 ∷ 57 ∷ 69 ∷ 101 ∷ []
unfolding all
between = refl

-- between `1e` and `5`: `+`, `-` or a digit; after `1e5` a digit
in_exponent : (bytes_that (λ b. is_lexeme (49 ∷ 101 ∷ b ∷ bytes "5")) ≡ 43 ∷ 45 ∷ 48 ∷ 49 ∷ 50 ∷ 51 ∷ 52 ∷ 53 ∷ 54 ∷ 55 ∷ 56 ∷ 57 ∷ [])
    × (bytes_that (λ b. is_lexeme (49 ∷ 101 ∷ 53 ∷ b ∷ [])) ≡ 48 ∷ 49 ∷ 50 ∷ 51 ∷ 52 ∷ 53 ∷ 54 ∷ 55 ∷ 56 ∷ 57 ∷ [])
unfolding all
in_exponent = (refl, refl)

-- the last letter of `inf`, `infinity` and `nan`, and the sign before one, in any case
named : (bytes_that (λ b. is_lexeme (105 ∷ 110 ∷ b ∷ [])) ≡ 70 ∷ 102 ∷ [])
    × (bytes_that (λ b. is_lexeme (105 ∷ 110 ∷ 102 ∷ 105 ∷ 110 ∷ 105 ∷ 116 ∷ b ∷ [])) ≡ 89 ∷ 121 ∷ [])
    × (bytes_that (λ b. is_lexeme (110 ∷ 97 ∷ b ∷ [])) ≡ 78 ∷ 110 ∷ [])
    × (bytes_that (λ b. is_lexeme (b ∷ bytes "INF")) ≡ 43 ∷ 45 ∷ [])
    × (bytes_that (λ b. is_lexeme (b ∷ bytes "nan")) ≡ 43 ∷ 45 ∷ [])
unfolding all
named = (refl, refl, refl, refl, refl)

-- ---- whole lists of texts
is_bad : List ℕ → Bool
is_bad w = not (is_lexeme w)

all_good : every is_lexeme
    (bytes "0" ∷ bytes "-0" ∷ bytes "007" ∷ bytes "1." ∷ bytes ".1" ∷ bytes "-.1" ∷ bytes "+1.5" ∷ bytes "1e5" ∷ bytes "1E5" ∷ bytes "1e+5" ∷ bytes "1e-5" ∷ bytes "1.e5" ∷ bytes ".1e5" ∷ bytes "-.1e-05" ∷ bytes "1e400" ∷ bytes "inf" ∷ bytes "INF" ∷ bytes "+inf" ∷ bytes "-Inf" ∷ bytes "infinity" ∷ bytes "INFINITY" ∷ bytes "-InFiNiTy" ∷ bytes "nan" ∷ bytes "NaN" ∷ bytes "+NAN" ∷ [])
    ≡ true
unfolding all
all_good = refl

all_bad : every is_bad
    (bytes "." ∷ bytes "-." ∷ bytes "+." ∷ bytes ".." ∷ bytes "1.." ∷ bytes "..1" ∷ bytes "+" ∷ bytes "+-1" ∷ bytes "-+1" ∷ bytes "--1" ∷ bytes "1-" ∷ bytes "1+1" ∷ bytes "e5" ∷ bytes ".e5" ∷ bytes "-e5" ∷ bytes "1e-" ∷ bytes "1e++5" ∷ bytes "1e5.0" ∷ bytes "1e5e5" ∷ bytes "1ee5" ∷ bytes "1d5" ∷ bytes "1f5" ∷ bytes "1f" ∷ bytes "1p5" ∷ bytes "0x1" ∷ bytes "0b1" ∷ bytes "1,5" ∷ bytes "1 " ∷ bytes " 1" ∷ bytes "i" ∷ bytes "in" ∷ bytes "infin" ∷ bytes "infinit" ∷ bytes "infinityy" ∷ bytes "inf1" ∷ bytes "infe5" ∷ bytes "1inf" ∷ bytes "n" ∷ bytes "na" ∷ bytes "nane" ∷ bytes "nan1" ∷ bytes "NULL" ∷ [])
    ≡ true
unfolding all is_bad
all_bad = refl

-- ---- texts that have no exponent and are no word
is_not_plain : List ℕ → Bool
is_not_plain w = not (is_plain w)

-- signs, a point first and last, and more than four digits after the point, which are told four at a time
plain : every is_plain
    (bytes "0" ∷ bytes "5" ∷ bytes "+4" ∷ bytes "-4" ∷ bytes "-0" ∷ bytes "007" ∷ bytes "5." ∷ bytes ".5" ∷ bytes "-.5" ∷ bytes "+5." ∷ bytes "-1.5" ∷ bytes "1.2345" ∷ bytes "1.23456" ∷ bytes ".123456789" ∷ bytes "-12345.123456789" ∷ [])
    ≡ true
unfolding all
plain = refl

-- no digit at all, a point or a sign too many, a letter before the point and among the digits after it
not_plain : every is_not_plain
    ([] ∷ bytes "." ∷ bytes "+" ∷ bytes "-" ∷ bytes "+." ∷ bytes "-." ∷ bytes ".." ∷ bytes "1.2.3" ∷ bytes "1.." ∷ bytes "..1" ∷ bytes "+-1" ∷ bytes "1-" ∷ bytes "1.-5" ∷ bytes ".+5" ∷ bytes "x" ∷ bytes "4x" ∷ bytes "x4" ∷ bytes "1.x" ∷ bytes "1.23x5" ∷ bytes "1.2345x" ∷ bytes "1.2345678x" ∷ bytes "1.2345.6" ∷ bytes "1 " ∷ bytes " 1" ∷ bytes "1,5" ∷ [])
    ≡ true
unfolding all is_not_plain
not_plain = refl

-- these are lexemes, and not plain ones
lexemes_only : (every is_lexeme (bytes "1e5" ∷ bytes "-1.5E+3" ∷ bytes "inf" ∷ bytes "-Infinity" ∷ bytes "nan" ∷ []) ≡ true) × (every is_not_plain (bytes "1e5" ∷ bytes "-1.5E+3" ∷ bytes "inf" ∷ bytes "-Infinity" ∷ bytes "nan" ∷ []) ≡ true)
unfolding all is_not_plain
lexemes_only = (refl, refl)

-- by the whole range of bytes: alone, before `5`, after `1`, and as the fourth of six digits after a point
plain_bytes : (bytes_that (λ b. is_plain (b ∷ [])) ≡ 48 ∷ 49 ∷ 50 ∷ 51 ∷ 52 ∷ 53 ∷ 54 ∷ 55 ∷ 56 ∷ 57 ∷ [])
    × (bytes_that (λ b. is_plain (b ∷ bytes "5")) ≡ 43 ∷ 45 ∷ 46 ∷ 48 ∷ 49 ∷ 50 ∷ 51 ∷ 52 ∷ 53 ∷ 54 ∷ 55 ∷ 56 ∷ 57 ∷ [])
    × (bytes_that (λ b. is_plain (49 ∷ b ∷ [])) ≡ 46 ∷ 48 ∷ 49 ∷ 50 ∷ 51 ∷ 52 ∷ 53 ∷ 54 ∷ 55 ∷ 56 ∷ 57 ∷ [])
    × (bytes_that (λ b. is_plain (46 ∷ 49 ∷ 50 ∷ 51 ∷ b ∷ bytes "56")) ≡ 48 ∷ 49 ∷ 50 ∷ 51 ∷ 52 ∷ 53 ∷ 54 ∷ 55 ∷ 56 ∷ 57 ∷ [])
unfolding all
plain_bytes = (refl, refl, refl, refl)

-- after the point of `1.234x` stand digits up to the place 4, and none need be told
digits_after : DigitsAfter (bytes "1.234x") 1 4 × DigitsAfter (bytes "1.234x") 1 1
unfolding all
digits_after = (record { from = omega arith; inside = omega arith; digits = refl }, record { from = omega arith; inside = omega arith; digits = refl })
