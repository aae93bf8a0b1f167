-- Worked examples of this crate's definitions, by computation: the parts of a decimal as they are written, its fraction, its units, and what each sort of text
-- comes to.
use Rattle.std.specs.Prelude.{◌≡◌, refl, Bool, true, false, ◌&&◌, List, [], ◌∷◌, map, ℕ, eqb, ℤ, pos, neg_ℤ, length, replicate, Some, None, Ok, Err}
use Rattle.lists.specs.Lists.{every, passing, bytes_that}
use Rattle.scan.specs.Text.{bytes}
use Rattle.scan.specs.Bytes.{is_digit}
use Rattle.scan.specs.Front.{begins, after_one, after_all, is_nil}
use Rattle.words.specs.Words.{same_word}
use Rattle.number.specs.Lexeme.{is_named, is_digits, is_exponent, is_decimal, is_unsigned, is_lexeme}
use Rattle.rounding.specs.declared.NoSides.TheVariants.{Named, Beyond, NoNumber}
use Rattle.rounding.specs.Rounding.{Reckoned, sides}
use Rattle.decimal.specs.Decimal.{leading, read_on, value_of, Decimal, written, above, below, numerator, denominator, SameNumber, alike, nought}
use Rattle.decimal.specs.Units.{unit_places, exponent_limit, whole_units, is_left, low, high, is_far, is_large}
use Rattle.decimal.specs.Reckon.{sides_of, reckoned}
use Rattle.decimal.specs.Code.{raw_on, tail_of, fraction_of, kept, keep_one, keep_all, exponent, exponent_said, exponent_of, size, size_of}

neg : ℕ → ℤ
neg n = neg_ℤ (pos n)

-- a decimal by its parts: sign, digits, how many after the point, whether the exponent has a minus, and its number
decimal : Bool → List ℕ → ℕ → Bool → ℕ → Decimal
decimal negative digits places lowers exponent = record { negative = negative; digits = digits; places = places; lowers = lowers; exponent = exponent }

-- what comes to itself, low and high
exactly : ℤ → Reckoned
exactly z = Ok (sides z z)

-- what lies between two units
between : ℤ → ℤ → Reckoned
between low high = Ok (sides low high)

all : ℕ
unfolding neg decimal exactly between every passing begins after_one after_all is_nil same_word is_named is_digits is_exponent is_decimal is_unsigned is_lexeme leading read_on written whole_units is_left low high is_large sides_of reckoned
all = 0

-- ---- digits
-- those at the front, and what they say, each digit by itself, after a 1, and with zeros before them
digits : (leading is_digit (bytes "120x3") ≡ bytes "120") × (leading is_digit (bytes "x1") ≡ []) × (leading is_digit [] ≡ []) × (value_of (bytes "120") ≡ 120) × (value_of (bytes "007") ≡ 7) × (value_of [] ≡ 0) × (read_on 12 (bytes "34") ≡ 1234)
unfolding all
digits = (refl, refl, refl, refl, refl, refl, refl)

each_digit :
    (map (λ b. read_on 0 (b ∷ [])) (bytes "0123456789") ≡ 0 ∷ 1 ∷ 2 ∷ 3 ∷ 4 ∷ 5 ∷ 6 ∷ 7 ∷ 8 ∷ 9 ∷ [])
    × (map (λ b. read_on 1 (b ∷ [])) (bytes "0123456789") ≡ 10 ∷ 11 ∷ 12 ∷ 13 ∷ 14 ∷ 15 ∷ 16 ∷ 17 ∷ 18 ∷ 19 ∷ [])
unfolding all
each_digit = (refl, refl)

-- ---- the parts, as they are written
-- with every part, and with every sign; a point first or last; no point; zeros in front are digits too
parts :
    (written (bytes "-12.345e-67") ≡ decimal true (bytes "12345") 3 true 67)
    × (written (bytes "+12.345E+67") ≡ decimal false (bytes "12345") 3 false 67)
    × (written (bytes "12.345e67") ≡ decimal false (bytes "12345") 3 false 67)
    × (written (bytes "5.") ≡ decimal false (bytes "5") 0 false 0)
    × (written (bytes ".5") ≡ decimal false (bytes "5") 1 false 0)
    × (written (bytes "-.5e1") ≡ decimal true (bytes "5") 1 false 1)
    × (written (bytes "5.e-1") ≡ decimal false (bytes "5") 0 true 1)
    × (written (bytes "42") ≡ decimal false (bytes "42") 0 false 0)
    × (written (bytes "-0") ≡ decimal true (bytes "0") 0 false 0)
    × (written (bytes "007.0800e-0010") ≡ decimal false (bytes "0070800") 4 true 10)
unfolding all
parts = (refl, refl, refl, refl, refl, refl, refl, refl, refl, refl)

-- by the whole range of bytes: which one is a second digit, which a minus, which opens places, which an exponent, which lowers it
second : bytes_that (λ b. eqb (length (written (49 ∷ b ∷ [])).digits) 2) ≡ 48 ∷ 49 ∷ 50 ∷ 51 ∷ 52 ∷ 53 ∷ 54 ∷ 55 ∷ 56 ∷ 57 ∷ []
unfolding all
second = refl

signs : (bytes_that (λ b. (written (b ∷ bytes "5")).negative) ≡ 45 ∷ []) × (bytes_that (λ b. eqb (value_of (written (b ∷ bytes "5")).digits) 5) ≡ 43 ∷ 45 ∷ 46 ∷ 48 ∷ [])
unfolding all
signs = (refl, refl)

inner : (bytes_that (λ b. eqb (written (49 ∷ b ∷ bytes "5")).places 1) ≡ 46 ∷ []) × (bytes_that (λ b. eqb (written (49 ∷ b ∷ bytes "5")).exponent 5 && eqb (length (written (49 ∷ b ∷ bytes "5")).digits) 1 && is_lexeme (49 ∷ b ∷ bytes "5")) ≡ 69 ∷ 101 ∷ []) × (bytes_that (λ b. (written (49 ∷ 101 ∷ b ∷ bytes "5")).lowers) ≡ 45 ∷ [])
unfolding all
inner = (refl, refl, refl)

-- ---- the exact fraction: 12.345 is 12345 / 1000, 12.345e2 is 1234500 / 1000, 12.345e-2 is 12345 / 100000
fractions :
    (numerator (written (bytes "12.345")) ≡ 12345) × (denominator (written (bytes "12.345")) ≡ 1000)
    × (numerator (written (bytes "12.345e2")) ≡ 1234500) × (denominator (written (bytes "12.345e2")) ≡ 1000)
    × (numerator (written (bytes "12.345e-2")) ≡ 12345) × (denominator (written (bytes "12.345e-2")) ≡ 100000)
    × (numerator (written (bytes "-7")) ≡ 7) × (denominator (written (bytes "-7")) ≡ 1)
    × (above (written (bytes "1e+3")) ≡ 3) × (below (written (bytes "1e+3")) ≡ 0) × (above (written (bytes "1e-3")) ≡ 0) × (below (written (bytes "1e-3")) ≡ 3)
unfolding all
fractions = (refl, refl, refl, refl, refl, refl, refl, refl, refl, refl, refl, refl)

-- `1e1` and `10.0` are one number, `-0` and `0` too
same : SameNumber (written (bytes "1e1")) (written (bytes "10.0")) × SameNumber (written (bytes "-0")) (written (bytes "0"))
unfolding all
same = (alike refl refl, nought refl refl)

-- ---- "in units of a ten-millionth"
units :
    (unit_places ≡ 7) × (exponent_limit ≡ 9999)
    × (whole_units (written (bytes "1")) ≡ 10000000) × (whole_units (written (bytes "1.23456789")) ≡ 12345678) × (whole_units (written (bytes "-1.23456789")) ≡ 12345678)
    × (whole_units (written (bytes "0.0000001")) ≡ 1) × (whole_units (written (bytes "0.00000009")) ≡ 0) × (whole_units (written (bytes "15e-8")) ≡ 1)
unfolding all
units = (refl, refl, refl, refl, refl, refl, refl, refl)

left_over :
    map (λ l. is_left (written l)) (bytes "1" ∷ bytes "1.2345678" ∷ bytes "1.23456780" ∷ bytes "1.23456789" ∷ bytes "0.00000009" ∷ bytes "15e-8" ∷ bytes "20e-8" ∷ bytes "-0.000000000" ∷ [])
    ≡ false ∷ false ∷ false ∷ true ∷ true ∷ true ∷ false ∷ false ∷ []
unfolding all
left_over = refl

-- ---- what texts come to
-- zeros, `-0` too: 0, low and high
zero : map reckoned (bytes "0" ∷ bytes "-0" ∷ bytes "+0" ∷ bytes "0." ∷ bytes "-.0" ∷ bytes "00.00" ∷ bytes "-0e5" ∷ []) ≡ replicate 7 (exactly (pos 0))
unfolding all
zero = refl

-- what is whole units comes to itself, of either sign, however it is written
exact :
    (reckoned (bytes "+4") ≡ exactly (pos 40000000)) × (reckoned (bytes "5.") ≡ exactly (pos 50000000)) × (reckoned (bytes ".5") ≡ exactly (pos 5000000)) × (reckoned (bytes "-.5") ≡ exactly (neg 5000000))
    × (reckoned (bytes "1e1") ≡ exactly (pos 100000000)) × (reckoned (bytes "10") ≡ exactly (pos 100000000)) × (reckoned (bytes "10.0") ≡ exactly (pos 100000000)) × (reckoned (bytes "0.1e+2") ≡ exactly (pos 100000000)) × (reckoned (bytes "100E-1") ≡ exactly (pos 100000000))
    × (reckoned (bytes "0.0000001") ≡ exactly (pos 1)) × (reckoned (bytes "-1e-7") ≡ exactly (neg 1)) × (reckoned (bytes "-12.3456789000") ≡ exactly (neg 123456789))
unfolding all
exact = (refl, refl, refl, refl, refl, refl, refl, refl, refl, refl, refl, refl)

-- "lows rounded down, highs rounded up", "toward minus infinity for lows": less than a unit apart
rounded :
    (reckoned (bytes "0.00000001") ≡ between (pos 0) (pos 1)) × (reckoned (bytes "-0.00000001") ≡ between (neg 1) (pos 0))
    × (reckoned (bytes "0.00000009") ≡ between (pos 0) (pos 1)) × (reckoned (bytes "-0.00000009") ≡ between (neg 1) (pos 0))
    × (reckoned (bytes "1.23456789") ≡ between (pos 12345678) (pos 12345679)) × (reckoned (bytes "-1.23456789") ≡ between (neg 12345679) (neg 12345678))
    × (reckoned (bytes "1.23456780000000000000000000001") ≡ between (pos 12345678) (pos 12345679)) × (reckoned (bytes "-15e-8") ≡ between (neg 2) (neg 1))
    × (reckoned (bytes "0.1e-9") ≡ between (pos 0) (pos 1)) × (reckoned (bytes "-1e-30") ≡ between (neg 1) (pos 0))
unfolding all
rounded = (refl, refl, refl, refl, refl, refl, refl, refl, refl, refl)

-- "a scaled size over 10^17": `1e10` is taken, of either sign and however it is written, and a whole unit below it with something left over
at_limit :
    (reckoned (bytes "1e10") ≡ exactly (pos 100000000000000000)) × (reckoned (bytes "-1e10") ≡ exactly (neg 100000000000000000)) × (reckoned (bytes "10000000000") ≡ exactly (pos 100000000000000000)) × (reckoned (bytes "10000000000.000000000000000") ≡ exactly (pos 100000000000000000))
    × (reckoned (bytes "100000000000000000000e-10") ≡ exactly (pos 100000000000000000))
    × (reckoned (bytes "9999999999.99999999") ≡ between (pos 99999999999999999) (pos 100000000000000000)) × (reckoned (bytes "-9999999999.99999999") ≡ between (neg 100000000000000000) (neg 99999999999999999))
unfolding all
at_limit = (refl, refl, refl, refl, refl, refl, refl)

-- anything more is beyond it: "exact, before rounding"
over :
    map reckoned (bytes "10000000000.00000001" ∷ bytes "-10000000000.00000001" ∷ bytes "10000000000.0000001" ∷ bytes "-10000000000.0000001" ∷ bytes "1e11" ∷ bytes "-1e11" ∷ bytes "10000000001" ∷ bytes "99999999999999999999999999" ∷ bytes "100000000000000000001e-10" ∷ bytes "1e30" ∷ [])
    ≡ replicate 10 (Err Beyond)
unfolding all
over = refl

-- "an exponent beyond 9,999 either way": as it is written, also of 0
far : map reckoned (bytes "0e10000" ∷ bytes "0e-10000" ∷ bytes "1e10000" ∷ bytes "1e-10000" ∷ bytes "0e+0010000" ∷ bytes "0e123456" ∷ []) ≡ replicate 6 (Err Beyond)
unfolding all
far = refl

near : (is_far (written (bytes "0e9999")) ≡ false) × (is_far (written (bytes "0.1e-9999")) ≡ false) × (is_far (written (bytes "0e10000")) ≡ true) × (is_far (written (bytes "0e-10000")) ≡ true) × (reckoned (bytes "0e9999") ≡ exactly (pos 0)) × (reckoned (bytes "0.1e-9999") ≡ between (pos 0) (pos 1)) × (reckoned (bytes "-0e-09999") ≡ exactly (pos 0)) × (reckoned (bytes "1e9999") ≡ Err Beyond)
unfolding all
near = (refl, refl, refl, refl, refl, refl, refl, refl)

-- a word comes to itself, with any sign and in any case
words : map reckoned (bytes "inf" ∷ bytes "-INF" ∷ bytes "+Inf" ∷ bytes "infinity" ∷ bytes "-InFiNiTy" ∷ bytes "nan" ∷ bytes "-NaN" ∷ []) ≡ replicate 7 (Err Named)
unfolding all
words = refl

-- what isn't a number's text
none : map reckoned ([] ∷ bytes "x" ∷ bytes "-" ∷ bytes "." ∷ bytes "1e" ∷ bytes "1e+" ∷ bytes "1.2.3" ∷ bytes "4x" ∷ bytes "infi" ∷ bytes "1e10000x" ∷ []) ≡ replicate 10 (Err NoNumber)
unfolding all
none = refl

-- ---- what the code holds on its way
code : ℕ
unfolding raw_on tail_of fraction_of keep_all exponent_said exponent_of
code = 0

-- seven noughts, each as its byte; digits up to a text's end
tails : (raw_on 0 (bytes "0000000") ≡ 53333328) × (tail_of [] ≡ Some false) × (tail_of (bytes "000") ≡ Some false) × (tail_of (bytes "010") ≡ Some true) × (tail_of (bytes "01x") ≡ None)
unfolding all code
tails = (refl, refl, refl, refl, refl)

-- digits after a point: fewer than seven, seven, more
after_point : (fraction_of [] ≡ Some (size 0 false)) × (fraction_of (bytes "5") ≡ Some (size 5000000 false)) × (fraction_of (bytes "1234567") ≡ Some (size 1234567 false)) × (fraction_of (bytes "12345670") ≡ Some (size 1234567 false)) × (fraction_of (bytes "123456701") ≡ Some (size 1234567 true)) × (fraction_of (bytes "1e5") ≡ None)
unfolding all code
after_point = (refl, refl, refl, refl, refl, refl)

-- kept digits: below 10^17 one more is kept, from there on only told
keeping : (keep_one (kept 12 0 false 2) 51 ≡ kept 123 0 false 3) × (keep_all (kept 0 0 false 0) (bytes "100000000000000000") ≡ kept 100000000000000000 0 false 18) × (keep_all (kept 0 0 false 0) (bytes "10000000000000000000") ≡ kept 100000000000000000 2 false 20) × (keep_all (kept 0 0 false 0) (bytes "10000000000000000010") ≡ kept 100000000000000000 2 true 20)
unfolding all code
keeping = (refl, refl, refl, refl)

-- an exponent that ends the text, held at 10000, or none; and what is no exponent: no `e`, no digit behind it, more behind its digits
exponents :
    (exponent_of [] ≡ Some (exponent false 0)) × (exponent_of (bytes "e5") ≡ Some (exponent false 5))
    × (exponent_of (bytes "E-9999") ≡ Some (exponent true 9999)) × (exponent_of (bytes "e+123456") ≡ Some (exponent false 10000))
    × (exponent_of (bytes "x5") ≡ None) × (exponent_of (bytes "5") ≡ None) × (exponent_of (bytes "e") ≡ None) × (exponent_of (bytes "e-") ≡ None) × (exponent_of (bytes "e5x") ≡ None) × (exponent_of (bytes "e5.") ≡ None)
unfolding all code
exponents = (refl, refl, refl, refl, refl, refl, refl, refl, refl, refl)

-- what bytes say as an exponent: those that are one, and those that are none
exponents_said :
    (exponent_said [] ≡ exponent false 0) × (exponent_said (bytes "e5") ≡ exponent false 5) × (exponent_said (bytes "E-9999") ≡ exponent true 9999) × (exponent_said (bytes "e+123456") ≡ exponent false 10000)
    × (exponent_said (bytes "x5") ≡ exponent false 0) × (exponent_said (bytes "5") ≡ exponent false 5) × (exponent_said (bytes "e") ≡ exponent false 0) × (exponent_said (bytes "E-") ≡ exponent true 0)
    × (exponent_said (bytes "e5x") ≡ exponent false 5) × (exponent_said (bytes "e-5.") ≡ exponent true 5) × (exponent_said (bytes "e10000x") ≡ exponent false 10000)
unfolding all code
exponents_said = (refl, refl, refl, refl, refl, refl, refl, refl, refl, refl, refl)

-- kept digits with tens above the line and below it: held at 10^17 + 1, and divided
sizes : (size_of (kept 12 0 false 2) 7 4 ≡ size 12000 false) × (size_of (kept 12 0 true 2) 99 4 ≡ size 100000000000000001 true) × (size_of (kept 1234 0 false 4) 7 9 ≡ size 12 true) × (size_of (kept 1200 0 false 4) 7 9 ≡ size 12 false) × (size_of (kept 1200 0 true 4) 7 9 ≡ size 12 true)
unfolding all code
sizes = (refl, refl, refl, refl, refl)
