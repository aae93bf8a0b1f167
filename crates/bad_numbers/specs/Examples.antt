-- Worked examples of this crate's definitions, by computation.
use Rattle.std.specs.Prelude.{◌≡◌, refl, Bool, true, not, List, [], ◌∷◌, ◌++◌, ℕ, eqb, length}
use Rattle.lists.specs.Lists.{passing, bytes_that, every}
use Rattle.scan.specs.Text.{bytes}
use Rattle.scan.specs.Front.{begins, after_one, after_all, is_nil}
use Rattle.words.specs.Words.{starts_word}
use Rattle.number.specs.Lexeme.{is_digits, is_exponent, is_decimal}
use Rattle.bad_numbers.specs.Openings.{opens_decimal, opens_word, opens, longest_up_to, goes_wrong}

all : ℕ
unfolding passing every begins after_one after_all is_nil starts_word is_digits is_exponent is_decimal opens_decimal opens_word opens longest_up_to
all = 0

-- ---- what some lexeme begins with
opened : every opens
    ([] ∷ bytes "+" ∷ bytes "-" ∷ bytes "." ∷ bytes "-." ∷ bytes "0" ∷ bytes "12" ∷ bytes "1." ∷ bytes ".5" ∷ bytes "1.5" ∷ bytes "1e" ∷ bytes "1E" ∷ bytes "1.e" ∷ bytes ".5e" ∷ bytes "1e+" ∷ bytes "1e-" ∷ bytes "1e5" ∷ bytes "-1.5e-05" ∷ bytes "i" ∷ bytes "-I" ∷ bytes "iN" ∷ bytes "inf" ∷ bytes "+INFI" ∷ bytes "infin" ∷ bytes "infini" ∷ bytes "infinit" ∷ bytes "infinity" ∷ bytes "n" ∷ bytes "Na" ∷ bytes "-nan" ∷ [])
    ≡ true
unfolding all
opened = refl

is_shut : List ℕ → Bool
is_shut x = not (opens x)

shut : every is_shut
    (bytes "++" ∷ bytes "-+" ∷ bytes "--" ∷ bytes ".." ∷ bytes "1.2." ∷ bytes ".e" ∷ bytes "-.e" ∷ bytes "e" ∷ bytes "1ee" ∷ bytes "1e++" ∷ bytes "1e+-" ∷ bytes "1e5." ∷ bytes "1e5e" ∷ bytes "1-" ∷ bytes "1x" ∷ bytes "q" ∷ bytes "ia" ∷ bytes "in." ∷ bytes "infe" ∷ bytes "infinityy" ∷ bytes "na1" ∷ bytes "nann" ∷ bytes "i+" ∷ bytes "1i" ∷ bytes "1 " ∷ [])
    ≡ true
unfolding all is_shut
shut = refl

-- ---- where it goes wrong
wrong_at : ℕ → List ℕ → Bool
wrong_at n w = eqb (goes_wrong w) n

-- at the first byte at which no lexeme can go on
inside : (every (wrong_at 0) (bytes "q" ∷ bytes "e5" ∷ bytes "x1" ∷ []) ≡ true)
    × (every (wrong_at 1) (bytes "4x" ∷ bytes ".e5" ∷ bytes ".." ∷ bytes "--1" ∷ bytes "-+1" ∷ bytes "-e5" ∷ bytes "-x" ∷ bytes "1-" ∷ bytes "0x1" ∷ bytes "1_0" ∷ bytes "ix" ∷ bytes "nx" ∷ []) ≡ true)
    × (every (wrong_at 2) (bytes "1.." ∷ bytes "1ee5" ∷ bytes "1e.5" ∷ bytes "-.x" ∷ bytes "iNx" ∷ bytes "nam" ∷ bytes "-1x" ∷ []) ≡ true)
    × (every (wrong_at 3) (bytes "1.2.3" ∷ bytes "1e++5" ∷ bytes "1e+x" ∷ bytes "1e5.0" ∷ bytes "1e5e5" ∷ bytes "infx" ∷ bytes "inf1" ∷ bytes "nan1" ∷ bytes "nane" ∷ bytes "-1.x" ∷ []) ≡ true)
    × (every (wrong_at 4) (bytes "-infx" ∷ bytes "+NANx" ∷ bytes "infix" ∷ bytes "1.5ex" ∷ []) ≡ true)
    × (every (wrong_at 8) (bytes "infinityy" ∷ bytes "INFINITY8" ∷ []) ≡ true)
unfolding all wrong_at
inside = (refl, refl, refl, refl, refl, refl)

-- at the end, where more was needed
is_at_end : List ℕ → Bool
is_at_end w = wrong_at (length w) w

at_end : every is_at_end (bytes "1e" ∷ bytes "1e+" ∷ bytes "." ∷ bytes "-" ∷ bytes "+" ∷ bytes "-." ∷ bytes "i" ∷ bytes "infi" ∷ bytes "-infinit" ∷ bytes "na" ∷ bytes ".5e-" ∷ []) ≡ true
unfolding all is_at_end wrong_at
at_end = refl

-- a lexeme doesn't go wrong before its end
whole : every is_at_end (bytes "1" ∷ bytes "-1.5e+3" ∷ bytes "5." ∷ bytes "infinity" ∷ bytes "-NaN" ∷ []) ≡ true
unfolding all is_at_end wrong_at
whole = refl

-- a wide character (京) is no part of a number, wherever it stands
wide : (goes_wrong (49 ∷ 0xE4 ∷ 0xBA ∷ 0xAC ∷ []) ≡ 1) × (goes_wrong (45 ∷ 0xE4 ∷ 0xBA ∷ 0xAC ∷ 49 ∷ []) ≡ 1) × (goes_wrong (bytes "1e" ++ 0xE4 ∷ 0xBA ∷ 0xAC ∷ []) ≡ 2) × (goes_wrong (bytes "-inf" ++ 0xE4 ∷ 0xBA ∷ 0xAC ∷ []) ≡ 4)
unfolding all
wide = (refl, refl, refl, refl)

-- ---- by the whole range of bytes: those that can go on
go_on : List ℕ → List ℕ
go_on x = bytes_that (λ b. opens (x ++ b ∷ []))

digits : List ℕ
digits = 48 ∷ 49 ∷ 50 ∷ 51 ∷ 52 ∷ 53 ∷ 54 ∷ 55 ∷ 56 ∷ 57 ∷ []

-- at the start and after a sign: a sign at the start, a point, a digit, `i` and `n`
after_sign : (go_on [] ≡ 43 ∷ 45 ∷ 46 ∷ digits ++ 73 ∷ 78 ∷ 105 ∷ 110 ∷ []) × (go_on (bytes "-") ≡ 46 ∷ digits ++ 73 ∷ 78 ∷ 105 ∷ 110 ∷ [])
unfolding all go_on digits
after_sign = (refl, refl)

-- in a decimal: after digits a point, a digit, `e`; after a point alone a digit; after a point with digits a digit or `e`
after_digits : (go_on (bytes "1") ≡ 46 ∷ digits ++ 69 ∷ 101 ∷ []) × (go_on (bytes ".") ≡ digits) × (go_on (bytes "1.") ≡ digits ++ 69 ∷ 101 ∷ []) × (go_on (bytes "-.5") ≡ digits ++ 69 ∷ 101 ∷ [])
unfolding all go_on digits
after_digits = (refl, refl, refl, refl)

-- after `e` a sign or a digit, behind them a digit
after_e : (go_on (bytes "1e") ≡ 43 ∷ 45 ∷ digits) × (go_on (bytes "1e-") ≡ digits) × (go_on (bytes "1e5") ≡ digits)
unfolding all go_on digits
after_e = (refl, refl, refl)

-- in a word its next letter in either case, and behind it nothing
in_word : (go_on (bytes "i") ≡ 78 ∷ 110 ∷ []) × (go_on (bytes "-IN") ≡ 70 ∷ 102 ∷ []) × (go_on (bytes "inf") ≡ 73 ∷ 105 ∷ []) × (go_on (bytes "infinit") ≡ 89 ∷ 121 ∷ []) × (go_on (bytes "infinity") ≡ []) × (go_on (bytes "n") ≡ 65 ∷ 97 ∷ []) × (go_on (bytes "nan") ≡ [])
unfolding all go_on
in_word = (refl, refl, refl, refl, refl, refl, refl)
