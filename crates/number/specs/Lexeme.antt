-- Number texts (document 01, "Tokens"): "the rest must be a lexeme: optional sign, then `inf`, `infinity`, `nan` or a decimal,
-- ASCII case ignored. A decimal has at least one digit, at most one point, then optionally `e`, optional sign, at least one digit."
-- `Grammar` says the same as a grammar, and is proved equal.
use Rattle.std.specs.Prelude.{◌≡◌, ℕ, ◌+◌, ◌-◌, ◌≤◌, ◌<◌, Bool, true, not, ◌||◌, ◌&&◌, List, eqb, length, take, drop}
use Rattle.lists.specs.Lists.{every}
use Rattle.scan.specs.Text.{bytes}
use Rattle.scan.specs.Bytes.{is_inner, is_digit, is_sign, is_point}
use Rattle.scan.specs.Front.{rest, part, begins, after_one, after_all, is_nil}
use Rattle.scan.specs.Runs.{first_not}
use Rattle.words.specs.Words.{same_word}
use Rattle.number.specs.declared.Lexeme.{Lexeme}

abbrev pub inf : List ℕ
inf = bytes "inf"

abbrev pub infinity : List ℕ
infinity = bytes "infinity"

abbrev pub nan : List ℕ
nan = bytes "nan"

-- `e` or `E`
abbrev pub is_e : ℕ → Bool
is_e b = eqb b 101 || eqb b 69

-- "`inf`, `infinity`, `nan`"
unfoldable pub is_named : List ℕ → Bool
is_named l = same_word l inf || same_word l infinity || same_word l nan

-- A number's text ends where the list does (`is_nil`), or, read where it stands in a text, before a stop (`at_stop`).
-- The definitions below take this test, so that both are one definition.
unfoldable pub at_stop : List ℕ → Bool
at_stop l = not (begins is_inner l)

-- what follows the digits in front, and a point after them
abbrev pub after_whole : List ℕ → List ℕ
after_whole l = after_one is_point (after_all is_digit l)

-- "at least one digit", before the point or after it
abbrev pub has_digit : List ℕ → Bool
has_digit l = begins is_digit l || begins is_digit (after_whole l)

-- at least one digit, and then the end
unfoldable pub is_digits : (List ℕ → Bool) → List ℕ → Bool
is_digits ends l = begins is_digit l && ends (after_all is_digit l)

-- the end, or "`e`, optional sign, at least one digit" and then the end
unfoldable pub is_exponent : (List ℕ → Bool) → List ℕ → Bool
is_exponent ends l = ends l || begins is_e l && is_digits ends (after_one is_sign (after_one is_e l))

-- "A decimal has at least one digit, at most one point, then optionally `e`, optional sign, at least one digit."
unfoldable pub is_decimal : (List ℕ → Bool) → List ℕ → Bool
is_decimal ends l = has_digit l && is_exponent ends (after_all is_digit (after_whole l))

unfoldable pub is_unsigned : List ℕ → Bool
is_unsigned l = is_named l || is_decimal is_nil l

-- "optional sign, then `inf`, `infinity`, `nan` or a decimal"
unfoldable pub is_lexeme : List ℕ → Bool
is_lexeme l = is_unsigned (after_one is_sign l)

-- the same of a lexeme that has no exponent and is no word: "optional sign", and a decimal that ends after its digits
unfoldable pub is_plain : List ℕ → Bool
is_plain l = has_digit (after_one is_sign l) && is_nil (after_all is_digit (after_whole (after_one is_sign l)))

-- the bytes after the one at `at`, up to and with the one at `last`, are digits
pub record DigitsAfter (w : List ℕ) (at last : ℕ) : Type 0 where
  pub from : at ≤ last
  pub inside : last < length w
  pub digits : every is_digit (take (last - at) (drop (at + 1) w)) ≡ true

-- whether the text from i up to the next stop passes the test, and where that stop is
abbrev pub up_to_stop : (List ℕ → Bool) → List ℕ → ℕ → Lexeme
up_to_stop test text i = record { good = test (part text i (first_not is_inner text i)); end = first_not is_inner text i }

-- whether what stands from i on, up to a stop, passes the test, which finds the stop itself
abbrev pub from_here : ((List ℕ → Bool) → List ℕ → Bool) → List ℕ → ℕ → Lexeme
from_here test text i = record { good = test at_stop (rest text i); end = first_not is_inner text i }
