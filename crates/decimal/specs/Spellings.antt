-- Decimals spelt otherwise (request 2026-03: `1e1`, `10` and `10.0` give the same box): texts that are decimals within the limit of the exponent, and worked
-- examples of texts that are one number, by computation.
use Rattle.std.specs.Prelude.{◌≡◌, refl, Bool, true, false, List, ℕ, Ok, Err}
use Rattle.scan.specs.Text as text
use Rattle.scan.specs.Bytes.{is_sign}
use Rattle.scan.specs.Front.{begins, after_one, after_all, is_nil}
use Rattle.words.specs.Words.{same_word}
use Rattle.number.specs.Lexeme.{at_stop, is_named, is_digits, is_exponent, is_decimal, is_unsigned, is_lexeme}
use Rattle.rounding.specs.Rounding.{Reckoned}
use Rattle.decimal.specs.Decimal.{leading, read_on, written, SameNumber, alike, nought}
use Rattle.decimal.specs.Units.{is_far}

-- a number's text that comes to a low and a high side, and is not refused
abbrev pub is_sides : Reckoned → Bool
is_sides (Ok s) = true
is_sides (Err e) = false

-- a number's text that is no word, its exponent within 9,999
pub record Written (l : List ℕ) : Type 0 where
  pub lexeme : is_lexeme l ≡ true
  pub no_word : is_named (after_one is_sign l) ≡ false
  pub near : is_far (written l) ≡ false

-- ---- the texts of worked examples, and what is unfolded for them
all : ℕ
unfolding begins after_one after_all is_nil same_word at_stop is_named is_digits is_exponent is_decimal is_unsigned is_lexeme leading read_on written
all = 0

-- `1e1`, `10` and `10.0` are such texts, and one number
pub tens_written : Written (text.bytes "1e1") × Written (text.bytes "10") × Written (text.bytes "10.0")
unfolding all
tens_written = (record { lexeme = refl; no_word = refl; near = refl }, record { lexeme = refl; no_word = refl; near = refl }, record { lexeme = refl; no_word = refl; near = refl })

pub tens_same : SameNumber (written (text.bytes "1e1")) (written (text.bytes "10")) × SameNumber (written (text.bytes "10.0")) (written (text.bytes "10"))
unfolding all
tens_same = (alike refl refl, alike refl refl)

-- so are `-0` and `0`
pub noughts_written : Written (text.bytes "-0") × Written (text.bytes "0")
unfolding all
noughts_written = (record { lexeme = refl; no_word = refl; near = refl }, record { lexeme = refl; no_word = refl; near = refl })

pub noughts_same : SameNumber (written (text.bytes "-0")) (written (text.bytes "0"))
unfolding all
noughts_same = nought refl refl
