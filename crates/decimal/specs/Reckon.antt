-- What a number's text comes to in units, for any bytes (request 2026-03: "30 for inf or nan, 31 for an exponent beyond 9,999 either way or a scaled size
-- over 10^17").
use Rattle.std.specs.Prelude.{cond, List, ℕ, Ok, Err}
use Rattle.scan.specs.Bytes.{is_sign}
use Rattle.scan.specs.Front.{after_one}
use Rattle.number.specs.Lexeme.{is_named, is_lexeme}
use Rattle.rounding.specs.declared.NoSides.TheVariants.{Named, Beyond, NoNumber}
use Rattle.rounding.specs.Rounding.{Reckoned, sides}
use Rattle.decimal.specs.Decimal.{Decimal, written}
use Rattle.decimal.specs.Units.{low, high, is_far, is_large}

-- a decimal: its low and its high side, or beyond the limits
unfoldable pub sides_of : Decimal → Reckoned
sides_of x = cond (is_far x) (Err Beyond) (cond (is_large x) (Err Beyond) (Ok (sides (low x) (high x))))

-- a number's text: a word, or a decimal
unfoldable pub reckoned : List ℕ → Reckoned
reckoned l = cond (is_lexeme l) (cond (is_named (after_one is_sign l)) (Err Named) (sides_of (written l))) (Err NoNumber)
