-- A number's text that is neither a word nor beyond the limits comes to the two sides of the decimal that is written; and decimals that are one number, within the
-- limit of the exponent, come to the same, however they are spelt.
-- Assumes nothing.
use mathlib.Core.Path.{◌≡◌, refl, sym, ◌∙◌}
use mathlib.Core.Bool.{Bool, true, false, false≢true, cond}
use mathlib.Core.List.{List}
use Prim.Native.Nat.{ℕ}
use Rattle.scan.specs.Text as text
use Rattle.scan.specs.Bytes.{is_sign}
use Rattle.scan.specs.Front.{after_one}
use Rattle.number.specs.Lexeme.{is_named, is_lexeme}
use Rattle.std.specs.Prelude.{Ok, Err}
use Rattle.rounding.specs.declared.NoSides.TheVariants.{Named, Beyond, NoNumber}
use Rattle.rounding.specs.Rounding.{sides, Reckoned}
use Rattle.decimal.specs.Decimal.{Decimal, written, SameNumber}
use Rattle.decimal.specs.Units.{low, high, is_far, is_large}
use Rattle.decimal.specs.Reckon.{sides_of, reckoned}
use Rattle.decimal.specs.Spellings.{is_sides, Written, tens_written, tens_same, noughts_written, noughts_same}
use Rattle.decimal.proofs.Same.{same_low, same_high, same_large}

-- ---- the sides that a text comes to are its decimal's
pub its_sides : (l : List ℕ) → is_sides (reckoned l) ≡ true → reckoned l ≡ Ok (sides (low (written l)) (high (written l)))
unfolding reckoned sides_of
its_sides l = go (is_lexeme l) (is_named (after_one is_sign l)) (is_far (written l)) (is_large (written l))
  where
    go : (a b c d : Bool) → is_sides (cond a (cond b (Err Named) (cond c (Err Beyond) (cond d (Err Beyond) (Ok (sides (low (written l)) (high (written l))))))) (Err NoNumber)) ≡ true → cond {A = Reckoned} a (cond b (Err Named) (cond c (Err Beyond) (cond d (Err Beyond) (Ok (sides (low (written l)) (high (written l))))))) (Err NoNumber) ≡ Ok (sides (low (written l)) (high (written l)))
    go true true c d e = absurd (false≢true e)
    go true false true d e = absurd (false≢true e)
    go true false false true e = absurd (false≢true e)
    go true false false false e = refl
    go false b c d e = absurd (false≢true e)

-- ---- one number
same_sides : (x y : Decimal) → is_far x ≡ false → is_far y ≡ false → SameNumber x y → sides_of x ≡ sides_of y
unfolding sides_of
same_sides x y f g s = rw (f, g, same_large x y s, same_low x y s, same_high x y s)

decimal_sides : (l : List ℕ) → Written l → reckoned l ≡ sides_of (written l)
unfolding reckoned
decimal_sides l w = rw (w.lexeme, w.no_word)

pub same_reckoned : (l m : List ℕ) → Written l → Written m → SameNumber (written l) (written m) → reckoned l ≡ reckoned m
same_reckoned l m v w s = decimal_sides l v ∙ same_sides (written l) (written m) v.near w.near s ∙ sym (decimal_sides m w)

-- ---- `1e1`, `10` and `10.0`; `-0` and `0`
pub tens : (reckoned (text.bytes "1e1") ≡ reckoned (text.bytes "10")) × (reckoned (text.bytes "10.0") ≡ reckoned (text.bytes "10"))
tens = (
  same_reckoned (text.bytes "1e1") (text.bytes "10") tens_written.0 tens_written.1 tens_same.0,
  same_reckoned (text.bytes "10.0") (text.bytes "10") tens_written.2 tens_written.1 tens_same.1,
)

pub noughts : reckoned (text.bytes "-0") ≡ reckoned (text.bytes "0")
noughts = same_reckoned (text.bytes "-0") (text.bytes "0") noughts_written.0 noughts_written.1 noughts_same
