-- The grammar of a number's text, as Rust's library documents it for `f64`'s `FromStr` (letters in either case):
--     Float  ::= Sign? ( 'inf' | 'infinity' | 'nan' | Number )
--     Number ::= ( Digit+ | Digit+ '.' Digit* | Digit* '.' Digit+ ) Exp?
--     Exp    ::= 'e' Sign? Digit+
--     Sign   ::= [+-]
--     Digit  ::= [0-9]
use Rattle.std.specs.Prelude.{ℕ, ◌≡◌, Bool, true, List, [], ◌∷◌, ◌++◌}
use Rattle.scan.specs.Bytes.{is_digit, is_sign, is_point}
use Rattle.scan.specs.Runs.{Many}
use Rattle.words.specs.Words.{same_word}
use Rattle.number.specs.Lexeme.{is_e, inf, infinity, nan}

infixr 40 ◌then◌
infixr 35 ◌or◌
-- the texts of a part of the grammar
abbrev pub Texts : Type 1
Texts = List ℕ → Type 0

-- one byte that passes the test
pub data OneByte (p : ℕ → Bool) : List ℕ → Type 0 where
  one : {b : ℕ} → p b ≡ true → OneByte p (b ∷ [])

-- a text of the one, and after it a text of the other
pub data ◌then◌ (A B : List ℕ → Type 0) : List ℕ → Type 0 where
  both : {x y : List ℕ} → A x → B y → (A then B) (x ++ y)

-- a text of the one or of the other: A | B
pub data ◌or◌ (A B : List ℕ → Type 0) : List ℕ → Type 0 where
  this : {l : List ℕ} → A l → (A or B) l
  that : {l : List ℕ} → B l → (A or B) l

-- A?
pub data Maybe (A : List ℕ → Type 0) : List ℕ → Type 0 where
  absent : Maybe A []
  present : {l : List ℕ} → A l → Maybe A l

-- the word, in either case
pub data Named (w : List ℕ) : List ℕ → Type 0 where
  named : {l : List ℕ} → same_word l w ≡ true → Named w l

abbrev pub Sign : Texts
Sign = OneByte is_sign

abbrev pub Point : Texts
Point = OneByte is_point

-- Digit*
abbrev pub Digits : Texts
Digits = Many is_digit

-- Digit+
abbrev pub Digits1 : Texts
Digits1 = OneByte is_digit then Many is_digit

abbrev pub Exp : Texts
Exp = OneByte is_e then Maybe Sign then Digits1

abbrev pub Number : Texts
Number = (Digits1 or (Digits1 then Point then Digits) or (Digits then Point then Digits1)) then Maybe Exp

abbrev pub Unsigned : Texts
Unsigned = Named inf or Named infinity or Named nan or Number

abbrev pub Float : Texts
Float = Maybe Sign then Unsigned
