-- The exact value of a number's text, as a fraction of whole numbers (request 2026-03: "The definition is the exact decimal as a fraction of whole
-- numbers."): sign, digits, point and exponent as they are written. Words (`inf`, `nan`) have none.
use Rattle.std.specs.Prelude.{◌≡◌, Bool, cond, List, [], ◌∷◌, ◌++◌, ℕ, ◌+◌, ◌-◌, ◌*◌, ◌^◌, eqb, length}
use Rattle.scan.specs.Bytes.{minus, is_digit, is_sign}
use Rattle.scan.specs.Front.{begins, after_one, after_all}
use Rattle.number.specs.Lexeme.{is_e, after_whole}

-- the bytes at the front that pass the test
unfoldable pub leading : (ℕ → Bool) → List ℕ → List ℕ
leading p [] = []
leading p (b ∷ l) = cond (p b) (b ∷ leading p l) []

-- the number that digits say, read on from n
unfoldable pub read_on : ℕ → List ℕ → ℕ
read_on n [] = n
read_on n (b ∷ l) = read_on (n * 10 + (b - 48)) l

abbrev pub value_of : List ℕ → ℕ
value_of l = read_on 0 l

abbrev pub is_minus : ℕ → Bool
is_minus b = eqb b minus

-- ---- a decimal as it is written
pub record Decimal : Type 0 where
  -- whether a minus stands first
  pub negative : Bool
  -- the digits before the point and those after it, and how many stand after it
  pub digits : List ℕ
  pub places : ℕ
  -- the exponent: whether a minus stands before it, and its digits' number
  pub lowers : Bool
  pub exponent : ℕ

-- the digits before the point and those after it, of a text without its sign
abbrev pub whole_digits : List ℕ → List ℕ
whole_digits l = leading is_digit l

abbrev pub fraction_digits : List ℕ → List ℕ
fraction_digits l = leading is_digit (after_whole l)

-- what stands behind the `e`, if there is one
abbrev pub behind_e : List ℕ → List ℕ
behind_e l = after_one is_e (after_all is_digit (after_whole l))

abbrev pub exponent_digits : List ℕ → List ℕ
exponent_digits l = leading is_digit (after_one is_sign (behind_e l))

-- the parts of a text without its sign
abbrev pub unsigned_decimal : Bool → List ℕ → Decimal
unsigned_decimal negative l = record {
  negative = negative;
  digits = whole_digits l ++ fraction_digits l;
  places = length (fraction_digits l);
  lowers = begins is_minus (behind_e l);
  exponent = value_of (exponent_digits l);
}

unfoldable pub written : List ℕ → Decimal
written l = unsigned_decimal (begins is_minus l) (after_one is_sign l)

-- ---- its size, without the sign: numerator over denominator
-- the powers of ten that the exponent puts above and below the line
abbrev pub above : Decimal → ℕ
above x = cond x.lowers 0 x.exponent

abbrev pub below : Decimal → ℕ
below x = cond x.lowers x.exponent 0

abbrev pub numerator : Decimal → ℕ
numerator x = value_of x.digits * 10 ^ above x

abbrev pub denominator : Decimal → ℕ
denominator x = 10 ^ (x.places + below x)

-- two fractions are one number: as sizes, and with their signs, where zero has none
abbrev pub SameSize : Decimal → Decimal → Type 0
SameSize x y = numerator x * denominator y ≡ numerator y * denominator x

pub data SameNumber (x y : Decimal) : Type 0 where
  alike : x.negative ≡ y.negative → SameSize x y → SameNumber x y
  nought : numerator x ≡ 0 → numerator y ≡ 0 → SameNumber x y
