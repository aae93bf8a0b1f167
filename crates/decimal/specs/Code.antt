-- What the code holds on its way: a few digits, the digits that are kept, and the size that they come to.
use Rattle.std.specs.Prelude.{◌≡◌, Bool, true, false, cond, not, ◌||◌, List, [], ◌∷◌, ℕ, ◌+◌, ◌-◌, ◌*◌, ◌/◌, ◌%◌, ◌^◌, ◌≤◌, ◌<◌, min, eqb, leb, ltb, length, take, drop, Option, Some, None, Result, Ok, Err}
use Rattle.lists.specs.Lists.{every}
use Rattle.scan.specs.Bytes.{is_digit, is_sign}
use Rattle.scan.specs.Front.{rest, begins, after_one, is_nil}
use Rattle.scan.specs.Runs.{first_not}
use Rattle.number.specs.Lexeme.{is_e, is_exponent, is_decimal, is_plain}
use Rattle.decimal.specs.declared.Kept.{Kept}
use Rattle.decimal.specs.declared.Size.{Size}
use Rattle.decimal.specs.declared.Exponent.{Exponent}
use Rattle.decimal.specs.declared.Plain.{Plain}
use Rattle.decimal.specs.Decimal.{leading, value_of, is_minus, Decimal, unsigned_decimal, written}
use Rattle.rounding.specs.declared.NoSides.{NoSides}
use Rattle.rounding.specs.declared.NoSides.TheVariants.{Named, Beyond, NoNumber}
use Rattle.rounding.specs.Rounding.{size_limit, is_over}
use Rattle.decimal.specs.Units.{unit_places, whole_units, is_left, is_far, is_large}

-- ---- bytes read as digits, each as it is: '0' is 48
unfoldable pub raw_on : ℕ → List ℕ → ℕ
raw_on n [] = n
raw_on n (b ∷ l) = raw_on (n * 10 + b) l

-- ---- digits up to a text's end
abbrev pub is_nought : ℕ → Bool
is_nought b = eqb b 48

abbrev pub any_left : List ℕ → Bool
any_left l = not (every is_nought l)

-- whether one of them isn't 0, if all are digits
unfoldable pub tail_of : List ℕ → Option Bool
tail_of l = cond (every is_digit l) (Some (any_left l)) None

-- the number that they say, if all are digits
abbrev pub number_of : List ℕ → Option ℕ
number_of l = cond (every is_digit l) (Some (value_of l)) None

-- a size in units: whole ones, and whether something is left over
abbrev pub size : ℕ → Bool → Size
size whole rest = record { whole = whole; rest = rest }

-- those after a point, in units: the first seven, filled up with zeros
unfoldable pub fraction_of : List ℕ → Option Size
fraction_of l =
    cond (every is_digit l)
    (Some (size (value_of (take unit_places l) * 10 ^ (unit_places - length l)) (any_left (drop unit_places l))))
    None

-- ---- digits of any number: so many are kept as a u64 holds, and of those after them it is known only how many they are and whether one isn't 0
abbrev pub kept : ℕ → ℕ → Bool → ℕ → Kept
kept value dropped rest end = record { value = value; dropped = dropped; rest = rest; end = end }

abbrev pub keep_one : Kept → ℕ → Kept
keep_one k b =
    cond (ltb k.value size_limit)
    (kept (k.value * 10 + (b - 48)) k.dropped k.rest (k.end + 1))
    (kept k.value (k.dropped + 1) (k.rest || not (is_nought b)) (k.end + 1))

unfoldable pub keep_all : Kept → List ℕ → Kept
keep_all k [] = k
keep_all k (b ∷ l) = keep_all (keep_one k b) l

-- the digits from where the kept ones end are kept too
pub record Keeps (w : List ℕ) (k r : Kept) : Type 0 where
  pub is : r ≡ keep_all k (leading is_digit (rest w k.end))
  pub end : r.end ≡ first_not is_digit w k.end
  pub value : r.value < 10 * size_limit
  pub dropped : r.dropped ≤ r.end

-- ---- an exponent, at what follows the digits: its size is held one above the limit
abbrev pub exponent : Bool → ℕ → Exponent
exponent lowers size = record { lowers = lowers; size = size }

-- "an exponent beyond 9,999 either way": what any bytes say as one, be they one or not
unfoldable pub exponent_said : List ℕ → Exponent
exponent_said l = exponent (begins is_minus (after_one is_e l)) (min (value_of (leading is_digit (after_one is_sign (after_one is_e l)))) 10000)

-- one that ends the text, or a text that ends before it: what it says
unfoldable pub exponent_of : List ℕ → Option Exponent
exponent_of l = cond (is_exponent is_nil l) (Some (exponent_said l)) None

-- ---- a size in units: whole ones held one above the limit
abbrev pub held : ℕ
held = size_limit + 1

-- so many tens above the line, and so many below it
abbrev pub size_of : Kept → ℕ → ℕ → Size
size_of k up down =
    cond (leb down up)
    (size (min (k.value * 10 ^ (up - down)) held) k.rest)
    (size (k.value / 10 ^ (down - up)) (k.rest || not (eqb (k.value % 10 ^ (down - up)) 0)))

pub record SizeIs (x : Decimal) (whole : ℕ) (rest : Bool) : Type 0 where
  pub near : is_far x ≡ false
  pub over : is_over whole rest ≡ is_large x
  pub units : is_over whole rest ≡ false → whole ≡ whole_units x
  pub left : is_over whole rest ≡ false → rest ≡ is_left x

-- of a text behind its sign: whether it is a decimal, and if so its size; it is never told to be a word
abbrev pub TellsSize : List ℕ → Result Size NoSides → Type 0
TellsSize l (Ok s) = (is_decimal is_nil l ≡ true) × SizeIs (unsigned_decimal false l) s.whole s.rest
TellsSize l (Err Named) = ⊥
TellsSize l (Err Beyond) = (is_decimal is_nil l ≡ true) × (is_far (unsigned_decimal false l) ≡ true)
TellsSize l (Err NoNumber) = is_decimal is_nil l ≡ false

-- ---- a text that has no exponent, is no word and has at most ten digits before its point: its size is told at once
pub record PlainSize (w : List ℕ) (negative : Bool) (whole : ℕ) (rest : Bool) : Type 0 where
  pub plain : is_plain w ≡ true
  pub sign : negative ≡ (written w).negative
  pub exponent : (written w).exponent ≡ 0
  pub units : whole ≡ whole_units (written w)
  pub left : rest ≡ is_left (written w)

abbrev pub TellsPlain : List ℕ → Option Plain → Type 0
TellsPlain w (Some p) = PlainSize w p.minus p.size.whole p.size.rest
TellsPlain w None = Unit {0}
