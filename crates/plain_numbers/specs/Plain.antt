-- What a plain number is, and what the code knows of it without a token.
use Rattle.std.specs.Prelude.{◌≡◌, Bool, cond, ◌&&◌, Option, Some, None, List, ℕ, ◌+◌, ◌-◌, ◌≤◌, ◌<◌, eqb, ltb, length, get_or}
use Rattle.scan.specs.Bytes.{minus, is_stop, is_digit, is_point}
use Rattle.scan.specs.Runs.{first_not, after_one_at}
use Rattle.token.specs.declared.Found.{Found}
use Rattle.token.specs.declared.Token.TheVariants.{Number}
use Rattle.token.specs.Tokens.{read, after_blank, read_at}
use Rattle.plain_numbers.specs.declared.Plain.{Plain}

abbrev pub is_minus : ℕ → Bool
is_minus b = eqb b minus

-- where the point at i and the digits behind it end, or i where no point stands
unfoldable pub fraction_end : List ℕ → ℕ → ℕ
fraction_end text i = cond (is_point (get_or text i 0)) (first_not is_digit text (i + 1)) i

-- where a number ends whose first digit stands at first, if one stands there
abbrev pub digits_from : List ℕ → ℕ → Option ℕ
digits_from text first = cond (ltb first (first_not is_digit text first)) (Some (fraction_end text (first_not is_digit text first))) None

-- where the digits at i end, with a minus in front and a point among them, if a digit stands there
unfoldable pub decimal_end : List ℕ → ℕ → Option ℕ
decimal_end text i = digits_from text (after_one_at is_minus text i)

abbrev pub plain : ℕ → ℕ → Plain
plain e n = record { end = e; next = n }

-- the one that ends there, if it is one: a stop stands right behind it
abbrev pub plain_to : List ℕ → Option ℕ → Option Plain
plain_to text (Some end) = cond (ltb end (length text) && is_stop (get_or text end 0)) (Some (plain end (after_blank text end))) None
plain_to text None = None

-- the plain number at i, and the place to read on from
unfoldable pub plain_at : List ℕ → ℕ → Option Plain
plain_at text i = plain_to text (decimal_end text i)

-- the token at i is the number from i to its end, which lies behind i
pub record PlainNumber (text : List ℕ) (i : ℕ) (r : Plain) : Type 0 where
  pub behind : i < r.end
  pub on : r.end ≤ r.next
  pub inside : r.end < length text
  pub number : read_at text i ≡ read (Found.Is i (Number i (r.end - i))) r.next
