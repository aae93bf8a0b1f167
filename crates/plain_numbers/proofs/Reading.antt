-- A plain number: the token that the definition reads there.
-- Assumes nothing.
use mathlib.Core.Path.{◌≡◌, refl, sym, ap, ◌∙◌}
use mathlib.Core.Bool.{Bool, true, false, ◌&&◌}
use mathlib.Core.List.{List}
use Rattle.std.specs.Prelude.{Option, Some, None}
use Prim.Native.Nat.{ℕ, ◌+◌, ◌-◌, ◌≤◌, ◌<◌}
use native.Mathlib.Omega.{arith}
use lib.Dec.{ltb}
use lib.ListN.{length, get_or}
use borrow.Author.Tests.{eqb-true, ne_eqb, ltb-true, lt-ltb, le-ltb}
use Rattle.lists.proofs.Cases.{either, and_both}
use Rattle.scan.specs.Bytes.{is_blank, is_stop, is_digit, is_sign, is_plus, is_point, is_numberlike, minus}
use Rattle.scan.specs.Runs.{first_not, after_one_at}
use Rattle.scan.proofs.Bytes.{digit_low}
use Rattle.scan.proofs.Runs.{stop, not_before, not_past, one_on, one_off, scan_on, one_not_before, one_not_past}
use Rattle.number.specs.declared.Lexeme.{Lexeme}
use Rattle.number.specs.Lexeme.{is_lexeme, is_decimal, up_to_stop, from_here}
use Rattle.number.proofs.Text.{exponent_stop, decimal_is, lexeme_decimal}
use Rattle.token.specs.declared.Found.{Found}
use Rattle.token.specs.declared.Token.TheVariants.{Number}
use Rattle.token.specs.Tokens.{read, after_blank, number_at, token_at, read_at}
use Rattle.token.proofs.Tokens.{number_is, other_is}
use Rattle.plain_numbers.specs.Plain.{is_minus, fraction_end, decimal_end, plain, plain_to, plain_at, PlainNumber}
use Rattle.plain_numbers.specs.declared.Plain.{Plain}

-- from the minus on no byte is a blank
high_blank : (b : ℕ) → 45 ≤ b → is_blank b ≡ false
high_blank b h = rw (ne_eqb b 32 (λ e. omega arith), ne_eqb b 9 (λ e. omega arith), ne_eqb b 10 (λ e. omega arith), ne_eqb b 13 (λ e. omega arith))

-- a number's first byte at i, its first digit, the end of its digits, what follows a point, and its end
module _ (text : List ℕ) (i first whole point end : ℕ) (w : whole ≡ first_not is_digit text first) (l : first < whole) (p : point ≡ after_one_at is_point text whole) (f : end ≡ first_not is_digit text point) (g : end < length text) (s : is_stop (get_or text end 0) ≡ true) where
  first_in : first < length text
  first_in = omega (arith, w, l, not_past is_digit text first)

  first_digit : is_digit (get_or text first 0) ≡ true
  first_digit = go (is_digit (get_or text first 0)) refl
    where
      go : (t : Bool) → is_digit (get_or text first 0) ≡ t → t ≡ true
      go true e = refl
      go false e = absurd (omega (arith, l, w, stop is_digit text first first_in e))

  decimal : ◌≡◌ {A = Lexeme} (record { good = true; end = end }) (from_here is_decimal text first)
  decimal = rw (lt-ltb first whole l) at (decimal_is text first whole point end (record { good = true; end = end }) w p f (exponent_stop text end g s))

  module _ (h : i < length text) (sign : first ≡ after_one_at is_sign text i) (low : 45 ≤ get_or text i 0) (like : is_numberlike (get_or text i 0) ≡ true) where
    lexeme : ◌≡◌ {A = Lexeme} (record { good = true; end = end }) (up_to_stop is_lexeme text i)
    lexeme = lexeme_decimal text i first sign first_in _ (is_digit (get_or text first 0)) refl (rw first_digit) decimal

    at_number : read (Found.Is i (Number i (end - i))) (after_blank text end) ≡ number_at text i
    at_number = number_is text i i (after_blank text end) (record { good = true; end = end }) true (one_off is_plus text i (ne_eqb (get_or text i 0) 43 (λ e. omega arith))) lexeme refl refl

    at_token : number_at text i ≡ token_at text i
    at_token = other_is text i h (λ e. omega arith) (λ e. omega arith) (λ e. omega arith) (λ e. omega arith) true like

    reads_number : read_at text i ≡ read (Found.Is i (Number i (end - i))) (after_blank text end)
    unfolding read_at
    reads_number = rw (stop is_blank text i h (high_blank (get_or text i 0) low)) (sym (at_number ∙ at_token))

  abbrev Here : Type 0
  Here = read_at text i ≡ read (Found.Is i (Number i (end - i))) (after_blank text end)

  digit_sign : (b : ℕ) → is_digit b ≡ true → is_sign b ≡ false
  digit_sign b d = rw (ne_eqb b 43 (λ e. omega (arith, digit_low b d)), ne_eqb b 45 (λ e. omega (arith, digit_low b d)))

  reads_plain : first ≡ after_one_at is_minus text i → Here
  reads_plain e = go (is_minus (get_or text i 0)) refl
    where
      go : (t : Bool) → is_minus (get_or text i 0) ≡ t → Here
      go true y =
          let b = eqb-true (get_or text i 0) minus y in
          let k : first ≡ i + 1 = e ∙ sym (one_on is_minus text i y) in
          reads_number (omega (arith, first_in, k)) (k ∙ one_on is_sign text i (rw b)) (omega (arith, b)) (rw b)
      go false n =
          let k : first ≡ i = e ∙ sym (one_off is_minus text i n) in
          let d : is_digit (get_or text i 0) ≡ true = rw (← k) first_digit in
          reads_number (omega (arith, first_in, k)) (k ∙ one_off is_sign text i (digit_sign (get_or text i 0) d)) (omega (arith, digit_low (get_or text i 0) d)) (rw d)

-- the first digit, the end of the digits from there, what follows a point, and its digits' end
record Digits (text : List ℕ) (i r : ℕ) : Type 0 where
  first : ℕ
  signed : first ≡ after_one_at is_minus text i
  some : first < first_not is_digit text first
  whole : r ≡ first_not is_digit text (after_one_at is_point text (first_not is_digit text first))

module _ (text : List ℕ) where
  -- a scan for digits goes no further where it ended
  fraction_is : (first : ℕ) → fraction_end text (first_not is_digit text first) ≡ first_not is_digit text (after_one_at is_point text (first_not is_digit text first))
  unfolding fraction_end
  fraction_is first =
      let whole = first_not is_digit text first in
      either (is_point (get_or text whole 0)) (λ r. r ≡ first_not is_digit text (after_one_at is_point text whole)) _ _
      (λ y. ap (first_not is_digit text) (one_on is_point text whole y))
      (λ n. sym (scan_on is_digit is_digit (λ b t. t) text first) ∙ ap (first_not is_digit text) (one_off is_point text whole n))

  module _ (i : ℕ) where
    decimal_digits : (end : ℕ) → Some end ≡ decimal_end text i → Digits text i end
    unfolding decimal_end
    decimal_digits end =
        let first = after_one_at is_minus text i in
        let Q : Option ℕ → Type 0 = λ r. Some end ≡ r → Digits text i end in
        either (ltb first (first_not is_digit text first)) Q _ _
        (λ y e. let k : end ≡ fraction_end text (first_not is_digit text first) = cc in record { first = first; signed = refl; some = ltb-true first (first_not is_digit text first) y; whole = k ∙ fraction_is first })
        (λ n e. cc)

    ends_behind : (end : ℕ) → Digits text i end → i < end
    ends_behind end d =
        let whole = first_not is_digit text d.first in
        let past = not_past is_digit text d.first in
        let point = after_one_at is_point text whole in
        omega (arith, d.signed, one_not_before is_minus text i refl, d.some, d.whole, one_not_before is_point text whole refl, not_before is_digit text point (one_not_past is_point text whole refl past))

    a_number : (end : ℕ) → Digits text i end → end < length text → is_stop (get_or text end 0) ≡ true → PlainNumber text i (plain end (after_blank text end))
    a_number end d g s = record {
      behind = ends_behind end d;
      on = one_not_before is_blank text end refl;
      inside = g;
      number =
          reads_plain text i d.first (first_not is_digit text d.first) (after_one_at is_point text (first_not is_digit text d.first)) end refl d.some refl d.whole g s d.signed;
    }

    -- what is found is the token that stands there
    stops_there : (r : Plain) (end : ℕ) → Digits text i end → Some r ≡ plain_to text (Some end) → PlainNumber text i r
    stops_there r end d =
        let Q : Option Plain → Type 0 = λ t. Some r ≡ t → PlainNumber text i r in
        either (ltb end (length text) && is_stop (get_or text end 0)) Q _ _
        (λ y e.
        let inner = and_both (ltb end (length text)) (is_stop (get_or text end 0)) y in
        let k : r ≡ plain end (after_blank text end) = cc in
        rw k (a_number end d (ltb-true end (length text) inner.0) inner.1))
        (λ n e. cc)

    by_end : (r : Plain) (t : Option ℕ) → t ≡ decimal_end text i → Some r ≡ plain_to text t → PlainNumber text i r
    by_end r (Some end) x e = stops_there r end (decimal_digits end x) e
    by_end r None x e = cc

    pub plain_number : {r : Plain} → Some r ≡ plain_at text i → PlainNumber text i r
    unfolding plain_at
    plain_number {r} e = by_end r (decimal_end text i) refl e

    -- the code's ways to the digits' end
    module _ (first whole : ℕ) (s : first ≡ after_one_at is_minus text i) (w : whole ≡ first_not is_digit text first) where
      pub no_digits : whole ≤ first → None ≡ decimal_end text i
      unfolding decimal_end
      no_digits h = rw (← s, ← w, le-ltb first whole h)

      pub some_digits : {r : ℕ} → first < whole → r ≡ fraction_end text whole → Some r ≡ decimal_end text i
      unfolding decimal_end
      some_digits h e = rw (← s, ← w, lt-ltb first whole h, e)

    -- and to the number
    pub none_there : None ≡ decimal_end text i → None ≡ plain_at text i
    unfolding plain_at
    none_there e = rw (← e)

    module _ (end : ℕ) (e : Some end ≡ decimal_end text i) where
      pub none_behind : length text ≤ end → None ≡ plain_at text i
      unfolding plain_at
      none_behind g = rw (← e, le-ltb end (length text) g)

      module _ (g : end < length text) where
        pub none_stops : is_stop (get_or text end 0) ≡ false → None ≡ plain_at text i
        unfolding plain_at
        none_stops n = rw (← e, lt-ltb end (length text) g, n)

        pub one_stops : {next : ℕ} → is_stop (get_or text end 0) ≡ true → next ≡ after_blank text end → Some (plain end next) ≡ plain_at text i
        unfolding plain_at
        one_stops y a = rw (← e, lt-ltb end (length text) g, y, a)
