-- What each step over a text shows, in the variables of the code.
-- Assumes nothing.
use mathlib.Core.Path.{◌≡◌, refl, sym, ap, ap₂, ◌∙◌}
use mathlib.Core.Bool.{Bool, true, false, not, ◌||◌, ◌&&◌, and-true}
use mathlib.Core.List.{List, [], ◌∷◌}
use Prim.Native.Nat.{ℕ, ◌+◌, ◌≤◌, ◌<◌}
use native.Mathlib.Decide.{dec_lt}
use native.Mathlib.Omega.{arith}
use lib.Dec.{eqb, leb, ltb}
use lib.ListN.{length, get_or}
use borrow.Author.Tests.{ltb-true, ltb-false, leb-true, leb-false, le-leb, lt-leb, eqb-true, ne_eqb}
use Rattle.scan.specs.Bytes.{is_inner, is_stop, is_digit, is_sign, is_point}
use Rattle.scan.specs.Front.{rest, part, begins, after_one, after_all, is_nil}
use Rattle.scan.specs.Runs.{first_not, after_one_at}
use Rattle.scan.proofs.Bytes.{or_elim, digit_inner, digit_high, sign_inner, point_inner}
use Rattle.scan.proofs.Front.{rest_past, begins_at, one_yes, part_first, part_none, part_whole}
use Rattle.scan.proofs.Runs.{on, stop, past, not_before, not_past, moves, rest_run, rest_one, scan_on, scan_one, part_one}
use Rattle.words.specs.Words.{same_word, upper}
use Rattle.number.specs.declared.Lexeme.{Lexeme}
use Rattle.number.specs.Lexeme.{is_e, is_named, at_stop, after_whole, is_digits, is_exponent, is_decimal, is_unsigned, is_lexeme, up_to_stop, from_here}
use Rattle.number.proofs.Stop.{decimal_part, all_none, one_none}
use Rattle.number.proofs.Inner.{lexeme_whole}

same : {g h : Bool} {a b : ℕ} → g ≡ h → a ≡ b → ◌≡◌ {A = Lexeme} (record { good = g; end = a }) (record { good = h; end = b })
same p q = λ i. record { good = p i; end = q i }

not_less : (a b : ℕ) → leb b a ≡ not (ltb a b)
not_less a b = go (ltb a b) refl
  where
    go : (t : Bool) → ltb a b ≡ t → leb b a ≡ not t
    go true e = lt-leb b a (ltb-true a b e)
    go false e = le-leb b a (ltb-false a b e)

module _ (text : List ℕ) where
  -- the scan for a stop stays where one stands
  stop_here : (i : ℕ) → leb (first_not is_inner text i) i ≡ at_stop (rest text i)
  unfolding at_stop
  stop_here i = not_less i (first_not is_inner text i) ∙ ap not (moves is_inner text i)

  pub digits_is : (at digits end : ℕ) → digits ≡ first_not is_digit text at → end ≡ first_not is_inner text digits → ◌≡◌ {A = Lexeme} (record { good = ltb at digits && leb end digits; end = end }) (from_here is_digits text at)
  unfolding is_digits
  digits_is at digits end d e =
      same
      (ap₂ ◌&&◌ (ap (ltb at) d ∙ moves is_digit text at) (ap (λ (k : ℕ). leb k digits) e ∙ (stop_here digits ∙ ap (λ (k : ℕ). at_stop (rest text k)) d ∙ ap at_stop (rest_run is_digit text at))))
      (e ∙ ap (first_not is_inner text) d ∙ scan_on is_digit is_inner digit_inner text at)

  module _ (at : ℕ) where
    pub exponent_past : length text ≤ at → ◌≡◌ {A = Lexeme} (record { good = true; end = length text }) (from_here is_exponent text at)
    unfolding is_exponent at_stop begins
    exponent_past h = same (rw (rest_past text at h)) (sym (past is_inner text at h))

    module _ (h : at < length text) where
      here : at_stop (rest text at) ≡ is_stop (get_or text at 0)
      unfolding at_stop
      here = sym (ap not (begins_at is_inner text at h)) ∙ twice (is_stop (get_or text at 0))
        where
          twice : (t : Bool) → not (not t) ≡ t
          twice true = refl
          twice false = refl

      pub exponent_stop : is_stop (get_or text at 0) ≡ true → ◌≡◌ {A = Lexeme} (record { good = true; end = at }) (from_here is_exponent text at)
      unfolding is_exponent
      exponent_stop t = same (rw (here, t)) (sym (stop is_inner text at h (ap not t)))

      module _ (inner : is_stop (get_or text at 0) ≡ false) where
        pub exponent_bad : (end : ℕ) → is_e (get_or text at 0) ≡ false → end ≡ first_not is_inner text at → ◌≡◌ {A = Lexeme} (record { good = false; end = end }) (from_here is_exponent text at)
        unfolding is_exponent
        exponent_bad end t e = same (rw (here, inner, ← begins_at is_e text at h, t)) e

        pub exponent_e : (sign : ℕ) (r : Lexeme) → is_e (get_or text at 0) ≡ true → sign ≡ after_one_at is_sign text (at + 1) → r ≡ from_here is_digits text sign → r ≡ from_here is_exponent text at
        unfolding is_exponent
        exponent_e sign r t e d =
            d
            ∙ same
            (rw (here, inner, ← begins_at is_e text at h, t, ← one_yes is_e text at h t, ← rest_one is_sign text (at + 1) refl, ← e))
            (ap (first_not is_inner text) e ∙ scan_one is_sign is_inner sign_inner text (at + 1) refl ∙ on is_inner text at h (ap not inner))

    pub decimal_is : (whole point fraction : ℕ) (r : Lexeme) → whole ≡ first_not is_digit text at → point ≡ after_one_at is_point text whole → fraction ≡ first_not is_digit text point → r ≡ from_here is_exponent text fraction → ◌≡◌ {A = Lexeme} (record { good = (ltb at whole || ltb point fraction) && r.good; end = r.end }) (from_here is_decimal text at)
    unfolding is_decimal
    decimal_is whole point fraction r w p f e =
        let left : rest text point ≡ after_whole (rest text at) = ap (rest text) p ∙ rest_one is_point text whole refl ∙ ap (after_one is_point) (ap (rest text) w ∙ rest_run is_digit text at) in
        same
        (ap₂ ◌&&◌ (ap₂ ◌||◌ (ap (ltb at) w ∙ moves is_digit text at) (ap (ltb point) f ∙ moves is_digit text point ∙ ap (begins is_digit) left)) (ap (λ (x : Lexeme). x.good) e ∙ ap (is_exponent at_stop) (ap (rest text) f ∙ rest_run is_digit text point ∙ ap (after_all is_digit) left)))
        (ap (λ (x : Lexeme). x.end) e ∙ ap (first_not is_inner text) f ∙ scan_on is_digit is_inner digit_inner text point ∙ ap (first_not is_inner text) p ∙ scan_one is_point is_inner point_inner text whole refl ∙ ap (first_not is_inner text) w ∙ scan_on is_digit is_inner digit_inner text at)

-- a byte below the letters is no letter in either case
no_letter_law : (b k : ℕ) → b ≤ 57 → 57 < k → eqb (upper b) k ≡ false
no_letter_law b k h l = rw (lt-leb 97 b (omega arith)) (ne_eqb b k (λ e. omega arith))

pub low : (b : ℕ) → (is_digit b || is_point b) ≡ true → b ≤ 57
low b e = or_elim (is_digit b) (is_point b) (digit_high b) (λ p. omega (arith, eqb-true b 46 p)) e

pub not_named : (b : ℕ) (l : List ℕ) → (is_digit b || is_point b) ≡ true → is_named (b ∷ l) ≡ false
unfolding is_named same_word
not_named b l e = rw (no_letter_law b 73 (low b e) (omega arith), no_letter_law b 78 (low b e) (omega arith))

pub not_decimal : (l : List ℕ) → begins is_digit l ≡ false → begins is_point l ≡ false → is_decimal is_nil l ≡ false
unfolding is_decimal
not_decimal l d p = rw (all_none is_digit l d, one_none is_point l p, d)

pub nothing : is_unsigned [] ≡ false
unfolding is_unsigned is_named same_word is_decimal begins after_one after_all
nothing = refl

or_false : (t : Bool) → (t || false) ≡ t
or_false true = refl
or_false false = refl

module _ (text : List ℕ) (from at : ℕ) (sign : at ≡ after_one_at is_sign text from) where
  same_end : first_not is_inner text at ≡ first_not is_inner text from
  same_end = ap (first_not is_inner text) sign ∙ scan_one is_sign is_inner sign_inner text from refl

  -- the sign is passed over, and what is left is unsigned
  signed : is_lexeme (part text from (first_not is_inner text from)) ≡ is_unsigned (part text at (first_not is_inner text at))
  unfolding is_lexeme
  signed = ap is_unsigned (part_one is_sign is_inner sign_inner text from refl ∙ ap₂ (part text) (sym sign) (sym same_end))

  pub lexeme_past : length text ≤ at → ◌≡◌ {A = Lexeme} (record { good = false; end = length text }) (up_to_stop is_lexeme text from)
  lexeme_past h =
      let short : first_not is_inner text at ≤ at = omega (arith, not_past is_inner text at) in
      same (sym (signed ∙ (ap is_unsigned (part_none text at (first_not is_inner text at) short) ∙ nothing))) (sym (past is_inner text at h) ∙ same_end)

  module _ (h : at < length text) where
    first : is_inner (get_or text at 0) ≡ true → part text at (first_not is_inner text at) ≡ get_or text at 0 ∷ part text (at + 1) (first_not is_inner text at)
    first t = part_first text at (first_not is_inner text at) h (omega (arith, on is_inner text at h t, not_before is_inner text (at + 1) (omega arith)))

    pub lexeme_decimal : (r : Lexeme) (digit : Bool) → digit ≡ is_digit (get_or text at 0) → (digit || is_point (get_or text at 0)) ≡ true → r ≡ from_here is_decimal text at → r ≡ up_to_stop is_lexeme text from
    unfolding is_unsigned
    lexeme_decimal r digit d f e =
        let t : (is_digit (get_or text at 0) || is_point (get_or text at 0)) ≡ true = rw d at f in
        let inner : is_inner (get_or text at 0) ≡ true = or_elim (is_digit (get_or text at 0)) (is_point (get_or text at 0)) (digit_inner (get_or text at 0)) (point_inner (get_or text at 0)) t in
        let bare : is_named (part text at (first_not is_inner text at)) ≡ false = ap is_named (first inner) ∙ not_named (get_or text at 0) _ t in
        e ∙ same (decimal_part text at (omega arith) ∙ sym (signed ∙ ap (λ (g : Bool). g || is_decimal is_nil (part text at (first_not is_inner text at))) bare)) same_end

    front : (p : ℕ → Bool) → p (get_or text at 0) ≡ false → begins p (part text at (first_not is_inner text at)) ≡ false
    unfolding begins
    front p n = go (dec_lt at (first_not is_inner text at))
      where
        go : Dec (at < first_not is_inner text at) → begins p (part text at (first_not is_inner text at)) ≡ false
        go (yes l) = rw (part_first text at (first_not is_inner text at) h l) n
        go (no l) = rw (part_none text at (first_not is_inner text at) (omega arith))

    pub lexeme_named : (end : ℕ) (good : Bool) → is_digit (get_or text at 0) ≡ false → is_point (get_or text at 0) ≡ false → end ≡ first_not is_inner text at → good ≡ is_named (part text at end) → ◌≡◌ {A = Lexeme} (record { good = good; end = end }) (up_to_stop is_lexeme text from)
    unfolding is_unsigned
    lexeme_named end good d p e g =
        let decimal = not_decimal (part text at (first_not is_inner text at)) (front is_digit d) (front is_point p) in
        same
        (g ∙ ap (λ (k : ℕ). is_named (part text at k)) e ∙ sym (signed ∙ (ap (λ (t : Bool). is_named (part text at (first_not is_inner text at)) || t) decimal ∙ or_false _)))
        (e ∙ same_end)

-- the whole of w is a lexeme exactly where the part up to the first stop is one and no stop stands in w
pub whole_is : (w : List ℕ) (r : Lexeme) → r ≡ up_to_stop is_lexeme w 0 → (r.good && leb (length w) r.end) ≡ is_lexeme w
whole_is w r e = rw e (go (leb (length w) (first_not is_inner w 0)) refl)
  where
    go : (t : Bool) → leb (length w) (first_not is_inner w 0) ≡ t → (is_lexeme (part w 0 (first_not is_inner w 0)) && t) ≡ is_lexeme w
    go true l = and-true _ ∙ ap is_lexeme (part_whole w (first_not is_inner w 0) (leb-true _ _ l))
    go false l = and_false (is_lexeme (part w 0 (first_not is_inner w 0))) ∙ sym (broken (is_lexeme w) refl)
      where
        broken : (t : Bool) → is_lexeme w ≡ t → t ≡ false
        broken true q = absurd (omega (arith, leb-false (length w) (first_not is_inner w 0) l, lexeme_whole w q))
        broken false q = refl

        and_false : (t : Bool) → (t && false) ≡ false
        and_false true = refl
        and_false false = refl
