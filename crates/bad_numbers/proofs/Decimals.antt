-- A decimal byte by byte: how far it has come, as a state; a decimal is read exactly where its last state is a whole one, and can go on exactly where it isn't stuck.
-- Assumes nothing.
use mathlib.Core.Path.{◌≡◌, refl, sym, ap, ◌∙◌}
use mathlib.Core.Bool.{Bool, true, false, cond, ◌||◌, ◌&&◌}
use mathlib.Core.List.{List, [], ◌∷◌, ◌++◌}
use Prim.Native.Nat.{ℕ}
use Rattle.scan.specs.Bytes.{is_digit, is_sign, is_point}
use Rattle.scan.specs.Front.{begins, after_one, after_all, is_nil}
use Rattle.number.specs.Lexeme.{is_e, after_whole, is_digits, is_exponent, is_decimal}
use Rattle.bad_numbers.specs.Openings.{opens_decimal}

-- nothing yet; digits; a point and no digit; digits and a point; `e`; `e` and a sign; an exponent's digits; no decimal begins so
pub data State : Type 0 where
  none_yet digits lone_point fraction after_e_law after_e_sign exponent stuck : State

-- behind one byte more
abbrev pub next : State → ℕ → State
next none_yet b = cond (is_digit b) digits (cond (is_point b) lone_point stuck)
next digits b = cond (is_digit b) digits (cond (is_point b) fraction (cond (is_e b) after_e_law stuck))
next lone_point b = cond (is_digit b) fraction stuck
next fraction b = cond (is_digit b) fraction (cond (is_e b) after_e_law stuck)
next after_e_law b = cond (is_sign b) after_e_sign (cond (is_digit b) exponent stuck)
next after_e_sign b = cond (is_digit b) exponent stuck
next exponent b = cond (is_digit b) exponent stuck
next stuck b = stuck

unfoldable pub after : State → List ℕ → State
after q [] = q
after q (b ∷ l) = after (next q b) l

-- a decimal may end here
abbrev is_whole : State → Bool
is_whole none_yet = false
is_whole digits = true
is_whole lone_point = false
is_whole fraction = true
is_whole after_e_law = false
is_whole after_e_sign = false
is_whole exponent = true
is_whole stuck = false

-- and here it can go on
abbrev pub is_live : State → Bool
is_live none_yet = true
is_live digits = true
is_live lone_point = true
is_live fraction = true
is_live after_e_law = true
is_live after_e_sign = true
is_live exponent = true
is_live stuck = false

pub after_stuck : (l : List ℕ) → after stuck l ≡ stuck
unfolding after
after_stuck [] = refl
after_stuck (b ∷ l) = after_stuck l

pub after_append : (q : State) (x y : List ℕ) → after q (x ++ y) ≡ after (after q x) y
unfolding after
after_append q [] y = refl
after_append q (b ∷ x) y = after_append (next q b) x y

stays_stuck : (l : List ℕ) → is_whole (after stuck l) ≡ false
stays_stuck l = ap is_whole (after_stuck l)

-- ---- a decimal is what ends in a whole state: of each state what is still to come
exponent_is : (l : List ℕ) → is_whole (after exponent l) ≡ is_nil (after_all is_digit l)
unfolding after after_all is_nil
exponent_is [] = refl
exponent_is (b ∷ l) = go (is_digit b) (exponent_is l)
  where
    go : (d : Bool) → is_whole (after exponent l) ≡ is_nil (after_all is_digit l) → is_whole (after (cond d exponent stuck) l) ≡ is_nil (cond d (after_all is_digit l) (b ∷ l))
    go true h = h
    go false h = stays_stuck l

sign_is : (l : List ℕ) → is_whole (after after_e_sign l) ≡ is_digits is_nil l
unfolding after is_digits begins after_all is_nil
sign_is [] = refl
sign_is (b ∷ l) = go (is_digit b)
  where
    go : (d : Bool) → is_whole (after (cond d exponent stuck) l) ≡ (d && is_nil (cond d (after_all is_digit l) (b ∷ l)))
    go true = exponent_is l
    go false = stays_stuck l

e_is : (l : List ℕ) → is_whole (after after_e_law l) ≡ is_digits is_nil (after_one is_sign l)
unfolding after after_one is_digits begins
e_is [] = refl
e_is (b ∷ l) = go (is_sign b)
  where
    go : (s : Bool) → is_whole (after (cond s after_e_sign (cond (is_digit b) exponent stuck)) l) ≡ is_digits is_nil (cond s l (b ∷ l))
    go true = sign_is l
    go false = sign_is (b ∷ l)

-- behind `e`, if it stands there; else nothing may follow
e_or_end : (b : ℕ) (l : List ℕ) → is_whole (after (cond (is_e b) after_e_law stuck) l) ≡ is_exponent is_nil (b ∷ l)
unfolding is_exponent is_nil begins after_one
e_or_end b l = go (is_e b)
  where
    go : (t : Bool) → is_whole (after (cond t after_e_law stuck) l) ≡ (t && is_digits is_nil (after_one is_sign (cond t l (b ∷ l))))
    go true = e_is l
    go false = stays_stuck l

fraction_is : (l : List ℕ) → is_whole (after fraction l) ≡ is_exponent is_nil (after_all is_digit l)
unfolding after after_all is_exponent is_nil
fraction_is [] = refl
fraction_is (b ∷ l) = go (is_digit b) (fraction_is l)
  where
    go : (d : Bool) → is_whole (after fraction l) ≡ is_exponent is_nil (after_all is_digit l) → is_whole (after (cond d fraction (cond (is_e b) after_e_law stuck)) l) ≡ is_exponent is_nil (cond d (after_all is_digit l) (b ∷ l))
    go true h = h
    go false h = e_or_end b l

digits_is : (l : List ℕ) → is_whole (after digits l) ≡ is_exponent is_nil (after_all is_digit (after_whole l))
unfolding after after_all after_one is_exponent is_nil
digits_is [] = refl
digits_is (b ∷ l) = go (is_digit b) refl (digits_is l)
  where
    point : is_digit b ≡ false → (t : Bool) → is_whole (after (cond t fraction (cond (is_e b) after_e_law stuck)) l) ≡ is_exponent is_nil (after_all is_digit (cond t l (b ∷ l)))
    point n true = fraction_is l
    point n false = rw n (e_or_end b l)

    go : (d : Bool) → is_digit b ≡ d → is_whole (after digits l) ≡ is_exponent is_nil (after_all is_digit (after_whole l)) → is_whole (after (cond d digits (cond (is_point b) fraction (cond (is_e b) after_e_law stuck))) l) ≡ is_exponent is_nil (after_all is_digit (after_one is_point (cond d (after_all is_digit l) (b ∷ l))))
    go true e h = h
    go false e h = point e (is_point b)

point_is : (l : List ℕ) → is_whole (after lone_point l) ≡ (begins is_digit l && is_exponent is_nil (after_all is_digit l))
unfolding after begins after_all
point_is [] = refl
point_is (b ∷ l) = go (is_digit b)
  where
    go : (d : Bool) → is_whole (after (cond d fraction stuck) l) ≡ (d && is_exponent is_nil (cond d (after_all is_digit l) (b ∷ l)))
    go true = fraction_is l
    go false = stays_stuck l

pub decimal_is : (l : List ℕ) → is_whole (after none_yet l) ≡ is_decimal is_nil l
unfolding after is_decimal begins after_all after_one
decimal_is [] = refl
decimal_is (b ∷ l) = go (is_digit b) refl
  where
    point : is_digit b ≡ false → (t : Bool) → is_whole (after (cond t lone_point stuck) l) ≡ (begins is_digit (cond t l (b ∷ l)) && is_exponent is_nil (after_all is_digit (cond t l (b ∷ l))))
    point n true = point_is l
    point n false = rw n (stays_stuck l)

    go : (d : Bool) → is_digit b ≡ d → is_whole (after (cond d digits (cond (is_point b) lone_point stuck)) l) ≡ ((d || begins is_digit (after_one is_point (cond d (after_all is_digit l) (b ∷ l)))) && is_exponent is_nil (after_all is_digit (after_one is_point (cond d (after_all is_digit l) (b ∷ l)))))
    go true e = digits_is l
    go false e = point e (is_point b)

-- ---- one digit more makes a decimal of whatever can go on
digit_ends : (q : State) → is_whole (next q 48) ≡ is_live q
digit_ends none_yet = refl
digit_ends digits = refl
digit_ends lone_point = refl
digit_ends fraction = refl
digit_ends after_e_law = refl
digit_ends after_e_sign = refl
digit_ends exponent = refl
digit_ends stuck = refl

pub opens_live : (x : List ℕ) → opens_decimal x ≡ is_live (after none_yet x)
unfolding opens_decimal after
opens_live x = sym (decimal_is (x ++ 48 ∷ [])) ∙ ap is_whole (after_append none_yet x (48 ∷ [])) ∙ digit_ends (after none_yet x)

-- a decimal can go on from each of its beginnings
whole_live : (q : State) → is_whole q ≡ true → is_live q ≡ true
whole_live none_yet e = refl
whole_live digits e = refl
whole_live lone_point e = refl
whole_live fraction e = refl
whole_live after_e_law e = refl
whole_live after_e_sign e = refl
whole_live exponent e = refl
whole_live stuck e = e

was_live : (q : State) (y : List ℕ) → is_live (after q y) ≡ true → is_live q ≡ true
was_live none_yet y e = refl
was_live digits y e = refl
was_live lone_point y e = refl
was_live fraction y e = refl
was_live after_e_law y e = refl
was_live after_e_sign y e = refl
was_live exponent y e = refl
was_live stuck y e = sym (ap is_live (after_stuck y)) ∙ e

-- what a decimal can begin with has only such beginnings
pub decimal_front : (x y : List ℕ) → opens_decimal (x ++ y) ≡ true → opens_decimal x ≡ true
decimal_front x y e = opens_live x ∙ was_live (after none_yet x) y (ap is_live (sym (after_append none_yet x y)) ∙ sym (opens_live (x ++ y)) ∙ e)

pub decimal_opens : (x y : List ℕ) → is_decimal is_nil (x ++ y) ≡ true → opens_decimal x ≡ true
decimal_opens x y e =
    opens_live x ∙ was_live (after none_yet x) y (whole_live (after (after none_yet x) y) (ap is_whole (sym (after_append none_yet x y)) ∙ decimal_is (x ++ y) ∙ e))
