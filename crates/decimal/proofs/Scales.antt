-- A decimal by the places in its text where its digits, its point and its exponent stand: what is kept of it comes to its size.
-- Assumes nothing.
use mathlib.Core.Path.{◌≡◌, refl, sym, ap, ap₂, ◌∙◌}
use mathlib.Core.Bool.{Bool, true, false, cond, ◌&&◌, ◌||◌, and-false}
use mathlib.Core.List.{List, ◌++◌}
use Prim.Native.Nat.{ℕ, ◌+◌, ◌-◌, ◌≤◌, ◌<◌, min}
use native.Mathlib.Omega.{arith}
use lib.Dec.{ltb}
use lib.ListN.{length}
use borrow.Author.Tests.{lt-ltb, le-ltb}
use Rattle.lists.specs.Lists.{every}
use Rattle.scan.specs.Bytes.{is_digit, is_point}
use Rattle.scan.specs.Front.{rest, begins, after_one, after_all, is_nil}
use Rattle.scan.specs.Runs.{after_one_at}
use Rattle.scan.proofs.Runs.{moves, rest_run, rest_one, not_past, one_not_before, one_not_past}
use Rattle.number.specs.Lexeme.{after_whole, has_digit, is_exponent, is_decimal}
use Rattle.number.proofs.Plain.{every_append}
use Rattle.std.specs.Prelude.{Option, Some, None, is_some}
use Rattle.decimal.specs.declared.Kept.{Kept}
use Rattle.decimal.specs.declared.Size.{Size}
use Rattle.decimal.specs.declared.Exponent.{Exponent}
use Rattle.decimal.specs.Decimal.{leading, value_of, is_minus, behind_e, exponent_digits, unsigned_decimal}
use Rattle.decimal.specs.Units.{is_far}
use Rattle.decimal.specs.Code.{kept, keep_all, Keeps, exponent_said, exponent_of, size_of, SizeIs}
use Rattle.decimal.proofs.Sizes.{SameDigits, keep_both}
use Rattle.decimal.proofs.Exact.{kept_size_by}
use Rattle.decimal.proofs.Digits.{leading_every}
use Rattle.decimal.proofs.Texts.{ends_at, exponent_none, exponent_some, some_exponent}

module _ (w : List ℕ) (from : ℕ) (whole : Kept) (kw : Keeps w (kept 0 0 false from) whole) (first : ℕ) (f : first ≡ after_one_at is_point w whole.end) where
  digits_at : rest w whole.end ≡ after_all is_digit (rest w from)
  digits_at = ap (rest w) kw.end ∙ rest_run is_digit w from

  first_at_law : rest w first ≡ after_whole (rest w from)
  first_at_law = ap (rest w) f ∙ rest_one is_point w whole.end refl ∙ ap (after_one is_point) digits_at

  -- the place behind the point is no place past the end
  pub first_inside : first ≤ length w
  first_inside = rw f (one_not_past is_point w whole.end refl (rw kw.end (not_past is_digit w from)))

  pub first_later : whole.end ≤ first
  first_later = rw f (one_not_before is_point w whole.end refl)

  module _ (all : Kept) (ka : Keeps w (kept whole.value whole.dropped whole.rest first) all) where
    ends : all.end ≡ first + length (leading is_digit (rest w first))
    ends = ka.end ∙ ends_at is_digit w first first_inside

    pub all_later : first ≤ all.end
    all_later = omega (arith, ends)

    pub all_inside : all.end ≤ length w
    all_inside = rw ka.end (not_past is_digit w first)

    places : all.end - first ≡ length (leading is_digit (after_whole (rest w from)))
    places =
        let n : all.end - first ≡ length (leading is_digit (rest w first)) = omega (arith, ends) in
        n ∙ ap (λ (l : List ℕ). length (leading is_digit l)) first_at_law

    all_at : rest w all.end ≡ after_all is_digit (after_whole (rest w from))
    all_at = ap (rest w) ka.end ∙ rest_run is_digit w first ∙ ap (after_all is_digit) first_at_law

    digit_is : (ltb from whole.end || ltb first all.end) ≡ has_digit (rest w from)
    digit_is = ap₂ ◌||◌ (ap (ltb from) kw.end ∙ moves is_digit w from) (ap (ltb first) ka.end ∙ moves is_digit w first ∙ ap (begins is_digit) first_at_law)

    pub no_digit : (ltb from whole.end || ltb first all.end) ≡ false → is_decimal is_nil (rest w from) ≡ false
    unfolding is_decimal
    no_digit f = ap (λ (t : Bool). t && is_exponent is_nil (after_all is_digit (after_whole (rest w from)))) (sym digit_is ∙ f)

    pub no_exponent : None ≡ exponent_of (rest w all.end) → is_decimal is_nil (rest w from) ≡ false
    unfolding is_decimal
    no_exponent e = ap (λ (t : Bool). has_digit (rest w from) && t) (sym (ap (is_exponent is_nil) all_at) ∙ exponent_none (rest w all.end) e) ∙ and-false (has_digit (rest w from))

    -- whether it is a decimal: a digit before the point or behind it, and then an exponent or the end
    pub decimal_is : (x : Option Exponent) → x ≡ exponent_of (rest w all.end) → ((ltb from whole.end || ltb first all.end) && is_some x) ≡ is_decimal is_nil (rest w from)
    unfolding is_decimal
    decimal_is x e = ap₂ ◌&&◌ digit_is (ap is_some e ∙ some_exponent (rest w all.end) ∙ ap (is_exponent is_nil) all_at)

    pub decimal_yes : (x : Exponent) → Some x ≡ exponent_of (rest w all.end) → (ltb from whole.end || ltb first all.end) ≡ true → is_decimal is_nil (rest w from) ≡ true
    unfolding is_decimal
    decimal_yes x e t = ap₂ ◌&&◌ (sym digit_is ∙ t) (sym (ap (is_exponent is_nil) all_at) ∙ exponent_some x (rest w all.end) e)

    -- its size, by what the bytes behind its digits say, be they an exponent or not
    module _ (x : Exponent) (e : x ≡ exponent_said (rest w all.end)) where
      lowers_is : x.lowers ≡ begins is_minus (behind_e (rest w from))
      unfolding exponent_said
      lowers_is = ap (λ (k : Exponent). k.lowers) (e ∙ ap exponent_said all_at)

      size_is : x.size ≡ min (value_of (exponent_digits (rest w from))) 10000
      unfolding exponent_said
      size_is = ap (λ (k : Exponent). k.size) (e ∙ ap exponent_said all_at)

      pub size_far : 9999 < x.size → is_far (unsigned_decimal false (rest w from)) ≡ true
      size_far h = lt-ltb 9999 (value_of (exponent_digits (rest w from))) (omega (arith, size_is))

      module _ (h : x.size ≤ 9999) where
        size_near : is_far (unsigned_decimal false (rest w from)) ≡ false
        size_near = le-ltb 9999 (value_of (exponent_digits (rest w from))) (omega (arith, size_is))

        exponent_is : x.size ≡ value_of (exponent_digits (rest w from))
        exponent_is = omega (arith, size_is)

        digits_every : every is_digit (leading is_digit (rest w from) ++ leading is_digit (after_whole (rest w from))) ≡ true
        digits_every = every_append is_digit (leading is_digit (rest w from)) (leading is_digit (after_whole (rest w from))) ∙ ap₂ ◌&&◌ (leading_every is_digit (rest w from)) (leading_every is_digit (after_whole (rest w from)))

        same_digits : SameDigits all (keep_all (kept 0 0 false from) (leading is_digit (rest w from) ++ leading is_digit (after_whole (rest w from))))
        same_digits = rw (ka.is ∙ ap (λ (l : List ℕ). keep_all (kept whole.value whole.dropped whole.rest first) (leading is_digit l)) first_at_law) (keep_both from first (leading is_digit (rest w from)) (leading is_digit (after_whole (rest w from))) whole kw.is)

        sized : (up down : ℕ) (s : Size) → up ≡ all.dropped + 7 + cond x.lowers 0 x.size → down ≡ all.end - first + cond x.lowers x.size 0 → s ≡ size_of all up down → SizeIs (unsigned_decimal false (rest w from)) s.whole s.rest
        sized up down s u d is =
            kept_size_by (unsigned_decimal false (rest w from)) all from up down s digits_every same_digits.value same_digits.dropped same_digits.rest size_near
            (u ∙ ap₂ (λ (t : Bool) (n : ℕ). all.dropped + 7 + cond t 0 n) lowers_is exponent_is)
            (d ∙ ap (λ (n : ℕ). n + cond x.lowers x.size 0) places ∙ ap₂ (λ (t : Bool) (n : ℕ). length (leading is_digit (after_whole (rest w from))) + cond t n 0) lowers_is exponent_is)
            is

        pub size_lowered : (s : Size) → x.lowers ≡ true → s ≡ size_of all (all.dropped + 7) (all.end - first + x.size) → SizeIs (unsigned_decimal false (rest w from)) s.whole s.rest
        size_lowered s t is = sized (all.dropped + 7) (all.end - first + x.size) s (rw t (omega arith)) (rw t) is

        pub size_raised : (s : Size) → x.lowers ≡ false → s ≡ size_of all (all.dropped + 7 + x.size) (all.end - first) → SizeIs (unsigned_decimal false (rest w from)) s.whole s.rest
        size_raised s t is = sized (all.dropped + 7 + x.size) (all.end - first) s (rw t) (rw t (omega arith)) is
