-- Plain texts, told by their digits before and after the point; a text of digits, and one with a point.
-- Assumes nothing.
use mathlib.Core.Path.{◌≡◌, refl, sym, ap, ap₂, ◌∙◌}
use mathlib.Core.Bool.{Bool, true, false, not, ◌||◌}
use mathlib.Core.List.{List, [], ◌∷◌, ◌++◌}
use Prim.Native.Nat.{ℕ, ◌+◌, ◌-◌, ◌*◌, ◌^◌, ◌≤◌, ◌<◌, min}
use native.Mathlib.Nat.{zero-mul, add-zero, pow-le-pow_right, zero-lt-suc}
use native.Mathlib.Omega.{arith}
use lib.Dec.{eqb}
use lib.ListN.{length, take, drop, get_or, length-drop, length-take}
use lib.Seq.{drop-drop, get_or-drop, take-nil}
use borrow.Author.Tests.{eqb-false, not-false}
use Rattle.lists.specs.Lists.{every}
use Rattle.lists.proofs.Cases.{or_left}
use Rattle.lists.proofs.Lists.{every_head}
use Rattle.scan.specs.Bytes.{is_digit, is_sign, is_point}
use Rattle.scan.specs.Front.{rest, part, begins, after_one, after_all, is_nil}
use Rattle.scan.specs.Runs.{after_one_at}
use Rattle.scan.proofs.Front.{rest_zero, begins_at, one_yes, one_none}
use Rattle.scan.proofs.Runs.{rest_one}
use Rattle.scan.proofs.Bytes.{or_none}
use Rattle.number.specs.Lexeme.{is_e, after_whole, has_digit, is_plain}
use Rattle.number.proofs.Equal.{point_digit}
use Rattle.std.specs.Prelude.{Some}
use Rattle.decimal.specs.declared.Size.{Size}
use Rattle.decimal.specs.Decimal.{leading, value_of, is_minus, written}
use Rattle.decimal.specs.Units.{unit_places}
use Rattle.decimal.specs.Code.{any_left, fraction_of, PlainSize}
use Rattle.decimal.proofs.Value.{value_none, value_lt}
use Rattle.decimal.proofs.Exact.{plain_units, plain_left, fraction_small}
use Rattle.decimal.proofs.Digits.{leading_nil, leading_every, leading_all, after_all_every, rest_length}
use Rattle.decimal.proofs.Texts.{leading_fits, first_all, first_some, fraction_says}

-- ---- a plain text by its digits
no_exponent : value_of (leading is_digit (after_one is_sign (after_one is_e []))) ≡ 0
unfolding after_one
no_exponent = rw (leading_nil is_digit, value_none)

module _ (w whole behind : List ℕ) (dw : every is_digit whole ≡ true) (db : every is_digit behind ≡ true) (front : leading is_digit (after_one is_sign w) ≡ whole) (back : after_whole (after_one is_sign w) ≡ behind) (some : has_digit (after_one is_sign w) ≡ true) where
  plain_ends : after_all is_digit (after_whole (after_one is_sign w)) ≡ []
  plain_ends = ap (after_all is_digit) back ∙ after_all_every is_digit behind db

  plain_text : is_plain w ≡ true
  unfolding is_plain is_nil
  plain_text = rw (some, plain_ends)

  exponent_none : (written w).exponent ≡ 0
  unfolding written
  exponent_none = ap (λ (l : List ℕ). value_of (leading is_digit (after_one is_sign (after_one is_e l)))) plain_ends ∙ no_exponent

  plain_behind : leading is_digit (after_whole (after_one is_sign w)) ≡ behind
  plain_behind = ap (leading is_digit) back ∙ leading_all is_digit behind db

  digits_are : (written w).digits ≡ whole ++ behind
  unfolding written
  digits_are = ap₂ ◌++◌ front plain_behind

  places_are : (written w).places ≡ length behind
  unfolding written
  places_are = ap length plain_behind

  sign_is : (minus : Bool) → minus ≡ begins is_minus w → minus ≡ (written w).negative
  unfolding written
  sign_is minus e = e

  pub plain_size : (minus : Bool) (units : ℕ) (left : Bool) → minus ≡ begins is_minus w → units ≡ value_of whole * 10000000 + value_of (take unit_places behind) * 10 ^ (unit_places - length behind) → left ≡ any_left (drop unit_places behind) → PlainSize w minus units left
  plain_size minus units left m u r =
      record {
        plain = plain_text;
        sign = sign_is minus m;
        exponent = exponent_none;
        units = u ∙ plain_units (written w) whole behind dw db digits_are places_are exponent_none;
        left = r ∙ plain_left (written w) whole behind dw db digits_are places_are exponent_none;
      }

-- ---- a text's front within a window of ten bytes
module _ (w : List ℕ) (from to at : ℕ) (inside : from ≤ length w) (t : to ≡ from + min 10 (length w - from)) (a : at ≡ from + length (leading is_digit (part w from to))) where
  window_few : length (leading is_digit (part w from to)) ≤ 10
  window_few = omega (arith, leading_fits is_digit (part w from to), length-take (to - from) (drop from w))

  -- it reaches the end
  window_whole : length w ≤ at → (leading is_digit (part w from to) ≡ rest w from) × (every is_digit (rest w from) ≡ true)
  unfolding rest
  window_whole h = first_all is_digit (to - from) (drop from w) (omega (arith, length-drop from w))

  -- it ends before another byte
  window_some : at < length w → is_digit (get_or w at 0) ≡ false → (leading is_digit (rest w from) ≡ leading is_digit (part w from to)) × (after_all is_digit (rest w from) ≡ rest w at)
  unfolding rest
  window_some h f =
      let n = length (leading is_digit (part w from to)) in
      let g : is_digit (get_or (drop from w) n 0) ≡ false = ap is_digit (get_or-drop from w n 0 ∙ ap (λ (k : ℕ). get_or w k 0) (sym a)) ∙ f in
      let r = first_some is_digit (to - from) (drop from w) (omega (arith, length-drop from w)) g in
      (r.0, r.1 ∙ drop-drop n from w ∙ ap (λ (k : ℕ). drop k w) (sym a))

-- a list of bytes that all pass begins with one
begins_every : (p : ℕ → Bool) (l : List ℕ) → 0 < length l → every p l ≡ true → begins p l ≡ true
unfolding begins
begins_every p [] h e = absurd (omega arith)
begins_every p (b ∷ l) h e = every_head p b l e

leading_none : (p : ℕ → Bool) (l : List ℕ) → begins p l ≡ false → leading p l ≡ []
unfolding begins leading
leading_none p [] e = refl
leading_none p (b ∷ l) e = rw e

none_every : every is_digit [] ≡ true
unfolding every
none_every = refl

-- ---- what the code has told
module _ (w : List ℕ) (from : ℕ) (signed : from ≡ after_one_at is_sign w 0) where
  pub bare : rest w from ≡ after_one is_sign w
  bare = ap (rest w) signed ∙ rest_one is_sign w 0 refl ∙ ap (after_one is_sign) (rest_zero w)

  module _ (inside : from < length w) where
    pub minus_is : eqb (get_or w 0 0) 45 ≡ begins is_minus w
    minus_is = begins_at is_minus w 0 (omega arith) ∙ ap (begins is_minus) (rest_zero w)

    module _ (to at value : ℕ) (t : to ≡ from + min 10 (length w - from)) (v : value ≡ value_of (leading is_digit (part w from to))) (a : at ≡ from + length (leading is_digit (part w from to))) where
      pub told_small : value < 10000000000
      told_small =
          let few = window_few w from to at (omega arith) t a in
          let most : 10 ^ length (leading is_digit (part w from to)) ≤ 10 ^ 10 = pow-le-pow_right (zero-lt-suc 9) few in
          omega (arith, value_lt (leading is_digit (part w from to)) (leading_every is_digit (part w from to)))

      pub told_whole : length w ≤ at → PlainSize w (eqb (get_or w 0 0) 45) (value * 10000000) false
      unfolding every
      told_whole h =
          let both = window_whole w from to at (omega arith) t a h in
          let l = rest w from in
          let some : begins is_digit l ≡ true = begins_every is_digit l (omega (arith, rest_length w from)) both.1 in
          let none : value_of (take 7 []) * 10 ^ 7 ≡ 0 = rw (take-nil {A = ℕ} 7, value_none) (zero-mul (10 ^ 7)) in
          plain_size w l [] both.1 none_every
          (ap (leading is_digit) (sym bare) ∙ leading_all is_digit l both.1)
          (ap after_whole (sym bare) ∙ ap (after_one is_point) (after_all_every is_digit l both.1) ∙ one_none is_point)
          (ap has_digit (sym bare) ∙ or_left (begins is_digit l) (begins is_digit (after_whole l)) some)
          (eqb (get_or w 0 0) 45) (value * 10000000) false minus_is
          (ap (λ (n : ℕ). n * 10000000) (v ∙ ap value_of both.0) ∙ sym (ap (λ (n : ℕ). value_of l * 10000000 + n) none ∙ add-zero (value_of l * 10000000)))
          refl

      module _ (h : at < length w) (p : (not (is_point (get_or w at 0)) || eqb (length w - from) 1) ≡ false) where
        is_point_law : is_point (get_or w at 0) ≡ true
        is_point_law = not-false _ (or_none (not (is_point (get_or w at 0))) (eqb (length w - from) 1) p).0

        window : (leading is_digit (rest w from) ≡ leading is_digit (part w from to)) × (after_all is_digit (rest w from) ≡ rest w at)
        window = window_some w from to at (omega arith) t a h (point_digit (get_or w at 0) is_point_law)

        behind : after_whole (rest w from) ≡ rest w (at + 1)
        behind = ap (after_one is_point) window.1 ∙ sym (one_yes is_point w at h is_point_law)

        has_digit_law : every is_digit (rest w (at + 1)) ≡ true → has_digit (rest w from) ≡ true
        has_digit_law d = go (begins is_digit (rest w from)) refl
          where
            go : (s : Bool) → begins is_digit (rest w from) ≡ s → (s || begins is_digit (after_whole (rest w from))) ≡ true
            go true e = refl
            go false e =
                let none : length (leading is_digit (part w from to)) ≡ 0 = ap length (sym window.0 ∙ leading_none is_digit (rest w from) e) in
                let more : length w - from ≡ 1 → ⊥ = eqb-false (length w - from) 1 (or_none (not (is_point (get_or w at 0))) (eqb (length w - from) 1) p).1 in
                ap (begins is_digit) behind ∙ begins_every is_digit (rest w (at + 1)) (omega (arith, rest_length w (at + 1))) d

        pub told_point : (s : Size) → Some s ≡ fraction_of (rest w (at + 1)) → PlainSize w (eqb (get_or w 0 0) 45) (value * 10000000 + s.whole) s.rest
        told_point s f =
            let says = fraction_says s (rest w (at + 1)) f in
            plain_size w (leading is_digit (part w from to)) (rest w (at + 1)) (leading_every is_digit (part w from to)) says.digits
            (ap (leading is_digit) (sym bare) ∙ window.0)
            (ap after_whole (sym bare) ∙ behind)
            (ap has_digit (sym bare) ∙ has_digit_law says.digits)
            (eqb (get_or w 0 0) 45) (value * 10000000 + s.whole) s.rest minus_is
            (ap₂ (λ (n m : ℕ). n * 10000000 + m) v says.is)
            says.over

pub units_small : (s : Size) (l : List ℕ) → Some s ≡ fraction_of l → s.whole < 10000000
units_small s l f =
    let says = fraction_says s l f in
    rw says.is (fraction_small l says.digits)
