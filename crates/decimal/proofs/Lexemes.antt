-- What a text comes to as a number: by whether it is a lexeme, what its first byte behind the sign is, and its size.
-- Assumes nothing.
use mathlib.Core.Path.{◌≡◌, refl, sym, ap, ap₂, ◌∙◌}
use mathlib.Core.Bool.{Bool, true, false, cond, ◌||◌, false≢true, or-false}
use mathlib.Core.List.{List, [], ◌∷◌}
use Prim.Native.Nat.{ℕ, ◌+◌, ◌≤◌, ◌<◌}
use lib.Dec.{eqb, ltb}
use lib.ListN.{length, get_or}
use Rattle.lists.proofs.Cases.{and_both}
use Rattle.std.specs.Prelude.{Err}
use Rattle.rounding.specs.declared.NoSides.{NoSides}
use Rattle.rounding.specs.declared.NoSides.TheVariants.{Named, Beyond, NoNumber}
use Rattle.rounding.specs.Rounding.{is_over, rounded}
use Rattle.scan.specs.Bytes.{is_digit, is_sign, is_point}
use Rattle.scan.specs.Front.{rest, begins, after_one, after_all, is_nil}
use Rattle.scan.specs.Runs.{after_one_at}
use Rattle.scan.proofs.Front.{rest_in, rest_past, begins_at}
use Rattle.scan.proofs.Bytes.{or_none}
use Rattle.number.specs.Lexeme.{is_named, has_digit, is_decimal, is_unsigned, is_lexeme, is_plain}
use Rattle.number.proofs.Plain.{plain_lexeme}
use Rattle.number.proofs.Text.{nothing, not_named, not_decimal}
use Rattle.decimal.specs.Decimal.{Decimal, unsigned_decimal, written}
use Rattle.decimal.specs.Units.{whole_units, is_left, is_far, is_large, low, high}
use Rattle.decimal.specs.Reckon.{sides_of, reckoned}
use Rattle.decimal.specs.Code.{SizeIs, PlainSize, TellsSize}
use Rattle.decimal.proofs.Exact.{large_over}
use Rattle.decimal.proofs.Plainly.{bare, minus_is}

-- ---- what a size comes to
module _ (x : Decimal) (whole : ℕ) (left : Bool) (s : SizeIs x whole left) where
  size_sides : rounded x.negative whole left ≡ sides_of x
  unfolding rounded sides_of low high
  size_sides = go (is_over whole left) refl
    where
      go : (t : Bool) → is_over whole left ≡ t → rounded x.negative whole left ≡ sides_of x
      go true e = rw (s.near, ← s.over, e)
      go false e = rw (s.near, ← s.over, e, ← s.units e, ← s.left e)

-- a size has no sign
size_signed : (a b : Bool) (l : List ℕ) (whole : ℕ) (left : Bool) → SizeIs (unsigned_decimal a l) whole left → SizeIs (unsigned_decimal b l) whole left
unfolding whole_units is_left is_large
size_signed a b l whole left s = record { near = s.near; over = s.over; units = s.units; left = s.left }

-- ---- a plain text
module _ (w : List ℕ) (minus : Bool) (whole : ℕ) (left : Bool) (p : PlainSize w minus whole left) where
  plain_is_size : SizeIs (written w) whole left
  plain_is_size = record {
    near = ap (ltb 9999) p.exponent;
    over = ap₂ is_over p.units p.left ∙ sym (large_over (written w));
    units = λ e. p.units;
    left = λ e. p.left;
  }

  plain_no_name : (l : List ℕ) → has_digit l ≡ true → is_named l ≡ false
  unfolding begins after_one after_all
  plain_no_name [] e = absurd (false≢true e)
  plain_no_name (b ∷ l) e = not_named b l (go (is_digit b) refl (is_point b) refl e)
    where
      go : (d : Bool) → is_digit b ≡ d → (q : Bool) → is_point b ≡ q → (d || begins is_digit (after_one is_point (cond d (after_all is_digit l) (b ∷ l)))) ≡ true → (d || q) ≡ true
      go true f q g h = refl
      go false f true g h = refl
      go false f false g h = absurd (false≢true (sym (rw (g, f)) ∙ h))

  pub plain_reckoned : rounded minus whole left ≡ reckoned w
  unfolding reckoned is_plain
  plain_reckoned =
      let named : is_named (after_one is_sign w) ≡ false = plain_no_name (after_one is_sign w) (and_both (has_digit (after_one is_sign w)) _ p.plain).0 in
      ap (λ (t : Bool). rounded t whole left) p.sign ∙ size_sides (written w) whole left plain_is_size ∙ rw (plain_lexeme w p.plain, named)

-- ---- any text
pub no_lexeme : (w : List ℕ) → is_lexeme w ≡ false → Err NoNumber ≡ reckoned w
unfolding reckoned
no_lexeme w e = rw e

module _ (w : List ℕ) (from : ℕ) (signed : from ≡ after_one_at is_sign w 0) where
  pub only_sign : length w ≤ from → Err NoNumber ≡ reckoned w
  unfolding is_lexeme
  only_sign h = no_lexeme w (ap is_unsigned (sym (bare w from signed) ∙ rest_past w from h) ∙ nothing)

  module _ (h : from < length w) (digit : Bool) (d : digit ≡ is_digit (get_or w from 0)) where
    pub is_word : is_lexeme w ≡ true → (digit || is_point (get_or w from 0)) ≡ false → Err Named ≡ reckoned w
    unfolding reckoned is_lexeme is_unsigned
    is_word good f =
        let l = after_one is_sign w in
        let none = or_none digit (is_point (get_or w from 0)) f in
        let front : (p : ℕ → Bool) → p (get_or w from 0) ≡ false → begins p l ≡ false = λ p e. ap (begins p) (sym (bare w from signed)) ∙ sym (begins_at p w from h) ∙ e in
        let decimal : is_decimal is_nil l ≡ false = not_decimal l (front is_digit (sym d ∙ none.0)) (front is_point none.1) in
        let named : is_named l ≡ true = sym (or-false (is_named l)) ∙ ap (λ (t : Bool). is_named l || t) (sym decimal) ∙ good in
        rw (good, named)

    module _ (t : (digit || is_point (get_or w from 0)) ≡ true) where
      no_word : is_named (after_one is_sign w) ≡ false
      no_word = ap is_named (sym (bare w from signed) ∙ rest_in w from h) ∙ not_named (get_or w from 0) (rest w (from + 1)) (rw d at t)

      -- it is a number's text where it is a decimal
      lexeme_is : is_lexeme w ≡ is_decimal is_nil (rest w from)
      unfolding is_lexeme is_unsigned
      lexeme_is = ap (λ (b : Bool). b || is_decimal is_nil (after_one is_sign w)) no_word ∙ ap (is_decimal is_nil) (sym (bare w from signed))

      pub no_decimal : is_decimal is_nil (rest w from) ≡ false → Err NoNumber ≡ reckoned w
      no_decimal f = no_lexeme w (lexeme_is ∙ f)

      module _ (v : is_decimal is_nil (rest w from) ≡ true) where
        is_decimal_law : sides_of (written w) ≡ reckoned w
        unfolding reckoned
        is_decimal_law = rw (lexeme_is ∙ v, no_word)

        written_is : written w ≡ unsigned_decimal (eqb (get_or w 0 0) 45) (rest w from)
        unfolding written
        written_is = ap₂ unsigned_decimal (sym (minus_is w from signed h)) (sym (bare w from signed))

        pub is_sized_law : (whole : ℕ) (left : Bool) → SizeIs (unsigned_decimal false (rest w from)) whole left → rounded (eqb (get_or w 0 0) 45) whole left ≡ reckoned w
        is_sized_law whole left s =
            size_sides (unsigned_decimal (eqb (get_or w 0 0) 45) (rest w from)) whole left (size_signed false (eqb (get_or w 0 0) 45) (rest w from) whole left s) ∙ ap sides_of (sym written_is) ∙ is_decimal_law

        pub is_far_law : is_far (unsigned_decimal false (rest w from)) ≡ true → Err Beyond ≡ reckoned w
        unfolding sides_of
        is_far_law f = sym (ap sides_of written_is ∙ rw f) ∙ is_decimal_law

      -- where it has no size
      pub refused : (e : NoSides) → TellsSize (rest w from) (Err e) → Err e ≡ reckoned w
      refused Named t = absurd t
      refused Beyond t = is_far_law t.0 t.1
      refused NoNumber t = no_decimal t
