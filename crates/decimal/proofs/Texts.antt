-- The digits at the front of a text, by where they end, and its parts: digits after a point, and an exponent.
-- Assumes nothing.
use mathlib.Core.Path.{◌≡◌, refl, sym, ap, ap₂, ◌∙◌}
use mathlib.Core.Bool.{Bool, true, false, cond, ◌&&◌, ◌||◌, and_assoc}
use mathlib.Core.List.{List, [], ◌∷◌, ◌++◌}
use Prim.Native.Nat.{ℕ, zero, suc, ◌+◌, ◌-◌, ◌*◌, ◌^◌, ◌≤◌, ◌<◌, min}
use native.Mathlib.Nat.{mul-one}
use native.Mathlib.Omega.{arith}
use lib.ListN.{length, take, drop, get_or, length-drop, take-append-drop, drop_of_length-le}
use lib.Dec.{leb, ltb}
use borrow.Author.Tests.{lt-leb}
use lib.Seq.{take_all, drop-drop}
use Rattle.lists.specs.Lists.{every}
use Rattle.scan.specs.Bytes.{is_digit, is_sign}
use Rattle.scan.specs.Front.{rest, part, begins, after_one, after_all, is_nil}
use Rattle.scan.specs.Runs.{run, first_not, after_one_at}
use Rattle.scan.proofs.Front.{rest_past, tail_part, nil_at, begins_at}
use Rattle.scan.proofs.Runs.{rest_one, rest_run, moves, one_not_past}
use Rattle.number.specs.Lexeme.{is_e, is_digits, is_exponent}
use Rattle.number.proofs.Plain.{every_append}
use Rattle.std.specs.Prelude.{Some, None, is_some}
use Rattle.decimal.specs.declared.Exponent.{Exponent}
use Rattle.decimal.specs.declared.Size.{Size}
use Rattle.decimal.specs.Decimal.{leading, value_of, is_minus}
use Rattle.decimal.specs.Code.{any_left, tail_of, number_of, size, fraction_of, exponent, exponent_said, exponent_of}
use Rattle.decimal.proofs.Value.{value_none, value_lt}
use Rattle.decimal.proofs.Digits.{leading_nil, leading_every, leading_all, rest_length}

-- ---- the leading bytes of a list's first n
module _ (p : ℕ → Bool) where
  pub leading_fits : (l : List ℕ) → length (leading p l) ≤ length l
  unfolding leading
  leading_fits [] = omega arith
  leading_fits (b ∷ l) = go (p b) (leading_fits l)
    where
      go : (t : Bool) → length (leading p l) ≤ length l → length (cond t (b ∷ leading p l) []) ≤ suc (length l)
      go true h = omega arith
      go false h = omega arith

  leading_run : (l : List ℕ) → run p l ≡ length (leading p l)
  unfolding leading run
  leading_run [] = refl
  leading_run (b ∷ l) = go (p b) (leading_run l)
    where
      go : (t : Bool) → run p l ≡ length (leading p l) → cond t (suc (run p l)) 0 ≡ length (cond t (b ∷ leading p l) [])
      go true h = ap suc h
      go false h = refl

  pub ends_at : (w : List ℕ) (i : ℕ) → i ≤ length w → first_not p w i ≡ i + length (leading p (rest w i))
  unfolding first_not rest
  ends_at w i h = omega (arith, leading_run (drop i w))

  -- they are all bytes, where none is left
  pub first_all : (n : ℕ) (l : List ℕ) → length l ≤ length (leading p (take n l)) → (leading p (take n l) ≡ l) × (every p l ≡ true)
  unfolding leading every
  first_all zero [] h = (refl, refl)
  first_all zero (b ∷ l) h = absurd (omega arith)
  first_all (suc n) [] h = (refl, refl)
  first_all (suc n) (b ∷ l) h = go (p b) refl h (first_all n l)
    where
      go :
          (t : Bool) → p b ≡ t → suc (length l) ≤ length (cond t (b ∷ leading p (take n l)) []) →
          (length l ≤ length (leading p (take n l)) → (leading p (take n l) ≡ l) × (every p l ≡ true)) → (cond t (b ∷ leading p (take n l)) [] ≡ b ∷ l) × ((t && every p l) ≡ true)
      go true e k r = let both = r (omega arith) in (ap (λ (m : List ℕ). b ∷ m) both.0, both.1)
      go false e k r = absurd (omega arith)

  -- they are all leading bytes of the list, where the next one fails
  pub first_some : (n : ℕ) (l : List ℕ) → length (leading p (take n l)) < length l → p (get_or l (length (leading p (take n l))) 0) ≡ false → (leading p l ≡ leading p (take n l)) × (after_all p l ≡ drop (length (leading p (take n l))) l)
  unfolding leading after_all
  first_some zero [] h t = absurd (omega arith)
  first_some zero (b ∷ l) h t = rw t (refl, refl)
  first_some (suc n) [] h t = absurd (omega arith)
  first_some (suc n) (b ∷ l) h t = go (p b) refl h t (first_some n l)
    where
      go :
          (s : Bool) → p b ≡ s → length (cond s (b ∷ leading p (take n l)) []) < suc (length l) → p (get_or (b ∷ l) (length (cond s (b ∷ leading p (take n l)) [])) 0) ≡ false →
          (length (leading p (take n l)) < length l → p (get_or l (length (leading p (take n l))) 0) ≡ false → (leading p l ≡ leading p (take n l)) × (after_all p l ≡ drop (length (leading p (take n l))) l)) →
          (cond s (b ∷ leading p l) [] ≡ cond s (b ∷ leading p (take n l)) []) × (cond s (after_all p l) (b ∷ l) ≡ drop (length (cond s (b ∷ leading p (take n l)) [])) (b ∷ l))
      go true e k f r = let both = r (omega arith) f in (ap (λ (m : List ℕ). b ∷ m) both.0, both.1)
      go false e k f r = (refl, refl)

-- ---- an exponent
exponent_is : (l : List ℕ) (x : Exponent) → is_exponent is_nil l ≡ true → x ≡ exponent_said l → Some x ≡ exponent_of l
unfolding exponent_of
exponent_is l x t e = rw t (ap Some e)

exponent_no : (l : List ℕ) → is_exponent is_nil l ≡ false → None ≡ exponent_of l
unfolding exponent_of
exponent_no l t = rw t

-- one that is told is what the bytes say
pub exponent_says : (x : Exponent) (l : List ℕ) → Some x ≡ exponent_of l → x ≡ exponent_said l
unfolding exponent_of
exponent_says x l e = go (is_exponent is_nil l) e
  where
    go : (t : Bool) → Some x ≡ cond t (Some (exponent_said l)) None → x ≡ exponent_said l
    go true q = cc
    go false q = cc

pub some_exponent : (l : List ℕ) → is_some (exponent_of l) ≡ is_exponent is_nil l
unfolding exponent_of
some_exponent l = go (is_exponent is_nil l)
  where
    go : (t : Bool) → is_some (cond t (Some (exponent_said l)) None) ≡ t
    go true = refl
    go false = refl

pub exponent_none : (l : List ℕ) → None ≡ exponent_of l → is_exponent is_nil l ≡ false
exponent_none l e = sym (some_exponent l) ∙ ap is_some (sym e)

pub exponent_some : (x : Exponent) (l : List ℕ) → Some x ≡ exponent_of l → is_exponent is_nil l ≡ true
exponent_some x l e = sym (some_exponent l) ∙ ap is_some (sym e)

module _ (w : List ℕ) (at : ℕ) where
  pub exponent_past : length w ≤ at → Some (exponent false 0) ≡ exponent_of (rest w at)
  unfolding exponent_of exponent_said is_exponent is_nil begins after_one
  exponent_past h = rw (rest_past w at h, leading_nil is_digit, value_none)

  -- it is one and ends the text: its `e`, and digits up to the end
  exponent_good : at < length w → (is_e_law : Bool) (first end : ℕ) → is_e_law ≡ is_e (get_or w at 0) → rest w first ≡ after_one is_sign (after_one is_e (rest w at)) → end ≡ first_not is_digit w first →
      ((is_e_law && ltb first end) && leb (length w) end) ≡ is_exponent is_nil (rest w at)
  unfolding is_exponent is_digits
  exponent_good h is_e_law first end e d n =
      let l : List ℕ = rest w at in
      let digits : List ℕ = after_one is_sign (after_one is_e l) in
      let some : ltb first end ≡ begins is_digit digits = ap (ltb first) n ∙ moves is_digit w first ∙ ap (begins is_digit) d in
      let last : leb (length w) end ≡ is_nil (after_all is_digit digits) = nil_at w end ∙ ap is_nil (ap (rest w) n ∙ rest_run is_digit w first ∙ ap (after_all is_digit) d) in
      let more : is_nil l ≡ false = sym (nil_at w at) ∙ lt-leb (length w) at h in
      and_assoc is_e_law (ltb first end) (leb (length w) end)
      ∙ ap₂ ◌&&◌ (e ∙ begins_at is_e w at h) (ap₂ ◌&&◌ some last)
      ∙ sym (ap (λ (t : Bool). t || (begins is_e l && (begins is_digit digits && is_nil (after_all is_digit digits)))) more)

  -- no `e` stands there
  pub exponent_other : at < length w → is_e (get_or w at 0) ≡ false → None ≡ exponent_of (rest w at)
  unfolding is_exponent
  exponent_other h e =
      let more : is_nil (rest w at) ≡ false = sym (nil_at w at) ∙ lt-leb (length w) at h in
      let front : begins is_e (rest w at) ≡ false = sym (begins_at is_e w at h) ∙ e in
      exponent_no (rest w at) (rw (more, front))

  module _ (sign first : ℕ) (s : sign ≡ after_one_at is_e w at) (f : first ≡ after_one_at is_sign w sign) where
    behind_e_law : rest w sign ≡ after_one is_e (rest w at)
    behind_e_law = ap (rest w) s ∙ rest_one is_e w at refl

    digits_law : rest w first ≡ after_one is_sign (after_one is_e (rest w at))
    digits_law = ap (rest w) f ∙ rest_one is_sign w sign refl ∙ ap (after_one is_sign) behind_e_law

    -- what the bytes there say, be they an exponent or not
    pub said_at : (lowers : Bool) (size : ℕ) → lowers ≡ begins is_minus (rest w sign) → size ≡ min (value_of (leading is_digit (rest w first))) 10000 → exponent lowers size ≡ exponent_said (rest w at)
    unfolding exponent_said
    said_at lowers size m v = ap₂ exponent (m ∙ ap (begins is_minus) behind_e_law) (v ∙ ap (λ (l : List ℕ). min (value_of (leading is_digit l)) 10000) digits_law)

  module _ (h : at < length w) (e : is_e (get_or w at 0) ≡ true) (sign first end : ℕ) (s : sign ≡ after_one_at is_e w at) (f : first ≡ after_one_at is_sign w sign) (n : end ≡ first_not is_digit w first) where
    good_law : (ltb first end && leb (length w) end) ≡ is_exponent is_nil (rest w at)
    good_law = exponent_good h true first end (sym e) (digits_law sign first s f) n

    -- no digits stand behind it, or more than them
    pub exponent_bad : (ltb first end && leb (length w) end) ≡ false → None ≡ exponent_of (rest w at)
    exponent_bad t = exponent_no (rest w at) (sym good_law ∙ t)

    pub exponent_at : (lowers : Bool) (size : ℕ) → lowers ≡ begins is_minus (rest w sign) → size ≡ min (value_of (leading is_digit (rest w first))) 10000 → (ltb first end && leb (length w) end) ≡ true → Some (exponent lowers size) ≡ exponent_of (rest w at)
    exponent_at lowers size m v t = exponent_is (rest w at) (exponent lowers size) (sym good_law ∙ t) (said_at sign first s f lowers size m v)

  -- the place behind its sign is no place past the end
  pub sign_inside : at < length w → (sign first : ℕ) → sign ≡ after_one_at is_e w at → first ≡ after_one_at is_sign w sign → first ≤ length w
  sign_inside h sign first s f = rw f (one_not_past is_sign w sign refl (rw s (one_not_past is_e w at refl (omega arith))))

-- ---- digits after a point
-- what a tail says
tail_digits : (left : Bool) (l : List ℕ) → Some left ≡ tail_of l → (every is_digit l ≡ true) × (left ≡ any_left l)
unfolding tail_of
tail_digits left l e = go (every is_digit l) refl e
  where
    go : (t : Bool) → every is_digit l ≡ t → Some left ≡ cond t (Some (any_left l)) None → (t ≡ true) × (left ≡ any_left l)
    go true h q = (refl, cc)
    go false h q = cc

tail_other : (l : List ℕ) → None ≡ tail_of l → every is_digit l ≡ false
unfolding tail_of
tail_other l e = go (every is_digit l) refl e
  where
    go : (t : Bool) → every is_digit l ≡ t → None ≡ cond t (Some (any_left l)) None → t ≡ false
    go true h q = cc
    go false h q = refl

-- and what a number says
number_digits : (n : ℕ) (l : List ℕ) → Some n ≡ number_of l → (every is_digit l ≡ true) × (n ≡ value_of l)
number_digits n l e = go (every is_digit l) refl e
  where
    go : (t : Bool) → every is_digit l ≡ t → Some n ≡ cond t (Some (value_of l)) None → (t ≡ true) × (n ≡ value_of l)
    go true h q = (refl, cc)
    go false h q = cc

number_other : (l : List ℕ) → None ≡ number_of l → every is_digit l ≡ false
number_other l e = go (every is_digit l) refl e
  where
    go : (t : Bool) → every is_digit l ≡ t → None ≡ cond t (Some (value_of l)) None → t ≡ false
    go true h q = cc
    go false h q = refl

fraction_other : (l : List ℕ) → every is_digit l ≡ false → None ≡ fraction_of l
unfolding fraction_of
fraction_other l e = rw e

fraction_is : (units : ℕ) (left : Bool) (l : List ℕ) → every is_digit l ≡ true → units ≡ value_of (take 7 l) * 10 ^ (7 - length l) → left ≡ any_left (drop 7 l) → Some (size units left) ≡ fraction_of l
unfolding fraction_of
fraction_is units left l e u r = rw e (ap Some (ap₂ size u r))

-- what a fraction says
pub record FractionIs (s : Size) (l : List ℕ) : Type 0 where
  pub digits : every is_digit l ≡ true
  pub is : s.whole ≡ value_of (take 7 l) * 10 ^ (7 - length l)
  pub over : s.rest ≡ any_left (drop 7 l)

pub fraction_says : (s : Size) (l : List ℕ) → Some s ≡ fraction_of l → FractionIs s l
unfolding fraction_of
fraction_says s l e = go (every is_digit l) refl e
  where
    go : (t : Bool) → every is_digit l ≡ t → Some s ≡ cond t (Some (size (value_of (take 7 l) * 10 ^ (7 - length l)) (any_left (drop 7 l)))) None → FractionIs s l
    go true h q =
        let e : s ≡ size (value_of (take 7 l) * 10 ^ (7 - length l)) (any_left (drop 7 l)) = cc in
        record { digits = h; is = ap (λ (k : Size). k.whole) e; over = ap (λ (k : Size). k.rest) e }
    go false h q = cc

-- seven or more
module _ (w : List ℕ) (first : ℕ) (inside : first + 7 ≤ length w) where
  rest_seven : rest w first ≡ take 7 (drop first w) ++ rest w (first + 7)
  unfolding rest
  rest_seven = sym (ap (λ (l : List ℕ). take 7 (drop first w) ++ l) (sym (drop-drop 7 first w)) ∙ take-append-drop 7 (drop first w))

  split_every : every is_digit (rest w first) ≡ (every is_digit (take 7 (drop first w)) && every is_digit (rest w (first + 7)))
  split_every = ap (every is_digit) rest_seven ∙ every_append is_digit (take 7 (drop first w)) (rest w (first + 7))

  pub long_other : None ≡ number_of (take 7 (drop first w)) → None ≡ fraction_of (rest w first)
  long_other e = fraction_other (rest w first) (split_every ∙ ap (λ (t : Bool). t && every is_digit (rest w (first + 7))) (number_other (take 7 (drop first w)) e))

  module _ (whole : ℕ) (e : Some whole ≡ number_of (take 7 (drop first w))) where
    pub long_tail : None ≡ tail_of (rest w (first + 7)) → None ≡ fraction_of (rest w first)
    long_tail t = fraction_other (rest w first) (split_every ∙ ap₂ ◌&&◌ (number_digits whole (take 7 (drop first w)) e).0 (tail_other (rest w (first + 7)) t))

    behind : rest w (first + 7) ≡ drop 7 (rest w first)
    unfolding rest
    behind = sym (drop-drop 7 first w)

    seven_units : whole ≡ value_of (take 7 (rest w first)) * 10 ^ (7 - length (rest w first))
    unfolding rest
    seven_units =
        let none : 7 - length (drop first w) ≡ 0 = omega (arith, length-drop first w) in
        (number_digits whole (take 7 (drop first w)) e).1 ∙ sym (ap (λ (k : ℕ). value_of (take 7 (drop first w)) * 10 ^ k) none ∙ mul-one (value_of (take 7 (drop first w))))

    pub long_is : (left : Bool) → Some left ≡ tail_of (rest w (first + 7)) → Some (size whole left) ≡ fraction_of (rest w first)
    long_is left t =
        let both = tail_digits left (rest w (first + 7)) t in
        fraction_is whole left (rest w first) (split_every ∙ ap₂ ◌&&◌ (number_digits whole (take 7 (drop first w)) e).0 both.0) seven_units (both.1 ∙ ap any_left behind)

-- fewer
module _ (w : List ℕ) (first : ℕ) (inside : first ≤ length w) where
  part_rest : part w first (length w) ≡ rest w first
  unfolding rest
  part_rest = tail_part first w

  module _ (value end : ℕ) (v : value ≡ value_of (leading is_digit (part w first (length w)))) (e : end ≡ first + length (leading is_digit (part w first (length w)))) where
    ends : end ≡ first + length (leading is_digit (rest w first))
    ends = e ∙ ap (λ (l : List ℕ). first + length (leading is_digit l)) part_rest

    pub short_other : end < length w → None ≡ fraction_of (rest w first)
    short_other h = fraction_other (rest w first) (go (every is_digit (rest w first)) refl)
      where
        go : (t : Bool) → every is_digit (rest w first) ≡ t → t ≡ false
        go true q = absurd (omega (arith, ends, rest_length w first, ap length (leading_all is_digit (rest w first) q)))
        go false q = refl

    pub short_place : (first ≤ end) × (end ≤ length w)
    short_place = (omega (arith, ends), omega (arith, ends, rest_length w first, leading_fits is_digit (rest w first)))

    pub short_small : value < 10 ^ (end - first)
    short_small =
        let n : end - first ≡ length (leading is_digit (part w first (length w))) = omega (arith, e) in
        rw (n, v) (value_lt (leading is_digit (part w first (length w))) (leading_every is_digit (part w first (length w))))

    module _ (few : length w < first + 7) (h : length w ≤ end) where
      whole : (leading is_digit (rest w first) ≡ rest w first) × (every is_digit (rest w first) ≡ true)
      whole =
          let t : take (length (rest w first)) (rest w first) ≡ rest w first = take_all (length (rest w first)) (rest w first) (omega arith) in
          rw t at (first_all is_digit (length (rest w first)) (rest w first) (rw t (omega (arith, ends, rest_length w first))))

      pub short_is : (units : ℕ) → units ≡ value * 10 ^ (7 - (end - first)) → Some (size units false) ≡ fraction_of (rest w first)
      unfolding every
      short_is units u =
          let l = rest w first in
          let n : end - first ≡ length l = omega (arith, ends, ap length whole.0) in
          let t : take 7 l ≡ l = take_all 7 l (omega (arith, rest_length w first)) in
          let d : drop 7 l ≡ [] = drop_of_length-le l {i = 7} (omega (arith, rest_length w first)) in
          fraction_is units false l whole.1 (u ∙ rw (n, t, v, part_rest, whole.0)) (rw d)
