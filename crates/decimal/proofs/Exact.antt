-- A decimal's size in units: kept digits come to it, and so do the digits of a plain number.
-- Assumes nothing.
use mathlib.Core.Path.{◌≡◌, refl, sym, ap, ◌∙◌, subst}
use mathlib.Core.Bool.{Bool, true, false, cond, not, ◌||◌, true≢false}
use mathlib.Core.List.{List, [], ◌∷◌, ◌++◌, append_assoc}
use Prim.Native.Nat.{ℕ, zero, suc, ◌+◌, ◌-◌, ◌*◌, ◌/◌, ◌%◌, ◌^◌, ◌≤◌, ◌<◌, min}
use native.Mathlib.Nat.{mul_assoc, mul-one, add-mul, add-zero, mul-le-mul_left, mul-le-mul_right, mul_right_comm, zero-lt-suc, pow-le-pow_right, mul-lt-mul_of_pos_right}
use native.Mathlib.Omega.{arith}
use lib.Dec.{eqb, leb, ltb}
use lib.Pow.{pow-add}
use lib.ListN.{length, take, drop, length-take, length-drop, take-append-drop, drop_of_length-le}
use lib.Seq.{take_all, length-take-le}
use borrow.Author.Tests.{leb-true, leb-false, ltb-true, ltb-false, le-leb, lt-leb, lt-ltb, le-ltb}
use Rattle.lists.specs.Lists.{every}
use Rattle.lists.proofs.Lists.{every_head, every_tail}
use Rattle.scan.specs.Bytes.{is_digit}
use Rattle.rounding.specs.Rounding.{size_limit, is_over}
use Rattle.decimal.specs.declared.Kept.{Kept}
use Rattle.decimal.specs.declared.Size.{Size}
use Rattle.decimal.specs.Decimal.{value_of, Decimal, above, below, denominator}
use Rattle.decimal.specs.Units.{unit_places, scaled, whole_units, is_left, is_far, is_large}
use Rattle.decimal.specs.Code.{any_left, kept, keep_all, held, size, size_of, SizeIs}
use Rattle.decimal.proofs.Value.{ten_pos, value_append, value_lt, any_value}
use Rattle.decimal.proofs.Parts.{Parts, quotient, remains, divided, exact, times, lower, over_limit_law, none_left, some_left}
use Rattle.decimal.proofs.Sizes.{Holds, holds_all, left_full}

-- ---- the parts of a decimal's size
pub size_parts : (x : Decimal) (whole : ℕ) (rest : Bool) → is_far x ≡ false → Parts (scaled x) whole (denominator x) rest → SizeIs x whole rest
unfolding whole_units is_left is_large
size_parts x whole rest near p =
    record {
      near = near;
      over = sym (over_limit_law (scaled x) whole (denominator x) rest p);
      units = λ e. sym (quotient (scaled x) whole (denominator x) rest p);
      left = λ e. sym (remains (scaled x) whole (denominator x) rest p);
    }

-- ---- a size held one above the limit
pub over_held : (whole : ℕ) (rest : Bool) → is_over (min whole held) rest ≡ is_over whole rest
over_held whole true = go (leb size_limit whole) refl
  where
    go : (t : Bool) → leb size_limit whole ≡ t → leb size_limit (min whole held) ≡ t
    go true e = le-leb size_limit (min whole held) (omega (arith, leb-true size_limit whole e))
    go false e = lt-leb size_limit (min whole held) (omega (arith, leb-false size_limit whole e))
over_held whole false = go (ltb size_limit whole) refl
  where
    go : (t : Bool) → ltb size_limit whole ≡ t → ltb size_limit (min whole held) ≡ t
    go true e = lt-ltb size_limit (min whole held) (omega (arith, ltb-true size_limit whole e))
    go false e = le-ltb size_limit (min whole held) (omega (arith, ltb-false size_limit whole e))

not_held : (whole : ℕ) (rest : Bool) → is_over whole rest ≡ false → min whole held ≡ whole
not_held whole true e = omega (arith, leb-false size_limit whole e)
not_held whole false e = omega (arith, ltb-false size_limit whole e)

size_held : (x : Decimal) (whole : ℕ) (rest : Bool) → SizeIs x whole rest → SizeIs x (min whole held) rest
size_held x whole rest s =
    record {
      near = s.near;
      over = over_held whole rest ∙ s.over;
      units = λ e. not_held whole rest (sym (over_held whole rest) ∙ e) ∙ s.units (sym (over_held whole rest) ∙ e);
      left = λ e. s.left (sym (over_held whole rest) ∙ e);
    }

size_over : (x : Decimal) (whole : ℕ) (rest : Bool) → is_far x ≡ false → is_over whole rest ≡ true → is_large x ≡ true → SizeIs x whole rest
size_over x whole rest near over large =
    record {
      near = near;
      over = over ∙ sym large;
      units = λ e. absurd (true≢false (sym over ∙ e));
      left = λ e. absurd (true≢false (sym over ∙ e));
    }

-- ---- kept digits
module _ (x : Decimal) (value dropped : ℕ) (rest : Bool) (up down : ℕ) (near : is_far x ≡ false) (h : Holds (value_of x.digits) value dropped rest) (u : up ≡ dropped + unit_places + above x) (d : down ≡ x.places + below x) where
  line_up : 10 ^ dropped * 10 ^ above x * 10 ^ unit_places ≡ 10 ^ up
  line_up =
      ap (λ (z : ℕ). z * 10 ^ unit_places) (sym (pow-add 10 dropped (above x))) ∙ sym (pow-add 10 (dropped + above x) unit_places)
      ∙ ap (λ (j : ℕ). 10 ^ j) (moved dropped (above x) ∙ sym u)
    where
      moved : (a b : ℕ) → a + b + 7 ≡ a + 7 + b
      moved a b = omega arith

  line_down : 10 ^ down ≡ denominator x
  line_down = ap (λ (j : ℕ). 10 ^ j) d

  -- what is kept is counted in units of 10 ^ up
  above_line : Parts (scaled x) value (10 ^ up) rest
  above_line =
      subst (λ (z : ℕ). Parts (scaled x) value z rest) line_up
      (times (value_of x.digits * 10 ^ above x) value (10 ^ dropped * 10 ^ above x) rest (times (value_of x.digits) value (10 ^ dropped) rest h.parts (10 ^ above x) (ten_pos (above x))) (10 ^ unit_places) (ten_pos unit_places))

  lowered : up < down → SizeIs x (value / 10 ^ (down - up)) (rest || not (eqb (value % 10 ^ (down - up)) 0))
  lowered l =
      let j = down - up in
      size_parts x (value / 10 ^ j) (rest || not (eqb (value % 10 ^ j) 0)) near
      (subst (λ (z : ℕ). Parts (scaled x) (value / 10 ^ j) z (rest || not (eqb (value % 10 ^ j) 0)))
      (sym (pow-add 10 up j) ∙ ap (λ (i : ℕ). 10 ^ i) (back up down l) ∙ line_down)
      (lower (scaled x) value (10 ^ up) rest above_line (10 ^ j) (ten_pos j)))
    where
      back : (a b : ℕ) → a < b → a + (b - a) ≡ b
      back a b l = omega arith

  raised_exact : down ≤ up → rest ≡ false → Parts (scaled x) (value * 10 ^ (up - down)) (denominator x) rest
  raised_exact l z =
      let j = up - down in
      let o : above_line.over ≡ 0 = none_left above_line.over (sym z ∙ above_line.some) in
      let e : scaled x ≡ value * 10 ^ up = above_line.sum ∙ ap (λ (i : ℕ). value * 10 ^ up + i) o ∙ add-zero (value * 10 ^ up) in
      subst (λ (t : Bool). Parts (scaled x) (value * 10 ^ j) (denominator x) t) (sym z)
      (subst (λ (i : ℕ). Parts (scaled x) (value * 10 ^ j) i false) line_down
      (exact (scaled x) (value * 10 ^ j) (10 ^ down) (ten_pos down)
      (e ∙ ap (λ (i : ℕ). value * 10 ^ i) (back up down l) ∙ ap (λ (i : ℕ). value * i) (pow-add 10 j down) ∙ sym (mul_assoc value (10 ^ j) (10 ^ down)))))
    where
      back : (a b : ℕ) → b ≤ a → a ≡ a - b + b
      back a b l = omega arith

  -- where digits that say something were dropped, the size is over the limit
  raised_large : down ≤ up → rest ≡ true → is_large x ≡ true
  unfolding is_large
  raised_large l t =
      let full : size_limit ≤ value = left_full (value_of x.digits) value dropped rest h t in
      let o : 0 < above_line.over = some_left above_line.over (sym t ∙ above_line.some) in
      let a : 10 ^ down ≤ 10 ^ up = pow-le-pow_right (zero-lt-suc 9) l in
      let b : size_limit * 10 ^ up ≤ value * 10 ^ up = mul-le-mul_right (10 ^ up) full in
      lt-ltb (size_limit * denominator x) (scaled x)
      (subst (λ (z : ℕ). size_limit * z < scaled x) line_down (omega (arith, above_line.sum)))

  raised_over : rest ≡ true → is_over (min (value * 10 ^ (up - down)) held) rest ≡ true
  raised_over t =
      let full : size_limit ≤ value = left_full (value_of x.digits) value dropped rest h t in
      let a : value * 1 ≤ value * 10 ^ (up - down) = mul-le-mul_left value (ten_pos (up - down)) in
      ap (is_over (min (value * 10 ^ (up - down)) held)) t ∙ le-leb size_limit (min (value * 10 ^ (up - down)) held) (omega (arith, mul-one value))

  raised : down ≤ up → SizeIs x (min (value * 10 ^ (up - down)) held) rest
  raised l = go rest refl
    where
      go : (t : Bool) → rest ≡ t → SizeIs x (min (value * 10 ^ (up - down)) held) rest
      go true e = size_over x (min (value * 10 ^ (up - down)) held) rest near (raised_over e) (raised_large l e)
      go false e = size_held x (value * 10 ^ (up - down)) rest (size_parts x (value * 10 ^ (up - down)) rest near (raised_exact l e))

  holds_size : (s : Size) → s ≡ cond (leb down up) (size (min (value * 10 ^ (up - down)) held) rest) (size (value / 10 ^ (down - up)) (rest || not (eqb (value % 10 ^ (down - up)) 0))) → SizeIs x s.whole s.rest
  holds_size s is = subst (λ (z : Size). SizeIs x z.whole z.rest) (sym is) (go (leb down up) refl)
    where
      go : (t : Bool) → leb down up ≡ t →
          SizeIs x
          (cond t (size (min (value * 10 ^ (up - down)) held) rest) (size (value / 10 ^ (down - up)) (rest || not (eqb (value % 10 ^ (down - up)) 0)))).whole
          (cond t (size (min (value * 10 ^ (up - down)) held) rest) (size (value / 10 ^ (down - up)) (rest || not (eqb (value % 10 ^ (down - up)) 0)))).rest
      go true e = raised (leb-true down up e)
      go false e = lowered (leb-false down up e)

-- kept digits come to the decimal's size: by what is known of their value and of what isn't kept
pub kept_size_by :
    (x : Decimal) (k : Kept) (e up down : ℕ) (s : Size) → every is_digit x.digits ≡ true → k.value ≡ (keep_all (kept 0 0 false e) x.digits).value → k.dropped ≡ (keep_all (kept 0 0 false e) x.digits).dropped →
    k.rest ≡ (keep_all (kept 0 0 false e) x.digits).rest → is_far x ≡ false → up ≡ k.dropped + unit_places + above x → down ≡ x.places + below x → s ≡ size_of k up down → SizeIs x s.whole s.rest
kept_size_by x k e up down s digits v d r near u l is =
    holds_size x k.value k.dropped k.rest up down near
    (subst (λ (z : ℕ). Holds (value_of x.digits) z k.dropped k.rest) (sym v)
    (subst (λ (z : ℕ). Holds (value_of x.digits) (keep_all (kept 0 0 false e) x.digits).value z k.rest) (sym d)
    (subst (Holds (value_of x.digits) (keep_all (kept 0 0 false e) x.digits).value (keep_all (kept 0 0 false e) x.digits).dropped) (sym r)
    (holds_all e x.digits digits))))
    u l s is

pub kept_size : (x : Decimal) (k : Kept) (e up down : ℕ) (s : Size) → every is_digit x.digits ≡ true → k ≡ keep_all (kept 0 0 false e) x.digits → is_far x ≡ false → up ≡ k.dropped + unit_places + above x → down ≡ x.places + below x → s ≡ size_of k up down → SizeIs x s.whole s.rest
kept_size x k e up down s digits is = kept_size_by x k e up down s digits (ap (λ (j : Kept). j.value) is) (ap (λ (j : Kept). j.dropped) is) (ap (λ (j : Kept). j.rest) is)

-- ---- plain numbers: digits before the point and digits after it
every_drop : (n : ℕ) (l : List ℕ) → every is_digit l ≡ true → every is_digit (drop n l) ≡ true
every_drop zero l d = d
every_drop (suc n) [] d = d
every_drop (suc n) (b ∷ l) d = every_drop n l (every_tail is_digit b l d)

every_take : (n : ℕ) (l : List ℕ) → every is_digit l ≡ true → every is_digit (take n l) ≡ true
unfolding every
every_take zero l d = refl
every_take (suc n) [] d = refl
every_take (suc n) (b ∷ l) d = rw (every_head is_digit b l d) (every_take n l (every_tail is_digit b l d))

-- digits after digits are what is left over
parts_append : (a b : List ℕ) → every is_digit b ≡ true → Parts (value_of (a ++ b)) (value_of a) (10 ^ length b) (any_left b)
parts_append a b d = record { over = value_of b; sum = value_append a b; less = value_lt b d; some = any_value b d }

-- as many as make a unit, or fewer
few_sum : (w f p q : ℕ) → q * p ≡ 10000000 → (w * p + f) * 10000000 ≡ (w * 10000000 + f * q) * p
few_sum w f p q e =
    let a : (w * 10000000 + f * q) * p ≡ w * 10000000 * p + f * q * p = add-mul (w * 10000000) (f * q) p in
    let b : f * q * p ≡ f * 10000000 = mul_assoc f q p ∙ ap (λ (z : ℕ). f * z) e in
    let c : w * 10000000 * p ≡ w * p * 10000000 = mul_right_comm w 10000000 p in
    omega arith

any_none : any_left [] ≡ false
unfolding every
any_none = refl

few_parts : (whole fraction : List ℕ) → length fraction ≤ 7 → Parts (value_of (whole ++ fraction) * 10 ^ 7) (value_of whole * 10000000 + value_of (take 7 fraction) * 10 ^ (7 - length fraction)) (10 ^ length fraction) (any_left (drop 7 fraction))
few_parts whole fraction h =
    let f = length fraction in
    let e : 10 ^ (7 - f) * 10 ^ f ≡ 10000000 = sym (pow-add 10 (7 - f) f) ∙ ap (λ (j : ℕ). 10 ^ j) (back f h) in
    let t : take 7 fraction ≡ fraction = take_all 7 fraction h in
    let g : any_left (drop 7 fraction) ≡ false = ap any_left (drop_of_length-le fraction {i = 7} h) ∙ any_none in
    subst (λ (l : List ℕ). Parts (value_of (whole ++ fraction) * 10 ^ 7) (value_of whole * 10000000 + value_of l * 10 ^ (7 - f)) (10 ^ f) (any_left (drop 7 fraction))) (sym t)
    (subst (Parts (value_of (whole ++ fraction) * 10 ^ 7) (value_of whole * 10000000 + value_of fraction * 10 ^ (7 - f)) (10 ^ f)) (sym g)
    (exact (value_of (whole ++ fraction) * 10 ^ 7) (value_of whole * 10000000 + value_of fraction * 10 ^ (7 - f)) (10 ^ f) (ten_pos f)
    (ap (λ (z : ℕ). z * 10 ^ 7) (value_append whole fraction) ∙ few_sum (value_of whole) (value_of fraction) (10 ^ f) (10 ^ (7 - f)) e)))
  where
    back : (f : ℕ) → f ≤ 7 → 7 - f + f ≡ 7
    back f h = omega arith

-- more than make a unit
many_parts : (whole fraction : List ℕ) → every is_digit fraction ≡ true → 7 < length fraction → Parts (value_of (whole ++ fraction) * 10 ^ 7) (value_of whole * 10000000 + value_of (take 7 fraction) * 10 ^ (7 - length fraction)) (10 ^ length fraction) (any_left (drop 7 fraction))
many_parts whole fraction d h =
    let f = length fraction in
    let a = whole ++ take 7 fraction in
    let b = drop 7 fraction in
    let all : a ++ b ≡ whole ++ fraction = append_assoc whole (take 7 fraction) b ∙ ap (λ (l : List ℕ). whole ++ l) (take-append-drop 7 fraction) in
    let n : length (take 7 fraction) ≡ 7 = length-take-le 7 fraction (omega arith) in
    let one : 10 ^ (7 - f) ≡ 1 = ap (λ (j : ℕ). 10 ^ j) (gone f h) in
    let w : value_of a ≡ value_of whole * 10000000 + value_of (take 7 fraction) * 10 ^ (7 - f) =
    value_append whole (take 7 fraction) ∙ ap (λ (j : ℕ). value_of whole * 10 ^ j + value_of (take 7 fraction)) n
    ∙ sym (ap (λ (j : ℕ). value_of whole * 10000000 + j) (ap (λ (j : ℕ). value_of (take 7 fraction) * j) one ∙ mul-one (value_of (take 7 fraction)))) in
    let s : 10 ^ length b * 10 ^ 7 ≡ 10 ^ f = sym (pow-add 10 (length b) 7) ∙ ap (λ (j : ℕ). 10 ^ j) (omega (arith, length-drop 7 fraction)) in
    subst (λ (l : List ℕ). Parts (value_of l * 10 ^ 7) (value_of whole * 10000000 + value_of (take 7 fraction) * 10 ^ (7 - f)) (10 ^ f) (any_left b)) all
    (subst (λ (z : ℕ). Parts (value_of (a ++ b) * 10 ^ 7) z (10 ^ f) (any_left b)) w
    (subst (λ (z : ℕ). Parts (value_of (a ++ b) * 10 ^ 7) (value_of a) z (any_left b)) s
    (times (value_of (a ++ b)) (value_of a) (10 ^ length b) (any_left b) (parts_append a b (every_drop 7 fraction d)) (10 ^ 7) (ten_pos 7))))
  where
    gone : (f : ℕ) → 7 < f → 7 - f ≡ 0
    gone f h = omega arith

digit_parts : (whole fraction : List ℕ) → every is_digit fraction ≡ true → Parts (value_of (whole ++ fraction) * 10 ^ 7) (value_of whole * 10000000 + value_of (take 7 fraction) * 10 ^ (7 - length fraction)) (10 ^ length fraction) (any_left (drop 7 fraction))
digit_parts whole fraction d = go (leb (length fraction) 7) refl
  where
    go : (t : Bool) → leb (length fraction) 7 ≡ t → Parts (value_of (whole ++ fraction) * 10 ^ 7) (value_of whole * 10000000 + value_of (take 7 fraction) * 10 ^ (7 - length fraction)) (10 ^ length fraction) (any_left (drop 7 fraction))
    go true e = few_parts whole fraction (leb-true (length fraction) 7 e)
    go false e = many_parts whole fraction d (leb-false (length fraction) 7 e)

-- an exponent of 0 puts no tens above or below the line
none_above : (t : Bool) (e : ℕ) → e ≡ 0 → cond t 0 e ≡ 0
none_above true e z = refl
none_above false e z = z

none_below : (t : Bool) (e : ℕ) → e ≡ 0 → cond t e 0 ≡ 0
none_below true e z = z
none_below false e z = refl

module _ (x : Decimal) (whole fraction : List ℕ) (dw : every is_digit whole ≡ true) (df : every is_digit fraction ≡ true) (is : x.digits ≡ whole ++ fraction) (places : x.places ≡ length fraction) (exponent : x.exponent ≡ 0) where
  plain_parts : Parts (scaled x) (value_of whole * 10000000 + value_of (take unit_places fraction) * 10 ^ (unit_places - length fraction)) (denominator x) (any_left (drop unit_places fraction))
  plain_parts =
      let n : scaled x ≡ value_of (whole ++ fraction) * 10 ^ 7 =
      ap (λ (z : ℕ). z * 10 ^ 7) (ap (λ (j : ℕ). value_of x.digits * 10 ^ j) (none_above x.lowers x.exponent exponent) ∙ mul-one (value_of x.digits) ∙ ap value_of is) in
      let d : denominator x ≡ 10 ^ length fraction = ap (λ (j : ℕ). 10 ^ (x.places + j)) (none_below x.lowers x.exponent exponent) ∙ ap (λ (j : ℕ). 10 ^ j) (add-zero x.places ∙ places) in
      subst (λ (z : ℕ). Parts z (value_of whole * 10000000 + value_of (take unit_places fraction) * 10 ^ (unit_places - length fraction)) (denominator x) (any_left (drop unit_places fraction))) (sym n)
      (subst (λ (z : ℕ). Parts (value_of (whole ++ fraction) * 10 ^ 7) (value_of whole * 10000000 + value_of (take unit_places fraction) * 10 ^ (unit_places - length fraction)) z (any_left (drop unit_places fraction))) (sym d)
      (digit_parts whole fraction df))

  pub plain_units : value_of whole * 10000000 + value_of (take unit_places fraction) * 10 ^ (unit_places - length fraction) ≡ whole_units x
  unfolding whole_units
  plain_units = sym (quotient (scaled x) _ (denominator x) _ plain_parts)

  pub plain_left : any_left (drop unit_places fraction) ≡ is_left x
  unfolding is_left
  plain_left = sym (remains (scaled x) _ (denominator x) _ plain_parts)

pub fraction_small : (fraction : List ℕ) → every is_digit fraction ≡ true → value_of (take unit_places fraction) * 10 ^ (unit_places - length fraction) < 10000000
fraction_small fraction d =
    let f = length fraction in
    let v : value_of (take 7 fraction) < 10 ^ length (take 7 fraction) = value_lt (take 7 fraction) (every_take 7 fraction d) in
    let n : length (take 7 fraction) + (7 - f) ≡ 7 = omega (arith, length-take 7 fraction) in
    let e : 10 ^ length (take 7 fraction) * 10 ^ (7 - f) ≡ 10000000 = sym (pow-add 10 (length (take 7 fraction)) (7 - f)) ∙ ap (λ (j : ℕ). 10 ^ j) n in
    subst (λ (z : ℕ). value_of (take 7 fraction) * 10 ^ (7 - f) < z) e (mul-lt-mul_of_pos_right v (ten_pos (7 - f)))

pub plain_small : (whole fraction : List ℕ) → every is_digit whole ≡ true → every is_digit fraction ≡ true → length whole ≤ 10 → value_of whole * 10000000 + value_of (take unit_places fraction) * 10 ^ (unit_places - length fraction) < size_limit
plain_small whole fraction dw df h =
    let a : value_of whole < 10 ^ length whole = value_lt whole dw in
    let b : 10 ^ length whole ≤ 10000000000 = pow-le-pow_right {n = 10} (zero-lt-suc 9) {i = length whole} {j = 10} h in
    omega (arith, fraction_small fraction df)

within_limit : (whole : ℕ) (left : Bool) → whole < size_limit → is_over whole left ≡ false
within_limit whole true h = lt-leb size_limit whole h
within_limit whole false h = le-ltb size_limit whole (omega arith)

-- a decimal's size has its whole units and what is left over as its parts
pub units_parts : (x : Decimal) → Parts (scaled x) (whole_units x) (denominator x) (is_left x)
unfolding whole_units is_left
units_parts x = divided (scaled x) (denominator x) (ten_pos (x.places + below x))

pub large_over : (x : Decimal) → is_large x ≡ is_over (whole_units x) (is_left x)
unfolding is_large
large_over x = over_limit_law (scaled x) (whole_units x) (denominator x) (is_left x) (units_parts x)

pub plain_within : (x : Decimal) (n : ℕ) → n ≡ whole_units x → n < size_limit → is_large x ≡ false
plain_within x n is h = large_over x ∙ within_limit (whole_units x) (is_left x) (subst (λ (z : ℕ). z < size_limit) is h)
