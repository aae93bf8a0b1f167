-- A number parted into whole sizes and what is left over, and how that goes on when either is scaled.
-- Assumes nothing.
use mathlib.Core.Path.{◌≡◌, refl, sym, ap, ◌∙◌, subst}
use mathlib.Core.Bool.{Bool, true, false, not, ◌||◌}
use Prim.Native.Nat.{ℕ, ◌+◌, ◌-◌, ◌*◌, ◌/◌, ◌%◌, ◌≤◌, ◌<◌}
use native.Mathlib.Nat.{add-mul, mul_assoc, mul_comm, mul_right_comm, add-zero, zero-mul, mul-pos, mul-le-mul_right, mul-lt-mul_of_pos_right, le_of_mul-le-mul_right, lt_of_mul-lt-mul_right, eq_of_mul-eq-mul_right, div-add-mod', mod-lt}
use native.Mathlib.Omega.{arith}
use lib.Arith.{digits_lt, digits_div, digits_mod}
use lib.Dec.{eqb, leb, ltb}
use borrow.Author.Tests.{leb-true, leb-false, ltb-true, ltb-false, eqb-true, eqb-false, lt-ltb, le-ltb, not-true, not-false}
use Rattle.rounding.specs.Rounding.{size_limit, is_over}
use Rattle.decimal.proofs.Value.{not_nought_law, is_nought_law}

pub record Parts (n whole size : ℕ) (left : Bool) : Type 0 where
  pub over : ℕ
  pub sum : n ≡ whole * size + over
  pub less : over < size
  pub some : left ≡ not (eqb over 0)

-- ---- something of two is left
pub either_left : (a b n : ℕ) → (a ≡ 0 → b ≡ 0 → n ≡ 0) → (0 < a → 0 < n) → (0 < b → 0 < n) → (not (eqb a 0) || not (eqb b 0)) ≡ not (eqb n 0)
either_left a b n none first second = go (eqb a 0) refl (eqb b 0) refl
  where
    positive : (x : ℕ) → (x ≡ 0 → ⊥) → 0 < x
    positive x h = omega arith

    go : (s : Bool) → eqb a 0 ≡ s → (t : Bool) → eqb b 0 ≡ t → (not s || not t) ≡ not (eqb n 0)
    go true e true f = is_nought_law n (none (eqb-true a 0 e) (eqb-true b 0 f))
    go true e false f = not_nought_law n (second (positive b (eqb-false b 0 f)))
    go false e t f = not_nought_law n (first (positive a (eqb-false a 0 e)))

pub none_left : (over : ℕ) → false ≡ not (eqb over 0) → over ≡ 0
none_left over e = eqb-true over 0 (not-false (eqb over 0) (sym e))

pub some_left : (over : ℕ) → true ≡ not (eqb over 0) → 0 < over
some_left over e = omega (arith, eqb-false over 0 (not-true (eqb over 0) (sym e)))

-- ---- to the quotient and the remainder, and from them
module _ (n whole size : ℕ) (left : Bool) (p : Parts n whole size left) where
  pub quotient : n / size ≡ whole
  quotient = ap (λ (z : ℕ). z / size) p.sum ∙ digits_div whole p.less

  pub remains : not (eqb (n % size) 0) ≡ left
  remains = ap (λ (z : ℕ). not (eqb z 0)) (ap (λ (z : ℕ). z % size) p.sum ∙ digits_mod whole p.less) ∙ sym p.some

  pub size_pos : 0 < size
  size_pos = omega (arith, p.less)

pub divided : (n size : ℕ) → 0 < size → Parts n (n / size) size (not (eqb (n % size) 0))
divided n size h = record { over = n % size; sum = sym (div-add-mod' n size); less = mod-lt n h; some = refl }

pub exact : (n whole size : ℕ) → 0 < size → n ≡ whole * size → Parts n whole size false
exact n whole size h e = record { over = 0; sum = e ∙ sym (add-zero (whole * size)); less = h; some = refl }

-- ---- both scaled by c; one digit more, below what is kept; and fewer whole sizes, each c times as large
module _ (n whole size : ℕ) (left : Bool) (p : Parts n whole size left) where
  pub times : (c : ℕ) → 0 < c → Parts (n * c) whole (size * c) left
  times c h =
      record {
        over = p.over * c;
        sum = ap (λ (z : ℕ). z * c) p.sum ∙ add-mul (whole * size) p.over c ∙ ap (λ (z : ℕ). z + p.over * c) (mul_assoc whole size c);
        less = mul-lt-mul_of_pos_right p.less h;
        some = p.some ∙ go (eqb p.over 0) refl;
      }
    where
      go : (t : Bool) → eqb p.over 0 ≡ t → not t ≡ not (eqb (p.over * c) 0)
      go true e = is_nought_law (p.over * c) (ap (λ (z : ℕ). z * c) (eqb-true p.over 0 e) ∙ zero-mul c)
      go false e = not_nought_law (p.over * c) (mul-pos (some_left p.over (sym (ap not e))) h)

  pub digit : (d : ℕ) → d < 10 → Parts (n * 10 + d) whole (size * 10) (left || not (eqb d 0))
  digit d h =
      record {
        over = p.over * 10 + d;
        sum = omega (arith, p.sum, mul_assoc whole size 10, add-mul (whole * size) p.over 10);
        less = omega (arith, p.less);
        some = ap (λ (t : Bool). t || not (eqb d 0)) p.some ∙ either_left p.over d (p.over * 10 + d) (λ e f. omega arith) (λ k. omega arith) (λ k. omega arith);
      }

  pub lower : (c : ℕ) → 0 < c → Parts n (whole / c) (size * c) (left || not (eqb (whole % c) 0))
  lower c h =
      let q = whole / c in
      let r = whole % c in
      let e : whole ≡ q * c + r = sym (div-add-mod' whole c) in
      let f : whole * size ≡ q * c * size + r * size = ap (λ (z : ℕ). z * size) e ∙ add-mul (q * c) r size in
      let g : q * c * size ≡ q * (size * c) = mul_assoc q c size ∙ ap (λ (z : ℕ). q * z) (mul_comm c size) in
      let l : r * size + p.over < c * size = digits_lt (mod-lt whole h) p.less in
      record {
        over = r * size + p.over;
        sum = omega (arith, p.sum);
        less = subst (λ (z : ℕ). r * size + p.over < z) (mul_comm c size) l;
        some = ap (λ (t : Bool). t || not (eqb r 0)) p.some ∙ either_left p.over r (r * size + p.over) (λ a b. omega (arith, a, ap (λ (z : ℕ). z * size) b ∙ zero-mul size)) (λ k. omega arith) (λ k. omega (arith, mul-pos k (size_pos n whole size left p)));
      }

-- ---- two fractions that are one number have the same parts
pub same : (n m size other whole : ℕ) (left : Bool) → 0 < other → n * other ≡ m * size → Parts n whole size left → Parts m whole other left
same n m size other whole left h e p =
    let s : 0 < size = size_pos n whole size left p in
    let a : n * other ≡ whole * size * other + p.over * other = ap (λ (z : ℕ). z * other) p.sum ∙ add-mul (whole * size) p.over other in
    let b : whole * size * other ≡ whole * other * size = mul_right_comm whole size other in
    let c : whole * other ≤ m = le_of_mul-le-mul_right {m = whole * other} {n = m} {k = size} (omega arith) s in
    let o = m - whole * other in
    let d : m ≡ whole * other + o = omega arith in
    let f : m * size ≡ whole * other * size + o * size = ap (λ (z : ℕ). z * size) d ∙ add-mul (whole * other) o size in
    let g : o * size ≡ p.over * other = omega arith in
    let l : p.over * other < size * other = mul-lt-mul_of_pos_right p.less h in
    record {
      over = o;
      sum = d;
      less = lt_of_mul-lt-mul_right size {m = o} {n = other} (omega (arith, mul_comm size other));
      some = p.some ∙ go o s g (eqb p.over 0) refl;
    }
  where
    go : (o : ℕ) → 0 < size → o * size ≡ p.over * other → (t : Bool) → eqb p.over 0 ≡ t → not t ≡ not (eqb o 0)
    go o s g true f = is_nought_law o (eq_of_mul-eq-mul_right size s o 0 (g ∙ ap (λ (z : ℕ). z * other) (eqb-true p.over 0 f) ∙ zero-mul other ∙ sym (zero-mul size)))
    go o s g false f = not_nought_law o (lt_of_mul-lt-mul_right size {m = 0} {n = o} (omega (arith, zero-mul size, mul-pos (some_left p.over (sym (ap not f))) h)))

-- ---- over the limit: by the parts, and by the fraction
pub over_limit_law : (n whole size : ℕ) (left : Bool) → Parts n whole size left → ltb (size_limit * size) n ≡ is_over whole left
over_limit_law n whole size true p = go (leb size_limit whole) refl
  where
    go : (t : Bool) → leb size_limit whole ≡ t → ltb (size_limit * size) n ≡ t
    go true e = lt-ltb (size_limit * size) n (omega (arith, p.sum, mul-le-mul_right size (leb-true size_limit whole e), some_left p.over p.some))
    go false e = le-ltb (size_limit * size) n (omega (arith, p.sum, digits_lt (leb-false size_limit whole e) p.less))
over_limit_law n whole size false p = go (ltb size_limit whole) refl
  where
    go : (t : Bool) → ltb size_limit whole ≡ t → ltb (size_limit * size) n ≡ t
    go true e = lt-ltb (size_limit * size) n (omega (arith, p.sum, mul-lt-mul_of_pos_right (ltb-true size_limit whole e) (size_pos n whole size false p)))
    go false e = le-ltb (size_limit * size) n (omega (arith, p.sum, none_left p.over p.some, mul-le-mul_right size (ltb-false size_limit whole e)))
