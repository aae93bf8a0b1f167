-- The number that digits say: digits read on, digits after digits, and how large it can be.
-- Assumes nothing.
use mathlib.Core.Path.{◌≡◌, refl, sym, ap, ◌∙◌, subst}
use mathlib.Core.Bool.{Bool, true, false, not, ◌&&◌}
use mathlib.Core.List.{List, [], ◌∷◌, ◌++◌}
use Prim.Native.Nat.{ℕ, zero, suc, ◌+◌, ◌-◌, ◌*◌, ◌^◌, ◌≤◌, ◌<◌, min}
use native.Mathlib.Nat.{mul-one, zero-mul, zero-add, add-zero, add-mul, mul_assoc, pow-succ', one-le-pow, zero-lt-suc, mul-pos}
use native.Mathlib.Omega.{arith}
use lib.Arith.{digits_lt}
use lib.Dec.{eqb}
use lib.ListN.{length}
use borrow.Author.Tests.{eqb-true, eqb-false, eq-eqb, ne_eqb}
use Rattle.lists.specs.Lists.{every}
use Rattle.lists.proofs.Lists.{every_head, every_tail}
use Rattle.scan.specs.Bytes.{is_digit}
use Rattle.scan.proofs.Bytes.{digit_low, digit_high}
use Rattle.decimal.specs.Decimal.{read_on, value_of}
use Rattle.decimal.specs.Code.{raw_on, is_nought, any_left}

pub ten_pos : (k : ℕ) → 0 < 10 ^ k
ten_pos k = one-le-pow k 10 (zero-lt-suc 9)

-- ---- reading on
pub read_append : (n : ℕ) (a b : List ℕ) → read_on n (a ++ b) ≡ read_on (read_on n a) b
unfolding read_on
read_append n [] b = refl
read_append n (x ∷ a) b = read_append (n * 10 + (x - 48)) a b

split_step : (n d p r : ℕ) → (n * 10 + d) * p + r ≡ n * (10 * p) + ((0 * 10 + d) * p + r)
split_step n d p r =
    let e : (n * 10 + d) * p ≡ n * 10 * p + d * p = add-mul (n * 10) d p in
    let f : n * 10 * p ≡ n * (10 * p) = mul_assoc n 10 p in
    let g : (0 * 10 + d) * p ≡ d * p = ap (λ (z : ℕ). z * p) (zero-add d) in
    omega arith

pub read_split : (n : ℕ) (l : List ℕ) → read_on n l ≡ n * 10 ^ length l + value_of l
unfolding read_on
read_split n [] = sym (add-zero (n * 1) ∙ mul-one n)
read_split n (b ∷ l) =
    read_split (n * 10 + (b - 48)) l
    ∙ split_step n (b - 48) (10 ^ length l) (read_on 0 l)
    ∙ ap (λ (p : ℕ). n * p + ((0 * 10 + (b - 48)) * 10 ^ length l + read_on 0 l)) (sym (pow-succ' 10 (length l)))
    ∙ ap (λ (r : ℕ). n * 10 ^ suc (length l) + r) (sym (read_split (0 * 10 + (b - 48)) l))

pub value_cons : (b : ℕ) (l : List ℕ) → value_of (b ∷ l) ≡ (b - 48) * 10 ^ length l + value_of l
unfolding read_on
value_cons b l = ap (λ (n : ℕ). read_on n l) (zero-add (b - 48)) ∙ read_split (b - 48) l

pub value_append : (a b : List ℕ) → value_of (a ++ b) ≡ value_of a * 10 ^ length b + value_of b
value_append a b = read_append 0 a b ∙ read_split (value_of a) b

pub value_none : value_of [] ≡ 0
unfolding read_on
value_none = refl

-- ---- bounds
pub digit_small : (b : ℕ) → is_digit b ≡ true → b - 48 < 10
digit_small b d = omega (arith, digit_high b d)

pub value_lt : (l : List ℕ) → every is_digit l ≡ true → value_of l < 10 ^ length l
value_lt [] d = subst (λ (z : ℕ). z < 1) (sym value_none) (zero-lt-suc 0)
value_lt (b ∷ l) d =
    subst (λ (z : ℕ). z < 10 ^ suc (length l)) (sym (value_cons b l))
    (subst (λ (p : ℕ). (b - 48) * 10 ^ length l + value_of l < p) (sym (pow-succ' 10 (length l)))
    (digits_lt {q = b - 48} {m = 10} (digit_small b (every_head is_digit b l d)) (value_lt l (every_tail is_digit b l d))))

-- a number held at a bound on the way is held at it at the end
held_step : (n d most : ℕ) → min (min n most * 10 + d) most ≡ min (n * 10 + d) most
held_step n d most = omega arith

pub held_on : (n most : ℕ) (l : List ℕ) → min (read_on (min n most) l) most ≡ min (read_on n l) most
unfolding read_on
held_on n most [] = omega arith
held_on n most (b ∷ l) =
    let d = b - 48 in
    sym (held_on (min n most * 10 + d) most l)
    ∙ ap (λ (z : ℕ). min (read_on z l) most) (held_step n d most)
    ∙ held_on (n * 10 + d) most l

-- ---- digits are all 0 exactly where their number is
pub not_nought_law : (n : ℕ) → 0 < n → true ≡ not (eqb n 0)
not_nought_law n h = sym (ap not (ne_eqb n 0 (λ e. omega arith)))

pub is_nought_law : (n : ℕ) → n ≡ 0 → false ≡ not (eqb n 0)
is_nought_law n e = sym (ap not (eq-eqb n 0 e))

front_some : (d p r : ℕ) → 0 < d → 0 < p → 0 < d * p + r
front_some d p r h k = omega (arith, mul-pos h k)

above_nought : (b : ℕ) → 48 ≤ b → (b ≡ 48 → ⊥) → 0 < b - 48
above_nought b h n = omega arith

pub any_value : (l : List ℕ) → every is_digit l ≡ true → any_left l ≡ not (eqb (value_of l) 0)
unfolding every
any_value [] d = is_nought_law (value_of []) value_none
any_value (b ∷ l) d = go (eqb b 48) refl (any_value l (every_tail is_digit b l d))
  where
    go : (t : Bool) → eqb b 48 ≡ t → any_left l ≡ not (eqb (value_of l) 0) → not (t && every is_nought l) ≡ not (eqb (value_of (b ∷ l)) 0)
    go true e r =
        let z : value_of (b ∷ l) ≡ value_of l = value_cons b l ∙ ap (λ (x : ℕ). (x - 48) * 10 ^ length l + value_of l) (eqb-true b 48 e) ∙ ap (λ (x : ℕ). x + value_of l) (zero-mul (10 ^ length l)) ∙ zero-add (value_of l) in
        r ∙ ap (λ (x : ℕ). not (eqb x 0)) (sym z)
    go false e r =
        not_nought_law (value_of (b ∷ l))
        (subst (λ (x : ℕ). 0 < x) (sym (value_cons b l))
        (front_some (b - 48) (10 ^ length l) (value_of l) (above_nought b (digit_low b (every_head is_digit b l d)) (eqb-false b 48 e)) (ten_pos (length l))))

-- ---- digits, each as its byte: so much more than what they say
noughts_on : ℕ → ℕ → ℕ
noughts_on c zero = c
noughts_on c (suc k) = noughts_on (c * 10 + 48) k

raw_step : (n c b : ℕ) → 48 ≤ b → (n + c) * 10 + b ≡ n * 10 + (b - 48) + (c * 10 + 48)
raw_step n c b h = omega arith

raw_on_law : (n c : ℕ) (l : List ℕ) → every is_digit l ≡ true → raw_on (n + c) l ≡ read_on n l + noughts_on c (length l)
unfolding raw_on read_on noughts_on
raw_on_law n c [] d = refl
raw_on_law n c (b ∷ l) d =
    ap (λ (z : ℕ). raw_on z l) (raw_step n c b (digit_low b (every_head is_digit b l d)))
    ∙ raw_on_law (n * 10 + (b - 48)) (c * 10 + 48) l (every_tail is_digit b l d)

seven_noughts : noughts_on 0 7 ≡ 53333328
unfolding noughts_on
seven_noughts = refl

pub raw_seven : (l : List ℕ) → length l ≡ 7 → every is_digit l ≡ true → raw_on 0 l ≡ value_of l + 53333328
raw_seven l n d = raw_on_law 0 0 l d ∙ ap (λ (z : ℕ). value_of l + z) (ap (noughts_on 0) n ∙ seven_noughts)
