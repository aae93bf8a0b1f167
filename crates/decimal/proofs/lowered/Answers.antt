-- `decimal::lowered` meets its contract: each turn takes the last digit off, and a ten off the power.
use mathlib.Core.Path.{◌≡◌, refl, sym, ap, ap₂, ◌∙◌}
use mathlib.Core.Bool.{Bool, true, false, not, ◌||◌}
use Prim.Native.Nat.{ℕ, suc, ◌+◌, ◌-◌, ◌*◌, ◌/◌, ◌%◌, ◌^◌, ◌<◌}
use native.Mathlib.Nat.{mul_comm, pow-suc, zero-lt-suc, div-one, div-eq_of_lt, mod-eq_of_lt, mod-lt, div-div-eq-div-mul}
use native.Mathlib.Omega.{arith}
use lib.Arith.{mod-mul}
use lib.Dec.{eqb}
use Rattle.decimal.specs.Code.{size}
use Rattle.decimal.proofs.Value.{ten_pos, is_nought_law}
use Rattle.decimal.proofs.Parts.{either_left}
use Rattle.decimal.proofs.lowered.Goals as goal

power : (n k : ℕ) → k < n → 10 ^ (n - k) ≡ 10 ^ (n - (k + 1)) * 10
power n k h =
    let e : n - k ≡ suc (n - (k + 1)) = omega arith in
    ap (λ (j : ℕ). 10 ^ j) e ∙ pow-suc 10 (n - (k + 1))

turn : (x n k : ℕ) → k < n → x / 10 / 10 ^ (n - (k + 1)) ≡ x / 10 ^ (n - k)
turn x n k h = div-div-eq-div-mul x 10 (10 ^ (n - (k + 1))) ∙ ap (λ (z : ℕ). x / z) (mul_comm 10 (10 ^ (n - (k + 1))) ∙ sym (power n k h))

or_or : (a b c : Bool) → ((a || b) || c) ≡ (a || (b || c))
or_or true b c = refl
or_or false b c = refl

turn_left : (x n k : ℕ) (rest : Bool) → k < n → ((rest || not (eqb (x % 10) 0)) || not (eqb (x / 10 % 10 ^ (n - (k + 1))) 0)) ≡ (rest || not (eqb (x % 10 ^ (n - k)) 0))
turn_left x n k rest h =
    let e : x % 10 ^ (n - k) ≡ x / 10 % 10 ^ (n - (k + 1)) * 10 + x % 10 = ap (λ (z : ℕ). x % z) (power n k h) ∙ mod-mul x (ten_pos (n - (k + 1))) (zero-lt-suc 9) in
    or_or rest (not (eqb (x % 10) 0)) (not (eqb (x / 10 % 10 ^ (n - (k + 1))) 0))
    ∙ ap (λ (t : Bool). rest || t) (either_left (x % 10) (x / 10 % 10 ^ (n - (k + 1))) (x % 10 ^ (n - k)) (λ a b. omega arith) (λ k. omega arith) (λ k. omega arith))

one : (x : ℕ) → x % 1 ≡ 0
one x = omega (arith, mod-lt x (zero-lt-suc 0))

stops_left : (x n : ℕ) (rest : Bool) → x % 10 ^ n ≡ 0 → rest ≡ (rest || not (eqb (x % 10 ^ n) 0))
stops_left x n true e = refl
stops_left x n false e = is_nought_law (x % 10 ^ n) e

pub loop-init : goal.loop-init
loop-init c = let z : c.args.tens - 0 ≡ c.args.tens = omega arith in (rw z, rw z)

pub loop-preserved : goal.loop-preserved
loop-preserved c =
    (turn c.loop.whole c.args.tens c.loop.counter c.loop-test.true ∙ c.loop.invariant.0, turn_left c.loop.whole c.args.tens c.loop.counter c.loop.rest c.loop-test.true ∙ c.loop.invariant.1)

-- there is no ten left
pub returns-after-loop : goal.returns-after-loop
returns-after-loop c =
    let x = c.loop.whole in
    let n = c.args.tens - c.loop.counter in
    let z : n ≡ 0 = omega (arith, c.loop-test.false) in
    ap₂ size (sym (ap (λ (j : ℕ). x / 10 ^ j) z ∙ div-one x) ∙ c.loop.invariant.0) (stops_left x n c.loop.rest (ap (λ (j : ℕ). x % 10 ^ j) z ∙ one x) ∙ c.loop.invariant.1)

-- there is nothing to lower
pub returns-then-whole-eq0 : goal.returns-then-whole-eq0
returns-then-whole-eq0 c =
    let x = c.loop.whole in
    let n = c.args.tens - c.loop.counter in
    let z : x ≡ 0 = c.if-whole-eq0.true in
    ap₂ size (sym (ap (λ (y : ℕ). y / 10 ^ n) z ∙ div-eq_of_lt (ten_pos n) ∙ sym z) ∙ c.loop.invariant.0) (stops_left x n c.loop.rest (ap (λ (y : ℕ). y % 10 ^ n) z ∙ mod-eq_of_lt (ten_pos n)) ∙ c.loop.invariant.1)
