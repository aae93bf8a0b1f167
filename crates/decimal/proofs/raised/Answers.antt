-- `decimal::raised` meets its contract: each turn moves a ten from the power into the value, until it reaches what a size is held at.
use mathlib.Core.Path.{◌≡◌, refl, sym, ap, ◌∙◌}
use mathlib.Core.Bool.{Bool, true, false, ◌||◌, false≢true}
use Prim.Native.Nat.{ℕ, suc, ◌+◌, ◌-◌, ◌*◌, ◌^◌, ◌≤◌, ◌<◌, min}
use native.Mathlib.Nat.{mul_assoc, mul-one, zero-mul, pow-succ', mul-le-mul_left}
use native.Mathlib.Omega.{arith}
use borrow.Author.Tests.{leb-true, leb-false, eqb-true}
use lib.Dec.{eqb, leb}
use Rattle.scan.proofs.Bytes.{or_none}
use Rattle.decimal.specs.Code.{held}
use Rattle.decimal.proofs.Value.{ten_pos}
use Rattle.decimal.proofs.raised.Goals as goal
use Rattle.decimal.proofs.raised.Goals.{else-loop-test, then-loop-test+then-x}

turn : (x n k : ℕ) → k < n → x * 10 * 10 ^ (n - (k + 1)) ≡ x * 10 ^ (n - k)
turn x n k h =
    let e : n - k ≡ suc (n - (k + 1)) = omega arith in
    mul_assoc x 10 (10 ^ (n - (k + 1))) ∙ ap (λ (z : ℕ). x * z) (sym (pow-succ' 10 (n - (k + 1))) ∙ ap (λ (j : ℕ). 10 ^ j) (sym e))

-- where it stops there is no ten left, or nothing to raise, or the value is what it is held at or more
at_end : (x n k w : ℕ) → n ≤ k → x * 10 ^ (n - k) ≡ w → min x held ≡ min w held
at_end x n k w h s =
    let z : n - k ≡ 0 = omega arith in
    ap (λ (y : ℕ). min y held) (sym (mul-one x) ∙ ap (λ (j : ℕ). x * 10 ^ j) (sym z) ∙ s)

stops : (x n w : ℕ) → (eqb x 0 || leb held x) ≡ true → x * 10 ^ n ≡ w → min x held ≡ min w held
stops x n w e s = go (eqb x 0) refl (leb held x) refl e
  where
    go : (a : Bool) → eqb x 0 ≡ a → (b : Bool) → leb held x ≡ b → (a || b) ≡ true → min x held ≡ min w held
    go true f b g t =
        let z : x ≡ 0 = eqb-true x 0 f in
        ap (λ (y : ℕ). min y held) (z ∙ sym (zero-mul (10 ^ n)) ∙ ap (λ (y : ℕ). y * 10 ^ n) (sym z) ∙ s)
    go false f true g t =
        let m : x * 1 ≤ x * 10 ^ n = mul-le-mul_left x (ten_pos n) in
        omega (arith, leb-true held x g, mul-one x)
    go false f false g t = absurd (false≢true t)

pub loop-init : goal.loop-init
loop-init c = let z : c.args.tens - 0 ≡ c.args.tens = omega arith in (omega arith, rw z)

pub loop-preserved : goal.loop-preserved
loop-preserved c =
    let l = leb-false held c.loop.x (or_none (eqb c.loop.x 0) (leb held c.loop.x) c.if-x.false).1 in
    (omega (arith, l), turn c.loop.x c.args.tens c.loop.counter c.loop-test.true ∙ c.loop.invariant.1)

pub returns : goal.returns
returns c =
    c.min.ensures
    ∙ elim c.loop-test.branch [
      | else-loop-test w ↦ at_end c.loop.x c.args.tens c.loop.counter _ w.loop-test.false c.loop.invariant.1
      | then-loop-test+then-x w ↦ stops c.loop.x (c.args.tens - c.loop.counter) _ w.if-x.true c.loop.invariant.1
    ]
