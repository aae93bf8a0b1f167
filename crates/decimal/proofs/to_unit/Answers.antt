-- `decimal::to_unit` meets its contract: the value fits, as it is below so many tens.
use mathlib.Core.Path.{◌≡◌, refl, sym, ap, ◌∙◌, subst}
use Prim.Native.Nat.{ℕ, ◌+◌, ◌-◌, ◌*◌, ◌^◌, ◌≤◌, ◌<◌}
use native.Mathlib.Nat.{mul-lt-mul_of_pos_right}
use native.Mathlib.Omega.{arith}
use lib.Pow.{pow-add}
use Rattle.decimal.proofs.Value.{ten_pos}
use Rattle.decimal.proofs.to_unit.Goals as goal

filled : (value places : ℕ) → places ≤ 7 → value < 10 ^ places → value * 10 ^ (7 - places) < 10000000
filled value places h l =
    let e : places + (7 - places) ≡ 7 = omega arith in
    subst (λ (z : ℕ). value * 10 ^ (7 - places) < z) (sym (pow-add 10 places (7 - places)) ∙ ap (λ (j : ℕ). 10 ^ j) e) (mul-lt-mul_of_pos_right l (ten_pos (7 - places)))

pub returns : goal.returns
returns c = rw c.pow.ensures (refl, filled c.args.value c.args.places c.requires.0 c.requires.1)
