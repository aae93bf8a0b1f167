-- The fewest digits that hold a number are as many as `places_from` counts, so what `io::decimal` makes is `decimal`.
-- Assumes nothing.
use mathlib.Core.Path.{◌≡◌, refl, sym, ap}
use mathlib.Core.Bool.{Bool, true, false, cond}
use Prim.Native.Nat.{ℕ, zero, suc, ◌-◌, ◌*◌, ◌/◌, ◌^◌, ◌≤◌, ◌<◌}
use native.Mathlib.Omega.{arith}
use native.Mathlib.Decide.{dec_lt}
use native.Mathlib.Nat.{pow-suc, pow-le-pow_right, le-div_iff_mul-le, div-lt_iff_lt-mul}
use lib.Dec.{ltb}
use borrow.Author.Tests.{ltb-true, ltb-false}
use Rattle.io.specs.Digits.{last_digits, IsDigitCount}
use Rattle.printing.specs.Printing.{places_from, decimal}

one_place : (n k : ℕ) → n < 10 → IsDigitCount 10 1 n k → k ≡ 1
one_place n k h f = go (dec_lt 1 k)
  where
    go : Dec (1 < k) → k ≡ 1
    go (yes a) =
        let least : 1 ≤ k - 1 = omega arith in
        let ten : 10 ^ 1 ≤ 10 ^ (k - 1) = pow-le-pow_right (omega arith) least in
        absurd (omega (arith, f.2 a, ten))
    go (no a) = omega (arith, f.0)

-- the last digit aside, a number of two digits or more has one digit fewer
one_fewer : (n j : ℕ) → IsDigitCount 10 1 n (suc (suc j)) → IsDigitCount 10 1 (n / 10) (suc j)
one_fewer n j f = (
  omega arith,
  (div-lt_iff_lt-mul {k = 10} (omega arith)).1 (rw pow-suc at f.1),
  λ a. (le-div_iff_mul-le {k = 10} (omega arith)).1 (tens a),
)
  where
    -- 1 < suc j: there is a power of ten below
    tens : 1 < suc j → 10 ^ (suc j - 1) * 10 ≤ n
    tens a =
        let e : 10 ^ (suc j - 1) * 10 ≡ 10 ^ suc (suc j - 1) = sym (pow-suc 10 (suc j - 1)) in
        let i : suc (suc j - 1) ≡ suc (suc j) - 1 = omega arith in
        rw (e, i) (f.2 (omega arith))

places : (most n k : ℕ) → n ≤ most → IsDigitCount 10 1 n k → k ≡ places_from most n
unfolding places_from
places zero n k h f = one_place n k (omega arith) f
places (suc most) n k h f = go (ltb n 10) refl k f (λ j l. places most (n / 10) j (omega (arith, ltb-false n 10 l)))
  where
    go : (t : Bool) → ltb n 10 ≡ t → (k : ℕ) → IsDigitCount 10 1 n k → ((j : ℕ) → ltb n 10 ≡ false → IsDigitCount 10 1 (n / 10) j → j ≡ places_from most (n / 10)) → k ≡ cond t 1 (suc (places_from most (n / 10)))
    go true t k f next = one_place n k (ltb-true n 10 t) f
    go false t zero f next = absurd (omega (arith, f.0))
    go false t (suc zero) f next = absurd (omega (arith, f.1, ltb-false n 10 t))
    go false t (suc (suc j)) f next = ap suc (next (suc j) t (one_fewer n j f))

pub digits_are : (n k : ℕ) → IsDigitCount 10 1 n k → last_digits 10 k n ≡ decimal n
unfolding decimal
digits_are n k f = ap (λ (m : ℕ). last_digits 10 m n) (places n n k (omega arith) f)
