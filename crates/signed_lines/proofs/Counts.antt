-- Counting the places that aren't zero, from the first that isn't used on.
-- Assumes nothing.
use mathlib.Core.Path.{◌≡◌, refl, sym, ap, ◌∙◌}
use mathlib.Core.List.{List}
use Prim.Native.Nat.{ℕ, ◌+◌, ◌-◌, ◌<◌, min}
use native.Mathlib.Omega.{arith}
use native.Mathlib.Decide.{dec_lt}
use lib.IntN.{ℤ, nat_abs}
use lib.ListN.{length, take, drop, length-drop, drop_of_length-le}
use lib.Dec.{eqb}
use mathlib.Core.Bool.{Bool, true, false, cond, not}
use Rattle.std.specs.List.{count_by}
use Rattle.std.proofs.lemmas.List.Recursion.{is_count_by}
use lib.Seq.{drop-length, take_all}
use Rattle.signed_lines.specs.Places.{one_unless_nought, not_nought, signed_left}

-- the places that aren't zero are those that the test finds
pub count_is : (p : ℤ → Bool) → ((z : ℤ) → p z ≡ not (eqb (nat_abs z) 0)) → (t : List ℤ) → not_nought t ≡ count_by p t
unfolding not_nought
count_is p same t = is_count_by not_nought p refl (λ z l. go z l (eqb (nat_abs z) 0) refl) t
  where
    go : (z : ℤ) (l : List ℤ) (b : Bool) → eqb (nat_abs z) 0 ≡ b → one_unless_nought z + not_nought l ≡ cond (p z) (1 + not_nought l) (not_nought l)
    go z l true e = rw (same z, e) (omega arith)
    go z l false e = rw (same z, e) (omega arith)

-- from the first place that isn't used on, or from the end
pub left_from : (t : List ℤ) (used i : ℕ) → i ≡ min used (length t) → not_nought (take (length t - i) (drop i t)) ≡ signed_left t used
left_from t used i e = ap not_nought (take_all (length t - i) (drop i t) (omega (arith, length-drop i t)) ∙ go (dec_lt (length t) used))
  where
    go : Dec (length t < used) → drop i t ≡ drop used t
    go (yes h) =
        let y : i ≡ length t = omega arith in
        rw y (drop-length t ∙ sym (drop_of_length-le t {i = used} (omega arith)))
    go (no h) =
        let y : i ≡ used = omega arith in
        rw y
