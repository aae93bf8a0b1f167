-- Laws of signed numbers that are put: piece by piece, and place after place.
-- Assumes nothing.
use mathlib.Core.Path.{◌≡◌, sym, ◌∙◌}
use mathlib.Core.Bool.{true, false}
use mathlib.Core.List.{List, [], ◌∷◌, ◌++◌, flat_map, append_assoc, append-nil}
use Prim.Native.Nat.{ℕ, ◌+◌, ◌/◌, ◌%◌, ◌≤◌, ◌<◌, min}
use native.Mathlib.Omega.{arith}
use native.Mathlib.Numerals.{add-one}
use native.Mathlib.Decide.{dec_lt}
use lib.IntN.{ℤ, pos, nat_abs}
use lib.Signed.{lt_z}
use lib.ListN.{length, get_or, take}
use lib.Seq.{take-suc, take-length, take_all}
use mir.Syntax.{w64}
use mir.Val.{SFits, to_z, of_z}
use Rattle.scan.specs.Bytes.{space}
use Rattle.scan.specs.Text.{bytes}
use Rattle.io.specs.Digits.{hex_digit_ascii}
use Rattle.printing.specs.declared.Out.{Out}
use Rattle.printing.specs.Printing.{decimal, Prints}
use Rattle.printing.proofs.Buffers.{prints_none, prints_then}
use Rattle.signed_lines.specs.Signed.{sign, signed, spaced_signed, fraction, units}
use Rattle.signed_lines.specs.Places.{each_signed}
use Rattle.signed_lines.proofs.Sizes.{below_nought, not_below, told}

module _ (z : ℤ) (f : SFits w64 z) {a b : Out} where
  pub sign_put : lt_z (to_z w64 (of_z w64 z)) (pos 0) ≡ true → Prints (bytes "-" ∷ []) a b → Prints (sign z) a b
  sign_put e x = rw (below_nought z (told z f e)) x

pub no_sign : (z : ℤ) (f : SFits w64 z) (a : Out) → lt_z (to_z w64 (of_z w64 z)) (pos 0) ≡ false → Prints (sign z) a a
no_sign z f a e = rw (not_below z (told z f e)) (prints_none a)

-- a number, given what stands for it
module _ (z : ℤ) {y : ℤ} (q : y ≡ z) {n : ℕ} {a b c : Out} (e : n ≡ nat_abs y) (x : Prints (sign y) a b) where
  pub signed_put : Prints (decimal n ∷ []) b c → Prints (signed z) a c
  signed_put d = prints_then (rw q at x) (rw (e, q) at d)

  pub units_put : {d : Out} → Prints (decimal (n / 10000000) ∷ []) b c → Prints (fraction n ∷ []) c d → Prints (units z) a d
  units_put d g = prints_then (rw q at x) (prints_then (rw (e, q) at d) (rw (e, q) at g))

-- something that stands for a number, after a space
pub after_space : (f : ℤ → List (List ℕ)) (z : ℤ) {y : ℤ} {a b c : Out} → y ≡ z → Prints ((space ∷ []) ∷ []) a b → Prints (f y) b c → Prints ((space ∷ []) ∷ f z) a c
after_space f z q x d = prints_then x (rw q at d)

-- the point, and the digits
pub digits_are : (n : ℕ) {a b c d e f g : ℕ} → a ≡ hex_digit_ascii (n / 10 / 10 / 10 / 10 / 10 / 10 % 10) → b ≡ hex_digit_ascii (n / 10 / 10 / 10 / 10 / 10 % 10) → c ≡ hex_digit_ascii (n / 10 / 10 / 10 / 10 % 10) → d ≡ hex_digit_ascii (n / 10 / 10 / 10 % 10) → e ≡ hex_digit_ascii (n / 10 / 10 % 10) → f ≡ hex_digit_ascii (n / 10 % 10) → g ≡ hex_digit_ascii (n % 10) → (46 ∷ a ∷ b ∷ c ∷ d ∷ e ∷ f ∷ g ∷ []) ≡ fraction n
unfolding fraction
digits_are n p q r s t u v = rw (p, q, r, s, t, u, v)

flat_snoc : (f : ℤ → List (List ℕ)) (l : List ℤ) (z : ℤ) → flat_map f (l ++ (z ∷ [])) ≡ flat_map f l ++ f z
unfolding flat_map
flat_snoc f [] z = append-nil (f z)
flat_snoc f (b ∷ l) z = rw (flat_snoc f l z, append_assoc)

pub each_none : (l : List ℤ) (a : Out) → Prints (each_signed l 0) a a
unfolding each_signed flat_map
each_none l a = prints_none a

pub each_on : (l : List ℤ) (i : ℕ) {z : ℤ} {a b c : Out} → i < length l → z ≡ get_or l i (pos 0) → Prints (each_signed l i) a b → Prints (spaced_signed z) b c → Prints (each_signed l (i + 1)) a c
unfolding each_signed
each_on l i h q x y = rw (add-one i, take-suc l i (pos 0) h, flat_snoc spaced_signed (take i l) (get_or l i (pos 0))) (prints_then x (rw q at y))

-- all that is used of a table
pub each_all : (t : List ℤ) (used n i : ℕ) {a b : Out} → n ≡ min used (length t) → length (take n t) ≤ i → Prints (each_signed (take n t) i) a b → Prints (each_signed t used) a b
unfolding each_signed
each_all t used n i e h p = rw (← take_all i (take n t) h ∙ go (dec_lt (length t) used)) p
  where
    go : Dec (length t < used) → take n t ≡ take used t
    go (yes j) =
        let x : n ≡ length t = omega arith in
        rw x (take-length t ∙ sym (take_all used t (omega arith)))
    go (no j) =
        let x : n ≡ used = omega arith in
        rw x
