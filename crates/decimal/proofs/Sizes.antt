-- Digits that are kept and digits that are not: together they are the number that all of them say.
-- Assumes nothing.
use mathlib.Core.Path.{◌≡◌, refl, sym, ap, ◌∙◌, subst}
use mathlib.Core.Bool.{Bool, true, false, cond, not, ◌||◌}
use mathlib.Core.List.{List, [], ◌∷◌, ◌++◌}
use Prim.Native.Nat.{ℕ, zero, suc, ◌+◌, ◌-◌, ◌*◌, ◌^◌, ◌≤◌, ◌<◌}
use native.Mathlib.Nat.{pow-suc, zero-lt-suc, mul-one}
use native.Mathlib.Numerals.{add-one}
use native.Mathlib.Omega.{arith}
use lib.Dec.{eqb, ltb}
use borrow.Author.Tests.{ltb-true, ltb-false, eqb-true, eqb-false, eq-eqb, ne_eqb}
use Rattle.lists.specs.Lists.{every}
use Rattle.lists.proofs.Lists.{every_head, every_tail}
use Rattle.scan.specs.Bytes.{is_digit}
use Rattle.scan.proofs.Bytes.{digit_low}
use Rattle.rounding.specs.Rounding.{size_limit}
use Rattle.decimal.specs.declared.Kept.{Kept}
use Rattle.decimal.specs.Decimal.{read_on, value_of}
use Rattle.decimal.specs.Code.{is_nought, kept, keep_one, keep_all}
use Rattle.decimal.proofs.Value.{digit_small}
use Rattle.decimal.proofs.Parts.{Parts, digit}

-- ---- digits after digits
pub keep_all_append : (k : Kept) (a b : List ℕ) → keep_all k (a ++ b) ≡ keep_all (keep_all k a) b
unfolding keep_all
keep_all_append k [] b = refl
keep_all_append k (x ∷ a) b = keep_all_append (keep_one k x) a b

-- ---- where digits end says nothing of what they say
pub record SameDigits (a b : Kept) : Type 0 where
  pub value : a.value ≡ b.value
  pub dropped : a.dropped ≡ b.dropped
  pub rest : a.rest ≡ b.rest

pub keep_ends : (value dropped : ℕ) (rest : Bool) (e f : ℕ) (l : List ℕ) → SameDigits (keep_all (kept value dropped rest e) l) (keep_all (kept value dropped rest f) l)
unfolding keep_all
keep_ends value dropped rest e f [] = record { value = refl; dropped = refl; rest = refl }
keep_ends value dropped rest e f (b ∷ l) =
    go (ltb value size_limit) (keep_ends (value * 10 + (b - 48)) dropped rest (e + 1) (f + 1) l) (keep_ends value (dropped + 1) (rest || not (is_nought b)) (e + 1) (f + 1) l)
  where
    go : (t : Bool) →
        SameDigits (keep_all (kept (value * 10 + (b - 48)) dropped rest (e + 1)) l) (keep_all (kept (value * 10 + (b - 48)) dropped rest (f + 1)) l) →
        SameDigits (keep_all (kept value (dropped + 1) (rest || not (is_nought b)) (e + 1)) l) (keep_all (kept value (dropped + 1) (rest || not (is_nought b)) (f + 1)) l) →
        SameDigits
        (keep_all (cond t (kept (value * 10 + (b - 48)) dropped rest (e + 1)) (kept value (dropped + 1) (rest || not (is_nought b)) (e + 1))) l)
        (keep_all (cond t (kept (value * 10 + (b - 48)) dropped rest (f + 1)) (kept value (dropped + 1) (rest || not (is_nought b)) (f + 1))) l)
    go true a c = a
    go false a c = c

-- two runs of digits, of which the second is read on from another place
pub keep_both : (e f : ℕ) (a b : List ℕ) (k : Kept) → k ≡ keep_all (kept 0 0 false e) a → SameDigits (keep_all (kept k.value k.dropped k.rest f) b) (keep_all (kept 0 0 false e) (a ++ b))
keep_both e f a b k is =
    subst (SameDigits (keep_all (kept k.value k.dropped k.rest f) b)) (ap (λ (j : Kept). keep_all j b) is ∙ sym (keep_all_append (kept 0 0 false e) a b))
    (keep_ends k.value k.dropped k.rest f k.end b)

-- ---- kept digits hold the number n
pub record Holds (n value dropped : ℕ) (rest : Bool) : Type 0 where
  pub parts : Parts n value (10 ^ dropped) rest
  pub full : 0 < dropped → size_limit ≤ value

abbrev HoldsIn : ℕ → Kept → Type 0
HoldsIn n k = Holds n k.value k.dropped k.rest

nought_byte : (b : ℕ) → is_digit b ≡ true → not (eqb (b - 48) 0) ≡ not (is_nought b)
nought_byte b d = ap not (go (eqb b 48) refl)
  where
    go : (t : Bool) → eqb b 48 ≡ t → eqb (b - 48) 0 ≡ t
    go true e = eq-eqb (b - 48) 0 (omega (arith, eqb-true b 48 e))
    go false e = ne_eqb (b - 48) 0 (λ z. omega (arith, eqb-false b 48 e, digit_low b d))

-- while none is dropped, what is kept is the number
none_dropped : (n value dropped : ℕ) (rest : Bool) → dropped ≡ 0 → Holds n value dropped rest → (n ≡ value) × (rest ≡ false)
none_dropped n value dropped rest z h =
    let p = h.parts in
    let one : 10 ^ dropped ≡ 1 = ap (λ (j : ℕ). 10 ^ j) z in
    let o : p.over ≡ 0 = omega (arith, p.less) in
    let s : value * 10 ^ dropped ≡ value = ap (λ (j : ℕ). value * j) one ∙ mul-one value in
    (omega (arith, p.sum), p.some ∙ ap not (eq-eqb p.over 0 o))

below_limit : (value dropped : ℕ) → value < size_limit → (0 < dropped → size_limit ≤ value) → dropped ≡ 0
below_limit value zero l f = refl
below_limit value (suc dropped) l f = absurd (omega (arith, f (zero-lt-suc dropped)))

holds_value : (n value d : ℕ) (rest : Bool) (dropped : ℕ) → value < size_limit → Holds n value dropped rest → Holds (n * 10 + d) (value * 10 + d) dropped rest
holds_value n value d rest dropped l h =
    let z : dropped ≡ 0 = below_limit value dropped l h.full in
    let s = none_dropped n value dropped rest z h in
    let one : 10 ^ dropped ≡ 1 = ap (λ (j : ℕ). 10 ^ j) z in
    let m : (value * 10 + d) * 10 ^ dropped ≡ value * 10 + d = ap (λ (j : ℕ). (value * 10 + d) * j) one ∙ mul-one (value * 10 + d) in
    record {
      parts = record { over = 0; sum = omega (arith, s.0); less = omega arith; some = s.1 };
      full = λ k. absurd (omega arith);
    }

holds_dropped : (n value dropped d : ℕ) (rest : Bool) → d < 10 → size_limit ≤ value → Holds n value dropped rest → Holds (n * 10 + d) value (dropped + 1) (rest || not (eqb d 0))
holds_dropped n value dropped d rest l f h =
    record {
      parts = subst (λ (z : ℕ). Parts (n * 10 + d) value z (rest || not (eqb d 0))) (sym (ap (λ (j : ℕ). 10 ^ j) (add-one dropped) ∙ pow-suc 10 dropped)) (digit n value (10 ^ dropped) rest h.parts d l);
      full = λ k. f;
    }

holds_one : (n : ℕ) (k : Kept) (b : ℕ) → is_digit b ≡ true → HoldsIn n k → HoldsIn (n * 10 + (b - 48)) (keep_one k b)
holds_one n k b d h = go (ltb k.value size_limit) refl
  where
    go : (t : Bool) → ltb k.value size_limit ≡ t → HoldsIn (n * 10 + (b - 48)) (cond t (kept (k.value * 10 + (b - 48)) k.dropped k.rest (k.end + 1)) (kept k.value (k.dropped + 1) (k.rest || not (is_nought b)) (k.end + 1)))
    go true e = holds_value n k.value (b - 48) k.rest k.dropped (ltb-true k.value size_limit e) h
    go false e =
        subst (λ (t : Bool). Holds (n * 10 + (b - 48)) k.value (k.dropped + 1) (k.rest || t)) (nought_byte b d)
        (holds_dropped n k.value k.dropped (b - 48) k.rest (digit_small b d) (ltb-false k.value size_limit e) h)

holds_on : (n : ℕ) (k : Kept) (l : List ℕ) → every is_digit l ≡ true → HoldsIn n k → HoldsIn (read_on n l) (keep_all k l)
unfolding read_on keep_all
holds_on n k [] d h = h
holds_on n k (b ∷ l) d h = holds_on (n * 10 + (b - 48)) (keep_one k b) l (every_tail is_digit b l d) (holds_one n k b (every_head is_digit b l d) h)

pub holds_all : (e : ℕ) (l : List ℕ) → every is_digit l ≡ true → Holds (value_of l) (keep_all (kept 0 0 false e) l).value (keep_all (kept 0 0 false e) l).dropped (keep_all (kept 0 0 false e) l).rest
holds_all e l d = holds_on 0 (kept 0 0 false e) l d (record { parts = record { over = 0; sum = refl; less = zero-lt-suc 0; some = refl }; full = λ k. absurd (omega arith) })

-- where something is left, digits were dropped, and the kept ones reach the limit
pub left_full : (n value dropped : ℕ) (rest : Bool) → Holds n value dropped rest → rest ≡ true → size_limit ≤ value
left_full n value dropped rest h t = h.full (go (eqb dropped 0) refl)
  where
    go : (s : Bool) → eqb dropped 0 ≡ s → 0 < dropped
    go true e = let z : ◌≡◌ {A = Bool} true false = sym t ∙ (none_dropped n value dropped rest (eqb-true dropped 0 e) h).1 in let y : ◌≡◌ {A = ℕ} 0 1 = cc in absurd (omega arith)
    go false e = omega (arith, eqb-false dropped 0 e)
