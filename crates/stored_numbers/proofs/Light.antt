-- Texts that weigh at most 1 are digits with at most one point.
-- Assumes nothing.
use mathlib.Core.Path.{◌≡◌, refl, sym, ◌∙◌}
use mathlib.Core.Bool.{Bool, true, false, cond, ◌&&◌, false≢true}
use mathlib.Core.List.{List, [], ◌∷◌}
use Prim.Native.Nat.{ℕ, zero, suc, ◌+◌, ◌-◌, ◌≤◌, ◌<◌}
use native.Mathlib.Omega.{arith}
use lib.Dec.{ltb}
use lib.ListN.{length, get_or, take, drop}
use lib.Seq.{length-take-le}
use borrow.Author.Tests.{le-leb, lt-ltb}
use Rattle.scan.specs.Bytes.{is_digit, is_sign, is_point}
use Rattle.number.specs.Lexeme.{is_plain}
use Rattle.number.proofs.Equal.{sign_digit, sign_point}
use Rattle.number.proofs.Plain.{pass, pass_plain, alone}
use Rattle.stored_numbers.specs.Weights.{weigh, sign_width}

light : (points others n : ℕ) (l : List ℕ) → points + weigh l ≤ 1 → pass false points others n l ≡ ltb (others + weigh l) n
unfolding pass weigh
light points others n [] h =
    let same : others + 0 ≡ others = omega arith in
    rw (same, le-leb points 1 (omega arith))
light points others n (b ∷ l) h = go (is_digit b) (is_point b) h (λ p o k. light p o n l k)
  where
    go : (d p : Bool) → points + (cond d 0 (cond p 1 2) + weigh l) ≤ 1 → ((p o : ℕ) → p + weigh l ≤ 1 → pass false p o n l ≡ ltb (o + weigh l) n) → cond d (pass false points others n l) (cond p (pass false (points + 1) (others + 1) n l) (cond (is_sign b && false) (pass false points (others + 1) n l) false)) ≡ ltb (others + (cond d 0 (cond p 1 2) + weigh l)) n
    go true p k rest =
        let same : others + (0 + weigh l) ≡ others + weigh l = omega arith in
        rw same (rest points others (omega arith))
    go false true k rest =
        let same : others + (1 + weigh l) ≡ others + 1 + weigh l = omega arith in
        rw same (rest (points + 1) (others + 1) (omega arith))
    go false false k rest = absurd (omega arith)

behind_sign : (b : ℕ) (l : List ℕ) → is_sign b ≡ true → pass true 0 0 (suc (length l)) (b ∷ l) ≡ pass false 0 1 (suc (length l)) l
unfolding pass
behind_sign b l s = rw (sign_digit b s, sign_point b s, s)

without_sign : (b : ℕ) (l : List ℕ) → is_sign b ≡ false → pass true 0 0 (suc (length l)) (b ∷ l) ≡ pass false 0 0 (suc (length l)) (b ∷ l)
unfolding pass
without_sign b l s = rw s

-- a sign, and then what is light; or nothing but what is light
signed : (b : ℕ) (l : List ℕ) → is_sign b ≡ true → weigh l ≤ 1 → 1 + weigh l < suc (length l) → is_plain (b ∷ l) ≡ true
signed b l s h few = sym (pass_plain (b ∷ l)) ∙ behind_sign b l s ∙ light 0 1 (suc (length l)) l (omega (arith, h)) ∙ lt-ltb (1 + weigh l) (suc (length l)) few

unsigned : (b : ℕ) (l : List ℕ) → is_sign b ≡ false → weigh (b ∷ l) ≤ 1 → weigh (b ∷ l) < suc (length l) → is_plain (b ∷ l) ≡ true
unsigned b l s h few = sym (pass_plain (b ∷ l)) ∙ without_sign b l s ∙ light 0 0 (suc (length l)) (b ∷ l) (omega (arith, h)) ∙ lt-ltb (0 + weigh (b ∷ l)) (suc (length l)) (omega (arith, few))

-- the front of a text, by what its bytes weigh behind a sign
pub told_plain : (text : List ℕ) (len from sum : ℕ) → 0 < len → len ≤ length text → from ≡ sign_width (get_or text 0 0) → sum ≡ weigh (take (len - from) (drop from text)) → sum ≤ 1 → sum < len - from → is_plain (take len text) ≡ true
told_plain [] len from sum some inside f s h few = absurd (omega arith)
told_plain (b ∷ l) zero from sum some inside f s h few = absurd (omega arith)
told_plain (b ∷ l) (suc m) from sum some inside f s h few = go (is_sign b) refl f
  where
    width : length (take m l) ≡ m
    width = length-take-le m l (omega (arith, inside))

    go : (t : Bool) → is_sign b ≡ t → from ≡ cond t 1 0 → is_plain (b ∷ take m l) ≡ true
    go true e f =
        let less : suc m - 1 ≡ m = omega arith in
        let is : sum ≡ weigh (take m l) = rw (f, less) at s in
        signed b (take m l) e (omega (arith, is)) (omega (arith, is, width, f))
    go false e f =
        let all : suc m - 0 ≡ suc m = omega arith in
        let is : sum ≡ weigh (b ∷ take m l) = rw (f, all) at s in
        unsigned b (take m l) e (omega (arith, is)) (omega (arith, is, width, f))

-- one byte
pub told_digit : (text : List ℕ) (r : Bool) → 16 < length text → r ≡ is_digit (get_or text 0 0) → r ≡ true → is_plain (take 1 text) ≡ true
told_digit [] r long d t = absurd (omega arith)
told_digit (b ∷ l) r long d t = sym (alone (b ∷ []) refl) ∙ sym d ∙ t

-- what isn't told
pub not_told : {A : Type 0} → false ≡ true → A
not_told e = absurd (false≢true e)

pub narrow : (b : ℕ) {from : ℕ} → from ≡ sign_width b → from ≤ 1
narrow b {from} e = go (is_sign b) e
  where
    go : (t : Bool) → from ≡ cond t 1 0 → from ≤ 1
    go true e = omega arith
    go false e = omega arith

pub some : {n : ℕ} → (n ≡ 0 → ⊥) → 0 < n
some {n} = go n
  where
    go : (n : ℕ) → (n ≡ 0 → ⊥) → 0 < n
    go zero h = absurd (h refl)
    go (suc n) h = omega arith
