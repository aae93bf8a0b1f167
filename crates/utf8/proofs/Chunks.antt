-- Chunks of bytes that are all ASCII: the greatest byte tells of all, and whole characters go on past them.
-- Assumes nothing.
use mathlib.Core.Path.{◌≡◌, refl, sym, ap, ◌∙◌}
use mathlib.Core.Bool.{Bool, true, false, ◌&&◌, and-true, and_assoc, and-eq-true_iff, cond}
use mathlib.Core.List.{List, [], ◌∷◌}
use Prim.Native.Nat.{ℕ, zero, suc, ◌+◌, ◌*◌, ◌≤◌, ◌<◌, max}
use native.Mathlib.Nat.{zero-add, zero-mul, suc-mul, le_of_suc-le-suc, le-max_left, le-max_right, max-le}
use native.Mathlib.Numerals.{unary_clauses}
use native.Mathlib.Omega.{arith}
use native.Mathlib.Decide.{dec_lt}
use lib.Dec.{ltb}
use borrow.Author.Tests.{ltb-true, lt-ltb, le-ltb}
use lib.ListN.{length, take, drop, length-drop}
use lib.Seq.{drop-drop}
use Rattle.std.specs.List.{fold, list_all, take_while}
use Rattle.std.proofs.lemmas.List.Sums.{take_while-cons}
use Rattle.std.specs.Simd.{first_chunks}
use Rattle.utf8.specs.Utf8.{first_ill}
use Rattle.utf8.specs.Leads.{is_ascii}
use Rattle.utf8.proofs.Walk.{character, width_ascii}

ltb_max : (m b n : ℕ) → ltb (max m b) n ≡ (ltb m n && ltb b n)
ltb_max m b n = go (dec_lt m n) (dec_lt b n)
  where
    above : (k : ℕ) → k ≤ max m b → n ≤ k → ltb (max m b) n ≡ false
    above k h j = le-ltb (max m b) n (omega arith)

    go : Dec (m < n) → Dec (b < n) → ltb (max m b) n ≡ (ltb m n && ltb b n)
    go (yes h) (yes k) = rw (lt-ltb m n h, lt-ltb b n k) (lt-ltb (max m b) n (simp unary_clauses at (max-le h k)))
    go (yes h) (no k) = rw (lt-ltb m n h, le-ltb b n (omega arith)) (above b (le-max_right m b) (omega arith))
    go (no h) k = rw (le-ltb m n (omega arith)) (above m (le-max_left m b) (omega arith))

pub greatest : (l : List ℕ) (m n : ℕ) → ltb (fold (λ (a b : ℕ). max a b) m l) n ≡ (ltb m n && list_all (λ b. ltb b n) l)
greatest [] m n = sym (and-true (ltb m n))
greatest (b ∷ l) m n = greatest l (max m b) n ∙ ap (λ t. t && list_all (λ b. ltb b n) l) (ltb_max m b n) ∙ and_assoc (ltb m n) (ltb b n) (list_all (λ b. ltb b n) l)

-- bytes that are all ASCII
run : (n : ℕ) (l : List ℕ) → n ≤ length l → list_all is_ascii (take n l) ≡ true → first_ill l ≡ n + first_ill (drop n l)
run zero l h e = sym (zero-add (first_ill l))
run (suc n) [] h e = absurd (omega arith)
run (suc n) (b ∷ l) h e =
    let both = (and-eq-true_iff (ltb b 0x80) (list_all is_ascii (take n l))).0 e in
    let here : first_ill (b ∷ l) ≡ 1 + first_ill l = character 1 (b ∷ l) (width_ascii b l (ltb-true b 0x80 both.0)) (omega arith) in
    omega (arith, here, run n l (le_of_suc-le-suc h) both.1)

-- a chunk that is, and more chunks after it
on : (n m : ℕ) (l : List ℕ) → n ≤ length l → list_all is_ascii (take n l) ≡ true → (m * n ≤ length (drop n l)) × (m * n + first_ill (drop (m * n) (drop n l)) ≡ first_ill (drop n l)) → (suc m * n ≤ length l) × (suc m * n + first_ill (drop (suc m * n) l) ≡ first_ill l)
on n m l h e (within, more) =
    let s : suc m * n ≡ n + m * n = omega (arith, suc-mul m n) in
    let d : first_ill (drop (n + m * n) l) ≡ first_ill (drop (m * n) (drop n l)) = rw drop-drop in
    rw s (omega (arith, within, length-drop n l), omega (arith, d, more, run n l h e))

-- the chunks at the front
pub chunks : (n k : ℕ) (l : List ℕ) → k * n ≤ length l → let m = length (take_while (λ (chunk : List ℕ). list_all is_ascii chunk) (first_chunks n k l)) in (m * n ≤ length l) × (m * n + first_ill (drop (m * n) l) ≡ first_ill l)
chunks n zero l h = rw (zero-mul n) (omega arith, zero-add (first_ill l))
chunks n (suc k) l h =
    let s = suc-mul k n in
    rw take_while-cons (go (list_all is_ascii (take n l)) refl (chunks n k (drop n l) (simp length-drop (omega arith))))
  where
    left : List (List ℕ)
    left = take_while (λ (chunk : List ℕ). list_all is_ascii chunk) (first_chunks n k (drop n l))

    go : (t : Bool) → list_all is_ascii (take n l) ≡ t → (length left * n ≤ length (drop n l)) × (length left * n + first_ill (drop (length left * n) (drop n l)) ≡ first_ill (drop n l)) → let m = length (cond t (take n l ∷ left) []) in (m * n ≤ length l) × (m * n + first_ill (drop (m * n) l) ≡ first_ill l)
    go true e ih = on n (length left) l (omega (arith, suc-mul k n)) e ih
    go false e ih = rw (zero-mul n) (omega arith, zero-add (first_ill l))
