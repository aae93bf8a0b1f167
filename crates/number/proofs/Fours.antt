-- Digits that are told a few at a time.
-- Assumes nothing.
use mathlib.Core.Path.{◌≡◌, refl, sym, ap, ◌∙◌}
use mathlib.Core.Bool.{Bool, true, ◌&&◌, and-true}
use mathlib.Core.List.{List, [], ◌∷◌, ◌++◌}
use Prim.Native.Nat.{ℕ, zero, suc, ◌+◌, ◌-◌, ◌≤◌, ◌<◌}
use native.Mathlib.Nat.{add-zero}
use native.Mathlib.Numerals.{add-one}
use native.Mathlib.Omega.{arith}
use lib.ListN.{length, get_or, take, drop}
use lib.Seq.{take-suc, drop-cons}
use Rattle.lists.specs.Lists.{every}
use Rattle.lists.proofs.Lists.{every_head, every_tail}
use Rattle.scan.specs.Bytes.{is_digit}
use Rattle.scan.specs.Runs.{first_not}
use Rattle.scan.proofs.Runs.{on}
use Rattle.number.proofs.Plain.{every_append}

-- the first bytes, and one more
pub every_first : (s : List ℕ) → true ≡ every is_digit (take 0 s)
unfolding every
every_first s = refl

every_snoc : (x : List ℕ) (b : ℕ) → every is_digit (x ++ (b ∷ [])) ≡ (every is_digit x && is_digit b)
unfolding every
every_snoc x b = every_append is_digit x (b ∷ []) ∙ ap (λ (t : Bool). every is_digit x && t) (and-true (is_digit b))

pub every_on : (s : List ℕ) (i : ℕ) {all next : Bool} → i < length s → all ≡ every is_digit (take i s) → next ≡ is_digit (get_or s i 0) → (all && next) ≡ every is_digit (take (i + 1) s)
every_on s i l e n =
    let t : take (i + 1) s ≡ take i s ++ (get_or s i 0 ∷ []) = rw add-one (take-suc s i 0 l) in
    rw (e, n, t) (sym (every_snoc (take i s) (get_or s i 0)))

-- a scan goes on past n bytes that pass
pub past_many : (p : ℕ → Bool) (text : List ℕ) (n i : ℕ) → i + n ≤ length text → every p (take n (drop i text)) ≡ true → first_not p text (i + n) ≡ first_not p text i
past_many p text zero i h e = ap (first_not p text) (add-zero i)
past_many p text (suc n) i h e =
    let d : drop i text ≡ get_or text i 0 ∷ drop (suc i) text = drop-cons text i 0 (omega arith) in
    let both : every p (get_or text i 0 ∷ take n (drop (suc i) text)) ≡ true = rw d at e in
    let step : first_not p text (suc i) ≡ first_not p text i = ap (first_not p text) (sym (add-one i)) ∙ on p text i (omega arith) (every_head p (get_or text i 0) (take n (drop (suc i) text)) both) in
    ap (first_not p text) (omega arith) ∙ past_many p text n (suc i) (omega arith) (every_tail p (get_or text i 0) (take n (drop (suc i) text)) both) ∙ step

-- a scan that went on to a place goes on past the four that stand there, if they are digits
pub record Gone (w : List ℕ) (at end : ℕ) : Type 0 where
  pub within : end ≤ length w
  pub same : first_not is_digit w end ≡ first_not is_digit w at

pub past_four : {w : List ℕ} {at end : ℕ} → Gone w at end → 4 ≤ length w - end → every is_digit (take (end + 4 - end) (drop end w)) ≡ true → Gone w at (end + 4)
past_four {w} {at} {end} g few d =
    let n : end + 4 - end ≡ 4 = omega arith in
    let e : every is_digit (take 4 (drop end w)) ≡ true = rw n at d in
    record { within = omega (arith, g.within, few); same = past_many is_digit w 4 end (omega (arith, g.within, few)) e ∙ g.same }
