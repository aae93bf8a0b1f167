-- The loop that weighs sixteen bytes, and lets those behind a text weigh nothing.
-- Assumes nothing.
use mathlib.Core.Path.{◌≡◌, refl, sym, ◌∙◌}
use mathlib.Core.Bool.{Bool, true, false, cond}
use mathlib.Core.List.{List, [], ◌∷◌, ◌++◌}
use Prim.Native.Nat.{ℕ, min, ◌+◌, ◌-◌, ◌*◌, ◌≤◌, ◌<◌}
use native.Mathlib.Omega.{arith}
use native.Mathlib.Numerals.{add-one}
use lib.Dec.{ltb}
use lib.ListN.{length, get_or, take, drop, replicate, length-drop, get_or-replicate, get_or-append}
use lib.Seq.{take_all, take-suc, length-take-le, get_or-take, get_or-drop, get_or-append-add}
use borrow.Author.Tests.{ltb-true, ltb-false}
use Rattle.scan.specs.Bytes.{is_digit, is_point}
use Rattle.stored_numbers.specs.Weights.{weight, weigh, twos_then_none}

-- ---- what a byte weighs at most
limit_in : (k : ℕ) → k < 16 → get_or twos_then_none k 0 ≡ 2
limit_in k h = get_or-append (replicate 16 2) (replicate 16 0) 0 k h ∙ get_or-replicate 16 k 2 0 h

limit_behind : (k : ℕ) → k < 16 → get_or twos_then_none (16 + k) 0 ≡ 0
limit_behind k h = get_or-append-add (replicate 16 2) (replicate 16 0) k 0 ∙ get_or-replicate 16 k 0 0 h

own_weight : (b : ℕ) → min (weight b) 2 ≡ weight b
own_weight b = go (is_digit b) (is_point b)
  where
    go : (d p : Bool) → min (cond d 0 (cond p 1 2)) 2 ≡ cond d 0 (cond p 1 2)
    go true p = refl
    go false true = refl
    go false false = refl

no_weight : (b : ℕ) → min (weight b) 0 ≡ 0
no_weight b = go (is_digit b) (is_point b)
  where
    go : (d p : Bool) → min (cond d 0 (cond p 1 2)) 0 ≡ 0
    go true p = refl
    go false true = refl
    go false false = refl

two_at_most : (b : ℕ) → weight b ≤ 2
two_at_most b = go (is_digit b) (is_point b)
  where
    go : (d p : Bool) → cond d 0 (cond p 1 2) ≤ 2
    go true p = omega arith
    go false true = omega arith
    go false false = omega arith

-- ---- what bytes weigh together
weigh_append : (x y : List ℕ) → weigh (x ++ y) ≡ weigh x + weigh y
unfolding weigh
weigh_append [] y = omega arith
weigh_append (b ∷ x) y = let e = weigh_append x y in omega (arith, e)

weigh_one : (b : ℕ) → weigh (b ∷ []) ≡ weight b
unfolding weigh
weigh_one b = omega arith

-- the sum of the first i of sixteen bytes, of which `len` count
pub record Weighing (text : List ℕ) (from len i sum : ℕ) : Type 0 where
  pub within : i ≤ 16
  pub light : sum ≤ 2 * i
  pub is : sum ≡ weigh (take i (take len (drop from text)))

pub nothing_weighed : (text : List ℕ) (from len : ℕ) → Weighing text from len 0 0
unfolding weigh
nothing_weighed text from len = record { within = omega arith; light = omega arith; is = refl }

-- what the byte at i adds
pub record Adds (text : List ℕ) (from len i added : ℕ) : Type 0 where
  pub few : added ≤ 2
  pub is : weigh (take (i + 1) (take len (drop from text))) ≡ weigh (take i (take len (drop from text))) + added

module _ (text : List ℕ) (from len i : ℕ) (l : i < 16) (short : len ≤ 16) (room : from + 16 ≤ length text) where
  abbrev w : List ℕ
  w = take len (drop from text)

  w_length : length w ≡ len
  w_length = length-take-le len (drop from text) (omega (arith, length-drop from text))

  inside : i < len → Adds text from len i (min (weight (get_or text (from + i) 0)) (get_or twos_then_none (16 - len + i) 0))
  inside h =
      let b = get_or text (from + i) 0 in
      let limit : get_or twos_then_none (16 - len + i) 0 ≡ 2 = limit_in (16 - len + i) (omega arith) in
      let last : get_or w i 0 ≡ b = get_or-take len (drop from text) i 0 h ∙ get_or-drop from text i 0 in
      let more : take (i + 1) w ≡ take i w ++ (b ∷ []) = rw (add-one i, sym last) (take-suc w i 0 (omega (arith, w_length))) in
      rw (limit, own_weight b) (record { few = two_at_most b; is = rw more (weigh_append (take i w) (b ∷ []) ∙ rw (weigh_one b)) })

  behind : len ≤ i → Adds text from len i (min (weight (get_or text (from + i) 0)) (get_or twos_then_none (16 - len + i) 0))
  behind h =
      let b = get_or text (from + i) 0 in
      let place : 16 - len + i ≡ 16 + (i - len) = omega arith in
      let limit : get_or twos_then_none (16 + (i - len)) 0 ≡ 0 = limit_behind (i - len) (omega arith) in
      let now : take i w ≡ w = take_all i w (omega (arith, w_length)) in
      let later : take (i + 1) w ≡ w = take_all (i + 1) w (omega (arith, w_length)) in
      rw (place, limit, no_weight b) (record { few = omega arith; is = rw (now, later) (omega arith) })

  pub adds : Adds text from len i (min (weight (get_or text (from + i) 0)) (get_or twos_then_none (16 - len + i) 0))
  adds = go (ltb i len) refl
    where
      go : (t : Bool) → ltb i len ≡ t → Adds text from len i (min (weight (get_or text (from + i) 0)) (get_or twos_then_none (16 - len + i) 0))
      go true e = inside (ltb-true i len e)
      go false e = behind (ltb-false i len e)

module _ {text : List ℕ} {from len i sum : ℕ} (h : Weighing text from len i sum) where
  pub one_weighed : {added : ℕ} → i < 16 → Adds text from len i added → Weighing text from len (i + 1) (sum + added)
  one_weighed {added} l a = record { within = omega arith; light = omega (arith, h.light, a.few); is = sym (rw (sym h.is) at a.is) }

  pub all_weighed : 16 ≤ i → len ≤ 16 → from + 16 ≤ length text → sum ≡ weigh (take len (drop from text))
  all_weighed l short room =
      let width = length-take-le len (drop from text) (omega (arith, length-drop from text)) in
      rw (take_all i (take len (drop from text)) (omega (arith, width))) at h.is
