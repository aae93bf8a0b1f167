-- What the loops over digits have read at each turn.
-- Assumes nothing.
use mathlib.Core.Path.{◌≡◌, refl, sym, ap, ◌∙◌}
use mathlib.Core.Bool.{Bool, true, false, cond, not, ◌||◌, ◌&&◌, false≢true}
use mathlib.Core.List.{List, [], ◌∷◌, ◌++◌}
use Prim.Native.Nat.{ℕ, zero, suc, ◌+◌, ◌-◌, ◌*◌, ◌^◌, ◌≤◌, ◌<◌, min}
use native.Mathlib.Nat.{pow-succ', pow-le-pow_right, zero-lt-suc}
use native.Mathlib.Numerals.{add-one}
use native.Mathlib.Omega.{arith}
use lib.Dec.{ltb}
use lib.ListN.{length, take, drop, get_or, length-drop, take-append-drop}
use lib.Seq.{take-suc, take_all, drop-drop, get_or-drop}
use borrow.Author.Tests.{ne_eqb, lt-ltb, le-ltb}
use Rattle.lists.specs.Lists.{every}
use Rattle.lists.proofs.Cases.{and_both}
use Rattle.rounding.specs.Rounding.{size_limit}
use Rattle.scan.specs.Bytes.{is_digit}
use Rattle.scan.specs.Front.{rest, part}
use Rattle.scan.specs.Runs.{first_not}
use Rattle.scan.proofs.Bytes.{digit_high}
use Rattle.scan.proofs.Front.{rest_in, rest_past}
use Rattle.scan.proofs.Runs.{on, stop, past}
use Rattle.number.proofs.Plain.{every_append}
use Rattle.number.proofs.Fours.{every_on}
use Rattle.decimal.specs.declared.Kept.{Kept}
use Rattle.std.specs.Prelude.{Some, None, ◌↔◌}
use Rattle.decimal.specs.Decimal.{leading, read_on, value_of}
use Rattle.decimal.specs.Code.{raw_on, is_nought, tail_of, number_of, keep_one, keep_all, Keeps, kept}
use Rattle.decimal.proofs.Value.{held_on, raw_seven}
use Rattle.decimal.proofs.Digits.{leading_on, leading_stop, leading_past, part_on, part_stop, part_past}

-- ---- a few digits: what is read of them, and what is left
ten_up_to : (k n : ℕ) → k ≤ n → 10 ^ k ≤ 10 ^ n
ten_up_to k n h = pow-le-pow_right (zero-lt-suc 9) h

pub record Few (w : List ℕ) (from to value i : ℕ) : Type 0 where
  pub start : from ≤ i
  pub within : i ≤ to
  pub small : value < 10 ^ (i - from)
  pub told : read_on value (leading is_digit (part w i to)) ≡ value_of (leading is_digit (part w from to))
  pub ends : i + length (leading is_digit (part w i to)) ≡ from + length (leading is_digit (part w from to))

pub record FewAre (w : List ℕ) (from to value i : ℕ) : Type 0 where
  pub told : value ≡ value_of (leading is_digit (part w from to))
  pub ends : i ≡ from + length (leading is_digit (part w from to))

read_none : (n : ℕ) → read_on n [] ≡ n
unfolding read_on
read_none n = refl

read_one : (n b : ℕ) (l : List ℕ) → read_on n (b ∷ l) ≡ read_on (n * 10 + (b - 48)) l
unfolding read_on
read_one n b l = refl

pub few_none : (w : List ℕ) (from to : ℕ) → from ≤ to → Few w from to 0 from
few_none w from to h =
    let z : from - from ≡ 0 = omega arith in
    record { start = omega arith; within = h; small = rw z (omega arith); told = refl; ends = refl }

module _ {w : List ℕ} {from to value i : ℕ} (h : Few w from to value i) where
  -- it fits
  pub few_small : to ≤ from + 10 → i < to → value < 1000000000
  few_small t l = omega (arith, h.small, ten_up_to (i - from) 9 (omega (arith, h.start)))

  few_all : leading is_digit (part w i to) ≡ [] → FewAre w from to value i
  few_all e = record {
    told = sym (read_none value) ∙ ap (read_on value) (sym e) ∙ h.told;
    ends = omega (arith, ap length e, h.ends);
  }

  pub few_end : to ≤ i → FewAre w from to value i
  few_end l = few_all (part_past is_digit w i to l)

  module _ (fits : to ≤ length w) (l : i < to) where
    pub few_stop : is_digit (get_or w i 0) ≡ false → FewAre w from to value i
    few_stop t = few_all (part_stop is_digit w i to (omega arith) l t)

    pub few_on : is_digit (get_or w i 0) ≡ true → Few w from to (value * 10 + (get_or w i 0 - 48)) (i + 1)
    few_on t =
        let e = part_on is_digit w i to (omega arith) l t in
        let k : i + 1 - from ≡ suc (i - from) = omega (arith, h.start) in
        record {
          start = omega (arith, h.start);
          within = omega arith;
          small = rw (k, pow-succ' 10 (i - from)) (omega (arith, h.small, digit_high (get_or w i 0) t));
          told = sym (ap (read_on value) e ∙ read_one value (get_or w i 0) (leading is_digit (part w (i + 1) to))) ∙ h.told;
          ends = omega (arith, ap length e, h.ends);
        }

-- ---- digits up to a text's end
pub every_index : (p : ℕ → Bool) (l : List ℕ) → ((k : ℕ) → k < length l → p (get_or l k 0) ≡ true) → every p l ≡ true
unfolding every
every_index p [] h = refl
every_index p (b ∷ l) h = rw (h 0 (omega arith)) (every_index p l (λ k t. h (suc k) (omega arith)))

index_every : (p : ℕ → Bool) (l : List ℕ) → every p l ≡ true → (k : ℕ) → k < length l → p (get_or l k 0) ≡ true
unfolding every
index_every p [] e k h = absurd (omega arith)
index_every p (b ∷ l) e zero h = (and_both (p b) (every p l) e).0
index_every p (b ∷ l) e (suc k) h = index_every p l (and_both (p b) (every p l) e).1 k (omega arith)

pub told_every : (p : ℕ → Bool) (l : List ℕ) (r : Bool) → ((r ≡ true) ↔ ((k : ℕ) → k < length l → p (get_or l k 0) ≡ true)) → r ≡ every p l
told_every p l true h = sym (every_index p l (h.0 refl))
told_every p l false h = go (every p l) refl
  where
    go : (t : Bool) → every p l ≡ t → false ≡ t
    go true e = absurd (false≢true (h.1 (index_every p l e)))
    go false e = refl

-- four at a time, and then one at a time: those from i on are digits if all are
pub record DigitsFrom (w : List ℕ) (from i : ℕ) : Type 0 where
  pub within : i ≤ length w
  pub same : every is_digit (rest w i) ≡ every is_digit (rest w from)

pub digits_none : (w : List ℕ) (from : ℕ) → from ≤ length w → DigitsFrom w from from
digits_none w from h = record { within = h; same = refl }

module _ {w : List ℕ} {from i : ℕ} (h : DigitsFrom w from i) (l : 4 ≤ length w - i) where
  split : every is_digit (rest w i) ≡ (every is_digit (take 4 (drop i w)) && every is_digit (rest w (i + 4)))
  unfolding rest
  split =
      ap (every is_digit) (sym (take-append-drop 4 (drop i w)) ∙ ap (λ (x : List ℕ). take 4 (drop i w) ++ x) (drop-drop 4 i w))
      ∙ every_append is_digit (take 4 (drop i w)) (drop (i + 4) w)

  -- those that are told stand from i on
  window : take (i + 4 - i) (drop i w) ≡ take 4 (drop i w)
  window = let n : i + 4 - i ≡ 4 = omega arith in ap (λ (k : ℕ). take k (drop i w)) n

  pub four_stop : every is_digit (take (i + 4 - i) (drop i w)) ≡ false → false ≡ every is_digit (rest w from)
  four_stop t = rw (split, sym (ap (every is_digit) window) ∙ t) at h.same

  pub four_on : every is_digit (take (i + 4 - i) (drop i w)) ≡ true → DigitsFrom w from (i + 4)
  four_on t = record { within = omega (arith, h.within); same = rw (split, sym (ap (every is_digit) window) ∙ t) at h.same }

-- ---- the bytes of a text's rest by their places in the text
pub sliced_all : (w : List ℕ) (e : ℕ) → take (length w - e) (drop e w) ≡ rest w e
unfolding rest
sliced_all w e = take_all (length w - e) (drop e w) (omega (arith, length-drop e w))

pub sliced : (w : List ℕ) (e i : ℕ) → i < length (take (length w - e) (drop e w)) → (get_or (take (length w - e) (drop e w)) i 0 ≡ get_or w (e + i) 0) × (e + i < length w)
sliced w e i h =
    let whole : take (length w - e) (drop e w) ≡ drop e w = take_all (length w - e) (drop e w) (omega (arith, length-drop e w)) in
    (ap (λ (l : List ℕ). get_or l i 0) whole ∙ get_or-drop e w i 0, omega (arith, ap length whole, length-drop e w))

pub sliced_end : (w : List ℕ) (e i : ℕ) → length (take (length w - e) (drop e w)) ≤ i → length w ≤ e + i
sliced_end w e i h =
    let whole : take (length w - e) (drop e w) ≡ drop e w = take_all (length w - e) (drop e w) (omega (arith, length-drop e w)) in
    omega (arith, ap length whole, length-drop e w)

-- ---- a text's tail: only zeros so far
pub record TailFrom (w : List ℕ) (from i : ℕ) : Type 0 where
  pub within : i ≤ length w
  pub same : tail_of (rest w i) ≡ tail_of (rest w from)

pub tail_none : (w : List ℕ) (from : ℕ) → from ≤ length w → TailFrom w from from
tail_none w from h = record { within = h; same = refl }

first_left : (b : ℕ) (l : List ℕ) → (b ≡ 48 → ⊥) → tail_of (b ∷ l) ≡ cond (every is_digit (b ∷ l)) (Some true) None
unfolding tail_of every
first_left b l n = rw (ne_eqb b 48 n)

module _ {w : List ℕ} {from i : ℕ} (h : TailFrom w from i) where
  pub tail_end : length w ≤ i → Some false ≡ tail_of (rest w from)
  unfolding tail_of every
  tail_end l = rw (rest_past w i l) at h.same

  module _ (l : i < length w) where
    pub tail_on : get_or w i 0 ≡ 48 → TailFrom w from (i + 1)
    unfolding tail_of every
    tail_on t = record { within = omega arith; same = rw (rest_in w i l, t) at h.same }

    -- at one that isn't 0
    module _ (n : get_or w i 0 ≡ 48 → ⊥) where
      told : cond (every is_digit (rest w i)) (Some true) None ≡ tail_of (rest w from)
      told = rw (rest_in w i l) (sym (first_left (get_or w i 0) (rest w (i + 1)) n) ∙ (rw (rest_in w i l) at h.same))

      pub tail_left : true ≡ every is_digit (rest w i) → Some true ≡ tail_of (rest w from)
      tail_left t = rw (sym t) at told

      pub tail_other : false ≡ every is_digit (rest w i) → None ≡ tail_of (rest w from)
      tail_other t = rw (sym t) at told

-- ---- seven bytes
pub record SevenSoFar (s : List ℕ) (all : Bool) (raw i : ℕ) : Type 0 where
  pub told : all ≡ every is_digit (take i s)
  pub read : raw ≡ raw_on 0 (take i s)
  pub small : raw + 29 ≤ 29 * 10 ^ i

raw_snoc : (n : ℕ) (x : List ℕ) (b : ℕ) → raw_on n (x ++ (b ∷ [])) ≡ raw_on n x * 10 + b
unfolding raw_on
raw_snoc n [] b = refl
raw_snoc n (a ∷ x) b = raw_snoc (n * 10 + a) x b

pub seven_none : (s : List ℕ) → SevenSoFar s true 0 0
unfolding every raw_on
seven_none s = record { told = refl; read = refl; small = omega arith }

module _ {s : List ℕ} {i raw : ℕ} {all : Bool} (h : SevenSoFar s all raw i) (seven : length s ≡ 7) where
  pub seven_small : i ≤ 7 → raw ≤ 290000000
  seven_small l = omega (arith, h.small, ten_up_to i 7 l)

  pub seven_on : {next : Bool} → i < length s → get_or s i 0 < 256 → next ≡ is_digit (get_or s i 0) → SevenSoFar s (all && next) (raw * 10 + get_or s i 0) (i + 1)
  seven_on l b n =
      let e : take (i + 1) s ≡ take i s ++ (get_or s i 0 ∷ []) = rw add-one (take-suc s i 0 l) in
      record {
        told = every_on s i l h.told n;
        read = rw (h.read, e) (sym (raw_snoc 0 (take i s) (get_or s i 0)));
        small = rw (add-one i, pow-succ' 10 i) (omega (arith, h.small));
      }

-- when all are read
module _ {s : List ℕ} {raw : ℕ} {all : Bool} (h : SevenSoFar s all raw (length s)) (seven : length s ≡ 7) where
  all_is : all ≡ every is_digit s
  all_is = h.told ∙ ap (every is_digit) (take_all (length s) s (omega arith))

  raw_is : all ≡ true → raw ≡ value_of s + 53333328
  raw_is t = h.read ∙ ap (raw_on 0) (take_all (length s) s (omega arith)) ∙ raw_seven s seven (sym all_is ∙ t)

  pub seven_high : all ≡ true → 53333328 ≤ raw
  seven_high t = omega (arith, raw_is t)

  pub seven_is : all ≡ true → Some (raw - 53333328) ≡ number_of s
  seven_is t =
      let e : raw - 53333328 ≡ value_of s = omega (arith, raw_is t) in
      rw (sym all_is ∙ t) (ap Some e)

  pub seven_other : all ≡ false → None ≡ number_of s
  seven_other t = rw (sym all_is ∙ t)

-- ---- a number held at 10000
pub record HeldFrom (w : List ℕ) (from n i : ℕ) : Type 0 where
  pub small : n ≤ 10000
  pub within : i ≤ length w
  pub told : min (read_on n (leading is_digit (rest w i))) 10000 ≡ min (value_of (leading is_digit (rest w from))) 10000
  pub ends : first_not is_digit w i ≡ first_not is_digit w from

pub holds_none : (w : List ℕ) (from : ℕ) → from ≤ length w → HeldFrom w from 0 from
holds_none w from h = record { small = omega arith; within = h; told = refl; ends = refl }

module _ {w : List ℕ} {from n i : ℕ} (h : HeldFrom w from n i) where
  holds_all : leading is_digit (rest w i) ≡ [] → n ≡ min (value_of (leading is_digit (rest w from))) 10000
  holds_all e =
      let z : n ≡ min n 10000 = omega (arith, h.small) in
      z ∙ sym (ap (λ (k : ℕ). min k 10000) (ap (read_on n) e ∙ read_none n)) ∙ h.told

  pub holds_end : length w ≤ i → (n ≡ min (value_of (leading is_digit (rest w from))) 10000) × (i ≡ first_not is_digit w from)
  holds_end l =
      let z : i ≡ first_not is_digit w i = omega (arith, past is_digit w i l, h.within) in
      (holds_all (leading_past is_digit w i l), z ∙ h.ends)

  module _ (l : i < length w) where
    pub holds_stop : is_digit (get_or w i 0) ≡ false → (n ≡ min (value_of (leading is_digit (rest w from))) 10000) × (i ≡ first_not is_digit w from)
    holds_stop t = (holds_all (leading_stop is_digit w i l t), sym (stop is_digit w i l t) ∙ h.ends)

    pub holds_on : (m : ℕ) → is_digit (get_or w i 0) ≡ true → m ≡ min (n * 10 + (get_or w i 0 - 48)) 10000 → HeldFrom w from m (i + 1)
    holds_on m t e =
        record {
          small = omega arith;
          within = omega arith;
          ends = on is_digit w i l t ∙ h.ends;
          told = ap (λ (k : ℕ). min (read_on k (leading is_digit (rest w (i + 1)))) 10000) e
              ∙ held_on (n * 10 + (get_or w i 0 - 48)) 10000 (leading is_digit (rest w (i + 1)))
              ∙ ap (λ (k : ℕ). min k 10000) (sym (ap (read_on n) (leading_on is_digit w i l t) ∙ read_one n (get_or w i 0) (leading is_digit (rest w (i + 1)))))
              ∙ h.told;
        }

-- ---- digits that are kept
pub record KeepsOn (w : List ℕ) (before k : Kept) (i : ℕ) : Type 0 where
  pub place : k.end ≡ i
  pub within : i ≤ length w
  pub small : k.value < 10 * size_limit
  pub fewer : k.dropped ≤ k.end
  pub told : keep_all k (leading is_digit (rest w i)) ≡ keep_all before (leading is_digit (rest w before.end))
  pub ends : first_not is_digit w i ≡ first_not is_digit w before.end

keep_none : (k : Kept) → keep_all k [] ≡ k
unfolding keep_all
keep_none k = refl

keep_first : (k : Kept) (b : ℕ) (l : List ℕ) → keep_all k (b ∷ l) ≡ keep_all (keep_one k b) l
unfolding keep_all
keep_first k b l = refl

keep_place : (k : Kept) (b : ℕ) → (keep_one k b).end ≡ k.end + 1
keep_place k b = go (ltb k.value size_limit)
  where
    go : (t : Bool) → (cond {A = Kept} t (record { value = k.value * 10 + (b - 48); dropped = k.dropped; rest = k.rest; end = k.end + 1 }) (record { value = k.value; dropped = k.dropped + 1; rest = k.rest || not (is_nought b); end = k.end + 1 })).end ≡ k.end + 1
    go true = refl
    go false = refl

pub keeps_none : (w : List ℕ) (k : Kept) → k.end ≤ length w → k.value < 10 * size_limit → k.dropped ≤ k.end → KeepsOn w k k k.end
keeps_none w k h v d = record { place = refl; within = h; small = v; fewer = d; told = refl; ends = refl }

module _ {w : List ℕ} {before k : Kept} {i : ℕ} (h : KeepsOn w before k i) where
  keeps_all : leading is_digit (rest w i) ≡ [] → first_not is_digit w i ≡ i → Keeps w before k
  keeps_all e f = record {
    is = sym (keep_none k) ∙ ap (keep_all k) (sym e) ∙ h.told;
    end = h.place ∙ sym f ∙ h.ends;
    value = h.small;
    dropped = h.fewer;
  }

  pub keeps_end : length w ≤ i → Keeps w before k
  keeps_end l = keeps_all (leading_past is_digit w i l) (omega (arith, past is_digit w i l, h.within))

  module _ (l : i < length w) where
    pub keeps_stop : is_digit (get_or w i 0) ≡ false → Keeps w before k
    keeps_stop t = keeps_all (leading_stop is_digit w i l t) (stop is_digit w i l t)

    pub keeps_more : (m : Kept) → is_digit (get_or w i 0) ≡ true → m ≡ keep_one k (get_or w i 0) → m.value < 10 * size_limit → m.dropped ≤ m.end → KeepsOn w before m (i + 1)
    keeps_more m t e v d = record {
      place = ap (λ (x : Kept). x.end) e ∙ keep_place k (get_or w i 0) ∙ ap (λ (j : ℕ). j + 1) h.place;
      within = omega arith;
      small = v;
      fewer = d;
      told = ap (λ (x : Kept). keep_all x (leading is_digit (rest w (i + 1)))) e ∙ sym (ap (keep_all k) (leading_on is_digit w i l t) ∙ keep_first k (get_or w i 0) (leading is_digit (rest w (i + 1)))) ∙ h.told;
      ends = on is_digit w i l t ∙ h.ends;
    }

  -- what is kept behind it is kept behind what was before
  pub keeps_then : {r : Kept} → Keeps w k r → Keeps w before r
  keeps_then r = record {
    is = r.is ∙ ap (λ (n : ℕ). keep_all k (leading is_digit (rest w n))) h.place ∙ h.told;
    end = r.end ∙ ap (first_not is_digit w) h.place ∙ h.ends;
    value = r.value;
    dropped = r.dropped;
  }

-- ---- one digit more: it is kept below the limit, and from there on only told
pub keeps_value : (k : Kept) (b : ℕ) → k.value < size_limit → kept (k.value * 10 + (b - 48)) k.dropped k.rest (k.end + 1) ≡ keep_one k b
keeps_value k b h = rw (lt-ltb k.value size_limit h)

drops_digit : (k : Kept) (b : ℕ) → size_limit ≤ k.value → kept k.value (k.dropped + 1) (k.rest || not (is_nought b)) (k.end + 1) ≡ keep_one k b
drops_digit k b h = rw (le-ltb k.value size_limit h)

-- ---- digits that are only told, up to i
pub record DropsOn (w : List ℕ) (before k : Kept) (i : ℕ) : Type 0 where
  pub keeps : KeepsOn w before k i
  pub over : size_limit ≤ k.value

pub drops_more : {w : List ℕ} {before k : Kept} {i : ℕ} → DropsOn w before k i → i < length w → is_digit (get_or w i 0) ≡ true → DropsOn w before (kept k.value (k.dropped + 1) (k.rest || not (is_nought (get_or w i 0))) (k.end + 1)) (i + 1)
drops_more {w} {before} {k} {i} h l t = record {
  keeps = keeps_more h.keeps l (kept k.value (k.dropped + 1) (k.rest || not (is_nought (get_or w i 0))) (k.end + 1)) t (drops_digit k (get_or w i 0) h.over) h.keeps.small (omega (arith, h.keeps.fewer));
  over = h.over;
}
