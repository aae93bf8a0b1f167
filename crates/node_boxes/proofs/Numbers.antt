-- Laws of a node's numbers, one after the other.
-- Assumes nothing.
use mathlib.Core.Path.{◌≡◌, refl, sym, ap, ap₂, ◌∙◌}
use mathlib.Core.Bool.{Bool, true, false, ◌&&◌, and-true, true≢false}
use mathlib.Core.List.{List}
use Prim.Native.Nat.{ℕ, zero, suc, ◌+◌, ◌-◌, ◌*◌, ◌≤◌, ◌<◌}
use native.Mathlib.Omega.{arith}
use native.Mathlib.Nat.{suc-mul}
use borrow.Author.Tests.{le-leb, lt-leb, ltb-true, ltb-false}
use lib.Dec.{ltb}
use lib.IntN.{ℤ}
use lib.ListN.{length}
use Rattle.scan.specs.Front.{part}
use Rattle.store.specs.Rows.{span_start_at, span_length_at}
use Rattle.shape.specs.Numbers.{is_number_at}
use Rattle.shape.proofs.Numbers.{text_all}
use Rattle.std.specs.Prelude.{Err}
use Rattle.rounding.specs.declared.NoSides.TheVariants.{NoNumber}
use Rattle.rounding.specs.Rounding.{Reckoned}
use Rattle.decimal.specs.Reckon.{reckoned}
use Rattle.bounds.specs.declared.Bounds.{Bounds}
use Rattle.bounds.specs.Bounds.{box, lower, higher}
use Rattle.node_boxes.specs.declared.Seen.{Seen}
use Rattle.node_boxes.specs.Turns.{reckoned_at, are_good, seen, offence_in, seen_next, seen_up_to, with_others, seen_one, seen_on, widened_axis, axis_next, sided_up_to, around_on}

-- ---- what a number row comes to: its span lies in the text, or not
module _ (text numbers : List ℕ) (i start len : ℕ) (s : start ≡ span_start_at numbers i) (e : len ≡ span_length_at numbers i) where
  pub reckoned_off : length text < start + len → (Err NoNumber) ≡ reckoned_at text numbers i
  unfolding reckoned_at
  reckoned_off h = rw (← s, ← e, lt-leb (start + len) (length text) h)

  pub reckoned_in : (r : Reckoned) → start + len ≤ length text → r ≡ reckoned (part text start (start + len)) → r ≡ reckoned_at text numbers i
  unfolding reckoned_at
  reckoned_in r h is = rw (← s, ← e, le-leb (start + len) (length text) h) (is ∙ ap reckoned (text_all text numbers i start len s e))

-- ---- numbers that are only some
-- one that is none stands behind one that is some
later : (text numbers : List ℕ) (first m : ℕ) → is_number_at text numbers first ≡ true → (i : ℕ) × (first ≤ i) × (i < m) × (is_number_at text numbers i ≡ false) → (i : ℕ) × (first + 1 ≤ i) × (i < m) × (is_number_at text numbers i ≡ false)
later text numbers first m e b = (b.0, go (ltb first b.0) refl, b.2, b.3)
  where
    go : (t : Bool) → ltb first b.0 ≡ t → first + 1 ≤ b.0
    go true q = omega (arith, ltb-true first b.0 q)
    go false q =
        let z : first ≡ b.0 = omega (arith, ltb-false first b.0 q, b.1) in
        absurd (true≢false (sym e ∙ ap (is_number_at text numbers) z ∙ b.3))

pub good_told : (text numbers : List ℕ) (first n m : ℕ) (b : Bool) → m ≡ first + n → (b ≡ true → (i : ℕ) → first ≤ i → i < m → is_number_at text numbers i ≡ true) → (b ≡ false → (i : ℕ) × (first ≤ i) × (i < m) × (is_number_at text numbers i ≡ false)) → b ≡ are_good text numbers first n
unfolding are_good
good_told text numbers first zero m true s good bad = refl
good_told text numbers first zero m false s good bad = let b = bad refl in absurd (omega (arith, b.1, b.2))
good_told text numbers first (suc n) m b s good bad = go (is_number_at text numbers first) refl b good bad (λ c g h. good_told text numbers (first + 1) n m c (omega arith) g h)
  where
    go : (t : Bool) → is_number_at text numbers first ≡ t → (b : Bool) → (b ≡ true → (i : ℕ) → first ≤ i → i < m → is_number_at text numbers i ≡ true) → (b ≡ false → (i : ℕ) × (first ≤ i) × (i < m) × (is_number_at text numbers i ≡ false)) → ((c : Bool) → (c ≡ true → (i : ℕ) → first + 1 ≤ i → i < m → is_number_at text numbers i ≡ true) → (c ≡ false → (i : ℕ) × (first + 1 ≤ i) × (i < m) × (is_number_at text numbers i ≡ false)) → c ≡ are_good text numbers (first + 1) n) → b ≡ (t && are_good text numbers (first + 1) n)
    go true e b good bad others = others b (λ t i h l. good t i (omega arith) l) (λ f. later text numbers first m e (bad f))
    go false e true good bad others = absurd (true≢false (sym (good refl first (omega arith) (omega arith)) ∙ e))
    go false e false good bad others = refl

-- ---- coordinates: one, and the others
module _ (text numbers : List ℕ) (w at n : ℕ) where
  pub seen_on_law : (s : Seen) → 0 < n → seen_on text numbers w (at + w) (n - 1) (seen_one text numbers w at s) ≡ seen_on text numbers w at n s
  unfolding seen_on
  seen_on_law s h = let z : n ≡ suc (n - 1) = omega arith in let y : suc (n - 1) - 1 ≡ n - 1 = omega arith in rw (z, y)

  pub around_on_law : (b : Bounds) → 0 < n → around_on text numbers w (at + w) (n - 1) (sided_up_to text numbers at 2 b) ≡ around_on text numbers w at n b
  unfolding around_on
  around_on_law b h = let z : n ≡ suc (n - 1) = omega arith in let y : suc (n - 1) - 1 ≡ n - 1 = omega arith in rw (z, y)

  pub seen_end : (s : Seen) → n ≤ 0 → s ≡ seen_on text numbers w at n s
  unfolding seen_on
  seen_end s h = let z : n ≡ 0 = omega arith in rw z

  pub around_end : (b : Bounds) → n ≤ 0 → b ≡ around_on text numbers w at n b
  unfolding around_on
  around_end b h = let z : n ≡ 0 = omega arith in rw z

-- those from the first on and the others lie below the bound
pub one_more : (n w : ℕ) → 0 < n → n * w ≡ (n - 1) * w + w
one_more n w h = let z : n ≡ suc (n - 1) = omega arith in ap (λ m. m * w) z ∙ suc-mul (n - 1) w

-- a coordinate: its X and its Y, and whether its other numbers are some
pub seen_one_law : (text numbers : List ℕ) (w at : ℕ) (s : Seen) {u : Seen} {others : Bool} → others ≡ are_good text numbers (at + 2) (w - 2) → u ≡ seen_up_to text numbers at 2 s → with_others others u ≡ seen_one text numbers w at s
unfolding seen_one
seen_one_law text numbers w at s e f = ap₂ with_others e f

-- of two numbers there are no others
pub seen_two : (text numbers : List ℕ) (w at : ℕ) (s : Seen) {u : Seen} → w ≤ 2 → u ≡ seen_up_to text numbers at 2 s → u ≡ seen_one text numbers w at s
unfolding seen_one are_good
seen_two text numbers w at s {u} h f =
    let z : w - 2 ≡ 0 = omega arith in
    rw z (ap (λ (g : Bool). seen g (offence_in u)) (sym (and-true u.good)) ∙ ap (with_others true) f)

-- ---- X and Y of a coordinate, by axis
module _ (text numbers : List ℕ) (at k : ℕ) where
  pub seen_next_law : (s : Seen) {r : Seen} → r ≡ seen_next numbers (at + k) (reckoned_at text numbers (at + k)) (seen_up_to text numbers at k s) → r ≡ seen_up_to text numbers at (k + 1) s
  unfolding seen_up_to
  seen_next_law s e = let z : k + 1 ≡ suc k = omega arith in rw z e

  pub sided_next : (b : Bounds) {c : Bounds} → c ≡ axis_next k (reckoned_at text numbers (at + k)) (sided_up_to text numbers at k b) → c ≡ sided_up_to text numbers at (k + 1) b
  unfolding sided_up_to
  sided_next b e = let z : k + 1 ≡ suc k = omega arith in rw z e

-- a box is widened on an axis
pub widened_x : (b : Bounds) (low high : ℤ) (axis : ℕ) → axis ≡ 0 → box (lower b.left low) (higher b.right high) b.bottom b.top ≡ widened_axis axis low high b
widened_x b low high axis z = rw z

pub widened_y : (b : Bounds) (low high : ℤ) (axis : ℕ) → (axis ≡ 0 → ⊥) → box b.left b.right (lower b.bottom low) (higher b.top high) ≡ widened_axis axis low high b
widened_y b low high axis n = let z : axis ≡ suc (axis - 1) = omega arith in rw z
