-- The box around coordinates holds each of them, is less than a unit too wide on each side, and lies in the box around more of them; without coordinates it is zeros.
-- Assumes nothing.
use mathlib.Core.Path.{◌≡◌, refl, ap, ap₂, sym, ◌∙◌, subst}
use mathlib.Core.Bool.{Bool, true, false, false≢true, cond, not}
use mathlib.Core.Logic.{⊎_elim}
use mathlib.Core.List.Memᴰ
use mathlib.Core.List.{List, [], ◌∷◌, map, flat_map, Memᴰ}
use Prim.Native.Nat.{ℕ}
use native.Mathlib.Omega.{arith}
use native.Mathlib.Nat.{le_trans}
use borrow.Author.Tests.{le-ltb}
use lib.Dec.{T, leb→le, le→leb}
use lib.IntN.{ℤ, pos, negsuc, ◌+ℤ◌, ◌-ℤ◌}
use lib.Signed.{lt_z, le_z, ◌≤ℤ◌, lt_z_no, ≤ℤ_refl}
use Rattle.tree.specs.Tree.{Coord}
use Rattle.decimal.specs.Decimal.{denominator, written}
use Rattle.decimal.specs.Units.{low, high}
use Rattle.decimal.specs.Reckon.{reckoned}
use Rattle.decimal.specs.Spellings.{is_sides}
use Rattle.decimal.proofs.Bounds.{times_le, low_below, high_above, low_near, high_near}
use Rattle.decimal.proofs.Spellings.{its_sides, same_reckoned}
use Rattle.bounds.proofs.Boxes as laws
use Rattle.bounds.specs.Bounds.{BoxRow, box_row, lower, higher, no_box}
use Rattle.node_boxes.specs.Boxes.{x_text, y_text, low_in, high_in, low_x, high_x, low_y, high_y, lowest, highest, box_around}
use Rattle.node_boxes.specs.Holds.{AtMost, AtLeast, Less, More, Placed, HoldsEach, NearEach, LiesIn, SameText, itself, spelt, Alike, AlikeEach}
use Rattle.node_boxes.proofs.Algebra.{not_less, not_both}

-- ---- the order
told_not : (b : Bool) → b ≡ false → T (not b)
told_not true e = absurd (false≢true (sym e))
told_not false e = tt

at_most : (a b : ℤ) → lt_z b a ≡ false → a ≤ℤ b
at_most a b e = lt_z_no {a = b} {b = a} (told_not (lt_z b a) e)

irrefl : (z : ℤ) → lt_z z z ≡ false
irrefl (pos n) = le-ltb n n (omega arith)
irrefl (negsuc n) = le-ltb n n (omega arith)

le_then : (a b c : ℤ) → T (le_z a b) → T (le_z b c) → T (le_z a c)
le_then (pos a) (pos b) (pos c) h k = le→leb a c (le_trans (leb→le a b h) (leb→le b c k))
le_then (pos a) (pos b) (negsuc c) h k = absurd k
le_then (pos a) (negsuc b) c h k = absurd h
le_then (negsuc a) b (pos c) h k = tt
le_then (negsuc a) (pos b) (negsuc c) h k = absurd k
le_then (negsuc a) (negsuc b) (negsuc c) h k = le→leb c a (le_trans (leb→le c b k) (leb→le b a h))

pub then : {a b c : ℤ} → a ≤ℤ b → b ≤ℤ c → a ≤ℤ c
then {a} {b} {c} h k = record { le = le_then a b c h.le k.le }

-- ---- the lower and the higher of two
lower_first : (a b : ℤ) → lt_z a (lower a b) ≡ false
lower_first a b = go (lt_z b a) refl
  where
    go : (x : Bool) → lt_z b a ≡ x → lt_z a (cond x b a) ≡ false
    go true e = not_both b a e
    go false e = irrefl a

lower_second : (a b : ℤ) → lt_z b (lower a b) ≡ false
lower_second a b = go (lt_z b a) refl
  where
    go : (x : Bool) → lt_z b a ≡ x → lt_z b (cond x b a) ≡ false
    go true e = irrefl b
    go false e = e

higher_first : (a b : ℤ) → lt_z (higher a b) a ≡ false
higher_first a b = go (lt_z a b) refl
  where
    go : (x : Bool) → lt_z a b ≡ x → lt_z (cond x b a) a ≡ false
    go true e = not_both a b e
    go false e = irrefl a

higher_second : (a b : ℤ) → lt_z (higher a b) b ≡ false
higher_second a b = go (lt_z a b) refl
  where
    go : (x : Bool) → lt_z a b ≡ x → lt_z (cond x b a) b ≡ false
    go true e = irrefl b
    go false e = e

-- ---- the lowest and the highest of many: past none of them, and one of them
pub record Reached (f : Coord → ℤ) (z : ℤ) (cs : List Coord) : Type 0 where
  pub by : Coord
  pub among : Memᴰ by cs
  pub is : z ≡ f by

module _ (f : Coord → ℤ) where
  lowest_start : (a : ℤ) (cs : List Coord) → lt_z a (lowest a (map f cs)) ≡ false
  unfolding lowest
  lowest_start a [] = irrefl a
  lowest_start a (c ∷ cs) = not_less (lowest (lower a (f c)) (map f cs)) (lower a (f c)) a (lowest_start (lower a (f c)) cs) (lower_first a (f c))

  lowest_each : (a : ℤ) (cs : List Coord) (c : Coord) → Memᴰ c cs → lt_z (f c) (lowest a (map f cs)) ≡ false
  unfolding lowest
  lowest_each a [] c m = absurd (Memᴰ.not-nil m)
  lowest_each a (d ∷ cs) c m =
      ⊎_elim
      (λ e. ap (λ z. lt_z (f z) (lowest (lower a (f d)) (map f cs))) e ∙ not_less (lowest (lower a (f d)) (map f cs)) (lower a (f d)) (f d) (lowest_start (lower a (f d)) cs) (lower_second a (f d)))
      (λ n. lowest_each (lower a (f d)) cs c n)
      (Memᴰ.cases_cons m)

  highest_start : (a : ℤ) (cs : List Coord) → lt_z (highest a (map f cs)) a ≡ false
  unfolding highest
  highest_start a [] = irrefl a
  highest_start a (c ∷ cs) = not_less a (higher a (f c)) (highest (higher a (f c)) (map f cs)) (higher_first a (f c)) (highest_start (higher a (f c)) cs)

  highest_each : (a : ℤ) (cs : List Coord) (c : Coord) → Memᴰ c cs → lt_z (highest a (map f cs)) (f c) ≡ false
  unfolding highest
  highest_each a [] c m = absurd (Memᴰ.not-nil m)
  highest_each a (d ∷ cs) c m =
      ⊎_elim
      (λ e. ap (λ z. lt_z (highest (higher a (f d)) (map f cs)) (f z)) e ∙ not_less (f d) (higher a (f d)) (highest (higher a (f d)) (map f cs)) (higher_second a (f d)) (highest_start (higher a (f d)) cs))
      (λ n. highest_each (higher a (f d)) cs c n)
      (Memᴰ.cases_cons m)

  -- one more in front, or one more after the first
  later : {z : ℤ} {b c : Coord} {cs : List Coord} → Reached f z (c ∷ cs) → Reached f z (b ∷ c ∷ cs)
  later r = record { by = r.by; among = Memᴰ.tail r.among; is = r.is }

  skipped : {z : ℤ} {b c : Coord} {cs : List Coord} → Reached f z (b ∷ cs) → Reached f z (b ∷ c ∷ cs)
  skipped r = record { by = r.by; among = ⊎_elim (λ e. Memᴰ.head e) (λ n. Memᴰ.tail (Memᴰ.tail n)) (Memᴰ.cases_cons r.among); is = r.is }

  lowest_reached : (b : Coord) (cs : List Coord) → Reached f (lowest (f b) (map f cs)) (b ∷ cs)
  unfolding lowest
  lowest_reached b [] = record { by = b; among = Memᴰ.head refl; is = refl }
  lowest_reached b (c ∷ cs) = go (lt_z (f c) (f b)) (later (lowest_reached c cs)) (skipped (lowest_reached b cs))
    where
      go : (x : Bool) → Reached f (lowest (f c) (map f cs)) (b ∷ c ∷ cs) → Reached f (lowest (f b) (map f cs)) (b ∷ c ∷ cs) → Reached f (lowest (cond x (f c) (f b)) (map f cs)) (b ∷ c ∷ cs)
      go true p q = p
      go false p q = q

  highest_reached : (b : Coord) (cs : List Coord) → Reached f (highest (f b) (map f cs)) (b ∷ cs)
  unfolding highest
  highest_reached b [] = record { by = b; among = Memᴰ.head refl; is = refl }
  highest_reached b (c ∷ cs) = go (lt_z (f b) (f c)) (later (highest_reached c cs)) (skipped (highest_reached b cs))
    where
      go : (x : Bool) → Reached f (highest (f c) (map f cs)) (b ∷ c ∷ cs) → Reached f (highest (f b) (map f cs)) (b ∷ c ∷ cs) → Reached f (highest (cond x (f c) (f b)) (map f cs)) (b ∷ c ∷ cs)
      go true p q = p
      go false p q = q

  -- of a first one and others
  lowest_all : (b : Coord) (cs : List Coord) (c : Coord) → Memᴰ c (b ∷ cs) → lowest (f b) (map f cs) ≤ℤ f c
  lowest_all b cs c m =
      at_most (lowest (f b) (map f cs)) (f c)
      (⊎_elim (λ e. ap (λ z. lt_z (f z) (lowest (f b) (map f cs))) e ∙ lowest_start (f b) cs) (λ n. lowest_each (f b) cs c n) (Memᴰ.cases_cons m))

  highest_all : (b : Coord) (cs : List Coord) (c : Coord) → Memᴰ c (b ∷ cs) → f c ≤ℤ highest (f b) (map f cs)
  highest_all b cs c m =
      at_most (f c) (highest (f b) (map f cs))
      (⊎_elim (λ e. ap (λ z. lt_z (highest (f b) (map f cs)) (f z)) e ∙ highest_start (f b) cs) (λ n. highest_each (f b) cs c n) (Memᴰ.cases_cons m))

-- ---- one number's sides
module _ (l : List ℕ) (e : is_sides (reckoned l) ≡ true) where
  low_is : low_in (reckoned l) ≡ low (written l)
  low_is = ap low_in (its_sides l e)

  high_is : high_in (reckoned l) ≡ high (written l)
  high_is = ap high_in (its_sides l e)

  low_holds : (z : ℤ) → z ≤ℤ low_in (reckoned l) → AtMost z l
  low_holds z h = then (times_le z (low (written l)) (denominator (written l)) (subst (λ (w : ℤ). z ≤ℤ w) low_is h)) (low_below (written l))

  high_holds : (z : ℤ) → high_in (reckoned l) ≤ℤ z → AtLeast z l
  high_holds z h = then (high_above (written l)) (times_le (high (written l)) z (denominator (written l)) (subst (λ (w : ℤ). w ≤ℤ z) high_is h))

  low_nears : (z : ℤ) → z ≡ low_in (reckoned l) → More (z +ℤ pos 1) l
  low_nears z h = subst (λ (w : ℤ). More (w +ℤ pos 1) l) (sym (h ∙ low_is)) (low_near (written l))

  high_nears : (z : ℤ) → z ≡ high_in (reckoned l) → Less (z -ℤ pos 1) l
  high_nears z h = subst (λ (w : ℤ). Less (w -ℤ pos 1) l) (sym (h ∙ high_is)) (high_near (written l))

-- ---- "so the box holds the shape"
pub box_holds : (cs : List Coord) → ((c : Coord) → Memᴰ c cs → Placed c) → HoldsEach cs (box_around cs)
unfolding box_around
box_holds [] p c m = absurd (Memᴰ.not-nil m)
box_holds (b ∷ cs) p c m = record {
  left = low_holds (x_text c) (p c m).x (lowest (low_x b) (map low_x cs)) (lowest_all low_x b cs c m);
  right = high_holds (x_text c) (p c m).x (highest (high_x b) (map high_x cs)) (highest_all high_x b cs c m);
  bottom = low_holds (y_text c) (p c m).y (lowest (low_y b) (map low_y cs)) (lowest_all low_y b cs c m);
  top = high_holds (y_text c) (p c m).y (highest (high_y b) (map high_y cs)) (highest_all high_y b cs c m);
}

-- ---- "and is less than one unit too wide on each side"
pub box_near : (cs : List Coord) → ((c : Coord) → Memᴰ c cs → Placed c) → NearEach cs (box_around cs)
unfolding box_around
box_near [] p = tt
box_near (b ∷ cs) p =
    let l = lowest_reached low_x b cs in
    let r = highest_reached high_x b cs in
    let d = lowest_reached low_y b cs in
    let u = highest_reached high_y b cs in
    record {
      left = (l.by, l.among, low_nears (x_text l.by) (p l.by l.among).x (lowest (low_x b) (map low_x cs)) l.is);
      right = (r.by, r.among, high_nears (x_text r.by) (p r.by r.among).x (highest (high_x b) (map high_x cs)) r.is);
      bottom = (d.by, d.among, low_nears (y_text d.by) (p d.by d.among).y (lowest (low_y b) (map low_y cs)) d.is);
      top = (u.by, u.among, high_nears (y_text u.by) (p u.by u.among).y (highest (high_y b) (map high_y cs)) u.is);
    }

-- ---- "all 0 without coordinates", and 1 with some
pub box_none : box_around [] ≡ no_box
unfolding box_around
box_none = refl

pub box_some : (c : Coord) (cs : List Coord) → (box_around (c ∷ cs)).first ≡ pos 1
unfolding box_around
box_some c cs = refl

pub some_of : (cs : List Coord) → ((box_around cs).first ≡ pos 1) → (cs ≡ [] → ⊥)
unfolding box_around
some_of cs h e = let z : (box_around []).first ≡ pos 1 = rw e at h in no_one z
  where
    no_one : (box_around []).first ≡ pos 1 → ⊥
    no_one z = false≢true (ap (λ (w : ℤ). lt_z (pos 0) w) z)

-- ---- "a child's box lies in its parent's": the box around some lies in the box around more
pub box_inside : (ds cs : List Coord) → ((c : Coord) → Memᴰ c ds → Memᴰ c cs) → LiesIn (box_around ds) (box_around cs)
unfolding box_around
box_inside [] cs m h = absurd (false≢true (ap (λ (w : ℤ). lt_z (pos 0) w) h))
box_inside (d ∷ ds) [] m h = absurd (Memᴰ.not-nil (m d (Memᴰ.head refl)))
box_inside (d ∷ ds) (c ∷ cs) m h =
    let l = lowest_reached low_x d ds in
    let r = highest_reached high_x d ds in
    let b = lowest_reached low_y d ds in
    let t = highest_reached high_y d ds in (
      refl,
      record {
        left = subst (λ (z : ℤ). lowest (low_x c) (map low_x cs) ≤ℤ z) (sym l.is) (lowest_all low_x c cs l.by (m l.by l.among));
        right = subst (λ (z : ℤ). z ≤ℤ highest (high_x c) (map high_x cs)) (sym r.is) (highest_all high_x c cs r.by (m r.by r.among));
        bottom = subst (λ (z : ℤ). lowest (low_y c) (map low_y cs) ≤ℤ z) (sym b.is) (lowest_all low_y c cs b.by (m b.by b.among));
        top = subst (λ (z : ℤ). z ≤ℤ highest (high_y c) (map high_y cs)) (sym t.is) (highest_all high_y c cs t.by (m t.by t.among));
      },
    )

pub inside_self : (r : BoxRow) → LiesIn r r
inside_self r h = (h, record { left = ≤ℤ_refl r.bounds.left; right = ≤ℤ_refl r.bounds.right; bottom = ≤ℤ_refl r.bounds.bottom; top = ≤ℤ_refl r.bounds.top })

-- the coordinates of a part are among those of all parts
pub part_of : {X : Type 0} (co : X → List Coord) (x : X) (xs : List X) → Memᴰ x xs → (c : Coord) → Memᴰ c (co x) → Memᴰ c (flat_map co xs)
unfolding flat_map
part_of co x [] m c n = absurd (Memᴰ.not-nil m)
part_of co x (y ∷ xs) m c n =
    ⊎_elim
    (λ e. Memᴰ.append_left (flat_map co xs) (subst (λ z. Memᴰ c (co z)) e n))
    (λ k. Memᴰ.append_right (co y) (part_of co x xs k c n))
    (Memᴰ.cases_cons m)

pub part_inside : {X : Type 0} (co : X → List Coord) (x : X) (xs : List X) → Memᴰ x xs → LiesIn (box_around (co x)) (box_around (flat_map co xs))
part_inside co x xs m = box_inside (co x) (flat_map co xs) (part_of co x xs m)

-- ---- equal decimals spelt otherwise give the same box
same_text : (l m : List ℕ) → SameText l m → reckoned l ≡ reckoned m
same_text l m (itself e) = ap reckoned e
same_text l m (spelt v w s) = same_reckoned l m v w s

module _ (f : Coord → ℤ) (same : (c d : Coord) → Alike c d → f c ≡ f d) where
  same_map : (cs ds : List Coord) → AlikeEach cs ds → map f cs ≡ map f ds
  unfolding AlikeEach
  same_map [] [] h = refl
  same_map [] (d ∷ ds) h = absurd h
  same_map (c ∷ cs) [] h = absurd h
  same_map (c ∷ cs) (d ∷ ds) h = ap₂ (λ (a : ℤ) (l : List ℤ). a ∷ l) (same c d h.0) (same_map cs ds h.1)

same_low_x : (c d : Coord) → Alike c d → low_x c ≡ low_x d
same_low_x c d h = ap low_in (same_text (x_text c) (x_text d) h.x)

same_high_x : (c d : Coord) → Alike c d → high_x c ≡ high_x d
same_high_x c d h = ap high_in (same_text (x_text c) (x_text d) h.x)

same_low_y : (c d : Coord) → Alike c d → low_y c ≡ low_y d
same_low_y c d h = ap low_in (same_text (y_text c) (y_text d) h.y)

same_high_y : (c d : Coord) → Alike c d → high_y c ≡ high_y d
same_high_y c d h = ap high_in (same_text (y_text c) (y_text d) h.y)

pub box_same : (cs ds : List Coord) → AlikeEach cs ds → box_around cs ≡ box_around ds
unfolding box_around AlikeEach
box_same [] [] h = refl
box_same [] (d ∷ ds) h = absurd h
box_same (c ∷ cs) [] h = absurd h
box_same (c ∷ cs) (d ∷ ds) h =
    ap (box_row (pos 1))
    (laws.same_box
    (ap₂ lowest (same_low_x c d h.0) (same_map low_x same_low_x cs ds h.1))
    (ap₂ highest (same_high_x c d h.0) (same_map high_x same_high_x cs ds h.1))
    (ap₂ lowest (same_low_y c d h.0) (same_map low_y same_low_y cs ds h.1))
    (ap₂ highest (same_high_y c d h.0) (same_map high_y same_high_y cs ds h.1)))
