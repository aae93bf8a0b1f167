-- The walk's definition, a test of the code at a time.
-- Assumes nothing.
use mathlib.Core.Path.{◌≡◌, refl, sym, ap, ◌∙◌}
use mathlib.Core.Bool.{Bool, true, false, false≢true, cond}
use mathlib.Core.List.{List}
use Prim.Native.Nat.{ℕ, ◌+◌, ◌-◌, ◌^◌, ◌≤◌, ◌<◌}
use native.Mathlib.Omega.{arith}
use lib.Dec.{eqb, leb, ltb}
use lib.ListN.{length}
use borrow.Author.Tests.{ltb-true, leb-false, lt-ltb, le-ltb}
use Rattle.store.specs.Rows.{Row, row, node_room, row_at}
use Rattle.nodes.specs.declared.Frame.{Frame}
use Rattle.nodes.specs.declared.Visit.{Visit}
use Rattle.nodes.specs.declared.Met.TheVariants as met
use Rattle.nodes.specs.Nodes.{no_kind, visit_of}
use Rattle.walk.specs.declared.Walk.{Walk}
use Rattle.walk.specs.declared.Coming.TheVariants.{Child, End, Last}
use Rattle.std.specs.Prelude.{Option, Some, None}
use Rattle.walk.specs.Walk.{frames, HasChild, frame_at, walk_at, walked, ill, coming_in, coming_next, meeting, wanted_from, Taken, entering, advanced_by, advancing, met_by, walk_step}
use Rattle.walk.proofs.Wants.{wants_here, wants_below}

-- ---- a row that is given
-- a node wants a child, and the row can be counted
module _ (s : List Frame) (long : length s ≡ frames) (w : Walk) (r : Row) (t : ℕ) (e : wanted_from s w.top ≡ Some t) (counted : w.row + 1 < 2 ^ 64) (f : Frame) (i : f ≡ frame_at s t) where
  pub has_child : HasChild (walk_at w.row w.number t) (visit_of w.row w.number f r)
  has_child =
      let h = wants_below s long e in
      record { row = counted; top = h.inside; next = rw i (leb-false (frame_at s t).parts (frame_at s t).next h.unspent) }

  pub enters : (count : ℕ) → meeting s count (walk_at w.row w.number t) (visit_of w.row w.number f r) ≡ entering s count w r
  unfolding entering
  enters count = rw (e, lt-ltb (w.row + 1) (2 ^ 64) counted, i)

-- whether a walk was taken on in place says what entering answers
module _ (w : Walk) {w' : Walk} {s' : List Frame} where
  pub taken_on : (t : Taken) → (true, w', s') ≡ advanced_by w t → (Some w', s') ≡ t
  taken_on (Some v, s) e = ap (λ p. (Some p.1, p.2)) e
  taken_on (None, s) e = absurd (false≢true (sym (ap (λ p. p.0) e)))

  pub not_taken_on : (t : Taken) → (false, w', s') ≡ advanced_by w t → (None, s') ≡ t
  not_taken_on (Some v, s) e = absurd (false≢true (ap (λ p. p.0) e))
  not_taken_on (None, s) e = ap (λ p. (None, p.2)) e

-- what entering answers, in place
module _ (s : List Frame) (count : ℕ) (w : Walk) (r : Row) {s' : List Frame} where
  pub met_in_place : {w' : Walk} → (Some w', s') ≡ entering s count w r → (true, w', s') ≡ advancing s count w r
  unfolding advancing
  met_in_place e = ap (advanced_by w) e

  pub ill_in_place : (None, s') ≡ entering s count w r → (false, w, s') ≡ advancing s count w r
  unfolding advancing
  ill_in_place e = ap (advanced_by w) e

module _ (s : List Frame) (count : ℕ) (w : Walk) (r : Row) where
  pub none_wanted : wanted_from s w.top ≡ None → (None, s) ≡ entering s count w r
  unfolding entering
  none_wanted e = rw e

  pub not_counted : (t : ℕ) → wanted_from s w.top ≡ Some t → 2 ^ 64 ≤ w.row + 1 → (None, s) ≡ entering s count w r
  unfolding entering
  not_counted t e h = rw (e, le-ltb (w.row + 1) (2 ^ 64) h)

-- ---- a row of the slice
-- a child is wanted of an open node that has one to come
module _ (s : List Frame) (w : Walk) (f : Frame) where
  wanted_of : coming_next s w ≡ Child f → (w.top < frames) × (f.next < f.parts) × (f ≡ frame_at s w.top)
  unfolding coming_next coming_in
  wanted_of e = go (ltb w.top frames) refl (leb (frame_at s w.top).parts (frame_at s w.top).next) refl (eqb (frame_at s w.top).kind no_kind) e
    where
      go : (a : Bool) → ltb w.top frames ≡ a → (b : Bool) → leb (frame_at s w.top).parts (frame_at s w.top).next ≡ b → (d : Bool) → cond a (cond b (cond d Last (End (frame_at s w.top).row (w.row - (frame_at s w.top).row) (walk_at w.row w.number (w.top + 1)))) (Child (frame_at s w.top))) Last ≡ Child f → (w.top < frames) × (f.next < f.parts) × (f ≡ frame_at s w.top)
      go false x b y d z = let n : ◌≡◌ {A = ℕ} 0 1 = cc in absurd (omega arith)
      go true x true y true z = let n : ◌≡◌ {A = ℕ} 0 1 = cc in absurd (omega arith)
      go true x true y false z = let n : ◌≡◌ {A = ℕ} 0 1 = cc in absurd (omega arith)
      go true x false y d z =
          let i : frame_at s w.top ≡ f = cc in
          (ltb-true w.top frames x, rw i at (leb-false (frame_at s w.top).parts (frame_at s w.top).next y), sym i)

module _ (nodes : List ℕ) (count : ℕ) (s : List Frame) (long : length s ≡ frames) (w : Walk) (f : Frame) (e : coming_next s w ≡ Child f) where
  pub no_row : node_room nodes ≤ w.row → ill s w ≡ walk_step nodes count s w
  unfolding walk_step
  no_row h = rw (e, le-ltb w.row (node_room nodes) h)

  -- the next row is given
  module _ (v : Visit) (i : v ≡ visit_of w.row w.number f (row_at nodes w.row)) (here : w.row < node_room nodes) (counted : w.row + 1 < 2 ^ 64) (x : Option Walk) (s' : List Frame)
      (q : (x, s') ≡ entering s count w (row v.kind v.dimension v.parts)) where
    given : met_by w v (x, s') ≡ walk_step nodes count s w
    unfolding walk_step
    given =
        let o = wanted_of s w f e in
        let b : wanted_from s w.top ≡ Some w.top = wants_here s w.top f o.2 o.0 o.1 in
        let m : (x, s') ≡ meeting s count w v = q ∙ rw i (sym (enters s long w (row_at nodes w.row) w.top b counted f o.2 count)) in
        ap (met_by w v) m ∙ rw (e, lt-ltb w.row (node_room nodes) here, i)

    pub row_to : (w' : Walk) → x ≡ Some w' → (walked (met.Node v) w', s') ≡ walk_step nodes count s w
    row_to w' z = rw z at given

    pub row_ill : x ≡ None → ill s' w ≡ walk_step nodes count s w
    row_ill z = rw z at given
