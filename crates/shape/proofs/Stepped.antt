-- The walk over rows that lie in a slice meets what they are: a step of the code is a step of the meaning.
-- Assumes nothing.
use mathlib.Core.Path.{◌≡◌, refl, ap, ◌∙◌}
use mathlib.Core.Bool.{Bool, true, false, cond, ◌&&◌}
use mathlib.Core.Option.{none, some}
use mathlib.Core.List.{List, [], ◌∷◌}
use Prim.Native.Nat.{ℕ, ◌+◌, ◌-◌, ◌*◌, ◌≤◌, ◌<◌}
use native.Mathlib.Omega.{arith}
use lib.Dec.{eqb, leb, ltb}
use lib.ListN.{drop}
use Rattle.std.specs.Prelude.{Some, None}
use borrow.Author.Tests.{ne_eqb, leb-true, leb-false, ltb-true, ltb-false, eqb-true, eqb-false}
use Rattle.store.specs.Rows.{node_room, row_at, rows_in}
use Rattle.nodes.specs.declared.Frame.{Frame}
use Rattle.nodes.specs.declared.Visit.{Visit}
use Rattle.nodes.specs.declared.Met.{Met}
use Rattle.nodes.specs.declared.Met.TheVariants.{Node, End, Done, Ill}
use Rattle.nodes.specs.Nodes.{no_kind, visit_of, is_spent, node_end, node_ends, still_open, follow, at_last, meets_rows, meets}
use Rattle.nodes.proofs.Meets.{follow_both}
use Rattle.walk.specs.declared.Walk.{Walk}
use Rattle.walk.specs.declared.Coming.TheVariants as coming
use Rattle.walk.specs.Walk.{frames, frame_at, walk_at, walked, Taken, After, ill, coming_in, coming_next, meeting, last_met, met_by, step_to, step_at, walk_step, open_at, ahead_by, NumbersIn}
use Rattle.walk.proofs.Firsts.{firsts_cut, firsts_past}
use Rattle.walk.proofs.Stack.{open_past}
use Rattle.walk.proofs.Nested.{nested_outer, outermost}
use Rattle.walk.proofs.Fed.{Reached, MetBy, cut, nested_cut, wanted, met_row}
use Rattle.shape.specs.Walk.{rows_from, ahead}

-- ---- rows that are left
module _ (nodes : List ℕ) (i : ℕ) where
  pub rows_in_law : i < node_room nodes → rows_from nodes i ≡ row_at nodes i ∷ rows_from nodes (i + 1)
  unfolding rows_in
  rows_in_law h = firsts_cut (row_at nodes) (node_room nodes) i h

  pub rows_past : node_room nodes ≤ i → rows_from nodes i ≡ []
  unfolding rows_in
  rows_past h = firsts_past (row_at nodes) (node_room nodes) i h

-- what is left of a walk: it becomes less with each thing that is met
abbrev pub ahead_of : List ℕ → Walk → ℕ
ahead_of nodes w = 2 * (node_room nodes - w.row) + (frames - w.top)

-- the numbers of a node that is met are among those that there are
abbrev pub Numbered : ℕ → Met → Type 0
Numbered count (Node v) = NumbersIn count v
Numbered count (End i n) = Unit {0}
Numbered count Done = Unit {0}
Numbered count Ill = Unit {0}

-- ---- what a step tells: of a thing that is met, what is ahead after it
pub record Forward (nodes : List ℕ) (count : ℕ) (s : List Frame) (w : Walk) (m : Met) (w' : Walk) (s' : List Frame) : Type 0 where
  pub is : ahead nodes count s w ≡ follow (m ∷ []) (ahead nodes count s' w')
  pub less : ahead_of nodes w' < ahead_of nodes w
  pub numbers : Numbered count m
  pub reached : Reached s' w'

abbrev pub SteppedTo : List ℕ → ℕ → List Frame → Walk → Met → Walk → List Frame → Type 0
SteppedTo nodes count s w (Node v) w' s' = Forward nodes count s w (Node v) w' s'
SteppedTo nodes count s w (End i n) w' s' = Forward nodes count s w (End i n) w' s'
SteppedTo nodes count s w Done w' s' = ahead nodes count s w ≡ some []
SteppedTo nodes count s w Ill w' s' = ahead nodes count s w ≡ none

abbrev pub Stepped : List ℕ → ℕ → List Frame → Walk → After → Type 0
Stepped nodes count s w a = SteppedTo nodes count s w a.0.met a.0.next a.1

module _ (nodes : List ℕ) (count : ℕ) (s : List Frame) (w : Walk) (reached : Reached s w) where
  -- no node is open: no row and no number is left
  last : still_open (open_at s w) ≡ [] → node_ends (open_at s w) w.row ≡ [] → Stepped nodes count s w (walked (last_met nodes count w) w, s)
  unfolding meets meets_rows at_last last_met
  last a b = go (leb (node_room nodes) w.row) refl (eqb w.number count) refl
    where
      go : (x : Bool) → leb (node_room nodes) w.row ≡ x → (y : Bool) → eqb w.number count ≡ y → SteppedTo nodes count s w (cond (x && y) Done Ill) w s
      go true x true y = rw (rows_past nodes w.row (leb-true (node_room nodes) w.row x), a, b, y)
      go true x false y = rw (rows_past nodes w.row (leb-true (node_room nodes) w.row x), a, b, y)
      go false x y z = rw (rows_in_law nodes w.row (leb-false (node_room nodes) w.row x), a)

  none_open : open_at s w ≡ [] → Stepped nodes count s w (walked (last_met nodes count w) w, s)
  unfolding node_ends still_open
  none_open e = last (rw e) (rw e)

  module _ (in_frames : w.top < frames) where
    abbrev f : Frame
    f = frame_at s w.top

    abbrev outers : List Frame
    outers = drop (w.top + 1) s

    split : open_at s w ≡ f ∷ outers
    split = cut s w reached in_frames

    -- what stands above the root has ended
    above_ended : is_spent f ≡ true → f.kind ≡ no_kind → Stepped nodes count s w (walked (last_met nodes count w) w, s)
    unfolding node_ends still_open node_end
    above_ended spent k =
        let e = outermost (nested_cut s w reached in_frames) k in
        last (rw (split, e, spent)) (rw (split, e, spent, k))

    -- an open node has ended
    node_ended : is_spent f ≡ true → (f.kind ≡ no_kind → ⊥) → Stepped nodes count s w (walked (End f.row (w.row - f.row)) (walk_at w.row w.number (w.top + 1)), s)
    unfolding meets node_ends still_open node_end
    node_ended spent k = record {
      is = rw (split, spent, ne_eqb f.kind no_kind k) (follow_both (End f.row (w.row - f.row) ∷ []) (node_ends outers w.row) (meets_rows count (still_open outers) w.row w.number (rows_from nodes w.row)));
      less = omega arith;
      numbers = tt;
      reached = record { long = reached.long; nested = nested_outer (nested_cut s w reached in_frames) };
    }

    module _ (unspent : is_spent f ≡ false) where
      -- a child is wanted, and no row is there
      lacking : node_room nodes ≤ w.row → ahead nodes count s w ≡ none
      unfolding meets_rows at_last
      lacking h = wanted s w reached in_frames count unspent (rows_from nodes w.row) ∙ rw (rows_past nodes w.row h)

      -- and the next row of the slice is given
      met : w.row < node_room nodes → Stepped nodes count s w (step_to s count w (visit_of w.row w.number f (row_at nodes w.row)))
      met here = go (meeting s count w its_visit) (met_row s w reached in_frames count unspent (row_at nodes w.row))
        where
          its_visit : Visit
          its_visit = visit_of w.row w.number f (row_at nodes w.row)

          its_row : ahead nodes count s w ≡ ahead_by count s w (row_at nodes w.row ∷ rows_from nodes (w.row + 1))
          its_row = ap (ahead_by count s w) (rows_in_law nodes w.row here)

          go : (a : Taken) → MetBy count s w (row_at nodes w.row) its_visit a → Stepped nodes count s w (met_by w its_visit a)
          go (Some w', s') g = record {
            is = its_row ∙ g.is (rows_from nodes (w.row + 1)) ∙ rw g.row;
            less = omega (arith, g.row, g.top);
            numbers = g.numbers;
            reached = g.reached;
          }
          go (None, s') g = its_row ∙ g (rows_from nodes (w.row + 1))

      child : Stepped nodes count s w (step_at nodes count s w (coming.Child f))
      child = go (ltb w.row (node_room nodes)) refl
        where
          go : (a : Bool) → ltb w.row (node_room nodes) ≡ a → Stepped nodes count s w (cond a (step_to s count w (visit_of w.row w.number f (row_at nodes w.row))) (ill s w))
          go true x = met (ltb-true w.row (node_room nodes) x)
          go false x = lacking (ltb-false w.row (node_room nodes) x)

    in_frame : Stepped nodes count s w (step_at nodes count s w (coming_in f w))
    unfolding coming_in
    in_frame = go (is_spent f) refl (eqb f.kind no_kind) refl
      where
        go : (a : Bool) → is_spent f ≡ a → (b : Bool) → eqb f.kind no_kind ≡ b → Stepped nodes count s w (step_at nodes count s w (cond a (cond b coming.Last (coming.End f.row (w.row - f.row) (walk_at w.row w.number (w.top + 1)))) (coming.Child f)))
        go true x true y = above_ended x (eqb-true f.kind no_kind y)
        go true x false y = node_ended x (eqb-false f.kind no_kind y)
        go false x b y = child x

  -- a step of the code is a step of the meaning
  pub stepped : Stepped nodes count s w (walk_step nodes count s w)
  unfolding walk_step coming_next
  stepped = go (ltb w.top frames) refl
    where
      go : (a : Bool) → ltb w.top frames ≡ a → Stepped nodes count s w (step_at nodes count s w (cond a (coming_in (frame_at s w.top) w) coming.Last))
      go true x = in_frame (ltb-true w.top frames x)
      go false x = none_open (open_past s reached.long w.top (ltb-false w.top frames x))
