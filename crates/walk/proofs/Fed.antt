-- Rows that are given one by one, whoever has them: the walk meets what they are, and after the last it has ended exactly when they are a tree.
-- Assumes nothing.
use mathlib.Core.Path.{◌≡◌, refl, ap, sym, ◌∙◌}
use mathlib.Core.Bool.{Bool, true, false, false≢true, cond, not, ◌&&◌}
use mathlib.Core.Option.{Option, none, some}
use mathlib.Core.List.{List, [], ◌∷◌}
use Prim.Native.Nat.{ℕ, ◌+◌, ◌-◌, ◌*◌, ◌^◌, ◌≤◌, ◌<◌}
use native.Mathlib.Omega.{arith}
use lib.Dec.{eqb, leb}
use borrow.Author.Tests.{le-leb, ne_eqb, leb-true, lt-ltb}
use lib.ListN.{length, set, drop, length-drop}
use Rattle.kinds.specs.Kinds.{kind_line_string, width}
use Rattle.store.specs.Rows.{Row}
use Rattle.lists.specs.Options.{is_some}
use Rattle.nodes.specs.declared.Frame.{Frame}
use Rattle.nodes.specs.declared.Visit.{Visit}
use Rattle.nodes.specs.declared.Met.{Met}
use Rattle.nodes.specs.declared.Met.TheVariants.{Node}
use Rattle.nodes.specs.Nodes.{above, visit_of, numbers_of, is_leaf, is_allowed, may_open, frame_of, onward, is_spent, node_ends, still_open, follow, at_last, meets_node, meets_rows, meets}
use Rattle.nodes.proofs.Meets.{meets_open}
use Rattle.walk.specs.declared.Walk.{Walk}
use Rattle.std.specs.Prelude as rust
use Rattle.std.specs.Prelude.{Some, None, is_none}
use Rattle.walk.specs.Walk.{frames, frame_at, put_next, walk_at, Taken, beginning, passing_leaf, pushing, meeting, wanted_from, entering_at, entering, has_ended, open_at, ahead_by, NumbersIn}
use Rattle.walk.proofs.Stack.{open_cut, open_past, open_put, long_put, open_next, long_next}
use Rattle.walk.proofs.Nested.{Nested, depth_limit_law, nested_above, nested_onward, nested_open}
use Rattle.walk.proofs.Wants.{WantsBelow, Wants, wants}

-- ---- walks that come from the start
pub record Reached (s : List Frame) (w : Walk) : Type 0 where
  pub long : length s ≡ frames
  pub nested : Nested (open_at s w)

pub record Begun (s : List Frame) (w : Walk) : Type 0 where
  pub reached : Reached s w
  pub row : w.row ≡ 0
  pub whole : (count : ℕ) (rs : List Row) → ahead_by count s w rs ≡ meets count (above ∷ []) 0 0 rs

module _ (s : List Frame) (long : length s ≡ frames) where
  first_open : drop 34 (set s 34 above) ≡ above ∷ []
  first_open = open_put s long 34 (omega arith) above ∙ ap (λ fs. above ∷ fs) (open_past s long 35 (omega arith))

  begun : Begun (beginning s).1 (beginning s).0
  unfolding beginning
  begun = record {
    reached = record { long = long_put s long 34 (omega arith) above; nested = rw first_open nested_above };
    row = refl;
    whole = λ count rs. ap (λ fs. meets count fs 0 0 rs) first_open;
  }

pub given_begin : (s₀ : List Frame) {s : List Frame} {w : Walk} → length s₀ ≡ frames → (w, s) ≡ beginning s₀ → Begun s w
given_begin s₀ {s} {w} long e =
    let i : w ≡ (beginning s₀).0 = ap (λ x. x.0) e in
    let j : s ≡ (beginning s₀).1 = ap (λ x. x.1) e in
    rw (i, j) (begun s₀ long)

-- ---- a row is met below the innermost open node
numbers_are : (v : Visit) → v.kind ≤ kind_line_string → numbers_of v ≡ v.parts * width v.dimension
unfolding numbers_of
numbers_are v k = rw (le-leb v.kind kind_line_string k)

is_leaf_law : (v : Visit) → v.kind ≤ kind_line_string → is_leaf v ≡ true
is_leaf_law v k = rw (le-leb v.kind kind_line_string k)

-- the node is met, and then what the rows after it are; its numbers are among those that there are
pub record Forth (count : ℕ) (s : List Frame) (w : Walk) (r : Row) (v : Visit) (w' : Walk) (s' : List Frame) : Type 0 where
  pub is : (rs : List Row) → ahead_by count s w (r ∷ rs) ≡ follow (Node v ∷ []) (ahead_by count s' w' rs)
  pub row : w'.row ≡ w.row + 1
  pub top : w.top ≤ w'.top + 1
  pub numbers : NumbersIn count v
  pub reached : Reached s' w'

-- or the row is ill, whatever comes after
abbrev pub MetBy : ℕ → List Frame → Walk → Row → Visit → Taken → Type 0
MetBy count s w r v (Some w', s') = Forth count s w r v w' s'
MetBy count s w r v (None, s') = (rs : List Row) → ahead_by count s w (r ∷ rs) ≡ none

module _ (s : List Frame) (w : Walk) (reached : Reached s w) (in_frames : w.top < frames) where
  abbrev f : Frame
  f = frame_at s w.top

  abbrev outers : List Frame
  outers = drop (w.top + 1) s

  pub cut : open_at s w ≡ f ∷ outers
  cut = open_cut s reached.long w.top in_frames

  pub nested_cut : Nested (f ∷ outers)
  nested_cut = rw cut at reached.nested

  module _ (count : ℕ) (unspent : is_spent f ≡ false) where
    pub wanted : (rs : List Row) → ahead_by count s w rs ≡ meets_rows count (f ∷ outers) w.row w.number rs
    wanted rs = rw cut (meets_open count f outers w.row w.number rs unspent)

    module _ (r : Row) where
      abbrev v : Visit
      v = visit_of w.row w.number f r

      by_row : (rs : List Row) → ahead_by count s w (r ∷ rs) ≡ meets_node count f outers v (λ gs j. meets count gs (w.row + 1) j rs)
      unfolding meets_rows meets
      by_row rs = wanted (r ∷ rs)

      abbrev next : List Frame
      next = put_next s w.top (f.next + 1)

      next_open : drop w.top next ≡ onward f ∷ outers
      next_open = open_next s reached.long w.top in_frames (f.next + 1) refl

      next_long : length next ≡ frames
      next_long = long_next s reached.long w.top in_frames (f.next + 1)

      -- a node without child rows
      pass : is_allowed v ≡ true → is_leaf v ≡ true → MetBy count s w r v (passing_leaf s count w v)
      unfolding passing_leaf meets_node
      pass ok leaf = go (leb (w.number + numbers_of v) count) refl
        where
          go : (b : Bool) → leb (w.number + numbers_of v) count ≡ b → MetBy count s w r v (cond b (Some (walk_at (w.row + 1) (w.number + numbers_of v) w.top), next) (None, s))
          go true x = record {
            is = λ rs. by_row rs ∙ rw (ok, leaf, x) (rw next_open);
            row = refl;
            top = omega arith;
            numbers = λ k. rw (numbers_are v k) at (leb-true (w.number + numbers_of v) count x);
            reached = record { long = next_long; nested = rw next_open (nested_onward nested_cut) };
          }
          go false x = λ rs. by_row rs ∙ rw (ok, leaf, x)

      -- a node whose children follow
      push : is_allowed v ≡ true → is_leaf v ≡ false → MetBy count s w r v (pushing s w v)
      unfolding pushing meets_node
      push ok leaf = go (may_open v) refl
        where
          go : (b : Bool) → may_open v ≡ b → MetBy count s w r v (cond (b && not (eqb w.top 0)) (Some (walk_at (w.row + 1) w.number (w.top - 1)), set next (w.top - 1) (frame_of v)) (None, s))
          go false x = λ rs. by_row rs ∙ rw (ok, leaf, x)
          go true x =
              let inside = nested_open v x (depth_limit_law nested_cut) ok leaf nested_cut in
              let tall : length outers ≡ frames - (w.top + 1) = length-drop (w.top + 1) s ∙ ap (λ n. n - (w.top + 1)) reached.long in
              let some : 1 ≤ w.top = omega (arith, inside.1) in
              let t : w.top - 1 + 1 ≡ w.top = omega arith in
              let put : drop (w.top - 1) (set next (w.top - 1) (frame_of v)) ≡ frame_of v ∷ onward f ∷ outers = open_put next next_long (w.top - 1) (omega arith) (frame_of v) ∙ rw (t, next_open) in
              rw (ne_eqb w.top 0 (λ z. omega arith)) (record {
                is = λ rs. by_row rs ∙ rw (ok, leaf, x) (rw put);
                row = refl;
                top = omega arith;
                numbers = λ k. absurd (false≢true (sym leaf ∙ is_leaf_law v k));
                reached = record { long = long_put next next_long (w.top - 1) (omega arith) (frame_of v); nested = rw put inside.0 };
              })

      pub met_row : MetBy count s w r v (meeting s count w v)
      unfolding meeting meets_node
      met_row = go (is_allowed v) refl (is_leaf v) refl
        where
          go : (a : Bool) → is_allowed v ≡ a → (b : Bool) → is_leaf v ≡ b → MetBy count s w r v (cond a (cond b (passing_leaf s count w v) (pushing s w v)) (None, s))
          go true x true y = pass x y
          go true x false y = push x y
          go false x b y = λ rs. by_row rs ∙ rw x

-- ---- a row is given
follow_some : (ms : List Met) (o : Option (List Met)) → is_some (follow ms o) ≡ is_some o
follow_some ms none = refl
follow_some ms (some more) = refl

not_some : (o : Option (List Met)) → is_some o ≡ false → o ≡ none
not_some none e = refl
not_some (some ms) e = absurd (false≢true (sym e))

some_open : (count i j : ℕ) (rs : List Row) (fs : List Frame) → is_some (meets count fs i j rs) ≡ is_some (meets_rows count (still_open fs) i j rs)
unfolding meets
some_open count i j rs fs = follow_some (node_ends fs i) (meets_rows count (still_open fs) i j rs)

-- whether it is a tree's, with the rows after it, is told by what is then still to be met
pub record Gone (count : ℕ) (s : List Frame) (w : Walk) (r : Row) (s' : List Frame) (w' : Walk) : Type 0 where
  pub reached : Reached s' w'
  pub row : w'.row ≡ w.row + 1
  pub same : (rs : List Row) → is_some (ahead_by count s w (r ∷ rs)) ≡ is_some (ahead_by count s' w' rs)

abbrev Given : ℕ → List Frame → Walk → Row → Taken → Type 0
Given count s w r (Some w', s') = Gone count s w r s' w'
Given count s w r (None, s') = (rs : List Row) → ahead_by count s w (r ∷ rs) ≡ none

module _ (count : ℕ) {s : List Frame} {w : Walk} (reached : Reached s w) where
  module _ (r : Row) (counted : w.row + 1 < 2 ^ 64) where
    -- below a node that wants a child: those inside it are passed
    module _ (u : ℕ) (h : WantsBelow s w.top u) where
      abbrev here : Walk
      here = walk_at w.row w.number u

      here_reached : Reached s here
      here_reached = record { long = reached.long; nested = h.nested reached.nested }

      same_here : (rs : List Row) → is_some (ahead_by count s w rs) ≡ is_some (ahead_by count s here rs)
      same_here rs = some_open count w.row w.number rs (drop w.top s) ∙ rw h.open_still (sym (some_open count w.row w.number rs (drop u s)))

      given_below : Given count s w r (entering_at s count w r (Some u))
      given_below =
          rw (lt-ltb (w.row + 1) (2 ^ 64) counted) (go (meeting s count here its_visit) (met_row s here here_reached h.inside count h.unspent r))
        where
          its_visit : Visit
          its_visit = visit_of w.row w.number (frame_at s u) r

          go : (a : Taken) → MetBy count s here r its_visit a → Given count s w r a
          go (Some w', s') g = record {
            reached = g.reached;
            row = g.row;
            same = λ rs. same_here (r ∷ rs) ∙ ap is_some (g.is rs) ∙ follow_some (Node its_visit ∷ []) (ahead_by count s' w' rs);
          }
          go (None, s') g = λ rs. not_some (ahead_by count s w (r ∷ rs)) (same_here (r ∷ rs) ∙ ap is_some (g rs))

    given_at : (x : rust.Option ℕ) → Wants s w.top x → Given count s w r (entering_at s count w r x)
    unfolding meets_rows
    given_at (Some u) h = given_below u h
    given_at None h = λ rs. not_some (ahead_by count s w (r ∷ rs)) (some_open count w.row w.number (r ∷ rs) (drop w.top s) ∙ rw (h reached.nested))

    given : Given count s w r (entering s count w r)
    unfolding entering
    given = given_at (wanted_from s w.top) (wants s reached.long w.top)

    -- the walk goes on; or the rows are no tree, whatever comes after
    pub given_to : {w' : Walk} {s' : List Frame} → entering s count w r ≡ (Some w', s') → Gone count s w r s' w'
    given_to e = rw e at given

    pub given_ill : {s' : List Frame} → entering s count w r ≡ (None, s') → (rs : List Row) → ahead_by count s w (r ∷ rs) ≡ none
    given_ill e = rw e at given

  -- ---- after the last row
  last_at : (x : rust.Option ℕ) → Wants s w.top x → (is_none x && eqb w.number count) ≡ is_some (at_last count (still_open (open_at s w)) w.number)
  unfolding at_last still_open
  last_at (Some u) h = rw (h.open_still, open_cut s reached.long u h.inside, h.unspent)
  last_at None h = rw (h reached.nested) (go (eqb w.number count))
    where
      go : (b : Bool) → b ≡ is_some (cond {A = Option (List Met)} b (some []) none)
      go true = refl
      go false = refl

  pub given_last : has_ended s count w ≡ is_some (ahead_by count s w [])
  unfolding has_ended meets_rows
  given_last = last_at (wanted_from s w.top) (wants s reached.long w.top) ∙ sym (some_open count w.row w.number [] (open_at s w))
