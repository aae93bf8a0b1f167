-- The law of a loop over a walk: what was met so far, and what is ahead, are the whole. A loop begins with nothing met, takes one thing more at each turn, and ends
-- where all was met or where the rows are no tree. Its own invariant is what it says of the things met.
-- And the law of a loop that gives the rows of a slice one by one, and only asks whether they are a tree.
-- Assumes nothing.
use mathlib.Core.Path.{◌≡◌, ap, sym, subst, ◌∙◌}
use mathlib.Core.Bool.{false}
use mathlib.Core.Option.{none, some}
use mathlib.Core.List.{List, [], ◌∷◌, ◌++◌, append-nil}
use Prim.Native.Nat.{ℕ, ◌+◌, ◌^◌, ◌≤◌, ◌<◌}
use native.Mathlib.Omega.{arith}
use lib.ListN.{length}
use Rattle.store.specs.Rows.{Row, node_room, row_at}
use Rattle.lists.specs.Options.{is_some}
use Rattle.nodes.specs.declared.Met.{Met}
use Rattle.nodes.specs.declared.Met.TheVariants as met
use Rattle.nodes.specs.Nodes.{follow}
use Rattle.nodes.proofs.Meets.{follow_none, follow_both}
use Rattle.walk.specs.declared.Walk.{Walk}
use Rattle.walk.specs.declared.Walked.{Walked}
use Rattle.std.specs.Prelude.{Option, Some, None}
use Rattle.nodes.specs.declared.Frame.{Frame}
use Rattle.walk.specs.Walk.{frames, After, beginning, entering, has_ended, walk_step, ahead_by}
use Rattle.walk.proofs.Fed.{Reached, given_begin, given_to, given_ill, given_last}
use Rattle.shape.specs.Walk.{rows_from, ahead, whole_walk}
use Rattle.shape.proofs.Stepped.{rows_in_law, rows_past, Forward, SteppedTo, Stepped, stepped}

pub record Walking (nodes : List ℕ) (count : ℕ) (s : List Frame) (w : Walk) (P : List Met → Type 0) : Type 0 where
  pub reached : Reached s w
  pub passed : List Met
  pub whole : whole_walk nodes count ≡ follow passed (ahead nodes count s w)
  pub holds : P passed

pub begin : (nodes : List ℕ) (count : ℕ) (s₀ : List Frame) {s : List Frame} {w : Walk} {P : List Met → Type 0} → length s₀ ≡ frames → (w, s) ≡ beginning s₀ → P [] → Walking nodes count s w P
begin nodes count s₀ {s} {w} {P} long e p =
    let b = given_begin s₀ long e in
    record {
      reached = b.reached;
      passed = [];
      whole = sym (follow_none (ahead nodes count s w) ∙ ap (λ i. ahead_by count s w (rows_from nodes i)) b.row ∙ b.whole count (rows_from nodes 0));
      holds = p;
    }

-- a thing is met: a node, or the end of one
abbrev pub Thing : Met → Type 0
Thing (met.Node v) = Unit {0}
Thing (met.End i n) = Unit {0}
Thing met.Done = ⊥
Thing met.Ill = ⊥

module _ {nodes : List ℕ} {count : ℕ} {s : List Frame} {w : Walk} {P : List Met → Type 0} {r : Walked} {s' : List Frame} (t : Walking nodes count s w P) (e : (r, s') ≡ walk_step nodes count s w) where
  told : {m : Met} → r.met ≡ m → SteppedTo nodes count s w m r.next s'
  told {m} is =
      let a : Stepped nodes count s w (r, s') = subst (λ (a : After). Stepped nodes count s w a) (sym e) (stepped nodes count s w t.reached) in
      rw is at a

  pub forward : {m : Met} → r.met ≡ m → Thing m → Forward nodes count s w m r.next s'
  forward {m} is thing = go m thing (told is)
    where
      go : (m : Met) → Thing m → SteppedTo nodes count s w m r.next s' → Forward nodes count s w m r.next s'
      go (met.Node v) h f = f
      go (met.End i n) h f = f
      go met.Done h f = absurd h
      go met.Ill h f = absurd h

  pub turn : {m : Met} {Q : List Met → Type 0} → r.met ≡ m → Thing m → ((ms : List Met) → P ms → Q (ms ++ (m ∷ []))) → Walking nodes count s' r.next Q
  turn {m} {Q} is thing on =
      let f = forward is thing in
      record {
        reached = f.reached;
        passed = t.passed ++ (m ∷ []);
        whole = t.whole ∙ ap (follow t.passed) f.is ∙ sym (follow_both t.passed (m ∷ []) (ahead nodes count s' r.next));
        holds = on t.passed t.holds;
      }

  -- all was met
  pub done : r.met ≡ met.Done → whole_walk nodes count ≡ some t.passed
  done is = t.whole ∙ ap (follow t.passed) (told is) ∙ ap some (append-nil t.passed)

  pub ill : r.met ≡ met.Ill → whole_walk nodes count ≡ none
  ill is = t.whole ∙ ap (follow t.passed) (told is)

-- ---- rows of a slice that are given one by one: whether those from i on are what the walk lacks is whether all are a tree
pub record Giving (nodes : List ℕ) (count : ℕ) (s : List Frame) (w : Walk) (i : ℕ) : Type 0 where
  pub reached : Reached s w
  pub row : w.row ≡ i
  pub same : is_some (ahead_by count s w (rows_from nodes i)) ≡ is_some (whole_walk nodes count)

pub giving_begin : (nodes : List ℕ) (count : ℕ) (s₀ : List Frame) {s : List Frame} {w : Walk} → length s₀ ≡ frames → (w, s) ≡ beginning s₀ → Giving nodes count s w 0
giving_begin nodes count s₀ long e =
    let b = given_begin s₀ long e in
    record { reached = b.reached; row = b.row; same = ap is_some (b.whole count (rows_from nodes 0)) }

module _ {nodes : List ℕ} {count : ℕ} {s : List Frame} {w : Walk} {i : ℕ} (g : Giving nodes count s w i) where
  module _ (r : Row) (is : r ≡ row_at nodes i) (h : i < node_room nodes) (fits : i + 1 < 2 ^ 64) {x : Option Walk} {s' : List Frame} (e : (x, s') ≡ entering s count w r) where
    counted : w.row + 1 < 2 ^ 64
    counted = omega (arith, g.row)

    with_row : is_some (ahead_by count s w (r ∷ rows_from nodes (i + 1))) ≡ is_some (whole_walk nodes count)
    with_row = rw (is, ← rows_in_law nodes i h) g.same

    pub giving_to : {w' : Walk} → x ≡ Some w' → Giving nodes count s' w' (i + 1)
    giving_to z =
        let n = given_to count g.reached r counted (sym e ∙ ap (λ y. (y, s')) z) in
        record { reached = n.reached; row = n.row ∙ ap (λ k. k + 1) g.row; same = sym (n.same (rows_from nodes (i + 1))) ∙ with_row }

    pub giving_ill : x ≡ None → false ≡ is_some (whole_walk nodes count)
    giving_ill z = ap is_some (sym (given_ill count g.reached r counted (sym e ∙ ap (λ y. (y, s')) z) (rows_from nodes (i + 1)))) ∙ with_row

  pub giving_last : node_room nodes ≤ i → has_ended s count w ≡ is_some (whole_walk nodes count)
  giving_last h = given_last count g.reached ∙ rw (← rows_past nodes i h) g.same
