-- Rows with their bodies, headings and kinds, return by return.
-- Assumes nothing.
use mathlib.Core.Path.{◌≡◌, refl, sym, ◌∙◌}
use mathlib.Core.Bool.{Bool, true, false, false≢true, ◌&&◌}
use Rattle.std.specs.Prelude.{Ok, Err}
use mathlib.Core.List.{List}
use Prim.Native.Nat.{ℕ, zero, suc, ◌+◌, ◌-◌, ◌≤◌, ◌<◌}
use native.Mathlib.Omega.{arith}
use native.Mathlib.Decide.{dec_lt}
use native.Mathlib.Numerals.{sub-one}
use lib.Dec.{eqb, leb}
use lib.ListN.{length}
use borrow.Author.Tests.{eq-eqb, ne_eqb, eqb-true, eqb-false, lt-ltb, le-ltb, leb-true}
use Rattle.kinds.specs.Kinds.{kind_point, kind_line_string, kind_polygon, kind_multi_point, kind_multi_line_string, kind_multi_polygon, kind_geometry_collection}
use Rattle.limits.specs.Limits.{depth_limit}
use Rattle.refusals.specs.Refusals.{no_node_row, too_deep}
use Rattle.tokenizer.specs.declared.Cursor.{Cursor}
use Rattle.token.specs.declared.Refusal.{Refusal}
use Rattle.tokenizer.specs.declared.PassedOpen.{PassedOpen}
use Rattle.tokenizer.specs.Tokens.{cursor_at, pass_open}
use Rattle.token_stream.specs.Stream.{hd, stream}
use Rattle.token_stream.proofs.Sound.{new_sound, look_sound}
use Rattle.token_stream.proofs.Marks.{open_not}
use Rattle.store.specs.Rows.{Row, Span, node_room, number_room, rows_in, spans_in, open_row}
use Rattle.store.proofs.Rows.{rows_length, rows_opened, open_row_length}
use Rattle.grammar.specs.Asks.{P, ret, bind}
use Rattle.grammar.specs.Tokens.{sort_open, sort_of}
use Rattle.grammar.specs.Grammar as spec
use Rattle.grammar.specs.Grammar.{Out, Got, refused, refusal, opens, empty, wrong, add_node, and_then, point_body, opened, opener, line_body, parens, line_in, line_of, lines_body, polygon_in, polygon_of, polygons_body, point_in, bare_point, point_of, points_body, multi, simple, child_head, root_head, geometry_by, child_of, collection, geometry}
use Rattle.grammar.specs.Reading.{enough}
use Rattle.grammar_laws.proofs.Asks.{run_ret, run_step, run_ask, run_look}
use Rattle.sorts.proofs.Tokens.{opens_place, opens_sort, opens_rest, other_sort, other_stays}
use Rattle.headings.specs.declared.Head.{Head}
use Rattle.headings.specs.declared.Head.TheVariants.{Opens, Empty}
use Rattle.headings.specs.declared.NoHead.{NoHead}
use Rattle.headings.specs.Heads.{MetHead}
use Rattle.headings.proofs.Runs.{met_head}
use Rattle.answers.specs.declared.State.{State}
use Rattle.answers.specs.declared.Spot.{Spot}
use Rattle.answers.specs.declared.Unread.TheVariants.{Refused, Stopped}
use Rattle.answers.specs.Reading.{Answer, spot, state, state_of, is_read, ended_nodes, closed_at, closed_nodes, after_refusal, row_for, used_by, got_of, Met, Part, Reads, Fits, list_of, closed_of}
use Rattle.answers.proofs.Parts.{rows_ended, closed_met, lost_met, row_read, row_none}
use Rattle.wkt.specs.Coords.{Ready, FitsNumbers, MetCoord, FitsHeld, ReadsHeld}
use Rattle.wkt.specs.Parts as parts
use Rattle.wkt.specs.Parts.{coord_of, point_body_of, point_in_of, bare_point_of, with_body, unnamed_of, simple_kind, body_of, simple_of, collection_of, root_of}

-- what was not read is handed on
and_lost : (R : ℕ → List Row) (S : ℕ → List Span) (a : Answer) (f : Out → P Got) → is_read a ≡ false → and_then (got_of R S a) f ≡ ret (got_of R S a)
unfolding and_then
and_lost R S (Ok s) f n = absurd (false≢true (sym n))
and_lost R S (Err (Refused r c)) f n = refl
and_lost R S (Err (Stopped r c)) f n = refl

-- one coordinate
pub own : {text ns ms : List ℕ} {s : Spot} → Fits text ns ms s → FitsNumbers text ms s
own f = record { short = f.short; numbers = f.numbers }

module _ {text ns ms ms₁ : List ℕ} {d : ℕ} {s : Spot} {a : Answer} (f : Fits text ns ms s) (m : MetCoord text d (state_of s) ms a ms₁) where
  pub a_coord : Reads text (coord_of d) s ns ms a ns ms₁
  a_coord = record { met = λ N M g u. m.met N M (rows_in ns) u (omega (arith, g, f.nodes)) }

  -- the body of a point, and the closing token
  module _ (i : ℕ) where
    pub point_read : {end : Spot} {q : State} {r : Answer} {ns' : List ℕ} → i < s.nodes → a ≡ Ok end → q ≡ state_of end → r ≡ closed_at text q → ns' ≡ closed_nodes text q ns i 1 → Reads text (closed_of (point_body_of d i)) s ns ms r ns' ms₁
    unfolding point_body and_then
    point_read {end} l x j u k = record {
      met = λ N M g h.
          let w = rw x at (a_coord.met N M g h) in
          let z = closed_met text (state_of end) ns i 1 (spans_in text ms₁) (omega (arith, l, f.nodes)) w.within.0 w.within.1 in
          rw (u, k, j) (record { is = run_step _ _ _ (run_step _ _ _ w.is ∙ run_ret _ _) ∙ z.is; within = z.within });
    }

    pub point_lost : {r : Answer} → is_read a ≡ false → r ≡ after_refusal text a → Reads text (closed_of (point_body_of d i)) s ns ms r ns ms₁
    unfolding point_body
    point_lost n e = record {
      met = λ N M g h.
          let w = a_coord.met N M g h in
          let z = lost_met text (rows_in ns) (spans_in text ms₁) a n in
          rw e (record { is = run_step _ _ _ (run_step _ _ _ w.is ∙ rw (and_lost (rows_in ns) (spans_in text ms₁) a _ n) (run_ret _ _)) ∙ z.is; within = z.within });
    }

-- a row by itself
module _ {text : List ℕ} (ns : List ℕ) {ns' : List ℕ} (k d p : ℕ) (s : Spot) {b : Answer} (e : b ≡ row_for ns p s) (j : ns' ≡ open_row ns s.nodes k d) where
  row_met : (N M : ℕ) (S : ℕ → List Span) → node_room ns ≡ N → s.numbers ≤ M → Met text N M (rows_in ns') S (ret (add_node N (used_by (rows_in ns) S s.nodes s.numbers) p k d)) (stream text (cursor_at s.at)) b
  row_met N M S g u = go (is_read b) refl
    where
      go : (t : Bool) → is_read b ≡ t → Met text N M (rows_in ns') S (ret (add_node N (used_by (rows_in ns) S s.nodes s.numbers) p k d)) (stream text (cursor_at s.at)) b
      go true y =
          let z = row_read ns p s e y in
          let h = z.0 in
          rw z.1 (record { is = run_ret _ _ ∙ rw (rows_length, lt-ltb s.nodes N (omega (arith, g, h)), j, rows_opened ns s.nodes k d h); within = (omega (arith, g, h), u) })
      go false n =
          let z = row_none ns p s e n in
          let h = z.0 in
          rw z.1 (record { is = run_ret _ _ ∙ rw (rows_length, le-ltb s.nodes N (omega (arith, g, h))); within = tt })

-- a row that was used, and one that was not
module _ (ns : List ℕ) (p : ℕ) (s : Spot) {b : Answer} (e : b ≡ row_for ns p s) where
  one_row : {here : Spot} → b ≡ Ok here → (s.nodes < node_room ns) × (here ≡ spot s.at (s.nodes + 1) s.numbers)
  one_row {here} x =
      let z = row_read ns p s e (rw x) in
      let y : ◌≡◌ {A = Answer} (Ok here) (Ok (spot s.at (s.nodes + 1) s.numbers)) = sym x ∙ z.1 in
      (z.0, cc)

  no_row : {r : Refusal} {c : Cursor} → b ≡ Err (Stopped r c) → (node_room ns ≤ s.nodes) × (r ≡ refusal no_node_row p)
  no_row {r} {c} x =
      let z = row_none ns p s e (rw x) in
      let y : ◌≡◌ {A = Answer} (Err (Stopped r c)) (Err (Stopped (refusal no_node_row p) (cursor_at s.at))) = sym x ∙ z.1 in
      (z.0, cc)

  pub never_refused : {r : Refusal} {c : Cursor} → b ≡ Err (Refused r c) → ⊥
  never_refused {r} {c} x =
      let y : ◌≡◌ {A = Answer} (Err (Refused r c)) (Err (Stopped (refusal no_node_row p) (cursor_at s.at))) = sym x ∙ (row_none ns p s e (rw x)).1 in
      let z : ◌≡◌ {A = ℕ} 0 1 = cc in
      omega arith

-- a row that a body follows
module _ {text ns ms : List ℕ} (p : ℕ) {s : Spot} {b : Answer} (e : b ≡ row_for ns p s) where
  module _ {here : Spot} (x : b ≡ Ok here) where
    pub body_fits : {ns₀ : List ℕ} → length ns₀ ≡ length ns → Fits text ns ms s → (s.nodes < here.nodes) × Fits text ns₀ ms here
    body_fits l f =
        let z = one_row ns p s e x in
        let h = z.0 in
        rw z.1 (omega arith, record { short = f.short; nodes = rw l (omega (arith, h)); numbers = f.numbers })

    -- what was opened: a row, the body, the closing token
    pub opened_done : (k d : ℕ) (body : ℕ → Part) {ns₀ ns₁ ms₁ : List ℕ} {r : Answer} → ns₀ ≡ open_row ns s.nodes k d → length ns₀ ≡ length ns → Reads text (closed_of (body s.nodes)) here ns₀ ms r ns₁ ms₁ → Reads text (with_body k d body p) s ns ms r ns₁ ms₁
    unfolding opened and_then
    opened_done k d body i l m = record {
      met = λ N M g u.
          let z = one_row ns p s e x in
          let h = z.0 in
          let y = rw (z.1, i) at (m.met N M (rw l g) u) in
          record { is = rw (rows_length, lt-ltb s.nodes N (omega (arith, g, h)), ← rows_opened ns s.nodes k d h) y.is; within = y.within };
    }

  pub opened_full : (k d : ℕ) (body : ℕ → Part) {ns₀ : List ℕ} → is_read b ≡ false → Reads text (with_body k d body p) s ns ms b ns₀ ms
  unfolding opened and_then
  opened_full k d body n = record {
    met = λ N M g u.
        let z = row_none ns p s e n in
        let h = z.0 in
        rw z.1 (record { is = rw (rows_length, le-ltb s.nodes N (omega (arith, g, h))) (run_ret _ _); within = tt });
  }

-- a point's own
module _ {text ns ms : List ℕ} (d : ℕ) {s : Spot} {r : Answer} {ns' ms' : List ℕ} where
  pub as_point_in : (p : ℕ) → Reads text (with_body kind_point d (point_body_of d) p) s ns ms r ns' ms' → Reads text (point_in_of d p) s ns ms r ns' ms'
  unfolding point_in
  as_point_in p m = record { met = λ N M g u. m.met N M g u }

-- a bare point: its row is for the spot q of the state s, where its first token is held
module _ (text ns ms : List ℕ) (p : ℕ) (s : State) (q : Spot) (j : q ≡ spot s.cursor.at s.nodes s.numbers) {b : Answer} (e : b ≡ row_for ns p q) where
  pub bare_full : (d : ℕ) {r : Refusal} {c : Cursor} {ns₀ : List ℕ} → b ≡ Err (Stopped r c) → ReadsHeld text (bare_point_of d p) s ns ms (Err (Stopped r s.cursor)) ns₀ ms
  unfolding bare_point and_then
  bare_full d x = record {
    met = λ N M g u.
        let z = no_row ns p q e x in
        let h = rw j at z.0 in
        rw z.1 (record { is = rw (rows_length, le-ltb s.nodes N (omega (arith, g, h))) (run_ret _ _); within = tt });
  }

  module _ {here : Spot} (x : b ≡ Ok here) {t : State} (i : t ≡ state s.cursor here.nodes here.numbers) where
    a_row : (s.nodes < node_room ns) × (t ≡ state s.cursor (s.nodes + 1) s.numbers)
    a_row =
        let z = one_row ns p q e x in
        (rw j at z.0, i ∙ rw (z.1, j))

    pub bare_ready : FitsHeld text ns ms s → Ready text ms t
    bare_ready f = rw a_row.1 (record { short = f.short; numbers = f.numbers; sound = f.sound })

    module _ (d : ℕ) {ns₀ ms₁ : List ℕ} {a : Answer} (k : ns₀ ≡ open_row ns q.nodes kind_point d) (m : MetCoord text d t ms a ms₁) where
      coord_met : (N M : ℕ) → node_room ns ≡ N → number_room ms ≡ M → Met text N M (rows_in (open_row ns s.nodes kind_point d)) (spans_in text ms₁) (spec.coord M d (used_by (rows_in (open_row ns s.nodes kind_point d)) (spans_in text ms) (s.nodes + 1) s.numbers)) (stream text s.cursor) a
      coord_met N M g u = (rw a_row.1 at m).met N M (rows_in (open_row ns s.nodes kind_point d)) u (omega (arith, g, a_row.0))

      pub bare_read : {end : Spot} {r : Answer} {ns' : List ℕ} → a ≡ Ok end → r ≡ Ok end → ns' ≡ ended_nodes ns₀ s.nodes 1 end → ReadsHeld text (bare_point_of d p) s ns ms r ns' ms₁
      unfolding bare_point point_body and_then
      bare_read {end} {ns' = ns'} y v l = record {
        met = λ N M g u.
            let h = a_row.0 in
            let w = rw y at (coord_met N M g u) in
            let o : ns' ≡ ended_nodes (open_row ns s.nodes kind_point d) s.nodes 1 end = l ∙ rw (k, j) in
            let in_room : s.nodes < node_room (open_row ns s.nodes kind_point d) = rw (open_row_length ns s.nodes kind_point d) h in
            rw v (record {
              is = rw (rows_length, lt-ltb s.nodes N (omega (arith, g, h)), ← rows_opened ns s.nodes kind_point d h) (run_step _ _ _ w.is ∙ run_ret _ _ ∙ rw (o, rows_ended (open_row ns s.nodes kind_point d) s.nodes 1 end in_room));
              within = w.within;
            });
      }

      pub bare_lost : is_read a ≡ false → ReadsHeld text (bare_point_of d p) s ns ms a ns₀ ms₁
      unfolding bare_point point_body and_then
      bare_lost n = record {
        met = λ N M g u.
            let h = a_row.0 in
            let w = coord_met N M g u in
            let o : ns₀ ≡ open_row ns s.nodes kind_point d = k ∙ rw j in
            record {
              is = rw (rows_length, lt-ltb s.nodes N (omega (arith, g, h)), ← rows_opened ns s.nodes kind_point d h, o) (run_step _ _ _ w.is ∙ rw (and_lost (rows_in (open_row ns s.nodes kind_point d)) (spans_in text ms₁) a _ n) (run_ret _ _));
              within = w.within;
            };
      }

-- a point of a multipoint
module _ {text ns ms : List ℕ} {s : Spot} {t : PassedOpen} (e : t ≡ pass_open text (cursor_at s.at)) where
  pub point_open : (d : ℕ) {q : Spot} {r : Answer} {ns' ms' : List ℕ} → t.opens ≡ true → q ≡ spot t.next.at s.nodes s.numbers → Reads text (point_in_of d t.place) q ns ms r ns' ms' → Reads text (parts.point_of d) s ns ms r ns' ms'
  unfolding point_of
  point_open d y j m = record {
    met = λ N M g u.
        let w = (rw j at m).met N M g u in
        let c = cursor_at s.at in
        record { is = run_look _ _ ∙ rw (eq-eqb (sort_of (hd (stream text c))) sort_open (opens_sort text c e y)) (run_ask _ _ ∙ rw (← opens_place text c e, opens_rest text c e y) w.is); within = w.within };
  }

  module _ (n : t.opens ≡ false) {q : State} (j : q ≡ state t.next s.nodes s.numbers) where
    pub point_held : Fits text ns ms s → FitsHeld text ns ms q
    point_held f =
        let c = cursor_at s.at in
        rw (j, (open_not text c t e n).2) (record { short = f.short; nodes = f.nodes; numbers = f.numbers; sound = (look_sound text c (new_sound text s.at)).1 })

    pub point_bare : (d : ℕ) {r : Answer} {ns' ms' : List ℕ} → ReadsHeld text (bare_point_of d t.place) q ns ms r ns' ms' → Reads text (parts.point_of d) s ns ms r ns' ms'
    unfolding point_of
    point_bare d m = record {
      met = λ N M g u.
          let w = (rw j at m).met N M g u in
          let c = cursor_at s.at in
          record { is = run_look _ _ ∙ rw (ne_eqb (sort_of (hd (stream text c))) sort_open (other_sort text c e n), ← opens_place text c e, other_stays text c e n) w.is; within = w.within };
    }

-- a heading, and what f reads behind it
module _ {text ns ms : List ℕ} {p : P spec.Head} (f : ℕ → ℕ → Out → spec.Head → P Got) {s : Spot} {h : Head} (m : MetHead text p (cursor_at s.at) (Ok h)) where
  head_opens : {k d i at : ℕ} {q : Spot} {r : Answer} {ns' ms' : List ℕ} → h ≡ Opens k d i at → q ≡ spot at s.nodes s.numbers → Reads text (λ N M o. f N M o (opens k d i)) q ns ms r ns' ms' → Reads text (λ N M o. bind p (f N M o)) s ns ms r ns' ms'
  head_opens x j c = record {
    met = λ N M g u.
        let w = (rw j at c).met N M g u in
        record { is = run_step _ _ _ (met_head (rw x at m)) ∙ w.is; within = w.within };
  }

  head_empty : {k d i at : ℕ} {q : Spot} {r : Answer} {ns' : List ℕ} → ((N M : ℕ) (o : Out) → f N M o (empty k d i) ≡ ret (add_node N o i k d)) → Fits text ns ms s → h ≡ Empty k d i at → q ≡ spot at s.nodes s.numbers → r ≡ row_for ns i q → ns' ≡ open_row ns q.nodes k d → Reads text (λ N M o. bind p (f N M o)) s ns ms r ns' ms
  head_empty {k} {d} {i} {at} y v x j e l = record {
    met = λ N M g u.
        let w = row_met ns k d i (spot at s.nodes s.numbers) (rw j at e) (rw j at l) N M (spans_in text ms) g (omega (arith, u, v.numbers)) in
        record { is = run_step _ _ _ (met_head (rw x at m)) ∙ rw (y N M (used_by (rows_in ns) (spans_in text ms) s.nodes s.numbers)) w.is; within = w.within };
  }

-- and where there was none
head_wrong : {text ns ms : List ℕ} {p : P spec.Head} (f : ℕ → ℕ → Out → spec.Head → P Got) {s : Spot} {e : NoHead} → MetHead text p (cursor_at s.at) (Err e) → ((N M : ℕ) (o : Out) (r : Refusal) → f N M o (wrong r) ≡ ret (refused r)) → Reads text (λ N M o. bind p (f N M o)) s ns ms (Err (Refused e.refusal e.next)) ns ms
head_wrong {text} {ns} {ms} f {s} {e} m y = record {
  met = λ N M g u. record { is = run_step _ _ _ (met_head m) ∙ rw (y N M (used_by (rows_in ns) (spans_in text ms) s.nodes s.numbers) e.refusal) (run_ret _ _); within = tt };
}

-- a line string or a polygon without a name
abbrev in_parens : (ℕ → ℕ → ℕ → ℕ → Out → P Got) → ℕ → ℕ → Out → spec.Head → P Got
in_parens inside N M o h = parens N M enough (inside N M) o h

module _ {text ns ms : List ℕ} (k d : ℕ) (inside : ℕ → ℕ → ℕ → ℕ → Out → P Got) {s : Spot} where
  pub child_opens : {h : Head} → MetHead text (opener k d) (cursor_at s.at) (Ok h) → {k' d' i at : ℕ} {q : Spot} {r : Answer} {ns' ms' : List ℕ} → h ≡ Opens k' d' i at → q ≡ spot at s.nodes s.numbers → Reads text (λ N M. inside N M d' i) q ns ms r ns' ms' → Reads text (λ N M o. bind (opener k d) (in_parens inside N M o)) s ns ms r ns' ms'
  unfolding parens
  child_opens m x j c = head_opens (in_parens inside) m x j (record { met = λ N M g u. c.met N M g u })

  pub child_empty : {h : Head} → MetHead text (opener k d) (cursor_at s.at) (Ok h) → {k' d' i at : ℕ} {q : Spot} {r : Answer} {ns' : List ℕ} → Fits text ns ms s → h ≡ Empty k' d' i at → q ≡ spot at s.nodes s.numbers → r ≡ row_for ns i q → ns' ≡ open_row ns q.nodes k' d' → Reads text (λ N M o. bind (opener k d) (in_parens inside N M o)) s ns ms r ns' ms
  unfolding parens
  child_empty m v x j e l = head_empty (in_parens inside) m (λ N M o. refl) v x j e l

  pub child_wrong : {e : NoHead} → MetHead text (opener k d) (cursor_at s.at) (Err e) → Reads text (λ N M o. bind (opener k d) (in_parens inside N M o)) s ns ms (Err (Refused e.refusal e.next)) ns ms
  unfolding parens
  child_wrong m = head_wrong (in_parens inside) m (λ N M o r. refl)

module _ {text ns ms : List ℕ} (d : ℕ) {s : Spot} {r : Answer} {ns' ms' : List ℕ} where
  pub as_line : Reads text (unnamed_of kind_line_string (λ d' i. list_of i (coord_of d')) d) s ns ms r ns' ms' → Reads text (parts.line_of d) s ns ms r ns' ms'
  unfolding line_of line_in line_body
  as_line m = record { met = λ N M g u. m.met N M g u }

  pub as_polygon : Reads text (unnamed_of kind_polygon (λ d' i. list_of i (parts.line_of d')) d) s ns ms r ns' ms' → Reads text (parts.polygon_of d) s ns ms r ns' ms'
  unfolding polygon_of polygon_in lines_body
  as_polygon m = record { met = λ N M g u. m.met N M g u }

-- a geometry from its name on
abbrev after_name : ℕ → ℕ → ℕ → Out → spec.Head → P Got
after_name depth N M o h = geometry_by N M enough (collection N M enough depth) o h

abbrev named_of : P spec.Head → ℕ → Part
named_of p depth N M o = bind p (after_name depth N M o)

module _ {text ns ms : List ℕ} {p : P spec.Head} (depth : ℕ) {s : Spot} where
  module _ {h : Head} (m : MetHead text p (cursor_at s.at) (Ok h)) {k d i at : ℕ} {q : Spot} {r : Answer} {ns' ms' : List ℕ} (x : h ≡ Opens k d i at) (j : q ≡ spot at s.nodes s.numbers) where
    pub named_collection : k ≡ kind_geometry_collection → Reads text (collection_of depth d i) q ns ms r ns' ms' → Reads text (named_of p depth) s ns ms r ns' ms'
    unfolding geometry_by
    named_collection y c = head_opens (after_name depth) m x j (record { met = λ N M g u. rw (eq-eqb k kind_geometry_collection y) (c.met N M g u) })

    pub named_simple : (k ≡ kind_geometry_collection → ⊥) → Reads text (simple_of k d i) q ns ms r ns' ms' → Reads text (named_of p depth) s ns ms r ns' ms'
    unfolding geometry_by
    named_simple y c = head_opens (after_name depth) m x j (record { met = λ N M g u. rw (ne_eqb k kind_geometry_collection y) (c.met N M g u) })

  pub named_empty_law : {h : Head} → MetHead text p (cursor_at s.at) (Ok h) → {k d i at : ℕ} {q : Spot} {r : Answer} {ns' : List ℕ} → Fits text ns ms s → h ≡ Empty k d i at → q ≡ spot at s.nodes s.numbers → r ≡ row_for ns i q → ns' ≡ open_row ns q.nodes k d → Reads text (named_of p depth) s ns ms r ns' ms
  unfolding geometry_by
  named_empty_law m v x j e l = head_empty (after_name depth) m (λ N M o. refl) v x j e l

  pub named_wrong : {e : NoHead} → MetHead text p (cursor_at s.at) (Err e) → Reads text (named_of p depth) s ns ms (Err (Refused e.refusal e.next)) ns ms
  unfolding geometry_by
  named_wrong m = head_wrong (after_name depth) m (λ N M o r. refl)

module _ {text ns ms : List ℕ} {s : Spot} {r : Answer} {ns' ms' : List ℕ} where
  pub as_child : (depth : ℕ) → Reads text (named_of child_head depth) s ns ms r ns' ms' → Reads text (parts.child_of depth) s ns ms r ns' ms'
  unfolding child_of
  as_child depth m = record { met = λ N M g u. m.met N M g u }

  pub as_root : Reads text (named_of root_head depth_limit) s ns ms r ns' ms' → Reads text root_of s ns ms r ns' ms'
  unfolding geometry
  as_root m = record { met = λ N M g u. m.met N M g u }

-- a spot behind a heading
pub head_fits : {text ns ms : List ℕ} {s q : Spot} {i : ℕ} → Fits text ns ms s → q ≡ spot i s.nodes s.numbers → Fits text ns ms q
head_fits f j = rw j (record { short = f.short; nodes = f.nodes; numbers = f.numbers })

-- by kind
module _ (k d i : ℕ) where
  pub body_point : k ≡ kind_point → point_body_of d i ≡ body_of k d i
  unfolding body_of
  body_point e = rw (eq-eqb k kind_point e)

  module _ (n1 : k ≡ kind_point → ⊥) where
    pub body_line : k ≡ kind_line_string → list_of i (coord_of d) ≡ body_of k d i
    unfolding body_of
    body_line e = rw (ne_eqb k kind_point n1, eq-eqb k kind_line_string e)

    module _ (n2 : k ≡ kind_line_string → ⊥) where
      pub body_points : k ≡ kind_multi_point → list_of i (parts.point_of d) ≡ body_of k d i
      unfolding body_of
      body_points e = rw (ne_eqb k kind_point n1, ne_eqb k kind_line_string n2, eq-eqb k kind_multi_point e)

      module _ (n4 : k ≡ kind_multi_point → ⊥) where
        pub body_polygons : k ≡ kind_multi_polygon → list_of i (parts.polygon_of d) ≡ body_of k d i
        unfolding body_of
        body_polygons e = rw (ne_eqb k kind_point n1, ne_eqb k kind_line_string n2, ne_eqb k kind_multi_point n4, eq-eqb k kind_multi_polygon e)

        pub body_lines : (k ≡ kind_multi_polygon → ⊥) → list_of i (parts.line_of d) ≡ body_of k d i
        unfolding body_of
        body_lines n6 = rw (ne_eqb k kind_point n1, ne_eqb k kind_line_string n2, ne_eqb k kind_multi_point n4, ne_eqb k kind_multi_polygon n6)

module _ (k : ℕ) where
  pub kind_in : (leb kind_point k && leb k kind_multi_line_string) ≡ true → k ≡ simple_kind k
  unfolding simple_kind
  kind_in y = rw y

  pub kind_out : (leb kind_point k && leb k kind_multi_line_string) ≡ false → kind_multi_polygon ≡ simple_kind k
  unfolding simple_kind
  kind_out n = rw n

  outside : (a b : Bool) → leb kind_point k ≡ a → leb k kind_multi_line_string ≡ b → (k ≡ 1 → ⊥) → (k ≡ 2 → ⊥) → (k ≡ 3 → ⊥) → (k ≡ 4 → ⊥) → (k ≡ 5 → ⊥) → (a && b) ≡ false
  outside true true x y n1 n2 n3 n4 n5 = absurd (among k (leb-true kind_point k x) (leb-true k kind_multi_line_string y) n1 n2 n3 n4 n5)
    where
      among : (j : ℕ) → 1 ≤ j → j ≤ 5 → (j ≡ 1 → ⊥) → (j ≡ 2 → ⊥) → (j ≡ 3 → ⊥) → (j ≡ 4 → ⊥) → (j ≡ 5 → ⊥) → ⊥
      among j a b m1 m2 m3 m4 m5 = m5 (omega (arith, above j 4 (omega (arith, above j 3 (omega (arith, above j 2 (omega (arith, above j 1 a m1)) m2)) m3)) m4))
        where
          above : (j n : ℕ) → n ≤ j → (j ≡ n → ⊥) → n < j
          above j n h m = go (dec_lt n j)
            where
              go : Dec (n < j) → n < j
              go (yes l) = l
              go (no l) = absurd (m (omega arith))
  outside true false x y n1 n2 n3 n4 n5 = refl
  outside false b x y n1 n2 n3 n4 n5 = refl

  -- what is opened by its kind
  module _ (d p N M : ℕ) (o : Out) where
    abbrev Same : Type 0
    Same = simple_of k d p N M o ≡ with_body (simple_kind k) d (body_of (simple_kind k) d) p N M o

    simple_is : Same
    unfolding simple multi point_in line_in line_body polygon_in lines_body points_body polygons_body simple_kind body_of
    simple_is = go1 (eqb k 1) refl
      where
        go5 : (b : Bool) → eqb k 5 ≡ b → eqb k 1 ≡ false → eqb k 2 ≡ false → eqb k 3 ≡ false → eqb k 4 ≡ false → Same
        go5 true y f1 f2 f3 f4 = rw (eqb-true k 5 y)
        go5 false f5 f1 f2 f3 f4 = rw (f1, f2, f3, f4, f5, outside (leb kind_point k) (leb k kind_multi_line_string) refl refl (eqb-false k 1 f1) (eqb-false k 2 f2) (eqb-false k 3 f3) (eqb-false k 4 f4) (eqb-false k 5 f5))

        go4 : (b : Bool) → eqb k 4 ≡ b → eqb k 1 ≡ false → eqb k 2 ≡ false → eqb k 3 ≡ false → Same
        go4 true y f1 f2 f3 = rw (eqb-true k 4 y)
        go4 false f4 f1 f2 f3 = go5 (eqb k 5) refl f1 f2 f3 f4

        go3 : (b : Bool) → eqb k 3 ≡ b → eqb k 1 ≡ false → eqb k 2 ≡ false → Same
        go3 true y f1 f2 = rw (eqb-true k 3 y)
        go3 false f3 f1 f2 = go4 (eqb k 4) refl f1 f2 f3

        go2 : (b : Bool) → eqb k 2 ≡ b → eqb k 1 ≡ false → Same
        go2 true y f1 = rw (eqb-true k 2 y)
        go2 false f2 f1 = go3 (eqb k 3) refl f1 f2

        go1 : (b : Bool) → eqb k 1 ≡ b → Same
        go1 true y = rw (eqb-true k 1 y)
        go1 false f1 = go2 (eqb k 2) refl f1

pub as_simple : {text ns ms : List ℕ} (k d p : ℕ) {k' : ℕ} {s : Spot} {r : Answer} {ns' ms' : List ℕ} → k' ≡ simple_kind k → Reads text (with_body k' d (body_of k' d) p) s ns ms r ns' ms' → Reads text (simple_of k d p) s ns ms r ns' ms'
as_simple k d p e m = record { met = λ N M g u. rw (simple_is k d p N M _) ((rw e at m).met N M g u) }

-- collections
collection_more : (N M depth d p : ℕ) (o : Out) → (depth ≡ 0 → ⊥) → collection N M enough depth d p o ≡ with_body kind_geometry_collection d (λ i. list_of i (parts.child_of (depth - 1))) p N M o
unfolding collection
collection_more N M zero d p o h = absurd (h refl)
collection_more N M (suc n) d p o h = rw (sub-one (suc n))

module _ {text ns ms : List ℕ} (depth d p : ℕ) {s : Spot} {r : Answer} where
  pub collection_deep : depth ≡ 0 → r ≡ Err (Stopped (refusal too_deep p) (cursor_at s.at)) → Reads text (collection_of depth d p) s ns ms r ns ms
  unfolding collection
  collection_deep e j = record { met = λ N M g u. rw (e, j) (record { is = run_ret _ _; within = tt }) }

  pub as_collection : {ns' ms' : List ℕ} → (depth ≡ 0 → ⊥) → Reads text (with_body kind_geometry_collection d (λ i. list_of i (parts.child_of (depth - 1))) p) s ns ms r ns' ms' → Reads text (collection_of depth d p) s ns ms r ns' ms'
  as_collection e m = record { met = λ N M g u. rw (collection_more N M depth d p _ e) (m.met N M g u) }
