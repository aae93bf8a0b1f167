-- Every refusal of a reading comes from a step that was due, at a token that can be at fault for its number: one induction over the grammar.
-- Assumes nothing.
use Rattle.std.specs.Prelude.{Option, Some, None}
use mathlib.Core.Path.{◌≡◌, refl, ap, subst}
use mathlib.Core.Bool.{Bool, true, false, false≢true, cond, ◌||◌}
use mathlib.Core.Logic.{inl, inr}
use mathlib.Core.List.{List, [], ◌∷◌}
use Prim.Native.Nat.{ℕ, zero, suc, ◌+◌, ◌≤◌, ◌<◌}
use native.Mathlib.Nat.{not-suc-le-zero}
use native.Mathlib.Omega.{arith}
use lib.Dec.{eqb, ltb}
use lib.ListN.{length, length-append}
use borrow.Author.Tests.{eqb-true, eqb-false, leb-true, ltb-true, ltb-false}
use Rattle.limits.specs.Limits.{depth_limit}
use Rattle.scan.specs.Bytes.{is_ascii}
use Rattle.names.specs.declared.Name.{Name}
use Rattle.kinds.specs.Kinds.{kind_point, kind_line_string, kind_polygon, kind_multi_point, kind_multi_line_string, kind_multi_polygon, kind_geometry_collection, dim_xy, has_z, has_m, width}
use Rattle.lists.specs.Lists.{every}
use Rattle.lists.proofs.Cases.{either, and_both}
use Rattle.names.specs.Names.{meaning, ending, is_empty_word}
use Rattle.store.proofs.Rows.{close_in_length}
use Rattle.token.specs.declared.Refusal.{Refusal}
use Rattle.token.specs.Tokens.{is_bad_number}
use Rattle.token_stream.specs.Stream.{open_tk, close_tk, comma_tk, none_tk, bad_tk, word_tk, number_tk, Tok, tok, Str, end, then, hd, tl, size}
use Rattle.token_stream.proofs.Stream.{size_tl}
use Rattle.grammar.specs.Asks.{P, bind, Ran, ran, run}
use Rattle.grammar.specs.Tokens.{sort_bad, sort_open, sort_close, sort_comma, sort_number, sort_word, sort_of, place_of, start_of, text_of, refusal_at}
use Rattle.grammar.specs.Grammar.{Out, out, Got, ok, refused, halt, Head, opens, empty, wrong, refusal, and_then, fill, rows_used, items, closing, add_node, add_number, number, then_number, if_asked, coord, point_body, opened, is_empty_tok, opening, opener, header_ending, header, by_name, child_head, root_head, line_body, parens, line_in, line_of, lines_body, polygon_in, polygon_of, polygons_body, point_in, bare_point, point_of, points_body, multi, simple, geometry_by, child_of, collection, geometry, root}
use Rattle.grammar_laws.proofs.Asks.{after, run_bind, run_size}
use Rattle.grammar_laws.proofs.WellRead.{is_kind, name_known}
use Rattle.demands.specs.Steps.{Open, node, Due, root_due, part_due, header_due, paren_due, number_due, read_whole, NameDue, of_root, of_child, Child, child_ring, child_line, child_polygon, child_point, Axis, axis_x, axis_y, axis_z, axis_m, Came, begins, named_bare, named_joined, ending_taken, flat, nameless, paren_taken, empty_taken, point_begun, coord_begun, number_taken, coord_read, comma_taken, close_taken, parts_filled, collections, one_of, Stopping, Refusing, no_node_row_law, no_bare_row, no_number_row_law, too_many, at_root, at_child, at_header, at_paren, at_number, at_closing, behind_refused, stands}
use Rattle.demands.specs.Faults.{Other, AtFault, no_node, no_number, too_deep_law, bad_number_law, not_ascii, no_root_law, no_name_law, no_header_law, no_ending, not_opened_law, not_closed_law, no_x_law, no_y_law, no_z_law, no_m_law, no_child_law, later, Among}

-- a bad number carries its own refusal, 28 or 29
abbrev pub Own : Tok → Type 0
Own (tok p none_tk) = Unit {0}
Own (tok p (bad_tk r)) = is_bad_number r.number ≡ true
Own (tok p open_tk) = Unit {0}
Own (tok p close_tk) = Unit {0}
Own (tok p comma_tk) = Unit {0}
Own (tok p (number_tk q x)) = Unit {0}
Own (tok p (word_tk w)) = Unit {0}

bad_of : (e : ℕ) (is : List ℕ) → is_bad_number e ≡ true → one_of e (28 ∷ 29 ∷ is) ≡ true
bad_of e is w = go (eqb e 28) (eqb e 29) w
  where
    go : (a b : Bool) → (a || b) ≡ true → (a || (b || one_of e is)) ≡ true
    go true b h = refl
    go false true h = refl
    go false false h = absurd (false≢true h)

bind_in : {A B : Type 0} (R : Ran A → Type 0) (T : Ran B → Type 0) (p : P A) (f : A → P B) (s : Str) → R (run p s) → ((x : A) (s1 : Str) → run p s ≡ ran x s1 → R (ran x s1) → T (run (f x) s1)) → T (run (bind p f) s)
bind_in {A} {B} R T p f s h k = rw (run_bind p f s) (go (run p s) refl h)
  where
    go : (x : Ran A) → run p s ≡ x → R x → T (after f x)
    go (ran x s1) e w = k x s1 e w

-- behind a comma a stream is shorter
comma_less : (s : Str) → sort_of (hd s) ≡ sort_comma → size (tl s) < size s
unfolding size
comma_less (end n) e = absurd (omega (arith, e))
comma_less (then t s) e = omega arith

only : (k : ℕ) → 1 ≤ k → k ≤ 7 → (k ≡ 1 → ⊥) → (k ≡ 2 → ⊥) → (k ≡ 3 → ⊥) → (k ≡ 4 → ⊥) → (k ≡ 5 → ⊥) → (k ≡ 7 → ⊥) → k ≡ 6
only k l h n1 n2 n3 n4 n5 n7 = omega arith

module _ (N M : ℕ) (s₀ : Str) where
  abbrev At : List Open → Due → Out → Str → Type 0
  At os u o s = Came N M s₀ os u o s

  -- the tokens left are some of the stream's
  abbrev pub Reached : Str → Type 0
  Reached s = (i : ℕ) × (later i s₀ ≡ s)

  next : {s : Str} → Reached s → Reached (tl s)
  next r = (suc r.0, ap tl r.1)

  pub came_reached : {os : List Open} {u : Due} {o : Out} {s : Str} → At os u o s → Reached s
  came_reached begins = (0, refl)
  came_reached (named_bare c n w i) = next (came_reached c)
  came_reached (named_joined c n w i) = next (came_reached c)
  came_reached (ending_taken c w i) = next (came_reached c)
  came_reached (flat c l w) = came_reached c
  came_reached (nameless c h) = came_reached c
  came_reached (paren_taken c w l) = next (came_reached c)
  came_reached (empty_taken c w l) = next (came_reached c)
  came_reached (point_begun c w l) = came_reached c
  came_reached (coord_begun c l) = came_reached c
  came_reached (number_taken c h w l) = next (came_reached c)
  came_reached (coord_read c e) = came_reached c
  came_reached (comma_taken c h w) = next (came_reached c)
  came_reached (close_taken c w) = next (came_reached c)
  came_reached (parts_filled i n c) = came_reached c

  later_size : (i : ℕ) → size (later i s₀) ≤ size s₀
  later_size zero = omega arith
  later_size (suc i) = omega (arith, later_size i, size_tl (later i s₀))

  came_size : {os : List Open} {u : Due} {o : Out} {s : Str} → At os u o s → size s ≤ size s₀
  came_size c = let r = came_reached c in rw r.1 at (later_size r.0)

  -- no more rows are used than there is room for
  abbrev pub Fits : Out → Type 0
  Fits (out rs ss) = (length rs ≤ N) × (length ss ≤ M)

  fill_fits : (i n : ℕ) (o : Out) → Fits o → Fits (fill i n o)
  fill_fits i n (out rs ss) h = (rw close_in_length h.0, h.1)

  pub came_fits : {os : List Open} {u : Due} {o : Out} {s : Str} → At os u o s → Fits o
  came_fits begins = (omega arith, omega arith)
  came_fits (named_bare c n w i) = came_fits c
  came_fits (named_joined c n w i) = came_fits c
  came_fits (ending_taken c w i) = came_fits c
  came_fits (flat c l w) = came_fits c
  came_fits (nameless c h) = came_fits c
  came_fits (paren_taken c w l) = (rw length-append (omega arith), (came_fits c).1)
  came_fits (empty_taken c w l) = (rw length-append (omega arith), (came_fits c).1)
  came_fits (point_begun c w l) = (rw length-append (omega arith), (came_fits c).1)
  came_fits (coord_begun c l) = came_fits c
  came_fits (number_taken c h w l) = ((came_fits c).0, rw length-append (omega arith))
  came_fits (coord_read c e) = came_fits c
  came_fits (comma_taken c h w) = came_fits c
  came_fits (close_taken c w) = came_fits c
  came_fits (parts_filled {o = o} i n c) = fill_fits i n o (came_fits c)

  -- at a token of the stream that can be at fault, the reading is stopped by a step that was due; or it is refused, with os still to be closed
  pub data Stopped : Refusal → Type 0 where
    stopped_at : {e : ℕ} {t : Tok} → Among s₀ t → AtFault t e (place_of t) → Stopping N M s₀ t e → Stopped (refusal e (place_of t))

  pub data Faulty (os : List Open) : Refusal → Str → Type 0 where
    faulty : {e p : ℕ} {t : Tok} {s : Str} → Among s₀ t → AtFault t e p → Refusing N M s₀ os t e s → Faulty os (refusal e p) s

  -- what a reader comes to: C of the rows used and the tokens left; or it is refused, or stopped
  abbrev pub GotIn : List Open → (Out → Str → Type 0) → Ran Got → Type 0
  GotIn os C (ran (ok o) s) = C o s
  GotIn os C (ran (refused r) s) = Reached s × Faulty os r s
  GotIn os C (ran (halt r) s) = Stopped r

  then_in : (os : List Open) (C D : Out → Str → Type 0) (r : Got) (f : Out → P Got) (s : Str) → GotIn os C (ran r s) → ((o : Out) → C o s → GotIn os D (run (f o) s)) → GotIn os D (run (and_then r f) s)
  unfolding and_then run
  then_in os C D (ok o) f s h k = k o h
  then_in os C D (refused r) f s h k = h
  then_in os C D (halt r) f s h k = h

  here : {s : Str} → Reached s → Among s₀ (hd s)
  here r = record { index = r.0; is = ap hd r.1 }

  behind : {os : List Open} {k d e : ℕ} {r : Refusal} {s : Str} → Faulty (node k d ∷ os) r s → one_of e (28 ∷ 29 ∷ 13 ∷ []) ≡ true → Refusing N M s₀ os (hd s) e (tl s)
  behind (faulty a f g) w = behind_refused g w

  own_stands : {os : List Open} {k d : ℕ} {r : Refusal} {s : Str} → Faulty (node k d ∷ os) r s → sort_of (hd s) ≡ sort_close → Faulty os r (tl s)
  own_stands (faulty a f g) w = faulty a f (stands g w)

  module _ (own : (i : ℕ) → Own (hd (later i s₀))) where
    own_at : {s : Str} → Reached s → Own (hd s)
    own_at r = subst (λ (v : Str). Own (hd v)) r.1 (own r.0)

    -- a step that refuses a bad number, with either number
    abbrev Bad : List Open → Tok → Str → Type 0
    Bad os t s = (e : ℕ) → is_bad_number e ≡ true → Refusing N M s₀ os t e s

    -- the refusal e at a token that was taken: its own if it is a bad number
    refused_at : {os : List Open} {s : Str} (e : ℕ) (t : Tok) → Among s₀ t → Own t → ((sort_of t ≡ sort_bad → ⊥) → AtFault t e (place_of t)) → Refusing N M s₀ os t e s → Bad os t s → Faulty os (refusal_at e t) s
    refused_at e (tok p none_tk) a w h g b = faulty a (h λ v. omega (arith, v)) g
    refused_at e (tok p (bad_tk r)) a w h g b = faulty a (bad_number_law refl w) (b r.number w)
    refused_at e (tok p open_tk) a w h g b = faulty a (h λ v. omega (arith, v)) g
    refused_at e (tok p close_tk) a w h g b = faulty a (h λ v. omega (arith, v)) g
    refused_at e (tok p comma_tk) a w h g b = faulty a (h λ v. omega (arith, v)) g
    refused_at e (tok p (number_tk q v)) a w h g b = faulty a (h λ v. omega (arith, v)) g
    refused_at e (tok p (word_tk v)) a w h g b = faulty a (h λ v. omega (arith, v)) g

    at_token : {os : List Open} (e : ℕ) (s : Str) → Reached s → ((sort_of (hd s) ≡ sort_bad → ⊥) → AtFault (hd s) e (place_of (hd s))) → Refusing N M s₀ os (hd s) e (tl s) → Bad os (hd s) (tl s) → Reached (tl s) × Faulty os (refusal_at e (hd s)) (tl s)
    at_token e s r h g b = (next r, refused_at e (hd s) (here r) (own_at r) h g b)

    -- coordinates of a node of dimension d
    module _ (os : List Open) (k d : ℕ) where
      abbrev Numbers : ℕ → Out → Str → Type 0
      Numbers n o s = At (node k d ∷ os) (number_due n) o s

      abbrev Whole : Out → Str → Type 0
      Whole o s = At (node k d ∷ os) read_whole o s

      add_in : (n e : ℕ) → Axis d n e → (o : Out) (s : Str) → Numbers n o s → sort_of (hd s) ≡ sort_number → GotIn (node k d ∷ os) (Numbers (n + 1)) (ran (add_number M o (place_of (hd s)) (start_of (hd s)) (text_of (hd s))) (tl s))
      add_in n e a (out rs ss) s c w =
          either (ltb (length ss) M) (λ g. GotIn (node k d ∷ os) (Numbers (n + 1)) (ran g (tl s))) _ _ (λ l. number_taken c a w (ltb-true (length ss) M l))
          λ l. stopped_at (here (came_reached c)) (no_number w) (no_number_row_law c a w (omega (arith, (came_fits c).1, ltb-false (length ss) M l)))

      number_in : (n e : ℕ) → Axis d n e → one_of e (28 ∷ 29 ∷ e ∷ []) ≡ true → ((t : Tok) → Other sort_number t → AtFault t e (place_of t)) → (o : Out) (s : Str) → Numbers n o s → GotIn (node k d ∷ os) (Numbers (n + 1)) (run (number M e o) s)
      unfolding number run
      number_in n e a w h o s c =
          either (eqb (sort_of (hd s)) sort_number) (λ g. GotIn (node k d ∷ os) (Numbers (n + 1)) (ran g (tl s))) _ _ (λ q. add_in n e a o s c (eqb-true (sort_of (hd s)) sort_number q))
          λ q. at_token e s (came_reached c) (λ b. h (hd s) (b, eqb-false (sort_of (hd s)) sort_number q)) (at_number c a w) λ i z. at_number c a (bad_of i (e ∷ []) z)

      then_number_law : (n e : ℕ) → Axis d n e → one_of e (28 ∷ 29 ∷ e ∷ []) ≡ true → ((t : Tok) → Other sort_number t → AtFault t e (place_of t)) → (r : Got) (s : Str) → GotIn (node k d ∷ os) (Numbers n) (ran r s) → GotIn (node k d ∷ os) (Numbers (n + 1)) (run (then_number M e r) s)
      unfolding then_number
      then_number_law n e a w h r s g = then_in (node k d ∷ os) (Numbers n) (Numbers (n + 1)) r _ s g λ o c. number_in n e a w h o s c

      if_asked_law : (asked : Bool) (n e : ℕ) → (asked ≡ true → Axis d n e) → one_of e (28 ∷ 29 ∷ e ∷ []) ≡ true → ((t : Tok) → Other sort_number t → AtFault t e (place_of t)) → (r : Got) (s : Str) → GotIn (node k d ∷ os) (Numbers n) (ran r s) → GotIn (node k d ∷ os) (Numbers (n + cond asked 1 0)) (run (if_asked M asked e r) s)
      unfolding if_asked run
      if_asked_law true n e a w h r s g = then_number_law n e (a refl) w h r s g
      if_asked_law false n e a w h r s g = let z : n ≡ n + 0 = omega arith in subst (λ (i : ℕ). GotIn (node k d ∷ os) (Numbers i) (ran r s)) z g

      read_in : (n : ℕ) → n ≡ width d → (x : Ran Got) → GotIn (node k d ∷ os) (Numbers n) x → GotIn (node k d ∷ os) Whole x
      read_in n e (ran (ok o) s) h = coord_read h e
      read_in n e (ran (refused r) s) h = h
      read_in n e (ran (halt r) s) h = h

      coord_in : (o : Out) (s : Str) → Numbers 0 o s → GotIn (node k d ∷ os) Whole (run (coord M d o) s)
      unfolding coord width
      coord_in o s c =
          bind_in (GotIn (node k d ∷ os) (Numbers 1)) (GotIn (node k d ∷ os) Whole) _ _ s (number_in 0 14 axis_x refl (λ t. no_x_law) o s c) λ r1 s1 e1 h1.
          bind_in (GotIn (node k d ∷ os) (Numbers 2)) (GotIn (node k d ∷ os) Whole) _ _ s1 (then_number_law 1 15 axis_y refl (λ t. no_y_law) r1 s1 h1) λ r2 s2 e2 h2.
          bind_in (GotIn (node k d ∷ os) (Numbers (2 + cond (has_z d) 1 0))) (GotIn (node k d ∷ os) Whole) _ _ s2 (if_asked_law (has_z d) 2 16 axis_z refl (λ t. no_z_law) r2 s2 h2) λ r3 s3 e3 h3.
          read_in ((2 + cond (has_z d) 1 0) + cond (has_m d) 1 0) (omega arith) (run (if_asked M (has_m d) 17 r3) s3) (if_asked_law (has_m d) (2 + cond (has_z d) 1 0) 17 axis_m refl (λ t. no_m_law) r3 s3 h3)

      point_in_body : (i : ℕ) (o : Out) (s : Str) → Numbers 0 o s → GotIn (node k d ∷ os) Whole (run (point_body M d i o) s)
      unfolding point_body run
      point_in_body i o s c = bind_in (GotIn (node k d ∷ os) Whole) (GotIn (node k d ∷ os) Whole) _ _ s (coord_in o s c) λ r s1 e h. then_in (node k d ∷ os) Whole Whole r _ s1 h λ o1 c1. parts_filled i 1 c1

      -- a part of the node; its body; one token more
      abbrev Part : (Out → P Got) → Type 0
      Part g = (o : Out) (s : Str) → At (node k d ∷ os) part_due o s → GotIn (node k d ∷ os) Whole (run (g o) s)

      abbrev Body : (ℕ → Out → P Got) → Type 0
      Body f = (i : ℕ) → Part (f i)

      items_in : (k ≡ kind_point → ⊥) → (g : Out → P Got) → Part g → (G n i : ℕ) (o : Out) (s : Str) → size s < G → At (node k d ∷ os) part_due o s → GotIn (node k d ∷ os) Whole (run (items g G n i o) s)
      unfolding items run
      items_in w g e zero n i o s l c = absurd (not-suc-le-zero l)
      items_in w g e (suc G) n i o s l c =
          bind_in (GotIn (node k d ∷ os) Whole) (GotIn (node k d ∷ os) Whole) _ _ s (e o s c) λ r s1 q h. then_in (node k d ∷ os) Whole Whole r _ s1 h λ o1 c1.
          either (eqb (sort_of (hd s1)) sort_comma) (λ p. GotIn (node k d ∷ os) Whole (run p s1)) _ _
          (λ b. (let a : sort_of (hd s1) ≡ sort_comma = eqb-true (sort_of (hd s1)) sort_comma b in items_in w g e G (n + 1) i o1 (tl s1) (omega (arith, comma_less s1 a, run_size (g o) s q)) (comma_taken c1 w a)))
          λ b. parts_filled i (n + 1) c1

      close_in_law : (r : Got) (s : Str) → GotIn (node k d ∷ os) Whole (ran r s) → GotIn os (At os read_whole) (run (closing r) s)
      unfolding closing run
      close_in_law (ok o) s c =
          either (eqb (sort_of (hd s)) sort_close) (λ g. GotIn os (At os read_whole) (ran g (tl s))) _ _ (λ e. close_taken c (eqb-true (sort_of (hd s)) sort_close e))
          λ e. at_token 13 s (came_reached c) (λ b. not_closed_law (b, eqb-false (sort_of (hd s)) sort_close e)) (at_closing c refl) λ i z. at_closing c (bad_of i (13 ∷ []) z)
      close_in_law (refused r) s h =
          either (eqb (sort_of (hd s)) sort_close) (λ g. GotIn os (At os read_whole) (ran g (tl s))) _ _ (λ e. (next h.0, own_stands h.1 (eqb-true (sort_of (hd s)) sort_close e)))
          λ e. at_token 13 s h.0 (λ b. not_closed_law (b, eqb-false (sort_of (hd s)) sort_close e)) (behind h.1 refl) λ i z. behind h.1 (bad_of i (13 ∷ []) z)
      close_in_law (halt r) s h = h

    -- rows of nodes: where `(` was taken, where EMPTY was, and before a bare point
    module _ (os : List Open) (k d : ℕ) where
      paren_in : (o : Out) (s : Str) → At os (paren_due k d) o s → sort_of (hd s) ≡ sort_open → GotIn os (At (node k d ∷ os) part_due) (ran (add_node N o (place_of (hd s)) k d) (tl s))
      paren_in (out rs ss) s c w =
          either (ltb (length rs) N) (λ g. GotIn os (At (node k d ∷ os) part_due) (ran g (tl s))) _ _ (λ l. paren_taken c w (ltb-true (length rs) N l))
          λ l. stopped_at (here (came_reached c)) no_node (no_node_row_law c (inl w) (omega (arith, (came_fits c).0, ltb-false (length rs) N l)))

      empty_in : (o : Out) (s : Str) → At os (paren_due k d) o s → is_empty_tok (hd s) ≡ true → GotIn os (At os read_whole) (ran (add_node N o (place_of (hd s)) k d) (tl s))
      empty_in (out rs ss) s c w =
          either (ltb (length rs) N) (λ g. GotIn os (At os read_whole) (ran g (tl s))) _ _ (λ l. empty_taken c w (ltb-true (length rs) N l))
          λ l. stopped_at (here (came_reached c)) no_node (no_node_row_law c (inr w) (omega (arith, (came_fits c).0, ltb-false (length rs) N l)))

      -- what a `(` opened
      abbrev Opened : (ℕ → Out → P Got) → Type 0
      Opened f = (o : Out) (s : Str) → At os (paren_due k d) o s → sort_of (hd s) ≡ sort_open → GotIn os (At os read_whole) (run (f (place_of (hd s)) o) (tl s))

      opened_in : (b : ℕ → Out → P Got) → Body os k d b → Opened (opened N k d b)
      unfolding opened
      opened_in b e o s c w =
          then_in os (At (node k d ∷ os) part_due) (At os read_whole) (add_node N o (place_of (hd s)) k d) _ (tl s) (paren_in o s c w) λ o1 c1.
          bind_in (GotIn (node k d ∷ os) (Whole os k d)) (GotIn os (At os read_whole)) _ _ (tl s) (e (rows_used o) o1 (tl s) c1) λ r s1 q h. close_in_law os k d r s1 h

    -- heads, of kinds of which K holds
    module _ (K : ℕ → Type 0) (os : List Open) (o : Out) where
      data HeadIn : Ran Head → Type 0 where
        opens_at : {s : Str} {k d : ℕ} → At os (paren_due k d) o s → K k → sort_of (hd s) ≡ sort_open → HeadIn (ran (opens k d (place_of (hd s))) (tl s))
        empty_at_law : {s : Str} {k d : ℕ} → At os (paren_due k d) o s → is_empty_tok (hd s) ≡ true → HeadIn (ran (empty k d (place_of (hd s))) (tl s))
        wrong_at_law : {s : Str} {r : Refusal} → Reached s → Faulty os r s → HeadIn (ran (wrong r) s)

      opener_in : (k d : ℕ) (s : Str) → K k → At os (paren_due k d) o s → HeadIn (run (opener k d) s)
      unfolding opener opening run
      opener_in k d s i c =
          either (eqb (sort_of (hd s)) sort_open) (λ h. HeadIn (ran h (tl s))) _ _ (λ e. opens_at c i (eqb-true (sort_of (hd s)) sort_open e)) λ e.
          either (is_empty_tok (hd s)) (λ h. HeadIn (ran h (tl s))) _ _ (λ f. empty_at_law c f)
          λ f. (let r = at_token 12 s (came_reached c) (λ b. not_opened_law (b, eqb-false (sort_of (hd s)) sort_open e) f) (at_paren c refl) (λ i z. at_paren c (bad_of i (12 ∷ []) z)) in wrong_at_law r.0 r.1)

      ending_in : (k : ℕ) (s : Str) → K k → At os (header_due k) o s → sort_of (hd s) ≡ sort_word → (e : Option ℕ) → ending (text_of (hd s)) ≡ e → HeadIn (run (header_ending k (hd s) e) s)
      unfolding run
      ending_in k s i c w (Some d) q = opener_in k d (tl s) i (ending_taken c w q)
      ending_in k s i c w None q =
          either (is_empty_word (text_of (hd s))) (λ p. HeadIn (run p s)) _ _ (λ e. opener_in k dim_xy s i (flat c (omega (arith, w)) λ v. e))
          λ e. wrong_at_law (came_reached c) (faulty (here (came_reached c)) (no_ending w q e) (at_header c refl))

      header_in : (k : ℕ) (s : Str) → K k → At os (header_due k) o s → HeadIn (run (header k) s)
      unfolding header run
      header_in k s i c =
          either (ltb (sort_of (hd s)) sort_open) (λ p. HeadIn (run p s)) _ _
          (λ e. wrong_at_law (came_reached c) (faulty (here (came_reached c)) (no_header_law (ltb-true (sort_of (hd s)) sort_open e)) (at_header c refl))) λ e.
          either (eqb (sort_of (hd s)) sort_word) (λ p. HeadIn (run p s)) _ _ (λ w. ending_in k s i c (eqb-true (sort_of (hd s)) sort_word w) (ending (text_of (hd s))) refl)
          λ w. opener_in k dim_xy s i (flat c (ltb-false (sort_of (hd s)) sort_open e) λ v. absurd (eqb-false (sort_of (hd s)) sort_word w v))

    abbrev Known : ℕ → Type 0
    Known k = is_kind k ≡ true

    name_in : (os : List Open) (o : Out) (u : Due) (s : Str) → NameDue os u → At os u o s → Refusing N M s₀ os (hd s) 9 (tl s) → sort_of (hd s) ≡ sort_word → (n : Option Name) → meaning (text_of (hd s)) ≡ n → HeadIn Known os o (run (by_name (place_of (hd s)) n) (tl s))
    unfolding run
    name_in os o u s a c g w None i = wrong_at_law (next (came_reached c)) (faulty (here (came_reached c)) (no_name_law w i) g)
    name_in os o u s a c g w (Some (Name.Bare k)) i = header_in Known os o k (tl s) (rw i at (name_known (text_of (hd s)))) (named_bare c a w i)
    name_in os o u s a c g w (Some (Name.Joined k d)) i = opener_in Known os o k d (tl s) (and_both _ _ (rw i at (name_known (text_of (hd s))))).0 (named_joined c a w i)

    child_head_law : (os : List Open) (d : ℕ) (o : Out) (s : Str) → At (node kind_geometry_collection d ∷ os) part_due o s → HeadIn Known (node kind_geometry_collection d ∷ os) o (run child_head s)
    unfolding child_head run
    child_head_law os d o s c =
        either (eqb (sort_of (hd s)) sort_word) (λ p. HeadIn Known (node kind_geometry_collection d ∷ os) o (run p (tl s))) _ _
        (λ w. name_in (node kind_geometry_collection d ∷ os) o part_due s of_child c (at_child c refl) (eqb-true (sort_of (hd s)) sort_word w) (meaning (text_of (hd s))) refl)
        λ w. (let r = at_token 18 s (came_reached c) (λ b. no_child_law (b, eqb-false (sort_of (hd s)) sort_word w)) (at_child c refl) (λ i z. at_child c (bad_of i (9 ∷ 18 ∷ []) z)) in wrong_at_law r.0 r.1)

    root_head_law : (s : Str) → At [] root_due (out [] []) s → HeadIn Known [] (out [] []) (run root_head s)
    unfolding root_head run
    root_head_law s c =
        either (eqb (sort_of (hd s)) sort_word) (λ p. HeadIn Known [] (out [] []) (run p (tl s))) _ _
        (λ w. (let v : sort_of (hd s) ≡ sort_word = eqb-true (sort_of (hd s)) sort_word w in
        either (every is_ascii (text_of (hd s))) (λ p. HeadIn Known [] (out [] []) (run p (tl s))) _ _ (λ i. name_in [] (out [] []) root_due s of_root c (at_root c refl) v (meaning (text_of (hd s))) refl)
        λ i. wrong_at_law (next (came_reached c)) (faulty (here (came_reached c)) (not_ascii v i) (at_root c refl))))
        λ w. (let r = at_token 8 s (came_reached c) (λ b. no_root_law (b, eqb-false (sort_of (hd s)) sort_word w)) (at_root c refl) (λ i z. at_root c (bad_of i (7 ∷ 8 ∷ 9 ∷ []) z)) in wrong_at_law r.0 r.1)

    -- the loops' count down is greater than there are tokens
    module _ (F : ℕ) (enough : size s₀ < F) where
      list_in : (os : List Open) (k d : ℕ) → (k ≡ kind_point → ⊥) → (g : Out → P Got) → Part os k d g → Body os k d (λ i o. items g F 0 i o)
      list_in os k d w g e i o s c = items_in os k d w g e F 0 i o s (omega (arith, came_size c)) c

      parens_in : (os : List Open) (k : ℕ) (f : ℕ → ℕ → Out → P Got) → ((d : ℕ) → Opened os k d (f d)) → (o : Out) {x : Ran Head} → HeadIn (λ i. i ≡ k) os o x → GotIn os (At os read_whole) (after (parens N M F f o) x)
      unfolding parens run
      parens_in os k f e o (opens_at {s = s} {d = d} c i w) = e d o s (subst (λ (x : ℕ). At os (paren_due x d) o s) i c) w
      parens_in os k f e o (empty_at_law {s = s} {k = j} {d = d} c w) = empty_in os j d o s c w
      parens_in os k f e o (wrong_at_law r g) = (r, g)

      -- a child without a name
      nameless_in : (os : List Open) (k c d : ℕ) (f : ℕ → ℕ → Out → P Got) → ((os' : List Open) (e : ℕ) → Opened os' c e (f e)) → (o : Out) (s : Str) → At (node k d ∷ os) part_due o s → Child (hd s) k c
          → GotIn (node k d ∷ os) (Whole os k d) (run (bind (opener c d) (parens N M F f o)) s)
      nameless_in os k c d f e o s a h =
          bind_in (HeadIn (λ i. i ≡ c) (node k d ∷ os) o) (GotIn (node k d ∷ os) (Whole os k d)) _ _ s (opener_in (λ i. i ≡ c) (node k d ∷ os) o c d s refl (nameless a h)) λ x s1 q w. parens_in (node k d ∷ os) c f (e (node k d ∷ os)) o w

      line_in_law : (os : List Open) (d : ℕ) → Opened os kind_line_string d (line_in N M F d)
      unfolding line_in line_body
      line_in_law os d = opened_in os kind_line_string d _ (list_in os kind_line_string d (λ v. omega (arith, v)) _ λ o s c. coord_in os kind_line_string d o s (coord_begun c (omega arith)))

      lines_body_law : (os : List Open) (k d : ℕ) → (k ≡ kind_point → ⊥) → ((t : Tok) → Child t k kind_line_string) → Body os k d (lines_body N M F d)
      unfolding lines_body line_of
      lines_body_law os k d w h = list_in os k d w _ λ o s c. nameless_in os k kind_line_string d _ line_in_law o s c (h (hd s))

      polygon_in_law : (os : List Open) (d : ℕ) → Opened os kind_polygon d (polygon_in N M F d)
      unfolding polygon_in
      polygon_in_law os d = opened_in os kind_polygon d _ (lines_body_law os kind_polygon d (λ v. omega (arith, v)) λ t. child_ring)

      polygons_body_law : (os : List Open) (d : ℕ) → Body os kind_multi_polygon d (polygons_body N M F d)
      unfolding polygons_body polygon_of
      polygons_body_law os d = list_in os kind_multi_polygon d (λ v. omega (arith, v)) _ λ o s c. nameless_in os kind_multi_polygon kind_polygon d _ polygon_in_law o s c child_polygon

      point_in_law : (os : List Open) (d : ℕ) → Opened os kind_point d (point_in N M F d)
      unfolding point_in
      point_in_law os d = opened_in os kind_point d _ λ i o s c. point_in_body os kind_point d i o s (coord_begun c (omega arith))

      bare_in : (os : List Open) (d : ℕ) (o : Out) (s : Str) → At (node kind_multi_point d ∷ os) part_due o s → (sort_of (hd s) ≡ sort_open → ⊥) → GotIn (node kind_multi_point d ∷ os) (Numbers os kind_multi_point d 0) (ran (add_node N o (place_of (hd s)) kind_point d) s)
      bare_in os d (out rs ss) s c w =
          either (ltb (length rs) N) (λ g. GotIn (node kind_multi_point d ∷ os) (Numbers os kind_multi_point d 0) (ran g s)) _ _ (λ l. point_begun c w (ltb-true (length rs) N l))
          λ l. stopped_at (here (came_reached c)) no_node (no_bare_row c w (omega (arith, (came_fits c).0, ltb-false (length rs) N l)))

      point_of_law : (os : List Open) (d : ℕ) → Part os kind_multi_point d (point_of N M F d)
      unfolding point_of bare_point run
      point_of_law os d o s c =
          either (eqb (sort_of (hd s)) sort_open) (λ p. GotIn (node kind_multi_point d ∷ os) (Whole os kind_multi_point d) (run p s)) _ _
          (λ e. (let w : sort_of (hd s) ≡ sort_open = eqb-true (sort_of (hd s)) sort_open e in point_in_law (node kind_multi_point d ∷ os) d o s (nameless c (child_point w)) w))
          λ e. then_in (node kind_multi_point d ∷ os) (Numbers os kind_multi_point d 0) (Whole os kind_multi_point d) (add_node N o (place_of (hd s)) kind_point d) _ s (bare_in os d o s c (eqb-false (sort_of (hd s)) sort_open e))
          λ o1 c1. point_in_body os kind_multi_point d (rows_used o) o1 s c1

      points_body_law : (os : List Open) (d : ℕ) → Body os kind_multi_point d (points_body N M F d)
      unfolding points_body
      points_body_law os d = list_in os kind_multi_point d (λ v. omega (arith, v)) _ (point_of_law os d)

      multi_in : (os : List Open) (k d : ℕ) → is_kind k ≡ true → (eqb k kind_point ≡ false) → (eqb k kind_line_string ≡ false) → (eqb k kind_polygon ≡ false) → (eqb k kind_geometry_collection ≡ false) → Opened os k d (multi N M F k d)
      unfolding multi
      multi_in os k d i n1 n2 n3 n7 o s c w =
          either (eqb k kind_multi_point) (λ p. GotIn os (At os read_whole) (run p (tl s))) _ _
          (λ e. opened_in os kind_multi_point d _ (points_body_law os d) o s (subst (λ (j : ℕ). At os (paren_due j d) o s) (eqb-true k kind_multi_point e) c) w) λ n4.
          either (eqb k kind_multi_line_string) (λ p. GotIn os (At os read_whole) (run p (tl s))) _ _
          (λ e. opened_in os kind_multi_line_string d _ (lines_body_law os kind_multi_line_string d (λ v. omega (arith, v)) λ t. child_line) o s (subst (λ (j : ℕ). At os (paren_due j d) o s) (eqb-true k kind_multi_line_string e) c) w) λ n5.
          (let b = and_both _ _ i in
          let l : 1 ≤ k = leb-true 1 k b.0 in
          let h : k ≤ 7 = leb-true k 7 b.1 in
          let e : k ≡ kind_multi_polygon = only k l h (eqb-false k 1 n1) (eqb-false k 2 n2) (eqb-false k 3 n3) (eqb-false k 4 n4) (eqb-false k 5 n5) (eqb-false k 7 n7) in
          opened_in os kind_multi_polygon d _ (polygons_body_law os d) o s (subst (λ (j : ℕ). At os (paren_due j d) o s) e c) w)

      simple_in : (os : List Open) (k d : ℕ) → is_kind k ≡ true → (eqb k kind_geometry_collection ≡ false) → Opened os k d (simple N M F k d)
      unfolding simple
      simple_in os k d i n7 o s c w =
          either (eqb k kind_point) (λ p. GotIn os (At os read_whole) (run p (tl s))) _ _ (λ e. point_in_law os d o s (subst (λ (j : ℕ). At os (paren_due j d) o s) (eqb-true k kind_point e) c) w) λ n1.
          either (eqb k kind_line_string) (λ p. GotIn os (At os read_whole) (run p (tl s))) _ _ (λ e. line_in_law os d o s (subst (λ (j : ℕ). At os (paren_due j d) o s) (eqb-true k kind_line_string e) c) w) λ n2.
          either (eqb k kind_polygon) (λ p. GotIn os (At os read_whole) (run p (tl s))) _ _ (λ e. polygon_in_law os d o s (subst (λ (j : ℕ). At os (paren_due j d) o s) (eqb-true k kind_polygon e) c) w) λ n3.
          multi_in os k d i n1 n2 n3 n7 o s c w

      geometry_in : (os : List Open) (C : ℕ → ℕ → Out → P Got) → ((d : ℕ) → Opened os kind_geometry_collection d (C d)) → (o : Out) {x : Ran Head} → HeadIn Known os o x → GotIn os (At os read_whole) (after (geometry_by N M F C o) x)
      unfolding geometry_by run
      geometry_in os C e o (opens_at {s = s} {k = k} {d = d} c i w) =
          either (eqb k kind_geometry_collection) (λ p. GotIn os (At os read_whole) (run p (tl s))) _ _ (λ b. e d o s (subst (λ (j : ℕ). At os (paren_due j d) o s) (eqb-true k kind_geometry_collection b) c) w)
          λ n7. simple_in os k d i n7 o s c w
      geometry_in os C e o (empty_at_law {s = s} {k = k} {d = d} c w) = empty_in os k d o s c w
      geometry_in os C e o (wrong_at_law r g) = (r, g)

      collection_in : (n : ℕ) (os : List Open) (d : ℕ) → n + collections os ≡ depth_limit → Opened os kind_geometry_collection d (collection N M F n d)
      unfolding collection child_of collections run
      collection_in zero os d z o s c w = stopped_at (here (came_reached c)) (too_deep_law w) (too_many c w (omega (arith, z)))
      collection_in (suc n) os d z o s c w =
          opened_in os kind_geometry_collection d _ (list_in os kind_geometry_collection d (λ v. omega (arith, v)) _ λ o1 s1 c1.
          bind_in (HeadIn Known (node kind_geometry_collection d ∷ os) o1) (GotIn (node kind_geometry_collection d ∷ os) (Whole os kind_geometry_collection d)) _ _ s1 (child_head_law os d o1 s1 c1)
          λ x s2 q h. geometry_in (node kind_geometry_collection d ∷ os) _ (λ e. collection_in n (node kind_geometry_collection d ∷ os) e (omega (arith, z))) o1 h) o s c w

      pub root_in : GotIn [] (At [] read_whole) (run (root N M F depth_limit) s₀)
      unfolding root geometry collections
      root_in = bind_in (HeadIn Known [] (out [] [])) (GotIn [] (At [] read_whole)) _ _ s₀ (root_head_law s₀ begins) λ x s1 q h. geometry_in [] _ (λ e. collection_in depth_limit [] e refl) (out [] []) h
