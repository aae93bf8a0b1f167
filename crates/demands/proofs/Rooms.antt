-- Half as many rows as bytes are enough: behind every node row, and behind every number row, two bytes of the text are passed.
-- Assumes nothing.
use mathlib.Core.Path.{◌≡◌, refl, ap, subst}
use mathlib.Core.Bool.{Bool, true, false, false≢true, cond, ◌||◌}
use mathlib.Core.List.{List, [], ◌∷◌, flat_map}
use Prim.Native.Nat.{ℕ, zero, suc, ◌+◌, ◌*◌, ◌≤◌, ◌<◌}
use native.Mathlib.Omega.{arith}
use lib.Dec.{eqb, leb}
use lib.ListN.{length, length-append}
use borrow.Author.Tests.{eqb-true, leb-true}
use Rattle.scan.specs.Bytes.{nul, paren_open, paren_close, plus, is_blank, is_stop, is_numberlike}
use Rattle.number.specs.Lexeme.{is_lexeme}
use Rattle.kinds.specs.Kinds.{kind_line_string, kind_polygon, kind_multi_point, kind_multi_line_string, kind_multi_polygon, width}
use Rattle.lists.specs.Lists.{every}
use Rattle.lists.proofs.Cases.{either}
use Rattle.lists.proofs.Lists.{every_head, every_tail, every_mem}
use Rattle.words.proofs.Words.{same_length}
use Rattle.names.specs.Names.{spellings, meaning}
use Rattle.names.specs.Table.{is_known}
use Rattle.names.proofs.Table.{means_spelled, known_means}
use Rattle.store.proofs.Rows.{close_in_length}
use Rattle.token.specs.declared.Refusal.{Refusal}
use Rattle.token_stream.specs.Stream.{Tk, open_tk, close_tk, comma_tk, none_tk, Tok, tok, Str, end, then, hd, tl, toks}
use Rattle.token_stream.specs.Lex.{mark_tk, number_token, run_tk, Lexed, lexed, flush, push, lex_byte, lex_run, lex}
use Rattle.token_stream.proofs.Bridge.{toks_lex}
use Rattle.grammar.specs.Grammar.{Out, out, fill, is_empty_tok}
use Rattle.grammar.specs.Tokens.{sort_none, sort_number, sort_word, tk_sort, sort_of, place_of, text_of}
use Rattle.grammar_laws.proofs.Tokens.{ToksIn, hd_in, tl_in, place_in, place_before, lex_in}
use Rattle.demands.specs.Steps.{Open, node, Due, root_due, part_due, header_due, paren_due, number_due, read_whole, NameDue, of_root, of_child, Child, child_ring, child_line, child_polygon, child_point, Axis, axis_x, axis_y, axis_z, axis_m, Came, begins, named_bare, named_joined, ending_taken, flat, nameless, paren_taken, empty_taken, point_begun, coord_begun, number_taken, coord_read, comma_taken, close_taken, parts_filled, one_of, Stopping, Refusing, no_node_row_law, no_bare_row, no_number_row_law, too_many, at_root, at_child, at_header, at_paren, at_number, at_closing, behind_refused, stands}
use Rattle.demands.specs.Faults.{later, PlaceOf, over_limit_law, ill_formed, stopped, at_fault}
use Rattle.demands.specs.Rooms.{EnoughNodes, EnoughNumbers}
use Rattle.demands.proofs.Steps.{came_reached}
use Rattle.demands.proofs.Demand1.{read_places_law}

-- ---- how far a token and the next one are apart: at least one byte; two numbers, two; a word, its length
abbrev Gap : Tok → Tok → Type 0
Gap t u = (place_of t < place_of u) × (sort_of t ≡ sort_number → sort_of u ≡ sort_number → place_of t + 2 ≤ place_of u) × (sort_of t ≡ sort_word → place_of t + length (text_of t) ≤ place_of u)

abbrev Gaps : Str → Type 0
Gaps (end n) = Unit {0}
Gaps (then t s) = Gap t (hd s) × Gaps s

gap_at : (s : Str) → Gaps s → (sort_of (hd s) ≡ sort_none → ⊥) → Gap (hd s) (hd (tl s))
gap_at (end n) g h = absurd (h refl)
gap_at (then t s) g h = g.0

gaps_tl : (s : Str) → Gaps s → Gaps (tl s)
gaps_tl (end n) g = tt
gaps_tl (then t s) g = g.1

-- a run of bytes from p on, and the tokens after it: none stands in the run, and a number not directly behind it
abbrev Apart : ℕ → Str → Type 0
Apart q s = (q ≤ place_of (hd s)) × (sort_of (hd s) ≡ sort_number → q < place_of (hd s)) × Gaps s

abbrev LexedApart : ℕ → Lexed → Type 0
LexedApart p (lexed r s) = Apart (p + length r) s

-- a run's token is a number, a bad number or the whole run as a word
number_tk_gap : (p : ℕ) (bs : List ℕ) (r : Refusal) (q : ℕ) (x : List ℕ) (u : Tok) → p + suc (length bs) ≤ place_of u → (sort_of u ≡ sort_number → p + suc (length bs) < place_of u) → Gap (tok p (number_token r q x)) u
unfolding number_token
number_tk_gap p bs r q x u l n = either (is_lexeme x) (λ k. Gap (tok p k) u) _ _ (λ e. (omega arith, (λ v w. omega (arith, n w)), λ v. absurd (omega (arith, v)))) λ e. (omega arith, (λ v w. absurd (omega (arith, v))), λ v. absurd (omega (arith, v)))

run_gap : (p b : ℕ) (bs : List ℕ) (u : Tok) → p + suc (length bs) ≤ place_of u → (sort_of u ≡ sort_number → p + suc (length bs) < place_of u) → Gap (tok p (run_tk p b bs)) u
unfolding run_tk
run_gap p b bs u l n =
    either (is_numberlike b) (λ k. Gap (tok p k) u) _ _
    (λ e. either (eqb b plus) (λ k. Gap (tok p k) u) _ _ (λ f. number_tk_gap p bs _ (p + 1) bs u l n) λ f. number_tk_gap p bs _ p (b ∷ bs) u l n)
    λ e. (omega arith, (λ v w. absurd (omega (arith, v))), λ v. l)

flush_gaps : (p : ℕ) (l : Lexed) → LexedApart p l → (p ≤ place_of (hd (flush p l))) × Gaps (flush p l)
unfolding flush
flush_gaps p (lexed [] s) h = (omega (arith, h.0), h.2)
flush_gaps p (lexed (b ∷ bs) s) h = (omega arith, (run_gap p b bs (hd s) h.0 h.1, h.2))

mark_apart : (p b : ℕ) (s : Str) → p + 1 ≤ place_of (hd s) → Gaps s → Apart (p + 0) (then (tok p (mark_tk b)) s)
unfolding mark_tk
mark_apart p b s l g =
    either (eqb b nul) (λ k. Apart (p + 0) (then (tok p k) s)) _ _ (λ e. go none_tk (omega arith) (λ v. omega (arith, v))) λ e.
    either (eqb b paren_open) (λ k. Apart (p + 0) (then (tok p k) s)) _ _ (λ e. go open_tk (λ v. omega (arith, v)) (λ v. omega (arith, v))) λ e.
    either (eqb b paren_close) (λ k. Apart (p + 0) (then (tok p k) s)) _ _ (λ e. go close_tk (λ v. omega (arith, v)) (λ v. omega (arith, v))) λ e. go comma_tk (λ v. omega (arith, v)) (λ v. omega (arith, v))
  where
    go : (k : Tk) → (tk_sort k ≡ sort_number → ⊥) → (tk_sort k ≡ sort_word → ⊥) → Apart (p + 0) (then (tok p k) s)
    go k n w = (omega arith, (λ v. absurd (n v)), ((omega arith, (λ v u. absurd (n v)), λ v. absurd (w v)), g))

byte_apart : (p b : ℕ) (l : Lexed) → LexedApart (p + 1) l → LexedApart p (lex_byte p b l)
unfolding lex_byte push
byte_apart p b l h =
    let f = flush_gaps (p + 1) l h in
    either (is_blank b) (LexedApart p) _ _ (λ e. (omega (arith, f.0), (λ v. omega (arith, f.0)), f.1)) λ e.
    either (is_stop b) (LexedApart p) _ _ (λ z. mark_apart p b (flush (p + 1) l) f.0 f.1) λ z. pushed l h
  where
    pushed : (l : Lexed) → LexedApart (p + 1) l → LexedApart p (push b l)
    pushed (lexed r s) h = (omega (arith, h.0), (λ v. omega (arith, h.1 v)), h.2)

run_apart : (bs : List ℕ) (p : ℕ) → LexedApart p (lex_run p bs)
unfolding lex_run
run_apart [] p = (omega arith, (λ v. absurd (omega (arith, v))), tt)
run_apart (b ∷ bs) p = byte_apart p b (lex_run (p + 1) bs) (run_apart bs (p + 1))

lex_gaps : (text : List ℕ) → Gaps (lex 0 text)
unfolding lex
lex_gaps text = (flush_gaps 0 (lex_run 0 text) (run_apart text 0)).1

-- ---- a name has five letters or more
spellings_long : every (λ row. leb 5 (length row.1)) spellings ≡ true
unfolding spellings flat_map every
spellings_long = refl

name_long : (w : List ℕ) → is_known (meaning w) ≡ true → 5 ≤ length w
name_long w k =
    let m = known_means w k in
    let s = means_spelled w m.0 m.1 in
    let l : 5 ≤ length s.string = leb-true 5 (length s.string) (every_mem (λ row. leb 5 (length row.1)) spellings (m.0, s.string) spellings_long s.row) in
    omega (arith, same_length w s.string s.same)

-- ---- what rows cost: of the bytes passed, two for each row, and some that are left for the `(` of a child that has no name
unfoldable rank : ℕ → ℕ
rank k = cond (eqb k kind_multi_polygon) 2 (cond (eqb k kind_polygon || eqb k kind_multi_point || eqb k kind_multi_line_string) 1 0)

rank_two : (k : ℕ) → rank k ≤ 2
unfolding rank
rank_two k = go (eqb k kind_multi_polygon) (eqb k kind_polygon || eqb k kind_multi_point || eqb k kind_multi_line_string)
  where
    go : (b c : Bool) → cond b 2 (cond c 1 0) ≤ 2
    go true c = omega arith
    go false true = omega arith
    go false false = omega arith

rank_low : (k : ℕ) → k ≤ kind_line_string → rank k ≤ 1
unfolding rank
rank_low k l = either (eqb k kind_multi_polygon) (λ n. n ≤ 1) _ _ (λ e. absurd (omega (arith, eqb-true k kind_multi_polygon e))) λ e. go (eqb k kind_polygon || eqb k kind_multi_point || eqb k kind_multi_line_string)
  where
    go : (c : Bool) → cond c 1 0 ≤ 1
    go true = omega arith
    go false = omega arith

unfoldable top : List Open → ℕ
top [] = 0
top (node k d ∷ os) = rank k

Nests : List Open → Type 0
Nests [] = Unit {0}
Nests (node k d ∷ os) = (top os ≤ rank k + 1) × Nests os

-- the bytes that are left beside two for each node row, and beside two for each number row
abbrev spare_node : List Open → Due → ℕ
spare_node os root_due = 0
spare_node os part_due = top os + 1
spare_node os (header_due k) = 4
spare_node os (paren_due k d) = rank k + 2
spare_node os (number_due n) = cond (eqb n 0) 0 1
spare_node os read_whole = top os

abbrev spare_number : Due → ℕ
spare_number root_due = 0
spare_number part_due = 1
spare_number (header_due k) = 1
spare_number (paren_due k d) = 1
spare_number (number_due n) = 0
spare_number read_whole = 0

abbrev nodes_of : Out → ℕ
nodes_of (out rs ss) = length rs

abbrev numbers_of : Out → ℕ
numbers_of (out rs ss) = length ss

-- what else is known: of the node around, and of a number that stands next
abbrev Side : List Open → Due → Out → Str → Type 0
Side os root_due o s = Unit {0}
Side os part_due o s = Unit {0}
Side os (header_due k) o s = top os ≤ 1
Side os (paren_due k d) o s = top os ≤ rank k + 1
Side os (number_due n) o s = (top os ≤ 1) × (sort_of (hd s) ≡ sort_number → 2 * numbers_of o + 1 ≤ place_of (hd s))
Side os read_whole o s = Unit {0}

record Paid (os : List Open) (u : Due) (o : Out) (s : Str) : Type 0 where
  nests : Nests os
  side : Side os u o s
  nodes : 2 * nodes_of o + spare_node os u ≤ place_of (hd s)
  numbers : 2 * numbers_of o + spare_number u ≤ place_of (hd s)

fill_paid : (os : List Open) (u : Due) (o : Out) (s : Str) (i n : ℕ) → Paid os u o s → Paid os u (fill i n o) s
fill_paid os u (out rs ss) s i n h = record { nests = h.nests; side = same u h.side; nodes = rw close_in_length h.nodes; numbers = h.numbers }
  where
    same : (u : Due) → Side os u (out rs ss) s → Side os u (fill i n (out rs ss)) s
    same root_due h = tt
    same part_due h = tt
    same (header_due k) h = h
    same (paren_due k d) h = h
    same (number_due k) h = h
    same read_whole h = tt

name_due_top : (os : List Open) (u : Due) → NameDue os u → top os ≡ 0
unfolding top rank
name_due_top _ _ of_root = refl
name_due_top _ _ of_child = refl

child_rank : (t : Tok) (k c : ℕ) → Child t k c → rank k ≡ rank c + 1
unfolding rank
child_rank t _ _ child_ring = refl
child_rank t _ _ child_line = refl
child_rank t _ _ child_polygon = refl
child_rank t _ _ (child_point w) = refl

-- what an empty token is, and a known name
empty_some : (t : Tok) → is_empty_tok t ≡ true → sort_of t ≡ sort_none → ⊥
empty_some t e z = either (eqb (sort_of t) sort_word) (λ b. b ≡ true → ⊥) _ _ (λ f g. omega (arith, eqb-true (sort_of t) sort_word f, z)) (λ f g. false≢true g) e

at_most_one : (n : ℕ) → cond (eqb n 0) 0 1 ≤ 1
at_most_one n = go (eqb n 0)
  where
    go : (b : Bool) → cond b 0 1 ≤ 1
    go true = omega arith
    go false = omega arith

width_one : (n d : ℕ) → n ≡ width d → ◌≡◌ {A = ℕ} (cond (eqb n 0) 0 1) 1
unfolding width
width_one n d e = either (eqb n 0) (λ (i : ℕ). i ≡ 1) _ _ (λ z. absurd (omega (arith, eqb-true n 0 z, e))) λ z. refl

bare_rank : rank kind_multi_point ≤ 1
unfolding rank
bare_rank = omega arith

bare_one : rank kind_multi_point ≡ 1
unfolding rank
bare_one = refl

-- numbers of a list that are 7 or more
one_of_law : (e : ℕ) (is : List ℕ) → every (leb 7) is ≡ true → one_of e is ≡ true → 7 ≤ e
unfolding every
one_of_law e [] h w = absurd (false≢true w)
one_of_law e (i ∷ is) h w = go (eqb e i) refl (λ v. one_of_law e is (every_tail (leb 7) i is h) v) w
  where
    go : (b : Bool) → eqb e i ≡ b → (one_of e is ≡ true → 7 ≤ e) → (b || one_of e is) ≡ true → 7 ≤ e
    go true f k v = omega (arith, eqb-true e i f, leb-true 7 i (every_head (leb 7) i is h))
    go false f k v = k v

module _ (N M : ℕ) (s₀ : Str) (gaps : (i : ℕ) → Gaps (later i s₀)) where
  gap : {os : List Open} {u : Due} {o : Out} {s : Str} → Came N M s₀ os u o s → (sort_of (hd s) ≡ sort_none → ⊥) → Gap (hd s) (hd (tl s))
  gap {s = s} c h = let r = came_reached N M s₀ c in gap_at s (subst Gaps r.1 (gaps r.0)) h

  name_gap : {os : List Open} {u : Due} {o : Out} {s : Str} → Came N M s₀ os u o s → sort_of (hd s) ≡ sort_word → is_known (meaning (text_of (hd s))) ≡ true → place_of (hd s) + 5 ≤ place_of (hd (tl s))
  name_gap {s = s} c w k = let g = gap c (λ z. omega (arith, w, z)) in omega (arith, g.2 w, name_long (text_of (hd s)) k)

  paid : {os : List Open} {u : Due} {o : Out} {s : Str} → Came N M s₀ os u o s → Paid os u o s
  unfolding Nests top
  paid begins = record { nests = tt; side = tt; nodes = omega arith; numbers = omega arith }
  paid (named_bare {os = os} {u = u} c n w i) =
      let h = paid c in
      let g = name_gap c w (ap is_known i) in
      record { nests = h.nests; side = omega (arith, name_due_top os u n); nodes = omega (arith, h.nodes, g); numbers = omega (arith, h.numbers, g) }
  paid (named_joined {os = os} {u = u} {k = k} c n w i) =
      let h = paid c in
      let g = name_gap c w (ap is_known i) in
      record { nests = h.nests; side = omega (arith, name_due_top os u n); nodes = omega (arith, h.nodes, g, rank_two k); numbers = omega (arith, h.numbers, g) }
  paid (ending_taken {k = k} c w i) =
      let h = paid c in
      let g = gap c (λ z. omega (arith, w, z)) in
      record { nests = h.nests; side = omega (arith, h.side); nodes = omega (arith, h.nodes, g.0, rank_two k); numbers = omega (arith, h.numbers, g.0) }
  paid (flat {k = k} c l w) =
      let h = paid c in
      record { nests = h.nests; side = omega (arith, h.side); nodes = omega (arith, h.nodes, rank_two k); numbers = h.numbers }
  paid (nameless {s = s} {k = k} {c = c} a h) =
      let p = paid a in
      let r = child_rank (hd s) k c h in
      record { nests = p.nests; side = omega (arith, r); nodes = omega (arith, p.nodes, r); numbers = p.numbers }
  paid (paren_taken {os = os} {rs = rs} {ss = ss} {s = s} {k = k} {d = d} c w l) =
      let h = paid c in
      let g = gap c (λ z. omega (arith, w, z)) in
      record { nests = (h.side, h.nests); side = tt; nodes = rw length-append (omega (arith, h.nodes, g.0)); numbers = omega (arith, h.numbers, g.0) }
  paid (empty_taken {s = s} c w l) =
      let h = paid c in
      let g = gap c (empty_some (hd s) w) in
      record { nests = h.nests; side = tt; nodes = rw length-append (omega (arith, h.nodes, h.side, g.0)); numbers = omega (arith, h.numbers, g.0) }
  paid (point_begun c w l) =
      let h = paid c in
      record { nests = h.nests; side = (bare_rank, λ v. h.numbers); nodes = rw length-append (omega (arith, h.nodes, bare_one)); numbers = omega (arith, h.numbers) }
  paid (coord_begun {k = k} c l) =
      let h = paid c in
      record { nests = h.nests; side = (rank_low k l, λ v. h.numbers); nodes = omega (arith, h.nodes); numbers = omega (arith, h.numbers) }
  paid (number_taken {n = n} c a w l) =
      let h = paid c in
      let g = gap c (λ z. omega (arith, w, z)) in
      let q = h.side.1 w in
      record {
        nests = h.nests;
        side = (h.side.0, λ v. rw length-append (omega (arith, q, g.1 w v)));
        nodes = omega (arith, h.nodes, g.0, at_most_one (n + 1), at_most_one n);
        numbers = rw length-append (omega (arith, q, g.0));
      }
  paid (coord_read {k = k} {d = d} {n = n} c e) =
      let h = paid c in
      record { nests = h.nests; side = tt; nodes = omega (arith, h.nodes, h.side.0, width_one n d e); numbers = h.numbers }
  paid (comma_taken c h w) =
      let p = paid c in
      let g = gap c (λ z. omega (arith, w, z)) in
      record { nests = p.nests; side = tt; nodes = omega (arith, p.nodes, g.0); numbers = omega (arith, p.numbers, g.0) }
  paid (close_taken c w) =
      let p = paid c in
      let g = gap c (λ z. omega (arith, w, z)) in
      record { nests = p.nests.1; side = tt; nodes = omega (arith, p.nodes, p.nests.0, g.0); numbers = omega (arith, p.numbers, g.0) }
  paid (parts_filled {os = os} {u = u} {o = o} {s = s} i n c) = fill_paid os u o s i n (paid c)

  -- ---- where a row is wanted and none is free
  module _ (L : ℕ) (within : (i : ℕ) → place_of (hd (later i s₀)) ≤ L) (before : (i : ℕ) → sort_of (hd (later i s₀)) ≡ sort_number → place_of (hd (later i s₀)) < L) where
    in_text : {os : List Open} {u : Due} {o : Out} {s : Str} → Came N M s₀ os u o s → place_of (hd s) ≤ L
    in_text c = let r = came_reached N M s₀ c in subst (λ (s : Str). place_of (hd s) ≤ L) r.1 (within r.0)

    number_in_text : {os : List Open} {u : Due} {o : Out} {s : Str} → Came N M s₀ os u o s → sort_of (hd s) ≡ sort_number → place_of (hd s) < L
    number_in_text c = let r = came_reached N M s₀ c in subst (λ (s : Str). sort_of (hd s) ≡ sort_number → place_of (hd s) < L) r.1 (before r.0)

    wants : {t : Tok} {e : ℕ} → Stopping N M s₀ t e → (e ≡ 3 → 2 * N + 2 ≤ L) × (e ≡ 4 → 2 * M + 2 ≤ L)
    unfolding top
    wants (no_node_row_law c w l) = ((λ z. omega (arith, (paid c).nodes, in_text c)), λ z. absurd (omega (arith, z)))
    wants (no_bare_row c w l) = ((λ z. omega (arith, (paid c).nodes, in_text c, bare_one)), λ z. absurd (omega (arith, z)))
    wants (no_number_row_law c a w l) = ((λ z. absurd (omega (arith, z))), λ z. omega (arith, (paid c).side.1 w, number_in_text c w))
    wants (too_many c w l) = ((λ z. absurd (omega (arith, z))), λ z. absurd (omega (arith, z)))

  -- a step that refuses gives 7 or more
  axis_number : (d n i e : ℕ) → Axis d n i → one_of e (28 ∷ 29 ∷ i ∷ []) ≡ true → 7 ≤ e
  unfolding every
  axis_number d _ _ e axis_x w = one_of_law e (28 ∷ 29 ∷ 14 ∷ []) refl w
  axis_number d _ _ e axis_y w = one_of_law e (28 ∷ 29 ∷ 15 ∷ []) refl w
  axis_number d _ _ e (axis_z h) w = one_of_law e (28 ∷ 29 ∷ 16 ∷ []) refl w
  axis_number d _ _ e (axis_m h) w = one_of_law e (28 ∷ 29 ∷ 17 ∷ []) refl w

  high : {os : List Open} {t : Tok} {e : ℕ} {s : Str} → Refusing N M s₀ os t e s → 7 ≤ e
  unfolding every
  high (at_root {e = e} c w) = one_of_law e (28 ∷ 29 ∷ 7 ∷ 8 ∷ 9 ∷ []) refl w
  high (at_child {e = e} c w) = one_of_law e (28 ∷ 29 ∷ 9 ∷ 18 ∷ []) refl w
  high (at_header {e = e} c w) = one_of_law e (10 ∷ 11 ∷ []) refl w
  high (at_paren {e = e} c w) = one_of_law e (28 ∷ 29 ∷ 12 ∷ []) refl w
  high (at_number {d = d} {n = n} {i = i} {e = e} c a w) = axis_number d n i e a w
  high (at_closing {e = e} c w) = one_of_law e (28 ∷ 29 ∷ 13 ∷ []) refl w
  high (behind_refused {e = e} c w) = one_of_law e (28 ∷ 29 ∷ 13 ∷ []) refl w
  high (stands c w) = high c

-- ---- of texts
module _ (text : List ℕ) where
  gaps_later : (i : ℕ) → Gaps (later i (toks text 0))
  gaps_later zero = rw (toks_lex text) (lex_gaps text)
  gaps_later (suc i) = gaps_tl (later i (toks text 0)) (gaps_later i)

  ins_later : (i : ℕ) → ToksIn text (later i (toks text 0))
  ins_later zero = rw (toks_lex text) (lex_in text)
  ins_later (suc i) = tl_in text (later i (toks text 0)) (ins_later i)

  within : (i : ℕ) → place_of (hd (later i (toks text 0))) ≤ length text
  within i = place_in text (hd (later i (toks text 0))) (hd_in text (later i (toks text 0)) (ins_later i))

  before : (i : ℕ) → sort_of (hd (later i (toks text 0))) ≡ sort_number → place_of (hd (later i (toks text 0))) < length text
  before i w = place_before text (hd (later i (toks text 0))) (hd_in text (later i (toks text 0)) (ins_later i)) λ z. omega (arith, w, z)

  wanted : {N M e p : ℕ} → PlaceOf N M text e p → (e ≡ 3 → 2 * N + 2 ≤ length text) × (e ≡ 4 → 2 * M + 2 ≤ length text)
  wanted (over_limit_law l) = ((λ z. absurd (omega (arith, z))), λ z. absurd (omega (arith, z)))
  wanted (ill_formed l u) = ((λ z. absurd (omega (arith, z))), λ z. absurd (omega (arith, z)))
  wanted {N} {M} (stopped p a f r) = wants N M (toks text 0) gaps_later (length text) within before r
  wanted {N} {M} (at_fault p a f r) = let h = high N M (toks text 0) gaps_later r in ((λ z. absurd (omega (arith, h, z))), λ z. absurd (omega (arith, h, z)))

pub enough_nodes : EnoughNodes
enough_nodes text ns ms a ns' ms' r l z = omega (arith, (wanted text (read_places_law text ns ms a ns' ms' r (λ y. omega (arith, y, z)))).0 z)

pub enough_numbers : EnoughNumbers
enough_numbers text ns ms a ns' ms' r l z = omega (arith, (wanted text (read_places_law text ns ms a ns' ms' r (λ y. omega (arith, y, z)))).1 z)
