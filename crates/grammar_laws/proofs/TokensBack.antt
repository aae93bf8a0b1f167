-- The canonical text of a good tree, read with room, gives the tree's rows and number texts back.
-- Each law is over any sort of part: what the reader g makes of what the writer f puts.
-- Assumes nothing.
use Rattle.std.specs.Prelude.{Option, Some}
use mathlib.Core.Path.{◌≡◌, refl, ap, sym, ◌∙◌}
use mathlib.Core.Bool.{Bool, true, false, cond}
use mathlib.Core.List.{List, [], ◌∷◌, ◌++◌, flat_map, append_assoc, append-nil, map-append}
use Prim.Native.Nat.{ℕ, zero, suc, ◌+◌, ◌≤◌, ◌<◌}
use native.Mathlib.Omega.{arith}
use lib.Dec.{eqb}
use lib.ListN.{length, length-append, length-map}
use borrow.Author.Tests.{lt-ltb}
use Rattle.scan.specs.Bytes.{space, paren_open, paren_close, comma, is_ascii}
use Rattle.words.specs.Words.{same_word}
use Rattle.names.specs.declared.Name.{Name}
use Rattle.kinds.specs.Kinds.{kind_point, kind_line_string, kind_polygon, kind_multi_point, kind_multi_line_string, kind_multi_polygon, kind_geometry_collection, dim_xy, dim_xyz, dim_xym, dim_xyzm, has_z, has_m, width}
use Rattle.lists.specs.Lists.{every}
use Rattle.names.specs.Names.{names, endings, spellings, lookup, meaning, ending, is_empty_word, string_of}
use Rattle.names.specs.Strings.{empty as empty_word}
use Rattle.names.specs.Table.{is_known}
use Rattle.names.proofs.Letters.{name_lettered, name_nonempty, ending_lettered, empty_lettered}
use Rattle.store.specs.Rows.{Row, fresh_row, Span, span, close_in}
use Rattle.tree.proofs.Closed.{closed_rows}
use Rattle.token_stream.specs.Stream.{word_tk, tok, Str, then, hd, tl, size}
use Rattle.token_stream.specs.Lex.{lex}
use Rattle.grammar.specs.Asks.{P, ret, ask, look, bind, ran, run, answer_in}
use Rattle.grammar.specs.Tokens.{sort_close, sort_comma, sort_of}
use Rattle.grammar.specs.Grammar.{Out, out, Got, ok, opens, empty, wrong, refusal, and_then, items, closing, add_node, number, then_number, if_asked, coord, point_body, opened, opening, opener, header_ending, header, by_name, child_head, root_head, line_body, parens, line_in, line_of, lines_body, polygon_in, polygon_of, polygons_body, point_in, point_of, points_body, multi, simple, geometry_by, child_of, collection, geometry, root}
use Rattle.lists.specs.Lists.{All}
use Rattle.tree.specs.Tree.{Coord, Node, point_n, line_n, polygon_n, multipoint_n, multiline_n, multipolygon_n, collection_n, Tree, rows_with, no_rows, point_rows, line_rows, polygon_rows, node_rows, rows, coord_texts, line_texts, polygon_texts, node_texts, no_texts, texts, IsDimension, CoordShape, LineShape, PolygonShape, NodeShape, NoShape, Shape, Lexeme, GoodTree}
use Rattle.canonical_text.specs.Canonical.{spell, put_spelled, each, separated, put_coord, put_parts, put_named, put_dimension, put_with, put_point, put_line, put_polygon, put_geometry, put_nothing, put_tree}
use Rattle.tree.specs.TreeIn.{span_text, span_texts}
use Rattle.grammar_laws.proofs.Asks.{after, run_bind, run_step, run_size}
use Rattle.grammar_laws.proofs.Loops.{Loop, first, more, last}
use Rattle.grammar_laws.proofs.Lexing.{adv, Stop, IsWord, lex_word, lex_number, lex_blank, lex_open, lex_close, lex_comma, stop_blank, stop_open, stop_close, stop_comma, stop_end}

-- ---- lists
all_left : {A : Type 0} (Q : A → Type 0) (a b : List A) → All Q (a ++ b) → All Q a
unfolding All
all_left Q [] b h = tt
all_left Q (x ∷ a) b h = (h.0, all_left Q a b h.1)

all_right : {A : Type 0} (Q : A → Type 0) (a b : List A) → All Q (a ++ b) → All Q b
unfolding All
all_right Q [] b h = h
all_right Q (x ∷ a) b h = all_right Q a b h.1

pub all_flat : {X : Type 0} (nu : X → List (List ℕ)) (xs : List X) → All Lexeme (flat_map nu xs) → All (λ x. All Lexeme (nu x)) xs
unfolding All flat_map
all_flat nu [] h = tt
all_flat nu (x ∷ xs) h = (all_left Lexeme (nu x) (flat_map nu xs) h, all_flat nu xs (all_right Lexeme (nu x) (flat_map nu xs) h))

all_both : {X : Type 0} {Q R S : X → Type 0} → ((x : X) → Q x → R x → S x) → (xs : List X) → All Q xs → All R xs → All S xs
unfolding All
all_both h [] a b = tt
all_both h (x ∷ xs) a b = (h x a.0 b.0, all_both h xs a.1 b.1)

-- what a reading of part of a canonical text comes to: the rows rs, the number rows ss and then those of the texts xs, and r is left
record Reads (p : P Got) (s : Str) (rs : List Row) (ss : List Span) (xs : List (List ℕ)) (r : List ℕ) : Type 0 where
  place : ℕ
  spans : List Span
  its_texts : span_texts spans ≡ xs
  is_so : run p s ≡ ran (ok (out rs (ss ++ spans))) (lex place r)

spans_length : (sp : List Span) (xs : List (List ℕ)) → span_texts sp ≡ xs → length sp ≡ length xs
spans_length sp xs e = sym (length-map sp span_text) ∙ ap length e

-- another reader that runs alike
reads_same : {p q : P Got} {s s1 : Str} {rs : List Row} {ss : List Span} {xs : List (List ℕ)} {r : List ℕ} → run p s ≡ run q s1 → Reads q s1 rs ss xs r → Reads p s rs ss xs r
reads_same e u = record { place = u.place; spans = u.spans; its_texts = u.its_texts; is_so = e ∙ u.is_so }

-- a reader that goes on after another, which left s1
reads_step : {A : Type 0} (p : P A) (f : A → P Got) {a : A} {s s1 : Str} {rs : List Row} {ss : List Span} {xs : List (List ℕ)} {r : List ℕ} → run p s ≡ ran a s1 → Reads (f a) s1 rs ss xs r → Reads (bind p f) s rs ss xs r
reads_step p f {s = s} e u = record { place = u.place; spans = u.spans; its_texts = u.its_texts; is_so = run_step p f s e ∙ u.is_so }

-- ---- a coordinate's numbers, one by one
bind_same : {A B : Type 0} (p : P A) (f g : A → P B) → ((a : A) (s : Str) → run (f a) s ≡ run (g a) s) → (s : Str) → run (bind p f) s ≡ run (bind p g) s
unfolding run bind
bind_same (ret a) f g h s = h a s
bind_same (ask k) f g h s = bind_same (k (hd s)) f g h (tl s)
bind_same (look k) f g h s = bind_same (k (hd s)) f g h s

bind_ret : {A : Type 0} (p : P A) (s : Str) → run (bind p (λ a. ret a)) s ≡ run p s
unfolding run bind
bind_ret (ret a) s = refl
bind_ret (ask k) s = bind_ret (k (hd s)) (tl s)
bind_ret (look k) s = bind_ret (k (hd s)) s

several : ℕ → List ℕ → Got → P Got
several M [] r = ret r
several M (e ∷ es) r = bind (then_number M e r) λ x. several M es x

-- the refusals of a coordinate's numbers after X
abbrev more_codes : ℕ → List ℕ
more_codes d = 15 ∷ (cond (has_z d) (16 ∷ []) [] ++ cond (has_m d) (17 ∷ []) [])

codes : ℕ → List ℕ
codes d = 14 ∷ more_codes d

codes_count : (d : ℕ) → length (codes d) ≡ width d
unfolding codes width
codes_count d = go (has_z d) (has_m d)
  where
    go : (a b : Bool) → length {A = ℕ} (14 ∷ 15 ∷ (cond a (16 ∷ []) [] ++ cond b (17 ∷ []) [])) ≡ 2 + (cond a 1 0 + cond b 1 0)
    go true true = omega arith
    go true false = omega arith
    go false true = omega arith
    go false false = omega arith

further : (M : ℕ) (a b : Bool) (y : Got) (s : Str) → run (bind (if_asked M a 16 y) λ z. if_asked M b 17 z) s ≡ run (several M (cond a (16 ∷ []) [] ++ cond b (17 ∷ []) []) y) s
unfolding if_asked several bind
further M true true y s = bind_same (then_number M 16 y) _ _ (λ z s1. sym (bind_ret (then_number M 17 z) s1)) s
further M true false y s = refl
further M false true y s = sym (bind_ret (then_number M 17 y) s)
further M false false y s = refl

coord_several : (M d : ℕ) (o : Out) (s : Str) → run (coord M d o) s ≡ run (several M (codes d) (ok o)) s
unfolding coord several codes then_number and_then
coord_several M d o s = bind_same (number M 14 o) _ _ (λ x s1. bind_same (then_number M 15 x) _ _ (λ y s2. further M (has_z d) (has_m d) y s2) s1) s

number_run_law : (M e : ℕ) (x s : List ℕ) (rs : List Row) (ss : List Span) (p : ℕ) → Lexeme x → Stop s → length ss < M
    → (q : ℕ) × (run (then_number M e (ok (out rs ss))) (lex p (spell x ++ s)) ≡ ran (ok (out rs (ss ++ span q (length x) x ∷ []))) (lex (adv p (spell x)) s))
unfolding then_number and_then number run
number_run_law M e x s rs ss p g st h = let n = lex_number x s p g st in (n.0, rw (n.1, lt-ltb (length ss) M h))

number_back : (M e : ℕ) (x : List ℕ) (f : Got → P Got) (s : List ℕ) (rs : List Row) (ss : List Span) (xs : Coord) (r : List ℕ) (p : ℕ) → Lexeme x → Stop s → length ss < M
    → ((q p1 : ℕ) → Reads (f (ok (out rs (ss ++ span q (length x) x ∷ [])))) (lex p1 s) rs (ss ++ span q (length x) x ∷ []) xs r)
    → Reads (bind (then_number M e (ok (out rs ss))) f) (lex p (spell x ++ s)) rs ss (x ∷ xs) r
number_back M e x f s rs ss xs r p g st h k =
    let n = number_run_law M e x s rs ss p g st h in
    let u = k n.0 (adv p (spell x)) in
    record {
      place = u.place;
      spans = span n.0 (length x) x ∷ u.spans;
      its_texts = ap (λ (l : List (List ℕ)). x ∷ l) u.its_texts;
      is_so = run_step (then_number M e (ok (out rs ss))) f (lex p (spell x ++ s)) n.1 ∙ u.is_so ∙ rw append_assoc;
    }

stop_each : (c : Coord) (r : List ℕ) → Stop r → Stop (each space put_spelled c r)
unfolding each
stop_each [] r st = st
stop_each (x ∷ c) r st = stop_blank _

several_back : (M : ℕ) (es : List ℕ) (c : Coord) → length c ≡ length es → All Lexeme c → (rs : List Row) (ss : List Span) (r : List ℕ) (p : ℕ) → Stop r → length ss + length c ≤ M
    → Reads (several M es (ok (out rs ss))) (lex p (each space put_spelled c r)) rs ss c r
unfolding several each All run
several_back M [] [] e g rs ss r p st h = record { place = p; spans = []; its_texts = refl; is_so = rw append-nil }
several_back M [] (x ∷ c) e g rs ss r p st h = absurd (omega (arith, e))
several_back M (k ∷ es) [] e g rs ss r p st h = absurd (omega (arith, e))
several_back M (k ∷ es) (x ∷ c) e g rs ss r p st h =
    rw lex_blank
    (number_back M k x (λ z. several M es z) (each space put_spelled c r) rs ss c r (p + 1) g.0 (stop_each c r st) (omega arith)
    λ q p1. several_back M es c (omega (arith, e)) g.1 rs (ss ++ span q (length x) x ∷ []) r p1 st (rw length-append (omega arith)))

-- ---- marks
comma_sort : (q : ℕ) (r : List ℕ) → sort_of (hd (lex q (comma ∷ r))) ≡ sort_comma
comma_sort q r = rw lex_comma

comma_tail : (q : ℕ) (r : List ℕ) → tl (lex q (comma ∷ r)) ≡ lex (q + 1) r
comma_tail q r = rw lex_comma

close_sort : (q : ℕ) (r : List ℕ) → sort_of (hd (lex q (paren_close ∷ r))) ≡ sort_close
close_sort q r = rw lex_close

close_run : (o : Out) (q : ℕ) (r : List ℕ) → run (closing (ok o)) (lex q (paren_close ∷ r)) ≡ ran (ok o) (lex (q + 1) r)
unfolding closing run
close_run o q r = rw lex_close

open_size : (q : ℕ) (r : List ℕ) → size (lex q (paren_open ∷ r)) ≡ size (lex (q + 1) r) + 1
unfolding size
open_size q r = rw lex_open

add_node_law : (N : ℕ) (rs : List Row) (ss : List Span) (p k d : ℕ) → length rs < N → add_node N (out rs ss) p k d ≡ ok (out (rs ++ fresh_row k d ∷ []) ss)
add_node_law N rs ss p k d h = rw (lt-ltb (length rs) N h)

-- ---- heads
is_empty : is_empty_word empty_word ≡ true
unfolding same_word
is_empty = refl

empty_word_law : IsWord empty_word
empty_word_law = let l = empty_lettered empty_word is_empty in record { some_byte = omega arith; no_number = l.no_number; inner = l.inner }

-- the name of a kind means that kind, alone
abbrev IsName : ℕ → Type 0
IsName k = meaning (string_of names k) ≡ Some (Name.Bare k)

seven : IsName kind_point × IsName kind_line_string × IsName kind_polygon × IsName kind_multi_point × IsName kind_multi_line_string × IsName kind_multi_polygon × IsName kind_geometry_collection
unfolding meaning lookup spellings flat_map same_word string_of
seven = (refl, refl, refl, refl, refl, refl, refl)

known : (k : ℕ) → IsName k → is_known (meaning (string_of names k)) ≡ true
known k n = ap is_known n

name_word : (k : ℕ) → IsName k → IsWord (string_of names k)
name_word k n = let l = name_lettered (string_of names k) (known k n) in record { some_byte = name_nonempty (string_of names k) (known k n); no_number = l.no_number; inner = l.inner }

-- the ending of a dimension but XY means that dimension, and is written behind a space
record IsEnding (d : ℕ) : Type 0 where
  means : ending (string_of endings d) ≡ Some d
  some_byte : 0 < length (string_of endings d)
  written : (r : List ℕ) → put_dimension d r ≡ space ∷ (string_of endings d ++ r)

z_ending : IsEnding dim_xyz
unfolding ending lookup same_word string_of put_dimension
z_ending = record { means = refl; some_byte = omega arith; written = λ r. refl }

m_ending : IsEnding dim_xym
unfolding ending lookup same_word string_of put_dimension
m_ending = record { means = refl; some_byte = omega arith; written = λ r. refl }

zm_ending : IsEnding dim_xyzm
unfolding ending lookup same_word string_of put_dimension
zm_ending = record { means = refl; some_byte = omega arith; written = λ r. refl }

ending_word : (d : ℕ) → IsEnding d → IsWord (string_of endings d)
ending_word d e =
    let l = ending_lettered (string_of endings d) d e.means in
    record { some_byte = e.some_byte; no_number = l.no_number; inner = l.inner }

opener_open : (k d p : ℕ) (s : List ℕ) → run (opener k d) (lex p (paren_open ∷ s)) ≡ ran (opens k d p) (lex (p + 1) s)
unfolding opener opening run
opener_open k d p s = rw lex_open

opener_empty : (k d p : ℕ) (r : List ℕ) → Stop r → run (opener k d) (lex p (empty_word ++ r)) ≡ ran (empty k d p) (lex (adv p empty_word) r)
unfolding opener opening run
opener_empty k d p r st = rw (lex_word empty_word r p empty_word_law st, is_empty)

header_open : (k p : ℕ) (s : List ℕ) → run (header k) (lex p (paren_open ∷ s)) ≡ ran (opens k dim_xy p) (lex (p + 1) s)
unfolding header opener opening run
header_open k p s = rw lex_open

header_empty : (k p : ℕ) (r : List ℕ) → Stop r → run (header k) (lex p (empty_word ++ r)) ≡ ran (empty k dim_xy p) (lex (adv p empty_word) r)
unfolding header opener opening run ending lookup same_word
header_empty k p r st = rw (lex_word empty_word r p empty_word_law st)

header_on : (k p : ℕ) (w : List ℕ) (s : Str) → run (header k) (then (tok p (word_tk w)) s) ≡ run (header_ending k (tok p (word_tk w)) (ending w)) (then (tok p (word_tk w)) s)
unfolding header run
header_on k p w s = refl

ending_on : (k d p : ℕ) (w : List ℕ) (s : Str) → ending w ≡ Some d → run (header k) (then (tok p (word_tk w)) s) ≡ run (opener k d) s
unfolding run
ending_on k d p w s e = header_on k p w s ∙ ap (λ (x : Option ℕ). run (header_ending k (tok p (word_tk w)) x) (then (tok p (word_tk w)) s)) e

header_word : (k d p : ℕ) (s : List ℕ) → IsEnding d → Stop s → run (header k) (lex p (string_of endings d ++ s)) ≡ run (opener k d) (lex (adv p (string_of endings d)) s)
header_word k d p s e st = rw (lex_word (string_of endings d) s p (ending_word d e) st) (ending_on k d p (string_of endings d) _ e.means)

-- after a name
module _ (k d : ℕ) (e : IsEnding d) (p : ℕ) where
  abbrev past : ℕ
  past = adv (p + 1) (string_of endings d)

  ending_open : (s : List ℕ) → run (header k) (lex p (put_dimension d (paren_open ∷ s))) ≡ ran (opens k d past) (lex (past + 1) s)
  ending_open s = rw (e.written (paren_open ∷ s), lex_blank) (header_word k d (p + 1) (paren_open ∷ s) e (stop_open s) ∙ opener_open k d past s)

  ending_empty : (r : List ℕ) → Stop r → run (header k) (lex p (put_dimension d (space ∷ empty_word ++ r))) ≡ ran (empty k d (past + 1)) (lex (adv (past + 1) empty_word) r)
  ending_empty r st = rw (e.written (space ∷ empty_word ++ r), lex_blank) (header_word k d (p + 1) (space ∷ empty_word ++ r) e (stop_blank _) ∙ rw lex_blank (opener_empty k d (past + 1) r st))

dimension_open : (k d p : ℕ) (s : List ℕ) → IsDimension d → (q : ℕ) × (run (header k) (lex p (put_dimension d (paren_open ∷ s))) ≡ ran (opens k d q) (lex (q + 1) s))
unfolding put_dimension
dimension_open k zero p s h = (p, header_open k p s)
dimension_open k (suc zero) p s h = (past k dim_xyz z_ending p, ending_open k dim_xyz z_ending p s)
dimension_open k (suc (suc zero)) p s h = (past k dim_xym m_ending p, ending_open k dim_xym m_ending p s)
dimension_open k (suc (suc (suc zero))) p s h = (past k dim_xyzm zm_ending p, ending_open k dim_xyzm zm_ending p s)
dimension_open k (suc (suc (suc (suc d)))) p s h = absurd (omega arith)

dimension_empty : (k d p : ℕ) (r : List ℕ) → IsDimension d → Stop r → (q q1 : ℕ) × (run (header k) (lex p (put_dimension d (space ∷ empty_word ++ r))) ≡ ran (empty k d q) (lex q1 r))
unfolding put_dimension
dimension_empty k zero p r h st = (p + 1, adv (p + 1) empty_word, rw lex_blank (header_empty k (p + 1) r st))
dimension_empty k (suc zero) p r h st = (_, _, ending_empty k dim_xyz z_ending p r st)
dimension_empty k (suc (suc zero)) p r h st = (_, _, ending_empty k dim_xym m_ending p r st)
dimension_empty k (suc (suc (suc zero))) p r h st = (_, _, ending_empty k dim_xyzm zm_ending p r st)
dimension_empty k (suc (suc (suc (suc d)))) p r h st = absurd (omega arith)

stop_dimension : (d : ℕ) (s : List ℕ) → Stop s → Stop (put_dimension d s)
unfolding put_dimension
stop_dimension d s st = go (eqb d dim_xy)
  where
    go : (b : Bool) → Stop (cond b s (space ∷ string_of endings d ++ s))
    go true = st
    go false = stop_blank _

name_on : (p k : ℕ) (w : List ℕ) (s : Str) → meaning w ≡ Some (Name.Bare k) → run child_head (then (tok p (word_tk w)) s) ≡ run (header k) s
unfolding child_head run
name_on p k w s e = ap (λ (n : Option Name). run (by_name p n) s) e

head_run : (k d p : ℕ) (s : List ℕ) → IsName k → Stop s → run child_head (lex p (string_of names k ++ put_dimension d s)) ≡ run (header k) (lex (adv p (string_of names k)) (put_dimension d s))
head_run k d p s n st = rw (lex_word (string_of names k) (put_dimension d s) p (name_word k n) (stop_dimension d s st)) (name_on p k (string_of names k) _ n)

-- a root's head is a child's, as names are ASCII
root_on : (p : ℕ) (w : List ℕ) (s : Str) → every is_ascii w ≡ true → run root_head (then (tok p (word_tk w)) s) ≡ run child_head (then (tok p (word_tk w)) s)
unfolding root_head child_head run
root_on p w s e = ap (λ (b : Bool). run (cond b (by_name p (meaning w)) (ret (wrong (refusal 7 p)))) s) e

root_head_law : (k d p : ℕ) (s : List ℕ) → IsName k → Stop s → run root_head (lex p (string_of names k ++ put_dimension d s)) ≡ run child_head (lex p (string_of names k ++ put_dimension d s))
root_head_law k d p s n st = rw (lex_word (string_of names k) (put_dimension d s) p (name_word k n) (stop_dimension d s st)) (root_on p (string_of names k) _ (name_lettered (string_of names k) (known k n)).ascii)

module _ (N M F : ℕ) where
  -- the reader g reads what f puts of x: its rows and its number texts
  OneBack : {X : Type 0} → (X → List ℕ → List ℕ) → (X → List Row) → (X → List (List ℕ)) → (Out → P Got) → X → Type 0
  OneBack f ro nu g x = (rs : List Row) (ss : List Span) (r : List ℕ) (p : ℕ) → Stop r → size (lex p (f x r)) < F → length rs + length (ro x) ≤ N → length ss + length (nu x) ≤ M
      → Reads (g (out rs ss)) (lex p (f x r)) (rs ++ ro x) ss (nu x) r

  coord_back : (d : ℕ) (c : Coord) → CoordShape d c → All Lexeme c → OneBack put_coord no_rows coord_texts (coord M d) c
  unfolding OneBack separated several codes All width
  coord_back d [] e g rs ss r p st hf hn hm = absurd (omega (arith, e))
  coord_back d (x ∷ c) e g rs ss r p st hf hn hm =
      let l : suc (length c) ≡ length (codes d) = e ∙ sym (codes_count d) in
      rw append-nil
      (reads_same (coord_several M d (out rs ss) _)
      (number_back M 14 x (λ z. several M (more_codes d) z) (each space put_spelled c r) rs ss c r p g.0 (stop_each c r st) (omega arith)
      λ q p1. several_back M (more_codes d) c (omega (arith, l)) g.1 rs (ss ++ span q (length x) x ∷ []) r p1 st (rw length-append (omega arith))))

  -- ---- lists by commas
  module _ {i : ℕ} {g : Out → P Got} {o₀ : Out} {s₀ : Str} {n : ℕ} {rs rs1 : List Row} {ss : List Span} {s : Str} (v : Loop i g F o₀ s₀ n (out rs ss) s) {xs : List (List ℕ)} {r : List ℕ} where
    last_item : Reads (g (out rs ss)) s rs1 ss xs (paren_close ∷ r) → Reads (items g F 0 i o₀) s₀ (close_in rs1 i (n + 1)) ss xs (paren_close ∷ r)
    last_item u = record { place = u.place; spans = u.spans; its_texts = u.its_texts; is_so = last v u.is_so (λ c. omega (arith, c, close_sort u.place r)) }

    next_item : (u : Reads (g (out rs ss)) s rs1 ss xs (comma ∷ r)) → Loop i g F o₀ s₀ (n + 1) (out rs1 (ss ++ u.spans)) (lex (u.place + 1) r)
    next_item u = rw (comma_tail u.place r) at (more v u.is_so (comma_sort u.place r))

  join_items : {p q : P Got} {s s1 : Str} {rs1 rs2 : List Row} {ss : List Span} {xs ys : List (List ℕ)} {r r1 : List ℕ} (u : Reads p s rs1 ss xs r1) → Reads q s1 rs2 (ss ++ u.spans) ys r → Reads q s1 rs2 ss (xs ++ ys) r
  join_items u z = record { place = z.place; spans = u.spans ++ z.spans; its_texts = rw (map-append, u.its_texts, z.its_texts); is_so = z.is_so ∙ rw append_assoc }

  module _ {X : Type 0} (f : X → List ℕ → List ℕ) (ro : X → List Row) (nu : X → List (List ℕ)) where
    many_back : (g : Out → P Got) (i : ℕ) (o₀ : Out) (s₀ : Str) → size s₀ < F → (xs : List X) (x : X) → OneBack f ro nu g x → All (OneBack f ro nu g) xs
        → (n m : ℕ) (rs : List Row) (ss : List Span) (r : List ℕ) (p : ℕ) → Loop i g F o₀ s₀ n (out rs ss) (lex p (f x (each comma f xs (paren_close ∷ r))))
        → length rs + length (flat_map ro (x ∷ xs)) ≤ N → length ss + length (flat_map nu (x ∷ xs)) ≤ M → m ≡ n + suc (length xs)
        → Reads (items g F 0 i o₀) s₀ (close_in (rs ++ flat_map ro (x ∷ xs)) i m) ss (flat_map nu (x ∷ xs)) (paren_close ∷ r)
    unfolding OneBack All flat_map each
    many_back g i o₀ s₀ hf [] x b bs n m rs ss r p v hn hm e =
        let hn' : length rs + (length (ro x) + 0) ≤ N = rw (length-append (ro x) []) at hn in
        let hm' : length ss + (length (nu x) + 0) ≤ M = rw (length-append (nu x) []) at hm in
        let e' : m ≡ n + 1 = e in
        rw (e', append-nil (nu x), append-nil (ro x)) (last_item v (b rs ss (paren_close ∷ r) p (stop_close r) (omega (arith, v.few)) (omega arith) (omega arith)))
    many_back g i o₀ s₀ hf (y ∷ ys) x b bs n m rs ss r p v hn hm e =
        let hn' : length rs + (length (ro x) + length (flat_map ro (y ∷ ys))) ≤ N = rw (length-append (ro x) (flat_map ro (y ∷ ys))) at hn in
        let hm' : length ss + (length (nu x) + length (flat_map nu (y ∷ ys))) ≤ M = rw (length-append (nu x) (flat_map nu (y ∷ ys))) at hm in
        let u = b rs ss (each comma f (y ∷ ys) (paren_close ∷ r)) p (stop_comma _) (omega (arith, v.few)) (omega arith) (omega arith) in
        let ln : length (rs ++ ro x) + length (flat_map ro (y ∷ ys)) ≤ N = rw (length-append rs (ro x)) (omega arith) in
        let lm : length (ss ++ u.spans) + length (flat_map nu (y ∷ ys)) ≤ M = rw (length-append ss u.spans) (omega (arith, spans_length u.spans (nu x) u.its_texts)) in
        join_items u
        (rw append_assoc at
        (many_back g i o₀ s₀ hf ys y bs.0 bs.1 (n + 1) m (rs ++ ro x) (ss ++ u.spans) r (u.place + 1) (next_item v u) ln lm (omega arith)))

    -- the body of a list of x and xs, up to its `)`: it fills the row i
    BodyBack : (ℕ → Out → P Got) → X → List X → Type 0
    BodyBack body x xs = (rs : List Row) (ss : List Span) (r : List ℕ) (p i : ℕ) → size (lex p (f x (each comma f xs (paren_close ∷ r)))) < F
        → length rs + length (flat_map ro (x ∷ xs)) ≤ N → length ss + length (flat_map nu (x ∷ xs)) ≤ M
        → Reads (body i (out rs ss)) (lex p (f x (each comma f xs (paren_close ∷ r)))) (close_in (rs ++ flat_map ro (x ∷ xs)) i (suc (length xs))) ss (flat_map nu (x ∷ xs)) (paren_close ∷ r)

    items_back : (g : Out → P Got) (x : X) (xs : List X) → All (OneBack f ro nu g) (x ∷ xs) → BodyBack (λ i o. items g F 0 i o) x xs
    unfolding BodyBack All
    items_back g x xs bs rs ss r p i hf hn hm =
        many_back g i (out rs ss) (lex p (f x (each comma f xs (paren_close ∷ r)))) hf xs x bs.0 bs.1 0 (suc (length xs)) rs ss r p
        (first i g F (out rs ss) (lex p (f x (each comma f xs (paren_close ∷ r)))) hf) hn hm (omega arith)

    -- what stands in the parentheses of a list that is not empty, read by `ins` after the `(` at q
    InBack : ℕ → ℕ → (ℕ → Out → P Got) → List X → Type 0
    InBack k d ins [] = Unit {0}
    InBack k d ins (x ∷ xs) = (q : ℕ) (rs : List Row) (ss : List Span) (r : List ℕ) (p : ℕ) → size (lex p (f x (each comma f xs (paren_close ∷ r)))) < F
        → length rs + suc (length (flat_map ro (x ∷ xs))) ≤ N → length ss + length (flat_map nu (x ∷ xs)) ≤ M
        → Reads (ins q (out rs ss)) (lex p (f x (each comma f xs (paren_close ∷ r)))) (rs ++ rows_with k d ro (x ∷ xs)) ss (flat_map nu (x ∷ xs)) r

    in_none : (k d : ℕ) (ins : ℕ → Out → P Got) → InBack k d ins []
    unfolding InBack
    in_none k d ins = tt

    close_reads : (k d : ℕ) (x : X) (xs : List X) (body : Out → P Got) (rs : List Row) (ss : List Span) (s : Str) (ts : List (List ℕ)) (r : List ℕ)
        → Reads (body (out (rs ++ fresh_row k d ∷ []) ss)) s (close_in ((rs ++ fresh_row k d ∷ []) ++ flat_map ro (x ∷ xs)) (length rs) (suc (length xs))) ss ts (paren_close ∷ r)
        → Reads (bind (body (out (rs ++ fresh_row k d ∷ []) ss)) closing) s (rs ++ rows_with k d ro (x ∷ xs)) ss ts r
    close_reads k d x xs body rs ss s ts r u =
        record {
          place = u.place + 1;
          spans = u.spans;
          its_texts = u.its_texts;
          is_so = run_step (body (out (rs ++ fresh_row k d ∷ []) ss)) closing s u.is_so ∙ close_run _ u.place r ∙ rw (closed_rows k d ro (x ∷ xs) rs);
        }

    opened_back : (k d : ℕ) (body : ℕ → Out → P Got) (x : X) (xs : List X) → BodyBack body x xs → InBack k d (opened N k d body) (x ∷ xs)
    unfolding BodyBack InBack opened and_then
    opened_back k d body x xs b q rs ss r p hf hn hm =
        let l : length (rs ++ fresh_row k d ∷ []) + length (flat_map ro (x ∷ xs)) ≤ N = rw (length-append rs (fresh_row k d ∷ [])) (omega arith) in
        rw (add_node_law N rs ss q k d (omega arith)) (close_reads k d x xs (body (length rs)) rs ss _ _ r (b (rs ++ fresh_row k d ∷ []) ss r p (length rs) hf l hm))

    in_list : (k d : ℕ) (g : Out → P Got) (xs : List X) → All (OneBack f ro nu g) xs → InBack k d (opened N k d (λ i o. items g F 0 i o)) xs
    in_list k d g [] a = in_none k d _
    in_list k d g (x ∷ xs) a = opened_back k d _ x xs (items_back g x xs a)

  -- ---- EMPTY or parentheses, without a name
  module _ {X : Type 0} (f : X → List ℕ → List ℕ) (ro : X → List Row) (nu : X → List (List ℕ)) (k d : ℕ) where
    empty_back : (q p : ℕ) (rs : List Row) (ss : List Span) (r : List ℕ) → length rs + length (rows_with k d ro []) ≤ N
        → Reads (ret (add_node N (out rs ss) q k d)) (lex p r) (rs ++ rows_with k d ro []) ss (flat_map nu []) r
    unfolding run rows_with flat_map
    empty_back q p rs ss r h = record { place = p; spans = []; its_texts = refl; is_so = rw (add_node_law N rs ss q k d (omega arith), append-nil) }

    parts_back : (inside : ℕ → ℕ → Out → P Got) (xs : List X) → InBack f ro nu k d (inside d) xs → OneBack (put_parts f) (rows_with k d ro) (flat_map nu) (λ o. bind (opener k d) (parens N M F inside o)) xs
    unfolding InBack OneBack put_parts separated parens rows_with
    parts_back inside [] b rs ss r p st hf hn hm = reads_step (opener k d) (parens N M F inside (out rs ss)) (opener_empty k d p r st) (empty_back p (adv p empty_word) rs ss r hn)
    parts_back inside (x ∷ xs) b rs ss r p st hf hn hm =
        reads_step (opener k d) (parens N M F inside (out rs ss)) (opener_open k d p (f x (each comma f xs (paren_close ∷ r)))) (b p rs ss r (p + 1) (omega (arith, open_size p (f x (each comma f xs (paren_close ∷ r))))) hn hm)

    -- the same behind a name and a dimension
    named_back : (C : ℕ → ℕ → Out → P Got) → IsName k → IsDimension d → (xs : List X) → InBack f ro nu k d (λ q o. geometry_by N M F C o (opens k d q)) xs → OneBack (put_with k d f) (rows_with k d ro) (flat_map nu) (child_of N M F C) xs
    unfolding InBack OneBack put_with put_named separated child_of rows_with geometry_by
    named_back C n h [] b rs ss r p st hf hn hm =
        let v = dimension_empty k d (adv p (string_of names k)) r h st in
        reads_step child_head (geometry_by N M F C (out rs ss)) (head_run k d p (space ∷ empty_word ++ r) n (stop_blank _) ∙ v.2) (empty_back v.0 v.1 rs ss r hn)
    named_back C n h (x ∷ xs) b rs ss r p st hf hn hm =
        let v = dimension_open k d (adv p (string_of names k)) (f x (each comma f xs (paren_close ∷ r))) h in
        let e = head_run k d p (paren_open ∷ f x (each comma f xs (paren_close ∷ r))) n (stop_open _) ∙ v.1 in
        reads_step child_head (geometry_by N M F C (out rs ss)) e (b v.0 rs ss r (v.0 + 1) (omega (arith, run_size child_head _ e)) hn hm)

  -- ---- the kinds
  module _ (d : ℕ) where
    in_line : (k : ℕ) (cs : List Coord) → All (CoordShape d) cs → All Lexeme (flat_map coord_texts cs) → InBack put_coord no_rows coord_texts k d (opened N k d (λ i o. items (coord M d) F 0 i o)) cs
    in_line k cs a l = in_list put_coord no_rows coord_texts k d (coord M d) cs (all_both (coord_back d) cs a (all_flat coord_texts cs l))

    line_back : (cs : List Coord) → LineShape d cs → All Lexeme (line_texts cs) → OneBack put_line (line_rows d) line_texts (line_of N M F d) cs
    unfolding line_of line_in line_body
    line_back cs a l = parts_back put_coord no_rows coord_texts kind_line_string d (line_in N M F) cs (in_line kind_line_string cs a l)

    in_lines : (k : ℕ) (ls : List (List Coord)) → All (LineShape d) ls → All Lexeme (flat_map line_texts ls) → InBack put_line (line_rows d) line_texts k d (opened N k d (lines_body N M F d)) ls
    unfolding lines_body
    in_lines k ls a l = in_list put_line (line_rows d) line_texts k d (line_of N M F d) ls (all_both line_back ls a (all_flat line_texts ls l))

    polygon_back : (ls : List (List Coord)) → PolygonShape d ls → All Lexeme (polygon_texts ls) → OneBack put_polygon (polygon_rows d) polygon_texts (polygon_of N M F d) ls
    unfolding polygon_of polygon_in
    polygon_back ls a l = parts_back put_line (line_rows d) line_texts kind_polygon d (polygon_in N M F) ls (in_lines kind_polygon ls a l)

    in_polygons : (ps : List (List (List Coord))) → All (PolygonShape d) ps → All Lexeme (flat_map polygon_texts ps) → InBack put_polygon (polygon_rows d) polygon_texts kind_multi_polygon d (opened N kind_multi_polygon d (polygons_body N M F d)) ps
    unfolding polygons_body
    in_polygons ps a l = in_list put_polygon (polygon_rows d) polygon_texts kind_multi_polygon d (polygon_of N M F d) ps (all_both polygon_back ps a (all_flat polygon_texts ps l))

    point_body_law : (c : Coord) → CoordShape d c → All Lexeme c → BodyBack put_coord no_rows coord_texts (point_body M d) c []
    unfolding BodyBack OneBack flat_map each point_body and_then run
    point_body_law c a l rs ss r p i hf hn hm =
        let hm' : length ss + length c ≤ M = rw (append-nil c) at hm in
        let u = coord_back d c a l rs ss (paren_close ∷ r) p (stop_close r) hf hn hm' in
        rw (append-nil c) record { place = u.place; spans = u.spans; its_texts = u.its_texts; is_so = run_step (coord M d (out rs ss)) _ (lex p (put_coord c (paren_close ∷ r))) u.is_so }

    in_point : (c : Coord) → CoordShape d c → All Lexeme c → InBack put_coord no_rows coord_texts kind_point d (opened N kind_point d (point_body M d)) (c ∷ [])
    in_point c a l = opened_back put_coord no_rows coord_texts kind_point d (point_body M d) c [] (point_body_law c a l)

    point_open : (o : Out) (p : ℕ) (s : List ℕ) → run (point_of N M F d o) (lex p (paren_open ∷ s)) ≡ run (opened N kind_point d (point_body M d) p o) (lex (p + 1) s)
    unfolding point_of point_in run
    point_open o p s = rw lex_open

    point_back : (c : Coord) → CoordShape d c → All Lexeme (coord_texts c) → OneBack put_point (point_rows d) coord_texts (point_of N M F d) c
    unfolding OneBack InBack put_parts separated rows_with flat_map each
    point_back c a l rs ss r p st hf hn hm =
        let hm' : length ss + length (c ++ []) ≤ M = rw (append-nil c) hm in
        reads_same (point_open (out rs ss) p (put_coord c (paren_close ∷ r)))
        (rw (append-nil c) at (in_point c a l p rs ss r (p + 1) (omega (arith, open_size p (put_coord c (paren_close ∷ r)))) hn hm'))

    in_points : (cs : List Coord) → All (CoordShape d) cs → All Lexeme (flat_map coord_texts cs) → InBack put_point (point_rows d) coord_texts kind_multi_point d (opened N kind_multi_point d (points_body N M F d)) cs
    unfolding points_body
    in_points cs a l = in_list put_point (point_rows d) coord_texts kind_multi_point d (point_of N M F d) cs (all_both point_back cs a (all_flat coord_texts cs l))

    at_most_one : (cs : List Coord) → All (CoordShape d) cs → length cs ≤ 1 → All Lexeme (flat_map coord_texts cs) → InBack put_coord no_rows coord_texts kind_point d (opened N kind_point d (point_body M d)) cs
    unfolding All flat_map
    at_most_one [] a h l = in_none put_coord no_rows coord_texts kind_point d _
    at_most_one (c ∷ []) a h l = in_point c a.0 (rw (append-nil c) at l)
    at_most_one (c ∷ c1 ∷ cs) a h l = absurd (omega arith)

  -- a node, given what its children come to
  module _ {X : Type 0} (f : X → List ℕ → List ℕ) (ro : X → List Row) (nu : X → List (List ℕ)) (Q : X → Type 0) (C : ℕ → ℕ → Out → P Got)
      (coll : (d : ℕ) (ts : List X) → All Q ts → All Lexeme (flat_map nu ts) → InBack f ro nu kind_geometry_collection d (C d) ts) where
    node_back : (t : Node X) → NodeShape Q t → All Lexeme (node_texts nu t) → OneBack (put_geometry f) (node_rows ro) (node_texts nu) (child_of N M F C) t
    unfolding OneBack geometry_by simple multi point_in line_in line_body polygon_in
    node_back (point_n d cs) g l = named_back put_coord no_rows coord_texts kind_point d C seven.0 g.0 cs (at_most_one d cs g.1 g.2 l)
    node_back (line_n d cs) g l = named_back put_coord no_rows coord_texts kind_line_string d C seven.1 g.0 cs (in_line d kind_line_string cs g.1 l)
    node_back (polygon_n d ls) g l = named_back put_line (line_rows d) line_texts kind_polygon d C seven.2 g.0 ls (in_lines d kind_polygon ls g.1 l)
    node_back (multipoint_n d cs) g l = named_back put_point (point_rows d) coord_texts kind_multi_point d C seven.3 g.0 cs (in_points d cs g.1 l)
    node_back (multiline_n d ls) g l = named_back put_line (line_rows d) line_texts kind_multi_line_string d C seven.4 g.0 ls (in_lines d kind_multi_line_string ls g.1 l)
    node_back (multipolygon_n d ps) g l = named_back put_polygon (polygon_rows d) polygon_texts kind_multi_polygon d C seven.5 g.0 ps (in_polygons d ps g.1 l)
    node_back (collection_n d ts) g l = named_back f ro nu kind_geometry_collection d C seven.6 g.0 ts (coll d ts g.1 l)

  no_child_law : (d : ℕ) (ts : List ⊥) → All NoShape ts → All Lexeme (flat_map no_texts ts) → InBack put_nothing no_rows no_texts kind_geometry_collection d (collection N M F zero d) ts
  no_child_law d [] a l = in_none put_nothing no_rows no_texts kind_geometry_collection d _
  no_child_law d (x ∷ ts) a l = absurd x

  tree_back : (n : ℕ) (t : Tree n) → Shape n t → All Lexeme (texts n t) → OneBack (put_tree n) (rows n) (texts n) (child_of N M F (collection N M F n)) t
  unfolding OneBack collection
  tree_back zero t g l = node_back put_nothing no_rows no_texts NoShape (collection N M F zero) no_child_law t g l
  tree_back (suc n) t g l =
      node_back (put_tree n) (rows n) (texts n) (Shape n) (collection N M F (suc n))
      (λ d ts a e. in_list (put_tree n) (rows n) (texts n) kind_geometry_collection d (child_of N M F (collection N M F n)) ts (all_both (tree_back n) ts a (all_flat (texts n) ts e))) t g l

  -- ---- the root
  root_run : (n : ℕ) (s : Str) → run root_head s ≡ run child_head s → run (root N M F n) s ≡ run (child_of N M F (collection N M F n) (out [] [])) s
  unfolding root child_of geometry
  root_run n s e = run_bind root_head _ s ∙ ap (after _) e ∙ sym (run_bind child_head _ s)

  stop_named : {X : Type 0} (f : X → List ℕ → List ℕ) (xs : List X) (r : List ℕ) → Stop (put_named f xs r)
  unfolding put_named
  stop_named f [] r = stop_blank _
  stop_named f (x ∷ xs) r = stop_open _

  root_with : {X : Type 0} (k d : ℕ) (f : X → List ℕ → List ℕ) (xs : List X) (r : List ℕ) → IsName k → run root_head (lex 0 (put_with k d f xs r)) ≡ run child_head (lex 0 (put_with k d f xs r))
  unfolding put_with
  root_with k d f xs r n = root_head_law k d 0 (put_named f xs r) n (stop_named f xs r)

  root_node : {X : Type 0} (f : X → List ℕ → List ℕ) (t : Node X) (r : List ℕ) → run root_head (lex 0 (put_geometry f t r)) ≡ run child_head (lex 0 (put_geometry f t r))
  root_node f (point_n d xs) r = root_with kind_point d put_coord xs r seven.0
  root_node f (line_n d xs) r = root_with kind_line_string d put_coord xs r seven.1
  root_node f (polygon_n d xs) r = root_with kind_polygon d put_line xs r seven.2
  root_node f (multipoint_n d xs) r = root_with kind_multi_point d put_point xs r seven.3
  root_node f (multiline_n d xs) r = root_with kind_multi_line_string d put_line xs r seven.4
  root_node f (multipolygon_n d xs) r = root_with kind_multi_polygon d put_polygon xs r seven.5
  root_node f (collection_n d xs) r = root_with kind_geometry_collection d f xs r seven.6

  root_tree : (n : ℕ) (t : Tree n) (r : List ℕ) → run root_head (lex 0 (put_tree n t r)) ≡ run child_head (lex 0 (put_tree n t r))
  root_tree zero t r = root_node put_nothing t r
  root_tree (suc n) t r = root_node (put_tree n) t r

  -- the tokens of a tree's canonical text, read with room
  pub tokens_back : (n : ℕ) (t : Tree n) → GoodTree n t → size (lex 0 (put_tree n t [])) < F → length (rows n t) ≤ N → length (texts n t) ≤ M
      → (ss : List Span) × (span_texts ss ≡ texts n t) × (answer_in (run (root N M F n) (lex 0 (put_tree n t []))) ≡ ok (out (rows n t) ss))
  unfolding OneBack
  tokens_back n t g hf hn hm =
      let u = tree_back n t g.shape g.lexemes [] [] [] 0 stop_end hf (omega arith) (omega arith) in
      (u.spans, u.its_texts, ap answer_in (root_run n (lex 0 (put_tree n t [])) (root_tree n t []) ∙ u.is_so))
