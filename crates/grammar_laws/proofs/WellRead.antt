-- Every accepted reading's store is well formed: what a part of the grammar adds to the rows and number rows is the rows and the number texts of
-- one thing of its sort, whatever tokens it is fed. Stated over any sort of thing, so that one law serves every comma loop.
-- Assumes nothing.
use Rattle.std.specs.Prelude.{Option, Some, None}
use mathlib.Core.Path.{◌≡◌, refl, ap, sym, ◌∙◌}
use mathlib.Core.Bool.{Bool, true, false, cond, ◌&&◌, and-eq-true_iff}
use mathlib.Core.List.{List, [], ◌∷◌, ◌++◌, flat_map, append_assoc, append-nil, map-append}
use Prim.Native.Nat.{ℕ, zero, suc, ◌+◌, ◌≤◌}
use native.Mathlib.Omega.{arith}
use lib.Dec.{eqb, ltb, leb}
use lib.ListN.{length, length-append, length-map}
use borrow.Author.Tests.{leb-true}
use Rattle.names.specs.declared.Name.{Name}
use Rattle.kinds.specs.Kinds.{kind_point, kind_line_string, kind_polygon, kind_multi_point, kind_multi_line_string, kind_multi_polygon, kind_geometry_collection, dim_xy, has_z, has_m, width}
use Rattle.lists.specs.Lists.{every}
use Rattle.names.specs.Names.{spellings, lookup, meaning, ending, is_empty_word}
use Rattle.scan.specs.Bytes.{is_ascii}
use Rattle.lists.proofs.Lists.{every_head, every_tail}
use Rattle.store.specs.Rows.{Row, fresh_row, Span, span, close_in}
use Rattle.tree.proofs.Closed.{closed_rows}
use Rattle.limits.specs.Limits.{over_limit, depth_limit}
use Rattle.utf8.specs.Utf8.{is_utf8}
use Rattle.token_stream.specs.Stream.{Tok, Str, hd, tl}
use Rattle.token_stream.specs.Lex.{lex}
use Rattle.lists.proofs.Cases.{either}
use Rattle.grammar.specs.Asks.{P, ret, ask, look, bind, run, answer_in}
use Rattle.grammar.specs.Tokens.{sort_open, sort_close, sort_comma, sort_number, sort_word, sort_of, place_of, start_of, text_of}
use Rattle.grammar.specs.Grammar.{Out, out, Got, ok, refused, halt, Head, opens, empty, wrong, and_then, fill, items, closing, add_node, take_number, number, then_number, if_asked, coord, point_body, opened, is_empty_tok, opening, opener, header_ending, header, by_name, child_head, root_head, line_body, parens, line_in, line_of, lines_body, polygon_in, polygon_of, polygons_body, point_in, bare_point, point_of, points_body, multi, simple, geometry_by, child_of, collection, geometry, root}
use Rattle.grammar.specs.Reading.{enough, reading}
use Rattle.lists.specs.Lists.{All}
use Rattle.tree.specs.Tree.{Coord, Node, point_n, line_n, polygon_n, multipoint_n, multiline_n, multipolygon_n, collection_n, rows_with, no_rows, point_rows, line_rows, polygon_rows, node_rows, rows, coord_texts, line_texts, polygon_texts, node_texts, no_texts, texts, IsDimension, CoordShape, LineShape, PolygonShape, NodeShape, NoShape, Shape}
use Rattle.tree.specs.TreeIn.{span_text, span_texts, WellFormed}
use Rattle.tree.proofs.TreeIn.{tree_in_law}
use Rattle.grammar_laws.proofs.Fuel.{reading_kept}

-- ---- whatever tokens a reader is fed, Q holds of its answer
abbrev Every : {A : Type 0} → (A → Type 0) → P A → Type 0
Every Q (ret a) = Q a
Every Q (ask k) = (t : Tok) → Every Q (k t)
Every Q (look k) = (t : Tok) → Every Q (k t)

module _ {A : Type 0} (Q : A → Type 0) where
  every_run : (p : P A) (s : Str) → Every Q p → Q (answer_in (run p s))
  unfolding run
  every_run (ret a) s h = h
  every_run (ask k) s h = every_run (k (hd s)) (tl s) (h (hd s))
  every_run (look k) s h = every_run (k (hd s)) s (h (hd s))

  every_cond : (b : Bool) (p q : P A) → Every Q p → Every Q q → Every Q (cond b p q)
  every_cond true p q h k = h
  every_cond false p q h k = k

  module _ {B : Type 0} (R : B → Type 0) where
    every_bind : (p : P A) (f : A → P B) → Every Q p → ((a : A) → Q a → Every R (f a)) → Every R (bind p f)
    unfolding bind
    every_bind (ret a) f h k = k a h
    every_bind (ask g) f h k = λ t. every_bind (g t) f (h t) k
    every_bind (look g) f h k = λ t. every_bind (g t) f (h t) k

  every_map : (R : A → Type 0) (p : P A) → ((a : A) → Q a → R a) → Every Q p → Every R p
  every_map R (ret a) k h = k a h
  every_map R (ask g) k h = λ t. every_map R (g t) k (h t)
  every_map R (look g) k h = λ t. every_map R (g t) k (h t)

-- what is said of an answer is said of what was read
abbrev Of : (Out → Type 0) → Got → Type 0
Of Q (ok o) = Q o
Of Q (refused r) = Unit {0}
Of Q (halt r) = Unit {0}

of_map : (Q R : Out → Type 0) → ((o : Out) → Q o → R o) → (g : Got) → Of Q g → Of R g
of_map Q R k (ok o) h = k o h
of_map Q R k (refused r) h = tt
of_map Q R k (halt r) h = tt

module _ (Q R : Out → Type 0) where
  every_then : (g : Got) (f : Out → P Got) → Of Q g → ((o : Out) → Q o → Every (Of R) (f o)) → Every (Of R) (and_then g f)
  unfolding and_then
  every_then (ok o) f h k = k o h
  every_then (refused r) f h k = tt
  every_then (halt r) f h k = tt

  every_of : (p : P Got) → ((o : Out) → Q o → R o) → Every (Of Q) p → Every (Of R) p
  every_of p k h = every_map (Of Q) (Of R) p (of_map Q R k) h

close_every : (Q : Out → Type 0) (r : Got) → Of Q r → Every (Of Q) (closing r)
unfolding closing
close_every Q (ok o) h = λ t. either (eqb (sort_of t) sort_close) (Of Q) _ _ (λ e. h) λ e. tt
close_every Q (refused r) h = λ t. either (eqb (sort_of t) sort_close) (Of Q) _ _ (λ e. tt) λ e. tt
close_every Q (halt r) h = tt

-- ---- coordinates: n numbers more than ss
record Numbered (n : ℕ) (rs : List Row) (ss : List Span) (o : Out) : Type 0 where
  spans : List Span
  count : length spans ≡ n
  is : o ≡ out rs (ss ++ spans)

module _ (M : ℕ) (rs : List Row) (ss : List Span) where
  take_number_law : (n e : ℕ) (o : Out) (t : Tok) → Numbered n rs ss o → Of (Numbered (n + 1) rs ss) (take_number M e o t)
  take_number_law n e o t v =
      rw v.is (either (eqb (sort_of t) sort_number) (Of (Numbered (n + 1) rs ss)) _ _
      (λ z. either (ltb (length (ss ++ v.spans)) M) (Of (Numbered (n + 1) rs ss)) _ _
      (λ y. record { spans = v.spans ++ span (start_of t) (length (text_of t)) (text_of t) ∷ []; count = rw length-append (omega (arith, v.count)); is = rw append_assoc }) λ y. tt)
      λ z. tt)

  then_number_law : (n e : ℕ) (r : Got) → Of (Numbered n rs ss) r → Every (Of (Numbered (n + 1) rs ss)) (then_number M e r)
  unfolding then_number number
  then_number_law n e r h = every_then (Numbered n rs ss) (Numbered (n + 1) rs ss) r _ h λ o v t. take_number_law n e o t v

  if_asked_law : (n e : ℕ) (asked : Bool) (r : Got) → Of (Numbered n rs ss) r → Every (Of (Numbered (n + cond asked 1 0) rs ss)) (if_asked M asked e r)
  unfolding if_asked
  if_asked_law n e true r h = then_number_law n e r h
  if_asked_law n e false r h = of_map (Numbered n rs ss) (Numbered (n + 0) rs ss) (λ o v. record { spans = v.spans; count = omega (arith, v.count); is = v.is }) r h

  coord_numbers : (d : ℕ) → Every (Of (Numbered (width d) rs ss)) (coord M d (out rs ss))
  unfolding coord number width
  coord_numbers d =
      let none : Numbered 0 rs ss (out rs ss) = record { spans = []; count = refl; is = rw append-nil } in
      every_bind (Of (Numbered 1 rs ss)) (Of (Numbered (width d) rs ss)) (number M 14 (out rs ss)) _ (λ t. take_number_law 0 14 (out rs ss) t none) λ x hx.
      every_bind (Of (Numbered 2 rs ss)) (Of (Numbered (width d) rs ss)) (then_number M 15 x) _ (then_number_law 1 15 x hx) λ y hy.
      every_bind (Of (Numbered (2 + cond (has_z d) 1 0) rs ss)) (Of (Numbered (width d) rs ss)) (if_asked M (has_z d) 16 y) _ (if_asked_law 2 16 (has_z d) y hy) λ z hz.
      every_of (Numbered (2 + cond (has_z d) 1 0 + cond (has_m d) 1 0) rs ss) (Numbered (width d) rs ss) (if_asked M (has_m d) 17 z)
      (λ o v. record { spans = v.spans; count = v.count ∙ omega arith; is = v.is }) (if_asked_law (2 + cond (has_z d) 1 0) 17 (has_m d) z hz)

-- ---- what was added to rs and ss is the rows and the number texts of one thing that Q holds of
module _ {X : Type 0} (ro : X → List Row) (nu : X → List (List ℕ)) (Q : X → Type 0) where
  record Added (rs : List Row) (ss : List Span) (o : Out) : Type 0 where
    thing : X
    good : Q thing
    spans : List Span
    its_texts : span_texts spans ≡ nu thing
    is : o ≡ out (rs ++ ro thing) (ss ++ spans)

  Adds : (Out → P Got) → Type 0
  Adds g = (rs : List Row) (ss : List Span) → Every (Of (Added rs ss)) (g (out rs ss))

-- of several things, of which the row i gets the number, n more than they are
module _ {X : Type 0} (ro : X → List Row) (nu : X → List (List ℕ)) (R : List X → Type 0) where
  record Listed (i n : ℕ) (rs : List Row) (ss : List Span) (o : Out) : Type 0 where
    things : List X
    good : R things
    spans : List Span
    its_texts : span_texts spans ≡ flat_map nu things
    is : o ≡ out (close_in (rs ++ flat_map ro things) i (n + length things)) (ss ++ spans)

  Lists : (ℕ → Out → P Got) → Type 0
  Lists body = (i : ℕ) (rs : List Row) (ss : List Span) → Every (Of (Listed i 0 rs ss)) (body i (out rs ss))

-- the same, seen as something else
adds_as : {X Y : Type 0} (ro : X → List Row) (nu : X → List (List ℕ)) (Q : X → Type 0) (ro' : Y → List Row) (nu' : Y → List (List ℕ)) (Q' : Y → Type 0)
    → ((x : X) → Q x → (y : Y) × (ro x ≡ ro' y) × (nu x ≡ nu' y) × Q' y) → (g : Out → P Got) → Adds ro nu Q g → Adds ro' nu' Q' g
unfolding Adds
adds_as ro nu Q ro' nu' Q' k g h rs ss =
    every_of (Added ro nu Q rs ss) (Added ro' nu' Q' rs ss) (g (out rs ss))
    (λ o v. let z = k v.thing v.good in record { thing = z.0; good = z.3; spans = v.spans; its_texts = v.its_texts ∙ z.2; is = rw (← z.1) v.is }) (h rs ss)

coord_adds : (M d : ℕ) → Adds no_rows coord_texts (CoordShape d) (coord M d)
unfolding Adds
coord_adds M d rs ss =
    every_of (Numbered (width d) rs ss) (Added no_rows coord_texts (CoordShape d) rs ss) (coord M d (out rs ss))
    (λ o v. record { thing = span_texts v.spans; good = length-map v.spans span_text ∙ v.count; spans = v.spans; its_texts = refl; is = rw append-nil v.is }) (coord_numbers M rs ss d)

-- ---- lists by commas
module _ {X : Type 0} (ro : X → List Row) (nu : X → List (List ℕ)) (Q : X → Type 0) (g : Out → P Got) (h : Adds ro nu Q g) where
  items_lists : (F n i : ℕ) (rs : List Row) (ss : List Span) → Every (Of (Listed ro nu (All Q) i n rs ss)) (items g F n i (out rs ss))
  unfolding items Adds All flat_map
  items_lists zero n i rs ss = tt
  items_lists (suc F) n i rs ss =
      every_bind (Of (Added ro nu Q rs ss)) (Of (Listed ro nu (All Q) i n rs ss)) (g (out rs ss)) _ (h rs ss) λ r hr.
      every_then (Added ro nu Q rs ss) (Listed ro nu (All Q) i n rs ss) r _ hr λ o v t.
      rw v.is (every_cond (Of (Listed ro nu (All Q) i n rs ss)) (eqb (sort_of t) sort_comma) _ _
      (λ c. every_of (Listed ro nu (All Q) i (n + 1) (rs ++ ro v.thing) (ss ++ v.spans)) (Listed ro nu (All Q) i n rs ss) (items g F (n + 1) i (out (rs ++ ro v.thing) (ss ++ v.spans))) (more v) (items_lists F (n + 1) i (rs ++ ro v.thing) (ss ++ v.spans)))
      (last v))
    where
      more : {o : Out} (v : Added ro nu Q rs ss o) (o1 : Out) → Listed ro nu (All Q) i (n + 1) (rs ++ ro v.thing) (ss ++ v.spans) o1 → Listed ro nu (All Q) i n rs ss o1
      more v o1 u =
          let e : n + 1 + length u.things ≡ n + length (v.thing ∷ u.things) = omega arith in
          record {
            things = v.thing ∷ u.things;
            good = (v.good, u.good);
            spans = v.spans ++ u.spans;
            its_texts = rw (map-append, v.its_texts, u.its_texts);
            is = u.is ∙ rw (append_assoc rs, append_assoc ss, e);
          }

      last : {o : Out} (v : Added ro nu Q rs ss o) → Listed ro nu (All Q) i n rs ss (fill i (n + 1) (out (rs ++ ro v.thing) (ss ++ v.spans)))
      last v =
          record {
            things = v.thing ∷ [];
            good = (v.good, tt);
            spans = v.spans;
            its_texts = v.its_texts ∙ sym (append-nil (nu v.thing));
            is = rw append-nil;
          }

  list_lists : (F : ℕ) → Lists ro nu (All Q) (λ i o. items g F 0 i o)
  unfolding Lists
  list_lists F i rs ss = items_lists F 0 i rs ss

-- ---- a node row and its parts
module _ (N : ℕ) {X : Type 0} (ro : X → List Row) (nu : X → List (List ℕ)) (R : List X → Type 0) (k d : ℕ) where
  filled : (rs : List Row) (ss : List Span) (o : Out) → Listed ro nu R (length rs) 0 (rs ++ fresh_row k d ∷ []) ss o → Added (rows_with k d ro) (flat_map nu) R rs ss o
  filled rs ss o v =
      let e : 0 + length v.things ≡ length v.things = omega arith in
      record {
        thing = v.things;
        good = v.good;
        spans = v.spans;
        its_texts = v.its_texts;
        is = v.is ∙ rw (e, closed_rows k d ro v.things rs);
      }

  row_adds : (p : ℕ) (body : Out → P Got) (rs : List Row) (ss : List Span) → Every (Of (Listed ro nu R (length rs) 0 (rs ++ fresh_row k d ∷ []) ss)) (body (out (rs ++ fresh_row k d ∷ []) ss))
      → Every (Of (Added (rows_with k d ro) (flat_map nu) R rs ss)) (and_then (add_node N (out rs ss) p k d) body)
  unfolding and_then
  row_adds p body rs ss h =
      either (ltb (length rs) N) (λ g. Every (Of (Added (rows_with k d ro) (flat_map nu) R rs ss)) (and_then g body)) _ _
      (λ e. every_of (Listed ro nu R (length rs) 0 (rs ++ fresh_row k d ∷ []) ss) (Added (rows_with k d ro) (flat_map nu) R rs ss) (body (out (rs ++ fresh_row k d ∷ []) ss)) (filled rs ss) h) λ e. tt

  opened_adds : (body : ℕ → Out → P Got) → Lists ro nu R body → (p : ℕ) → Adds (rows_with k d ro) (flat_map nu) R (opened N k d body p)
  unfolding Adds Lists opened
  opened_adds body h p rs ss =
      row_adds p (λ o1. bind (body (length rs) o1) closing) rs ss
      (every_bind (Of (Listed ro nu R (length rs) 0 (rs ++ fresh_row k d ∷ []) ss)) (Of (Listed ro nu R (length rs) 0 (rs ++ fresh_row k d ∷ []) ss)) (body (length rs) (out (rs ++ fresh_row k d ∷ []) ss)) closing
      (h (length rs) (rs ++ fresh_row k d ∷ []) ss) (close_every (Listed ro nu R (length rs) 0 (rs ++ fresh_row k d ∷ []) ss)))

  empty_adds : R [] → (p : ℕ) → Adds (rows_with k d ro) (flat_map nu) R (λ o. ret (add_node N o p k d))
  unfolding Adds rows_with flat_map
  empty_adds r p rs ss =
      either (ltb (length rs) N) (Of (Added (rows_with k d ro) (flat_map nu) R rs ss)) _ _ (λ e. record { thing = []; good = r; spans = []; its_texts = refl; is = rw append-nil }) λ e. tt

-- exactly one
abbrev One : ℕ → List Coord → Type 0
One d cs = (c : Coord) × (cs ≡ c ∷ []) × CoordShape d c

point_lists : (M d : ℕ) → Lists no_rows coord_texts (One d) (point_body M d)
unfolding Lists point_body Adds flat_map
point_lists M d i rs ss =
    every_bind (Of (Added no_rows coord_texts (CoordShape d) rs ss)) (Of (Listed no_rows coord_texts (One d) i 0 rs ss)) (coord M d (out rs ss)) _ (coord_adds M d rs ss) λ r hr.
    every_then (Added no_rows coord_texts (CoordShape d) rs ss) (Listed no_rows coord_texts (One d) i 0 rs ss) r _ hr λ o v.
    record { things = v.thing ∷ []; good = (v.thing, refl, v.good); spans = v.spans; its_texts = v.its_texts ∙ sym (append-nil v.thing); is = ap (fill i 1) v.is }

-- ---- heads
abbrev Names : ℕ → ℕ → Head → Type 0
Names k d (opens k' d' p) = (k' ≡ k) × (d' ≡ d)
Names k d (empty k' d' p) = (k' ≡ k) × (d' ≡ d)
Names k d (wrong r) = Unit {0}

opener_names : (k d : ℕ) → Every (Names k d) (opener k d)
unfolding opener opening
opener_names k d = λ t. either (eqb (sort_of t) sort_open) (Names k d) _ _ (λ e. (refl, refl)) λ e. either (is_empty_tok t) (Names k d) _ _ (λ f. (refl, refl)) λ f. tt

abbrev pub is_kind : ℕ → Bool
is_kind k = leb 1 k && leb k 7

abbrev pub is_dimension : ℕ → Bool
is_dimension d = leb d 3

abbrev pub known_name : Name → Bool
known_name (Name.Bare k) = is_kind k
known_name (Name.Joined k d) = is_kind k && is_dimension d

-- what was found, if anything, passes the test
abbrev pub found_is : {A : Type 0} → (A → Bool) → Option A → Bool
found_is p None = true
found_is p (Some a) = p a

lookup_every : {A : Type 0} (p : A → Bool) (test : List ℕ → List ℕ → Bool) (w : List ℕ) (table : List (A × List ℕ)) → every (λ entry. p entry.0) table ≡ true → found_is p (lookup test table w) ≡ true
unfolding lookup
lookup_every p test w [] e = refl
lookup_every p test w (entry ∷ table) e =
    either (test w entry.1) (λ a. found_is p a ≡ true) _ _ (λ z. every_head (λ x. p x.0) entry table e) λ z. lookup_every p test w table (every_tail (λ x. p x.0) entry table e)

pub name_known : (w : List ℕ) → found_is known_name (meaning w) ≡ true
unfolding meaning spellings every flat_map
name_known w = lookup_every known_name _ w spellings refl

ending_known : (w : List ℕ) → found_is is_dimension (ending w) ≡ true
unfolding ending every
ending_known w = lookup_every is_dimension _ w _ refl

-- a head of a known kind and dimension
abbrev Known : Head → Type 0
Known (opens k d p) = is_dimension d ≡ true
Known (empty k d p) = (is_kind k ≡ true) × (is_dimension d ≡ true)
Known (wrong r) = Unit {0}

opener_known : (k d : ℕ) → is_kind k ≡ true → is_dimension d ≡ true → Every Known (opener k d)
unfolding opener opening
opener_known k d a b = λ t. either (eqb (sort_of t) sort_open) Known _ _ (λ e. b) λ e. either (is_empty_tok t) Known _ _ (λ f. (a, b)) λ f. tt

header_known : (k : ℕ) → is_kind k ≡ true → Every Known (header k)
unfolding header
header_known k a =
    λ t. every_cond Known (ltb (sort_of t) sort_open) _ _ tt (every_cond Known (eqb (sort_of t) sort_word) _ _ (go t (ending (text_of t)) (ending_known (text_of t))) (opener_known k dim_xy a refl))
  where
    go : (t : Tok) (e : Option ℕ) → found_is is_dimension e ≡ true → Every Known (header_ending k t e)
    go t (Some d) b = λ z. opener_known k d a b
    go t None b = every_cond Known (is_empty_word (text_of t)) _ _ (opener_known k dim_xy a refl) tt

by_name_known : (p : ℕ) (n : Option Name) → found_is known_name n ≡ true → Every Known (by_name p n)
by_name_known p None a = tt
by_name_known p (Some (Name.Bare k)) a = header_known k a
by_name_known p (Some (Name.Joined k d)) a = let b = (and-eq-true_iff (is_kind k) (is_dimension d)).0 a in opener_known k d b.0 b.1

child_known : Every Known child_head
unfolding child_head
child_known = λ t. every_cond Known (eqb (sort_of t) sort_word) _ _ (by_name_known (place_of t) (meaning (text_of t)) (name_known (text_of t))) tt

root_known : Every Known root_head
unfolding root_head
root_known =
    λ t. every_cond Known (eqb (sort_of t) sort_word) _ _ (every_cond Known (every is_ascii (text_of t)) _ _ (by_name_known (place_of t) (meaning (text_of t)) (name_known (text_of t))) tt) tt

-- ---- the grammar
module _ (N M F : ℕ) where
  module _ {X : Type 0} (ro : X → List Row) (nu : X → List (List ℕ)) (R : List X → Type 0) (k d : ℕ) where
    parens_adds : (inside : ℕ → ℕ → Out → P Got) → ((p : ℕ) → Adds (rows_with k d ro) (flat_map nu) R (inside d p)) → R [] → (h : Head) → Names k d h → Adds (rows_with k d ro) (flat_map nu) R (λ o. parens N M F inside o h)
    unfolding parens Adds
    parens_adds inside a r (opens k' d' p) e rs ss = rw e.1 (a p rs ss)
    parens_adds inside a r (empty k' d' p) e rs ss = rw (e.0, e.1) (empty_adds N ro nu R k d r p rs ss)
    parens_adds inside a r (wrong x) e rs ss = tt

    of_adds : (inside : ℕ → ℕ → Out → P Got) → ((p : ℕ) → Adds (rows_with k d ro) (flat_map nu) R (inside d p)) → R [] → Adds (rows_with k d ro) (flat_map nu) R (λ o. bind (opener k d) (parens N M F inside o))
    unfolding Adds
    of_adds inside a r rs ss =
        every_bind (Names k d) (Of (Added (rows_with k d ro) (flat_map nu) R rs ss)) (opener k d) _ (opener_names k d) λ h e. parens_adds inside a r h e rs ss

  line_in_law : (d p : ℕ) → Adds (line_rows d) line_texts (LineShape d) (line_in N M F d p)
  unfolding line_in line_body
  line_in_law d p = opened_adds N no_rows coord_texts (LineShape d) kind_line_string d _ (list_lists no_rows coord_texts (CoordShape d) (coord M d) (coord_adds M d) F) p

  line_of_law : (d : ℕ) → Adds (line_rows d) line_texts (LineShape d) (line_of N M F d)
  unfolding line_of All
  line_of_law d = of_adds no_rows coord_texts (LineShape d) kind_line_string d (line_in N M F) (line_in_law d) tt

  lines_body_law : (d : ℕ) → Lists (line_rows d) line_texts (All (LineShape d)) (lines_body N M F d)
  unfolding lines_body
  lines_body_law d = list_lists (line_rows d) line_texts (LineShape d) (line_of N M F d) (line_of_law d) F

  polygon_in_law : (d p : ℕ) → Adds (polygon_rows d) polygon_texts (PolygonShape d) (polygon_in N M F d p)
  unfolding polygon_in
  polygon_in_law d p = opened_adds N (line_rows d) line_texts (All (LineShape d)) kind_polygon d _ (lines_body_law d) p

  polygon_of_law : (d : ℕ) → Adds (polygon_rows d) polygon_texts (PolygonShape d) (polygon_of N M F d)
  unfolding polygon_of All
  polygon_of_law d = of_adds (line_rows d) line_texts (All (LineShape d)) kind_polygon d (polygon_in N M F) (polygon_in_law d) tt

  point_in_law : (d p : ℕ) → Adds (rows_with kind_point d no_rows) (flat_map coord_texts) (One d) (point_in N M F d p)
  unfolding point_in
  point_in_law d p = opened_adds N no_rows coord_texts (One d) kind_point d _ (point_lists M d) p

  bare_point_law : (d p : ℕ) → Adds (rows_with kind_point d no_rows) (flat_map coord_texts) (One d) (bare_point N M F d p)
  unfolding bare_point Adds Lists
  bare_point_law d p rs ss = row_adds N no_rows coord_texts (One d) kind_point d p (λ o1. point_body M d (length rs) o1) rs ss (point_lists M d (length rs) (rs ++ fresh_row kind_point d ∷ []) ss)

  point_either : (d : ℕ) → Adds (rows_with kind_point d no_rows) (flat_map coord_texts) (One d) (point_of N M F d)
  unfolding point_of Adds
  point_either d rs ss =
      λ t. every_cond (Of (Added (rows_with kind_point d no_rows) (flat_map coord_texts) (One d) rs ss)) (eqb (sort_of t) sort_open) _ _ (λ u. point_in_law d (place_of u) rs ss) (bare_point_law d (place_of t) rs ss)

  point_of_law : (d : ℕ) → Adds (point_rows d) coord_texts (CoordShape d) (point_of N M F d)
  unfolding flat_map
  point_of_law d =
      adds_as (rows_with kind_point d no_rows) (flat_map coord_texts) (One d) (point_rows d) coord_texts (CoordShape d)
      (λ cs q. (q.0, ap (rows_with kind_point d no_rows) q.1, rw q.1 (append-nil q.0), q.2)) (point_of N M F d) (point_either d)

  -- a node, given what its collections add
  module _ {X : Type 0} (ro : X → List Row) (nu : X → List (List ℕ)) (Q : X → Type 0) (C : ℕ → ℕ → Out → P Got)
      (c : (d p : ℕ) → Adds (rows_with kind_geometry_collection d ro) (flat_map nu) (All Q) (C d p)) where
    abbrev Nodes : (Out → P Got) → Type 0
    Nodes = Adds (node_rows ro) (node_texts nu) (NodeShape Q)

    as_node : {Y : Type 0} (f : Y → List Row) (u : Y → List (List ℕ)) (R : List Y → Type 0) (k d : ℕ) (n : List Y → Node X)
        → ((ys : List Y) → rows_with k d f ys ≡ node_rows ro (n ys)) → ((ys : List Y) → flat_map u ys ≡ node_texts nu (n ys)) → ((ys : List Y) → R ys → NodeShape Q (n ys))
        → (g : Out → P Got) → Adds (rows_with k d f) (flat_map u) R g → Nodes g
    as_node f u R k d n a b e g h = adds_as (rows_with k d f) (flat_map u) R (node_rows ro) (node_texts nu) (NodeShape Q) (λ ys r. (n ys, a ys, b ys, e ys r)) g h

    one_shape : (d : ℕ) (cs : List Coord) → One d cs → All (CoordShape d) cs × (length cs ≤ 1)
    unfolding All
    one_shape d cs q = rw q.1 ((q.2, tt), omega arith)

    module _ (d : ℕ) (s : IsDimension d) (p : ℕ) where
      point_node : Nodes (point_in N M F d p)
      point_node = as_node no_rows coord_texts (One d) kind_point d (point_n d) (λ ys. refl) (λ ys. refl) (λ cs r. let z = one_shape d cs r in (s, z.0, z.1)) _ (point_in_law d p)

      line_node : Nodes (line_in N M F d p)
      line_node = as_node no_rows coord_texts (LineShape d) kind_line_string d (line_n d) (λ ys. refl) (λ ys. refl) (λ cs r. (s, r)) _ (line_in_law d p)

      polygon_node : Nodes (polygon_in N M F d p)
      polygon_node = as_node (line_rows d) line_texts (PolygonShape d) kind_polygon d (polygon_n d) (λ ys. refl) (λ ys. refl) (λ cs r. (s, r)) _ (polygon_in_law d p)

      multipoint_node : Nodes (opened N kind_multi_point d (points_body N M F d) p)
      unfolding points_body
      multipoint_node =
          as_node (point_rows d) coord_texts (All (CoordShape d)) kind_multi_point d (multipoint_n d) (λ ys. refl) (λ ys. refl) (λ cs r. (s, r)) _
          (opened_adds N (point_rows d) coord_texts (All (CoordShape d)) kind_multi_point d _ (list_lists (point_rows d) coord_texts (CoordShape d) (point_of N M F d) (point_of_law d) F) p)

      multiline_node : Nodes (opened N kind_multi_line_string d (lines_body N M F d) p)
      multiline_node =
          as_node (line_rows d) line_texts (All (LineShape d)) kind_multi_line_string d (multiline_n d) (λ ys. refl) (λ ys. refl) (λ cs r. (s, r)) _
          (opened_adds N (line_rows d) line_texts (All (LineShape d)) kind_multi_line_string d _ (lines_body_law d) p)

      multipolygon_node : Nodes (opened N kind_multi_polygon d (polygons_body N M F d) p)
      unfolding polygons_body
      multipolygon_node =
          as_node (polygon_rows d) polygon_texts (All (PolygonShape d)) kind_multi_polygon d (multipolygon_n d) (λ ys. refl) (λ ys. refl) (λ cs r. (s, r)) _
          (opened_adds N (polygon_rows d) polygon_texts (All (PolygonShape d)) kind_multi_polygon d _ (list_lists (polygon_rows d) polygon_texts (PolygonShape d) (polygon_of N M F d) (polygon_of_law d) F) p)

      multi_node : (k : ℕ) → Nodes (multi N M F k d p)
      unfolding multi Adds
      multi_node k rs ss =
          every_cond (Of (Added (node_rows ro) (node_texts nu) (NodeShape Q) rs ss)) (eqb k kind_multi_point) _ _ (multipoint_node rs ss)
          (every_cond (Of (Added (node_rows ro) (node_texts nu) (NodeShape Q) rs ss)) (eqb k kind_multi_line_string) _ _ (multiline_node rs ss) (multipolygon_node rs ss))

      simple_node : (k : ℕ) → Nodes (simple N M F k d p)
      unfolding simple Adds
      simple_node k rs ss =
          every_cond (Of (Added (node_rows ro) (node_texts nu) (NodeShape Q) rs ss)) (eqb k kind_point) _ _ (point_node rs ss)
          (every_cond (Of (Added (node_rows ro) (node_texts nu) (NodeShape Q) rs ss)) (eqb k kind_line_string) _ _ (line_node rs ss)
          (every_cond (Of (Added (node_rows ro) (node_texts nu) (NodeShape Q) rs ss)) (eqb k kind_polygon) _ _ (polygon_node rs ss) (multi_node k rs ss)))

      collection_node : Nodes (C d p)
      collection_node = as_node ro nu (All Q) kind_geometry_collection d (collection_n d) (λ ys. refl) (λ ys. refl) (λ cs r. (s, r)) _ (c d p)

    -- an empty node of each kind
    empty_node : (k d : ℕ) → is_kind k ≡ true → IsDimension d → (n : Node X) × (fresh_row k d ∷ [] ≡ node_rows ro n) × ([] ≡ node_texts nu n) × NodeShape Q n
    unfolding rows_with flat_map All
    empty_node zero d e s = let z : ◌≡◌ {A = ℕ} 0 1 = cc in absurd (omega arith)
    empty_node (suc zero) d e s = (point_n d [], refl, refl, (s, tt, omega arith))
    empty_node (suc (suc zero)) d e s = (line_n d [], refl, refl, (s, tt))
    empty_node (suc (suc (suc zero))) d e s = (polygon_n d [], refl, refl, (s, tt))
    empty_node (suc (suc (suc (suc zero)))) d e s = (multipoint_n d [], refl, refl, (s, tt))
    empty_node (suc (suc (suc (suc (suc zero))))) d e s = (multiline_n d [], refl, refl, (s, tt))
    empty_node (suc (suc (suc (suc (suc (suc zero)))))) d e s = (multipolygon_n d [], refl, refl, (s, tt))
    empty_node (suc (suc (suc (suc (suc (suc (suc zero))))))) d e s = (collection_n d [], refl, refl, (s, tt))
    empty_node (suc (suc (suc (suc (suc (suc (suc (suc k)))))))) d e s = absurd (omega (arith, leb-true (suc (suc (suc (suc (suc (suc (suc (suc k)))))))) 7 ((and-eq-true_iff (leb 1 (suc (suc (suc (suc (suc (suc (suc (suc k))))))))) _).0 e).1))

    node_adds : (h : Head) → Known h → Nodes (λ o. geometry_by N M F C o h)
    unfolding geometry_by Adds
    node_adds (opens k d p) e rs ss =
        every_cond (Of (Added (node_rows ro) (node_texts nu) (NodeShape Q) rs ss)) (eqb k kind_geometry_collection) _ _ (collection_node d (leb-true d 3 e) p rs ss) (simple_node d (leb-true d 3 e) p k rs ss)
    node_adds (empty k d p) e rs ss =
        let z = empty_node k d e.0 (leb-true d 3 e.1) in
        either (ltb (length rs) N) (Of (Added (node_rows ro) (node_texts nu) (NodeShape Q) rs ss)) _ _
        (λ l. record { thing = z.0; good = z.3; spans = []; its_texts = z.2; is = rw (← z.1, append-nil) }) λ l. tt
    node_adds (wrong r) e rs ss = tt

  child_adds : (n : ℕ) → ((h : Head) → Known h → Adds (rows n) (texts n) (Shape n) (λ o. geometry N M F n o h)) → Adds (rows n) (texts n) (Shape n) (child_of N M F (collection N M F n))
  unfolding child_of geometry Adds
  child_adds n a rs ss = every_bind Known (Of (Added (rows n) (texts n) (Shape n) rs ss)) child_head _ child_known λ h e. a h e rs ss

  no_collection : (d p : ℕ) → Adds {X = List ⊥} (rows_with kind_geometry_collection d no_rows) (flat_map no_texts) (All NoShape) (collection N M F zero d p)
  unfolding collection Adds
  no_collection d p rs ss = tt

  tree_adds : (n : ℕ) (h : Head) → Known h → Adds (rows n) (texts n) (Shape n) (λ o. geometry N M F n o h)
  unfolding geometry collection
  tree_adds zero h e = node_adds no_rows no_texts NoShape (collection N M F zero) no_collection h e
  tree_adds (suc n) h e =
      node_adds (rows n) (texts n) (Shape n) (collection N M F (suc n))
      (λ d p. opened_adds N (rows n) (texts n) (All (Shape n)) kind_geometry_collection d _ (list_lists (rows n) (texts n) (Shape n) (child_of N M F (collection N M F n)) (child_adds n (tree_adds n)) F) p) h e

  root_adds : (n : ℕ) → Every (Of (Added (rows n) (texts n) (Shape n) [] [])) (root N M F n)
  unfolding root Adds
  root_adds n = every_bind Known (Of (Added (rows n) (texts n) (Shape n) [] [])) root_head _ root_known λ h e. tree_adds n h e [] []

-- a reading that is accepted gives the rows and the number texts of a tree
reading_tree : (N M : ℕ) (text : List ℕ) → Of (Added (rows depth_limit) (texts depth_limit) (Shape depth_limit) [] []) (reading N M text)
unfolding reading
reading_tree N M text =
    let Q : Got → Type 0 = Of (Added (rows depth_limit) (texts depth_limit) (Shape depth_limit) [] []) in
    either (over_limit (length text)) Q _ _ (λ e. tt) λ e.
    either (is_utf8 text) Q _ _ (λ u. every_run Q (root N M enough depth_limit) (lex 0 text) (root_adds N M enough depth_limit)) λ u. tt

-- the store of an accepted reading is well formed
pub reading_well_formed : (N M : ℕ) (text : List ℕ) (rs : List Row) (ss : List Span) → reading N M text ≡ ok (out rs ss) → WellFormed text rs ss
reading_well_formed N M text rs ss e =
    let v : Added (rows depth_limit) (texts depth_limit) (Shape depth_limit) [] [] (out rs ss) = rw e at (reading_tree N M text) in
    let er : rs ≡ rows depth_limit v.thing = cc in
    let es : ss ≡ v.spans = cc in
    record {
      tree = v.thing;
      is = rw (er, es, v.its_texts) (tree_in_law depth_limit v.thing v.good);
      numbers = (reading_kept N M text rs ss e).spans;
    }
