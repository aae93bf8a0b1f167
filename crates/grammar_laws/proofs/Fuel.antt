-- What every reading comes to. The loops' count down never runs out: any two counts above a stream's size give the same answer.
-- An answer's refusal is one of the table's, and its rows fit the rooms and the text. One induction over the grammar shows all of it.
-- Assumes nothing.
use Rattle.std.specs.Prelude.{Option, Some, None}
use mathlib.Core.Path.{◌≡◌, refl, ap}
use mathlib.Core.Bool.{Bool, true, false, cond}
use mathlib.Core.List.{List, [], ◌∷◌, ◌++◌}
use Prim.Native.Nat.{ℕ, zero, suc, ◌+◌, ◌≤◌, ◌<◌}
use native.Mathlib.Nat.{not-suc-le-zero}
use native.Mathlib.Omega.{arith}
use lib.Dec.{eqb, ltb}
use lib.ListN.{length, length-append}
use borrow.Author.Tests.{eqb-true, ltb-true, ltb-false}
use Rattle.names.specs.declared.Name.{Name}
use Rattle.kinds.specs.Kinds.{kind_point, kind_line_string, kind_polygon, kind_multi_point, kind_multi_line_string, kind_multi_polygon, kind_geometry_collection, dim_xy, has_z, has_m}
use Rattle.names.specs.Names.{meaning, ending, is_empty_word}
use Rattle.scan.specs.Bytes.{is_ascii}
use Rattle.lists.specs.Lists.{every}
use Rattle.limits.specs.Limits.{text_limit, over_limit, depth_limit}
use Rattle.utf8.specs.Utf8.{is_utf8}
use Rattle.utf8.proofs.Walk.{in_text}
use Rattle.store.specs.Rows.{Row, Span, span}
use Rattle.store.proofs.Rows.{close_in_length}
use Rattle.token.specs.declared.Refusal.{Refusal}
use Rattle.token_stream.specs.Stream.{Tok, Str, end, then, hd, tl, size}
use Rattle.tokenizer.specs.Tokens.{cursor_at}
use Rattle.token_stream.specs.Lex.{lex}
use Rattle.token_stream.proofs.Stream.{size_tl, stream_size}
use Rattle.lists.proofs.Cases.{either}
use Rattle.token_stream.proofs.Bridge.{toks_lex}
use Rattle.grammar.specs.Asks.{P, ret, ask, look, bind, Ran, ran, run, answer_in, left_in}
use Rattle.grammar.specs.Tokens.{sort_open, sort_close, sort_comma, sort_number, sort_word, sort_of, place_of, start_of, text_of}
use Rattle.grammar.specs.Grammar.{Out, out, Got, ok, refused, halt, Head, opens, empty, wrong, refusal, and_then, fill, rows_used, items, closing, add_node, add_number, number, then_number, if_asked, coord, point_body, opened, is_empty_tok, opening, opener, header_ending, header, by_name, child_head, root_head, line_body, parens, line_in, line_of, lines_body, polygon_in, polygon_of, polygons_body, point_in, bare_point, point_of, points_body, multi, simple, geometry_by, child_of, collection, geometry, root}
use Rattle.grammar.specs.Reading.{enough, reading}
use Rattle.lists.specs.Lists.{All}
use Rattle.grammar.specs.Answers.{Passes, is_refusal, Refused, Halted, Kept}
use Rattle.tree.specs.TreeIn.{NumberIn, SpanIn}
use Rattle.grammar_laws.proofs.Asks.{after, run_bind}
use Rattle.grammar_laws.proofs.Tokens.{TokIn, ToksIn, hd_in, tl_in, place_in, refusal_in, number_in, lex_in}

all_snoc : {A : Type 0} (Q : A → Type 0) (l : List A) (a : A) → All Q l → Q a → All Q (l ++ a ∷ [])
unfolding All
all_snoc Q [] a h q = (q, tt)
all_snoc Q (x ∷ l) a h q = (h.0, all_snoc Q l a h.1 q)

-- behind a comma a stream is shorter
comma_less : (s : Str) → sort_of (hd s) ≡ sort_comma → size (tl s) < size s
unfolding size
comma_less (end n) e = absurd (omega (arith, e))
comma_less (then t s) e = omega arith

module _ (text : List ℕ) (N M : ℕ) where
  abbrev pub OutIn : Out → Type 0
  OutIn (out rs ss) = Kept text N M rs ss

  abbrev pub GotIn : Got → Type 0
  GotIn (ok o) = OutIn o
  GotIn (refused r) = Refused text r
  GotIn (halt r) = Halted text r

  abbrev HeadIn : Head → Type 0
  HeadIn (opens k d p) = p ≤ length text
  HeadIn (empty k d p) = p ≤ length text
  HeadIn (wrong r) = Refused text r

  -- on streams of at most L tokens of the text, p and q come to the same, and Q holds of it
  Alike : {A : Type 0} → (A → Type 0) → ℕ → P A → P A → Type 0
  Alike Q L p q = (s : Str) → ToksIn text s → size s ≤ L → (run p s ≡ run q s) × Q (answer_in (run p s))

  module _ {A : Type 0} (Q : A → Type 0) where
    alike_less : (L L' : ℕ) (p q : P A) → L' ≤ L → Alike Q L p q → Alike Q L' p q
    unfolding Alike
    alike_less L L' p q h k s a l = k s a (omega arith)

    alike_ret : (L : ℕ) (x : A) → Q x → Alike Q L (ret x) (ret x)
    unfolding Alike run
    alike_ret L x h s a l = (refl, h)

    alike_ask : (L : ℕ) (k k' : Tok → P A) → ((t : Tok) → TokIn text t → Alike Q L (k t) (k' t)) → Alike Q L (ask k) (ask k')
    unfolding Alike run
    alike_ask L k k' h s a l = h (hd s) (hd_in text s a) (tl s) (tl_in text s a) (omega (arith, size_tl s))

    alike_look : (L : ℕ) (k k' : Tok → P A) → ((t : Tok) → TokIn text t → Alike Q L (k t) (k' t)) → Alike Q L (look k) (look k')
    unfolding Alike run
    alike_look L k k' h s a l = h (hd s) (hd_in text s a) s a l

    alike_cond : (L : ℕ) (b : Bool) (p q p' q' : P A) → Alike Q L p p' → Alike Q L q q' → Alike Q L (cond b p q) (cond b p' q')
    alike_cond L true p q p' q' h k = h
    alike_cond L false p q p' q' h k = k

  -- what a reader leaves
  run_in : {A : Type 0} (p : P A) (s : Str) → ToksIn text s → ToksIn text (left_in (run p s)) × (size (left_in (run p s)) ≤ size s)
  unfolding run
  run_in (ret x) s a = (a, omega arith)
  run_in (ask k) s a = let r = run_in (k (hd s)) (tl s) (tl_in text s a) in (r.0, omega (arith, r.1, size_tl s))
  run_in (look k) s a = run_in (k (hd s)) s a

  alike_bind : {A B : Type 0} (Q : A → Type 0) (R : B → Type 0) (L : ℕ) (p q : P A) (f g : A → P B) → Alike Q L p q → ((x : A) → Q x → Alike R L (f x) (g x)) → Alike R L (bind p f) (bind q g)
  unfolding Alike
  alike_bind {A} {B} Q R L p q f g h k s a l = rw (run_bind p f s, run_bind q g s, ← (h s a l).0) (go (run p s) (run_in p s a) (h s a l).1)
    where
      go : (x : Ran A) → ToksIn text (left_in x) × (size (left_in x) ≤ size s) → Q (answer_in x) → (after f x ≡ after g x) × R (answer_in (after f x))
      go (ran x s1) z w = k x w s1 z.0 (omega (arith, z.1))

  module _ (L : ℕ) where
    -- two readers of a part; of a body, which has a row; of what was opened at a place
    Part : (Out → P Got) → (Out → P Got) → Type 0
    Part g g' = (o : Out) → OutIn o → Alike GotIn L (g o) (g' o)

    Body : (ℕ → Out → P Got) → (ℕ → Out → P Got) → Type 0
    Body f f' = (i : ℕ) → Part (f i) (f' i)

    Opened : (ℕ → Out → P Got) → (ℕ → Out → P Got) → Type 0
    Opened f f' = (p : ℕ) → p ≤ length text → Part (f p) (f' p)

    then_alike : (r : Got) (f f' : Out → P Got) → GotIn r → Part f f' → Alike GotIn L (and_then r f) (and_then r f')
    unfolding and_then Part
    then_alike (ok o) f f' h k = k o h
    then_alike (refused r) f f' h k = alike_ret GotIn L (refused r) h
    then_alike (halt r) f f' h k = alike_ret GotIn L (halt r) h

    fill_in : (i n : ℕ) (o : Out) → OutIn o → OutIn (fill i n o)
    fill_in i n (out rs ss) h = record { nodes = rw close_in_length h.nodes; numbers = h.numbers; spans = h.spans }

    node_in : (o : Out) (p k d : ℕ) → p ≤ length text → OutIn o → GotIn (add_node N o p k d)
    node_in (out rs ss) p k d l h =
        either (ltb (length rs) N) GotIn _ _
        (λ e. record { nodes = rw length-append (omega (arith, ltb-true (length rs) N e)); numbers = h.numbers; spans = h.spans })
        λ e. record { number = refl; place = l }

    add_in : (o : Out) (p q : ℕ) (x : List ℕ) → p ≤ length text → NumberIn text q (length x) x → OutIn o → GotIn (add_number M o p q x)
    add_in (out rs ss) p q x l g h =
        either (ltb (length ss) M) GotIn _ _
        (λ e. record { nodes = h.nodes; numbers = rw length-append (omega (arith, ltb-true (length ss) M e)); spans = all_snoc (SpanIn text) ss (span q (length x) x) h.spans g })
        λ e. record { number = refl; place = l }

    -- coordinates
    number_alike : (e : ℕ) → is_refusal e ≡ true → Part (number M e) (number M e)
    unfolding number Part
    number_alike e g o h =
        alike_ask GotIn L _ _ λ t a. alike_ret GotIn L _
        (either (eqb (sort_of t) sort_number) GotIn _ _
        (λ s. add_in o (place_of t) (start_of t) (text_of t) (place_in text t a) (number_in text t a (eqb-true (sort_of t) sort_number s)) h)
        λ s. refusal_in text e g t a)

    then_number_law : (e : ℕ) → is_refusal e ≡ true → (r : Got) → GotIn r → Alike GotIn L (then_number M e r) (then_number M e r)
    unfolding then_number
    then_number_law e g r h = then_alike r _ _ h (number_alike e g)

    if_asked_law : (asked : Bool) (e : ℕ) → is_refusal e ≡ true → (r : Got) → GotIn r → Alike GotIn L (if_asked M asked e r) (if_asked M asked e r)
    unfolding if_asked
    if_asked_law asked e g r h = alike_cond GotIn L asked _ _ _ _ (then_number_law e g r h) (alike_ret GotIn L r h)

    coord_alike : (d : ℕ) → Part (coord M d) (coord M d)
    unfolding coord Part
    coord_alike d o h =
        alike_bind GotIn GotIn L _ _ _ _ (number_alike 14 refl o h) λ x hx.
        alike_bind GotIn GotIn L _ _ _ _ (then_number_law 15 refl x hx) λ y hy.
        alike_bind GotIn GotIn L _ _ _ _ (if_asked_law (has_z d) 16 refl y hy) λ z hz. if_asked_law (has_m d) 17 refl z hz

    point_body_law : (d : ℕ) → Body (point_body M d) (point_body M d)
    unfolding point_body Body Part
    point_body_law d i o h = alike_bind GotIn GotIn L _ _ _ _ (coord_alike d o h) λ r hr. then_alike r _ _ hr λ o1 h1. alike_ret GotIn L _ (fill_in i 1 o1 h1)

    -- parentheses
    close_alike : (r : Got) → GotIn r → Alike GotIn L (closing r) (closing r)
    unfolding closing
    close_alike (ok o) h = alike_ask GotIn L _ _ λ t a. alike_ret GotIn L _ (either (eqb (sort_of t) sort_close) GotIn _ _ (λ e. h) λ e. refusal_in text 13 refl t a)
    close_alike (refused r) h = alike_ask GotIn L _ _ λ t a. alike_ret GotIn L _ (either (eqb (sort_of t) sort_close) GotIn _ _ (λ e. h) λ e. refusal_in text 13 refl t a)
    close_alike (halt r) h = alike_ret GotIn L (halt r) h

    opened_alike : (k d : ℕ) (b b' : ℕ → Out → P Got) → Body b b' → Opened (opened N k d b) (opened N k d b')
    unfolding opened Opened Body Part
    opened_alike k d b b' e p l o h =
        then_alike (add_node N o p k d) _ _ (node_in o p k d l h) λ o1 h1. alike_bind GotIn GotIn L _ _ _ _ (e (rows_used o) o1 h1) close_alike

    -- heads
    opening_in : (k d : ℕ) (t : Tok) → TokIn text t → HeadIn (opening k d t)
    unfolding opening
    opening_in k d t a =
        either (eqb (sort_of t) sort_open) HeadIn _ _ (λ e. place_in text t a) λ e.
        either (is_empty_tok t) HeadIn _ _ (λ f. place_in text t a) λ f. refusal_in text 12 refl t a

    opener_alike : (k d : ℕ) → Alike HeadIn L (opener k d) (opener k d)
    unfolding opener
    opener_alike k d = alike_ask HeadIn L _ _ λ t a. alike_ret HeadIn L _ (opening_in k d t a)

    wrong_alike : (e : ℕ) → is_refusal e ≡ true → (t : Tok) → TokIn text t → Alike HeadIn L (ret (wrong (refusal e (place_of t)))) (ret (wrong (refusal e (place_of t))))
    wrong_alike e g t a = alike_ret HeadIn L _ (record { number = g; place = place_in text t a })

    ending_alike : (k : ℕ) (t : Tok) → TokIn text t → (e : Option ℕ) → Alike HeadIn L (header_ending k t e) (header_ending k t e)
    ending_alike k t a (Some d) = alike_ask HeadIn L _ _ λ z b. opener_alike k d
    ending_alike k t a None = alike_cond HeadIn L (is_empty_word (text_of t)) _ _ _ _ (opener_alike k dim_xy) (wrong_alike 11 refl t a)

    header_alike : (k : ℕ) → Alike HeadIn L (header k) (header k)
    unfolding header
    header_alike k =
        alike_look HeadIn L _ _ λ t a. alike_cond HeadIn L (ltb (sort_of t) sort_open) _ _ _ _ (wrong_alike 10 refl t a)
        (alike_cond HeadIn L (eqb (sort_of t) sort_word) _ _ _ _ (ending_alike k t a (ending (text_of t))) (opener_alike k dim_xy))

    name_alike : (t : Tok) → TokIn text t → (n : Option Name) → Alike HeadIn L (by_name (place_of t) n) (by_name (place_of t) n)
    name_alike t a None = wrong_alike 9 refl t a
    name_alike t a (Some (Name.Bare k)) = header_alike k
    name_alike t a (Some (Name.Joined k d)) = opener_alike k d

    child_head_law : Alike HeadIn L child_head child_head
    unfolding child_head
    child_head_law =
        alike_ask HeadIn L _ _ λ t a. alike_cond HeadIn L (eqb (sort_of t) sort_word) _ _ _ _ (name_alike t a (meaning (text_of t)))
        (alike_ret HeadIn L _ (refusal_in text 18 refl t a))

    root_head_law : Alike HeadIn L root_head root_head
    unfolding root_head
    root_head_law =
        alike_ask HeadIn L _ _ λ t a. alike_cond HeadIn L (eqb (sort_of t) sort_word) _ _ _ _
        (alike_cond HeadIn L (every is_ascii (text_of t)) _ _ _ _ (name_alike t a (meaning (text_of t))) (wrong_alike 7 refl t a))
        (alike_ret HeadIn L _ (refusal_in text 8 refl t a))

  -- each turn of a loop takes a comma
  turn_alike : (L n i : ℕ) (p q : P Got) (o : Out) → OutIn o → ((m : ℕ) → m < L → Alike GotIn m p q)
      → Alike GotIn L (look λ t. cond (eqb (sort_of t) sort_comma) (ask λ c. p) (ret (ok (fill i n o)))) (look λ t. cond (eqb (sort_of t) sort_comma) (ask λ c. q) (ret (ok (fill i n o))))
  unfolding Alike run
  turn_alike L n i p q o h k s a l = go (eqb (sort_of (hd s)) sort_comma) refl
    where
      go : (b : Bool) → eqb (sort_of (hd s)) sort_comma ≡ b
          → (run (cond b (ask λ c. p) (ret (ok (fill i n o)))) s ≡ run (cond b (ask λ c. q) (ret (ok (fill i n o)))) s) × GotIn (answer_in (run (cond b (ask λ c. p) (ret (ok (fill i n o)))) s))
      go true e = k (size (tl s)) (omega (arith, comma_less s (eqb-true (sort_of (hd s)) sort_comma e))) (tl s) (tl_in text s a) (omega arith)
      go false e = (refl, fill_in L i n o h)

  items_alike : (g g' : Out → P Got) (F F' L n i : ℕ) (o : Out) → OutIn o → L < F → L < F' → Part L g g' → Alike GotIn L (items g F n i o) (items g' F' n i o)
  unfolding items Part
  items_alike g g' zero F' L n i o a h h' e = absurd (not-suc-le-zero h)
  items_alike g g' (suc F) zero L n i o a h h' e = absurd (not-suc-le-zero h')
  items_alike g g' (suc F) (suc F') L n i o a h h' e =
      alike_bind GotIn GotIn L _ _ _ _ (e o a) λ r hr. then_alike L r _ _ hr λ o1 h1.
      turn_alike L (n + 1) i _ _ o1 h1 λ m l. items_alike g g' F F' m (n + 1) i o1 h1 (omega arith) (omega arith) λ o2 h2. alike_less GotIn L m _ _ (omega arith) (e o2 h2)

  module _ (L F F' : ℕ) (h : L < F) (h' : L < F') where
    list_alike : (g g' : Out → P Got) → Part L g g' → Body L (λ i o. items g F 0 i o) (λ i o. items g' F' 0 i o)
    unfolding Body Part
    list_alike g g' e i o a = items_alike g g' F F' L 0 i o a h h' e

    parens_alike : (f f' : ℕ → ℕ → Out → P Got) → ((d : ℕ) → Opened L (f d) (f' d)) → (o : Out) → OutIn o → (x : Head) → HeadIn x → Alike GotIn L (parens N M F f o x) (parens N M F' f' o x)
    unfolding parens Opened Part
    parens_alike f f' e o a (opens k d p) l = e d p l o a
    parens_alike f f' e o a (empty k d p) l = alike_ret GotIn L _ (node_in L o p k d l a)
    parens_alike f f' e o a (wrong r) l = alike_ret GotIn L _ l

    line_in_law : (d : ℕ) → Opened L (line_in N M F d) (line_in N M F' d)
    unfolding line_in line_body
    line_in_law d = opened_alike L kind_line_string d _ _ (list_alike _ _ (coord_alike L d))

    line_of_law : (d : ℕ) → Part L (line_of N M F d) (line_of N M F' d)
    unfolding line_of Part
    line_of_law d o a = alike_bind HeadIn GotIn L _ _ _ _ (opener_alike L kind_line_string d) (parens_alike _ _ line_in_law o a)

    lines_body_law : (d : ℕ) → Body L (lines_body N M F d) (lines_body N M F' d)
    unfolding lines_body
    lines_body_law d = list_alike _ _ (line_of_law d)

    polygon_in_law : (d : ℕ) → Opened L (polygon_in N M F d) (polygon_in N M F' d)
    unfolding polygon_in
    polygon_in_law d = opened_alike L kind_polygon d _ _ (lines_body_law d)

    polygon_of_law : (d : ℕ) → Part L (polygon_of N M F d) (polygon_of N M F' d)
    unfolding polygon_of Part
    polygon_of_law d o a = alike_bind HeadIn GotIn L _ _ _ _ (opener_alike L kind_polygon d) (parens_alike _ _ polygon_in_law o a)

    polygons_body_law : (d : ℕ) → Body L (polygons_body N M F d) (polygons_body N M F' d)
    unfolding polygons_body
    polygons_body_law d = list_alike _ _ (polygon_of_law d)

    point_in_law : (d : ℕ) → Opened L (point_in N M F d) (point_in N M F' d)
    unfolding point_in
    point_in_law d = opened_alike L kind_point d _ _ (point_body_law L d)

    bare_point_law : (d : ℕ) → Opened L (bare_point N M F d) (bare_point N M F' d)
    unfolding bare_point Opened Body Part
    bare_point_law d p l o a = then_alike L _ _ _ (node_in L o p kind_point d l a) λ o1 h1. point_body_law L d (rows_used o) o1 h1

    point_of_law : (d : ℕ) → Part L (point_of N M F d) (point_of N M F' d)
    unfolding point_of Opened Part
    point_of_law d o a =
        alike_look GotIn L _ _ λ t b. alike_cond GotIn L (eqb (sort_of t) sort_open) _ _ _ _
        (alike_ask GotIn L _ _ λ u c. point_in_law d (place_of u) (place_in text u c) o a) (bare_point_law d (place_of t) (place_in text t b) o a)

    points_body_law : (d : ℕ) → Body L (points_body N M F d) (points_body N M F' d)
    unfolding points_body
    points_body_law d = list_alike _ _ (point_of_law d)

    multi_alike : (k d : ℕ) → Opened L (multi N M F k d) (multi N M F' k d)
    unfolding multi Opened Part
    multi_alike k d p l o a =
        alike_cond GotIn L (eqb k kind_multi_point) _ _ _ _ (opened_alike L kind_multi_point d _ _ (points_body_law d) p l o a)
        (alike_cond GotIn L (eqb k kind_multi_line_string) _ _ _ _ (opened_alike L kind_multi_line_string d _ _ (lines_body_law d) p l o a)
        (opened_alike L kind_multi_polygon d _ _ (polygons_body_law d) p l o a))

    simple_alike : (k d : ℕ) → Opened L (simple N M F k d) (simple N M F' k d)
    unfolding simple Opened Part
    simple_alike k d p l o a =
        alike_cond GotIn L (eqb k kind_point) _ _ _ _ (point_in_law d p l o a)
        (alike_cond GotIn L (eqb k kind_line_string) _ _ _ _ (line_in_law d p l o a)
        (alike_cond GotIn L (eqb k kind_polygon) _ _ _ _ (polygon_in_law d p l o a) (multi_alike k d p l o a)))

    geometry_alike : (C C' : ℕ → ℕ → Out → P Got) → ((d : ℕ) → Opened L (C d) (C' d)) → (o : Out) → OutIn o → (x : Head) → HeadIn x → Alike GotIn L (geometry_by N M F C o x) (geometry_by N M F' C' o x)
    unfolding geometry_by Opened Part
    geometry_alike C C' e o a (opens k d p) l = alike_cond GotIn L (eqb k kind_geometry_collection) _ _ _ _ (e d p l o a) (simple_alike k d p l o a)
    geometry_alike C C' e o a (empty k d p) l = alike_ret GotIn L _ (node_in L o p k d l a)
    geometry_alike C C' e o a (wrong r) l = alike_ret GotIn L _ l

    child_alike : (C C' : ℕ → ℕ → Out → P Got) → ((d : ℕ) → Opened L (C d) (C' d)) → Part L (child_of N M F C) (child_of N M F' C')
    unfolding child_of Part
    child_alike C C' e o a = alike_bind HeadIn GotIn L _ _ _ _ (child_head_law L) (geometry_alike C C' e o a)

    collection_alike : (n d : ℕ) → Opened L (collection N M F n d) (collection N M F' n d)
    unfolding collection Opened Part
    collection_alike zero d p l o a = alike_ret GotIn L _ (record { number = refl; place = l })
    collection_alike (suc n) d p l o a = opened_alike L kind_geometry_collection d _ _ (list_alike _ _ (child_alike _ _ (collection_alike n))) p l o a

    root_alike : (n : ℕ) → Alike GotIn L (root N M F n) (root N M F' n)
    unfolding root geometry All
    root_alike n =
        alike_bind HeadIn GotIn L _ _ _ _ (root_head_law L)
        (geometry_alike _ _ (collection_alike n) (out [] []) (record { nodes = omega arith; numbers = omega arith; spans = tt }))

-- a text has no more tokens than bytes, and one
pub lex_size : (text : List ℕ) → size (lex 0 text) ≤ length text + 1
unfolding Rattle.token_stream.specs.Stream.stream
lex_size text = rw (toks_lex text) at (stream_size text (cursor_at 0))

-- the tokens of a text, read with any two counts that are greater than there are tokens, come to the same
pub fuel : (N M F F' n : ℕ) (text : List ℕ) → size (lex 0 text) < F → size (lex 0 text) < F' → run (root N M F n) (lex 0 text) ≡ run (root N M F' n) (lex 0 text)
unfolding Alike
fuel N M F F' n text h h' = (root_alike text N M (size (lex 0 text)) F F' h h' n (lex 0 text) (lex_in text) (omega arith)).0

-- and the answer is one of those that there are
pub answer_in_law : (N M F n : ℕ) (text : List ℕ) → size (lex 0 text) < F → GotIn text N M (answer_in (run (root N M F n) (lex 0 text)))
unfolding Alike
answer_in_law N M F n text h = (root_alike text N M (size (lex 0 text)) F F h h n (lex 0 text) (lex_in text) (omega arith)).1

-- so the count that `reading` takes is no part of what it means: any other that is large enough gives the same
pub any_count : (N M F : ℕ) (text : List ℕ) → Passes text → length text + 1 < F → reading N M text ≡ answer_in (run (root N M F depth_limit) (lex 0 text))
unfolding reading
any_count N M F text h l =
    rw (h.short, h.utf8)
    (ap answer_in (fuel N M enough F depth_limit text (omega (arith, lex_size text, ltb-false text_limit (length text) h.short)) (omega (arith, lex_size text))))

-- what every reading comes to
pub reading_in : (N M : ℕ) (text : List ℕ) → GotIn text N M (reading N M text)
unfolding reading
reading_in N M text =
    either (over_limit (length text)) (GotIn text N M) _ _ (λ e. record { number = refl; place = omega (arith, ltb-true text_limit (length text) e) }) λ e.
    either (is_utf8 text) (GotIn text N M) _ _
    (λ u. answer_in_law N M enough depth_limit text (omega (arith, lex_size text, ltb-false text_limit (length text) e)))
    λ u. record { number = refl; place = in_text text }

-- every refusal of a reading is one of the table's, at a place in the text: so the count down's own answer never comes
pub reading_refusals : (N M : ℕ) (text : List ℕ) (r : Refusal) → reading N M text ≡ refused r → Refused text r
reading_refusals N M text r e = rw e at (reading_in N M text)

pub reading_halts : (N M : ℕ) (text : List ℕ) (r : Refusal) → reading N M text ≡ halt r → Halted text r
reading_halts N M text r e = rw e at (reading_in N M text)

-- an accepted reading uses no more rows than there is room for, and each number row is a lexeme of the text
pub reading_kept : (N M : ℕ) (text : List ℕ) (rs : List Row) (ss : List Span) → reading N M text ≡ ok (out rs ss) → Kept text N M rs ss
reading_kept N M text rs ss e = rw e at (reading_in N M text)
