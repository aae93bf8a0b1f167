-- "Refusals: 28 and 29 in the place of 6.": a reading is the former one with its 6 renewed, and all else stays.
-- One induction over the grammar shows, of any map of refusals that leaves the grammar's own alone: over tokens whose bad numbers have mapped refusals a
-- reader comes to the mapped answer.
-- Assumes nothing.
use Rattle.std.specs.Prelude.{Option, Some, None}
use mathlib.Core.Path.{◌≡◌, refl, ap, sym, subst, ◌∙◌}
use mathlib.Core.Bool.{Bool, true, false, false≢true, not, cond, ◌&&◌}
use mathlib.Core.List.{List, []}
use mathlib.Core.Logic.{◌↔◌}
use Prim.Native.Nat.{ℕ, zero, suc, ◌+◌, ◌≤◌}
use native.Mathlib.Omega.{arith}
use lib.Dec.{eqb, leb, ltb}
use lib.ListN.{length}
use borrow.Author.Tests.{eqb-true, leb-true, not-true, ne_eqb}
use Rattle.names.specs.declared.Name.{Name}
use Rattle.kinds.specs.Kinds.{kind_point, kind_line_string, kind_polygon, kind_multi_point, kind_multi_line_string, kind_multi_polygon, kind_geometry_collection, dim_xy, has_z, has_m}
use Rattle.names.specs.Names.{meaning, ending, is_empty_word}
use Rattle.scan.specs.Bytes.{is_ascii}
use Rattle.lists.specs.Lists.{every}
use Rattle.lists.proofs.Cases.{either, and_both, or_right}
use Rattle.limits.specs.Limits.{text_limit, over_limit, depth_limit}
use Rattle.utf8.specs.Utf8.{is_utf8, first_ill}
use Rattle.refusals.specs.Refusals.{no_node_row, too_deep, bad_number, no_child, nothing_after_plus, number_goes_wrong}
use Rattle.token.specs.declared.Refusal.{Refusal}
use Rattle.token.specs.declared.Found.{Found}
use Rattle.token.specs.declared.Token.{Token}
use Rattle.token.specs.declared.Token.TheVariants.{Comma, Number, ParenClose, ParenOpen, Word}
use Rattle.token.specs.Tokens.{is_bad_number, bad_number_at, bad_at, end_of, read_at}
use Rattle.token.proofs.BadNumbers.{bad_is, wrong_in}
use Rattle.scan.specs.Front.{part}
use Rattle.token_stream.specs.Lex.{lex}
use Rattle.token_stream.specs.Stream.{open_tk, close_tk, comma_tk, none_tk, bad_tk, word_tk, number_tk, Tok, tok, Str, end, then, hd, tl, tok_in, toks}
use Rattle.token_stream.proofs.Each.{Toks, toks_all}
use Rattle.token_stream.proofs.Bridge.{toks_lex}
use Rattle.grammar.specs.Asks.{P, ret, ask, look, bind, Ran, ran, run, answer_in}
use Rattle.grammar.specs.Tokens.{sort_open, sort_close, sort_comma, sort_number, sort_word, sort_of, place_of, start_of, text_of, refusal_at}
use Rattle.grammar.specs.Grammar.{Out, out, Got, ok, refused, halt, Head, opens, empty, wrong, refusal, refuse, and_then, fill, rows_used, items, close_by, closing, add_node, add_number, take_number, number, then_number, if_asked, coord, point_body, opened, is_empty_tok, opening, opener, header_ending, header, by_name, child_head, root_head, line_body, parens, line_in, line_of, lines_body, polygon_in, polygon_of, polygons_body, point_in, bare_point, point_of, points_body, multi, simple, geometry_by, child_of, collection, geometry, root}
use Rattle.grammar.specs.Reading.{enough, reading_over, reading}
use Rattle.grammar.specs.Answers.{is_halt}
use Rattle.grammar.specs.Former.{tok_with, str_with, former, former_reading, renewal, got_with, renewed, number_in, says_bad, Change, renews, stays}
use Rattle.grammar_laws.proofs.Asks.{after, run_bind}
use Rattle.grammar_laws.proofs.Fuel.{reading_halts}

-- the numbers that a reading gives of itself: all but a bad number's
abbrev pub is_own : ℕ → Bool
is_own e = leb e no_child && not (eqb e bad_number)

module _ (g : Refusal → Refusal) (keep : (e p : ℕ) → is_own e ≡ true → g (refusal e p) ≡ refusal e p) where
  abbrev on_tok : Tok → Tok
  on_tok t = tok_with (λ p r. g r) t

  abbrev on_str : Str → Str
  on_str s = str_with (λ p r. g r) s

  abbrev on_got : Got → Got
  on_got x = got_with g x

  abbrev on_head : Head → Head
  on_head (opens k d p) = opens k d p
  on_head (empty k d p) = empty k d p
  on_head (wrong r) = wrong (g r)

  abbrev on_ran : {A : Type 0} → (A → A) → Ran A → Ran A
  on_ran f (ran a s) = ran (f a) (on_str s)

  -- ---- tokens
  hd_on : (s : Str) → hd (on_str s) ≡ on_tok (hd s)
  unfolding str_with
  hd_on (end n) = refl
  hd_on (then t s) = refl

  tl_on : (s : Str) → tl (on_str s) ≡ on_str (tl s)
  unfolding str_with
  tl_on (end n) = refl
  tl_on (then t s) = refl

  -- what the grammar asks of a token, but for its refusal, is the same
  record Alike (t u : Tok) : Type 0 where
    sort : sort_of t ≡ sort_of u
    place : place_of t ≡ place_of u
    start : start_of t ≡ start_of u
    bytes : text_of t ≡ text_of u

  alike : (t : Tok) → Alike (on_tok t) t
  alike (tok p none_tk) = record { sort = refl; place = refl; start = refl; bytes = refl }
  alike (tok p (bad_tk r)) = record { sort = refl; place = refl; start = refl; bytes = refl }
  alike (tok p open_tk) = record { sort = refl; place = refl; start = refl; bytes = refl }
  alike (tok p close_tk) = record { sort = refl; place = refl; start = refl; bytes = refl }
  alike (tok p comma_tk) = record { sort = refl; place = refl; start = refl; bytes = refl }
  alike (tok p (number_tk q x)) = record { sort = refl; place = refl; start = refl; bytes = refl }
  alike (tok p (word_tk w)) = record { sort = refl; place = refl; start = refl; bytes = refl }

  refusal_on : (e : ℕ) → is_own e ≡ true → (t : Tok) → refusal_at e (on_tok t) ≡ g (refusal_at e t)
  refusal_on e h (tok p none_tk) = sym (keep e p h)
  refusal_on e h (tok p (bad_tk r)) = refl
  refusal_on e h (tok p open_tk) = sym (keep e p h)
  refusal_on e h (tok p close_tk) = sym (keep e p h)
  refusal_on e h (tok p comma_tk) = sym (keep e p h)
  refusal_on e h (tok p (number_tk q x)) = sym (keep e p h)
  refusal_on e h (tok p (word_tk w)) = sym (keep e p h)

  -- ---- readers: over the mapped stream p comes to what q comes to over the stream, mapped
  Same : {A : Type 0} → (A → A) → P A → P A → Type 0
  Same f p q = (s : Str) → run p (on_str s) ≡ on_ran f (run q s)

  module _ {A : Type 0} (f : A → A) where
    same_ret : {x : A} (y : A) → x ≡ f y → Same f (ret x) (ret y)
    unfolding Same run
    same_ret y e s = rw e

    same_ask : (k l : Tok → P A) → ((t : Tok) → Same f (k (on_tok t)) (l t)) → Same f (ask k) (ask l)
    unfolding Same run
    same_ask k l h s = rw (hd_on s, tl_on s) (h (hd s) (tl s))

    same_look : (k l : Tok → P A) → ((t : Tok) → Same f (k (on_tok t)) (l t)) → Same f (look k) (look l)
    unfolding Same run
    same_look k l h s = rw (hd_on s) (h (hd s) s)

    same_cond : (b c : Bool) (p q p' q' : P A) → b ≡ c → Same f p p' → Same f q q' → Same f (cond b p q) (cond c p' q')
    same_cond b true p q p' q' e h k = rw e h
    same_cond b false p q p' q' e h k = rw e k

  same_bind : {A B : Type 0} (f : A → A) (h : B → B) (p q : P A) (k l : A → P B) → Same f p q → ((x : A) → Same h (k (f x)) (l x)) → Same h (bind p k) (bind q l)
  unfolding Same
  same_bind {A} {B} f h p q k l e w s = rw (run_bind p k (on_str s), run_bind q l s, e s) (go (run q s))
    where
      go : (x : Ran A) → after k (on_ran f x) ≡ on_ran h (after l x)
      go (ran x s1) = w x s1

  -- ---- the grammar
  Part : (Out → P Got) → Type 0
  Part r = (o : Out) → Same on_got (r o) (r o)

  then_on : (x y : Got) (f : Out → P Got) → x ≡ on_got y → Part f → Same on_got (and_then x f) (and_then y f)
  unfolding and_then Part
  then_on x (ok o) f e h = rw e (h o)
  then_on x (refused r) f e h = rw e (same_ret on_got (refused r) refl)
  then_on x (halt r) f e h = rw e (same_ret on_got (halt r) refl)

  -- rows are used as before
  node_on : (N : ℕ) (o : Out) (p k d : ℕ) → add_node N o p k d ≡ on_got (add_node N o p k d)
  node_on N (out rs ss) p k d = either (ltb (length rs) N) (λ x. x ≡ on_got x) _ _ (λ e. refl) λ e. refl

  add_on : (M : ℕ) (o : Out) (p q : ℕ) (x : List ℕ) → add_number M o p q x ≡ on_got (add_number M o p q x)
  add_on M (out rs ss) p q x = either (ltb (length ss) M) (λ y. y ≡ on_got y) _ _ (λ e. refl) λ e. refl

  module _ (M : ℕ) where
    take_on : (e : ℕ) → is_own e ≡ true → (o : Out) (t : Tok) → take_number M e o (on_tok t) ≡ on_got (take_number M e o t)
    take_on e h o t =
        let a = alike t in
        rw (a.sort, a.place, a.start, a.bytes, refusal_on e h t) (go (eqb (sort_of t) sort_number))
      where
        go : (b : Bool) → cond b (add_number M o (place_of t) (start_of t) (text_of t)) (refused (g (refusal_at e t))) ≡ on_got (cond b (add_number M o (place_of t) (start_of t) (text_of t)) (refuse e t))
        go true = add_on M o (place_of t) (start_of t) (text_of t)
        go false = refl

    number_on : (e : ℕ) → is_own e ≡ true → Part (number M e)
    unfolding number Part
    number_on e h o = same_ask on_got _ _ λ t. same_ret on_got _ (take_on e h o t)

    then_number_law : (e : ℕ) → is_own e ≡ true → (x : Got) → Same on_got (then_number M e (on_got x)) (then_number M e x)
    unfolding then_number
    then_number_law e h x = then_on (on_got x) x (number M e) refl (number_on e h)

    if_asked_law : (asked : Bool) (e : ℕ) → is_own e ≡ true → (x : Got) → Same on_got (if_asked M asked e (on_got x)) (if_asked M asked e x)
    unfolding if_asked
    if_asked_law true e h x = then_number_law e h x
    if_asked_law false e h x = same_ret on_got x refl

    coord_on : (d : ℕ) → Part (coord M d)
    unfolding coord Part
    coord_on d o =
        same_bind on_got on_got _ _ _ _ (number_on 14 refl o) λ x.
        same_bind on_got on_got _ _ _ _ (then_number_law 15 refl x) λ y.
        same_bind on_got on_got _ _ _ _ (if_asked_law (has_z d) 16 refl y) λ z. if_asked_law (has_m d) 17 refl z

    point_body_law : (d i : ℕ) → Part (point_body M d i)
    unfolding point_body Part
    point_body_law d i o = same_bind on_got on_got _ _ _ _ (coord_on d o) λ x. then_on (on_got x) x _ refl λ o1. same_ret on_got (ok (fill i 1 o1)) refl

  -- each turn of a loop
  items_on : (r : Out → P Got) → Part r → (F n i : ℕ) → Part (items r F n i)
  unfolding items Part
  items_on r e zero n i o = same_ret on_got _ (ap refused (sym (keep 0 0 refl)))
  items_on r e (suc F) n i o =
      same_bind on_got on_got _ _ _ _ (e o) λ x. then_on (on_got x) x _ refl λ o1.
      same_look on_got _ _ λ t. same_cond on_got _ _ _ _ _ _ (ap (λ (j : ℕ). eqb j sort_comma) (alike t).sort)
      (same_ask on_got _ _ λ c. items_on r e F (n + 1) i o1) (same_ret on_got (ok (fill i (n + 1) o1)) refl)

  -- parentheses
  close_by_law : (t : Tok) (x : Got) → close_by (on_tok t) (on_got x) ≡ on_got (close_by t x)
  close_by_law t x = rw ((alike t).sort, refusal_on 13 refl t) (go (eqb (sort_of t) sort_close))
    where
      go : (b : Bool) → cond b (on_got x) (refused (g (refusal_at 13 t))) ≡ on_got (cond b x (refuse 13 t))
      go true = refl
      go false = refl

  close_on : (x : Got) → Same on_got (closing (on_got x)) (closing x)
  unfolding closing
  close_on (ok o) = same_ask on_got _ _ λ t. same_ret on_got _ (close_by_law t (ok o))
  close_on (refused r) = same_ask on_got _ _ λ t. same_ret on_got _ (close_by_law t (refused r))
  close_on (halt r) = same_ret on_got (halt r) refl

  opened_on : (N k d : ℕ) (b : ℕ → Out → P Got) → ((i : ℕ) → Part (b i)) → (p : ℕ) → Part (opened N k d b p)
  unfolding opened Part
  opened_on N k d b e p o = then_on _ _ _ (node_on N o p k d) λ o1. same_bind on_got on_got _ _ _ _ (e (rows_used o) o1) close_on

  -- heads
  opening_on : (k d : ℕ) (t : Tok) → opening k d (on_tok t) ≡ on_head (opening k d t)
  unfolding opening
  opening_on k d t = let a = alike t in rw (a.sort, a.place, a.bytes, refusal_on 12 refl t) (go (eqb (sort_of t) sort_open) (is_empty_tok t))
    where
      go : (b c : Bool) → cond b (opens k d (place_of t)) (cond c (empty k d (place_of t)) (wrong (g (refusal_at 12 t)))) ≡ on_head (cond b (opens k d (place_of t)) (cond c (empty k d (place_of t)) (wrong (refusal_at 12 t))))
      go true c = refl
      go false true = refl
      go false false = refl

  opener_on : (k d : ℕ) → Same on_head (opener k d) (opener k d)
  unfolding opener
  opener_on k d = same_ask on_head _ _ λ t. same_ret on_head _ (opening_on k d t)

  wrong_on : (e p : ℕ) → is_own e ≡ true → Same on_head (ret (wrong (refusal e p))) (ret (wrong (refusal e p)))
  wrong_on e p h = same_ret on_head _ (ap wrong (sym (keep e p h)))

  ending_on : (k : ℕ) (t : Tok) (e : Option ℕ) → Same on_head (header_ending k (on_tok t) e) (header_ending k t e)
  ending_on k t (Some d) = same_ask on_head _ _ λ z. opener_on k d
  ending_on k t None =
      let a = alike t in
      same_cond on_head _ _ _ _ _ _ (ap is_empty_word a.bytes) (opener_on k dim_xy) (rw a.place (wrong_on 11 (place_of t) refl))

  header_on : (k : ℕ) → Same on_head (header k) (header k)
  unfolding header
  header_on k = same_look on_head _ _ λ t.
      (let a = alike t in
      same_cond on_head _ _ _ _ _ _ (ap (λ (j : ℕ). ltb j sort_open) a.sort) (rw a.place (wrong_on 10 (place_of t) refl))
      (same_cond on_head _ _ _ _ _ _ (ap (λ (j : ℕ). eqb j sort_word) a.sort) (rw a.bytes (ending_on k t (ending (text_of t)))) (opener_on k dim_xy)))

  name_on : (p : ℕ) (n : Option Name) → Same on_head (by_name p n) (by_name p n)
  name_on p None = wrong_on 9 p refl
  name_on p (Some (Name.Bare k)) = header_on k
  name_on p (Some (Name.Joined k d)) = opener_on k d

  child_head_law : Same on_head child_head child_head
  unfolding child_head
  child_head_law = same_ask on_head _ _ λ t.
      (let a = alike t in
      same_cond on_head _ _ _ _ _ _ (ap (λ (j : ℕ). eqb j sort_word) a.sort) (rw (a.place, a.bytes) (name_on (place_of t) (meaning (text_of t))))
      (same_ret on_head _ (ap wrong (refusal_on 18 refl t))))

  root_head_law : Same on_head root_head root_head
  unfolding root_head
  root_head_law = same_ask on_head _ _ λ t.
      (let a = alike t in
      same_cond on_head _ _ _ _ _ _ (ap (λ (j : ℕ). eqb j sort_word) a.sort)
      (same_cond on_head _ _ _ _ _ _ (ap (every is_ascii) a.bytes) (rw (a.place, a.bytes) (name_on (place_of t) (meaning (text_of t)))) (rw a.place (wrong_on 7 (place_of t) refl)))
      (same_ret on_head _ (ap wrong (refusal_on 8 refl t))))

  -- geometries
  module _ (N M F : ℕ) where
    parens_on : (f : ℕ → ℕ → Out → P Got) → ((d p : ℕ) → Part (f d p)) → (o : Out) (x : Head) → Same on_got (parens N M F f o (on_head x)) (parens N M F f o x)
    unfolding parens Part
    parens_on f e o (opens k d p) = e d p o
    parens_on f e o (empty k d p) = same_ret on_got _ (node_on N o p k d)
    parens_on f e o (wrong r) = same_ret on_got (refused r) refl

    line_in_law : (d p : ℕ) → Part (line_in N M F d p)
    unfolding line_in line_body
    line_in_law d p = opened_on N kind_line_string d _ (λ i. items_on (coord M d) (coord_on M d) F 0 i) p

    line_of_law : (d : ℕ) → Part (line_of N M F d)
    unfolding line_of Part
    line_of_law d o = same_bind on_head on_got _ _ _ _ (opener_on kind_line_string d) (parens_on _ line_in_law o)

    lines_body_law : (d i : ℕ) → Part (lines_body N M F d i)
    unfolding lines_body
    lines_body_law d i = items_on _ (line_of_law d) F 0 i

    polygon_in_law : (d p : ℕ) → Part (polygon_in N M F d p)
    unfolding polygon_in
    polygon_in_law d p = opened_on N kind_polygon d _ (lines_body_law d) p

    polygon_of_law : (d : ℕ) → Part (polygon_of N M F d)
    unfolding polygon_of Part
    polygon_of_law d o = same_bind on_head on_got _ _ _ _ (opener_on kind_polygon d) (parens_on _ polygon_in_law o)

    polygons_body_law : (d i : ℕ) → Part (polygons_body N M F d i)
    unfolding polygons_body
    polygons_body_law d i = items_on _ (polygon_of_law d) F 0 i

    point_in_law : (d p : ℕ) → Part (point_in N M F d p)
    unfolding point_in
    point_in_law d p = opened_on N kind_point d _ (point_body_law M d) p

    bare_point_law : (d p : ℕ) → Part (bare_point N M F d p)
    unfolding bare_point Part
    bare_point_law d p o = then_on _ _ _ (node_on N o p kind_point d) λ o1. point_body_law M d (rows_used o) o1

    point_of_law : (d : ℕ) → Part (point_of N M F d)
    unfolding point_of Part
    point_of_law d o = same_look on_got _ _ λ t.
        (let a = alike t in
        same_cond on_got _ _ _ _ _ _ (ap (λ (j : ℕ). eqb j sort_open) a.sort) (same_ask on_got _ _ λ u. rw (alike u).place (point_in_law d (place_of u) o)) (rw a.place (bare_point_law d (place_of t) o)))

    points_body_law : (d i : ℕ) → Part (points_body N M F d i)
    unfolding points_body
    points_body_law d i = items_on _ (point_of_law d) F 0 i

    multi_on : (k d p : ℕ) → Part (multi N M F k d p)
    unfolding multi Part
    multi_on k d p o =
        same_cond on_got (eqb k kind_multi_point) _ _ _ _ _ refl (opened_on N kind_multi_point d _ (points_body_law d) p o)
        (same_cond on_got (eqb k kind_multi_line_string) _ _ _ _ _ refl (opened_on N kind_multi_line_string d _ (lines_body_law d) p o)
        (opened_on N kind_multi_polygon d _ (polygons_body_law d) p o))

    simple_on : (k d p : ℕ) → Part (simple N M F k d p)
    unfolding simple Part
    simple_on k d p o =
        same_cond on_got (eqb k kind_point) _ _ _ _ _ refl (point_in_law d p o)
        (same_cond on_got (eqb k kind_line_string) _ _ _ _ _ refl (line_in_law d p o)
        (same_cond on_got (eqb k kind_polygon) _ _ _ _ _ refl (polygon_in_law d p o) (multi_on k d p o)))

    geometry_on : (C : ℕ → ℕ → Out → P Got) → ((d p : ℕ) → Part (C d p)) → (o : Out) (x : Head) → Same on_got (geometry_by N M F C o (on_head x)) (geometry_by N M F C o x)
    unfolding geometry_by Part
    geometry_on C e o (opens k d p) = same_cond on_got (eqb k kind_geometry_collection) _ _ _ _ _ refl (e d p o) (simple_on k d p o)
    geometry_on C e o (empty k d p) = same_ret on_got _ (node_on N o p k d)
    geometry_on C e o (wrong r) = same_ret on_got (refused r) refl

    child_of_law : (C : ℕ → ℕ → Out → P Got) → ((d p : ℕ) → Part (C d p)) → Part (child_of N M F C)
    unfolding child_of Part
    child_of_law C e o = same_bind on_head on_got _ _ _ _ child_head_law (geometry_on C e o)

    collection_on : (n d p : ℕ) → Part (collection N M F n d p)
    unfolding collection Part
    collection_on zero d p o = same_ret on_got (halt (refusal 5 p)) refl
    collection_on (suc n) d p o = opened_on N kind_geometry_collection d _ (λ i. items_on _ (child_of_law _ (collection_on n)) F 0 i) p o

    root_on : (n : ℕ) → Same on_got (root N M F n) (root N M F n)
    unfolding root geometry
    root_on n = same_bind on_head on_got _ _ _ _ root_head_law (geometry_on _ (collection_on n) (out [] []))

  -- what a text comes to, over the mapped tokens
  pub mapped : (N M : ℕ) (text : List ℕ) (s : Str) → reading_over N M text (on_str s) ≡ on_got (reading_over N M text s)
  unfolding Same
  mapped N M text s = rw (root_on N M enough depth_limit s) (go (over_limit (length text)) (is_utf8 text) (run (root N M enough depth_limit) s))
    where
      go : (b c : Bool) (x : Ran Got) → cond b (refused (refusal 1 text_limit)) (cond c (answer_in (on_ran on_got x)) (refused (refusal 2 (first_ill text)))) ≡ on_got (cond b (refused (refusal 1 text_limit)) (cond c (answer_in x) (refused (refusal 2 (first_ill text)))))
      go true c x = ap refused (sym (keep 1 text_limit refl))
      go false true (ran x s1) = refl
      go false false x = ap refused (sym (keep 2 (first_ill text) refl))

-- ---- tokens whose bad numbers have other refusals: once more, and as they are
tok_twice : (f h : ℕ → Refusal → Refusal) (t : Tok) → tok_with f (tok_with h t) ≡ tok_with (λ p r. f p (h p r)) t
tok_twice f h (tok p none_tk) = refl
tok_twice f h (tok p (bad_tk r)) = refl
tok_twice f h (tok p open_tk) = refl
tok_twice f h (tok p close_tk) = refl
tok_twice f h (tok p comma_tk) = refl
tok_twice f h (tok p (number_tk q x)) = refl
tok_twice f h (tok p (word_tk w)) = refl

twice : (f h : ℕ → Refusal → Refusal) (s : Str) → str_with f (str_with h s) ≡ str_with (λ p r. f p (h p r)) s
unfolding str_with
twice f h (end n) = refl
twice f h (then t s) = rw (tok_twice f h t, twice f h s)

with_own : (f : ℕ → Refusal → Refusal) (s : Str) → Toks (λ t. tok_with f t ≡ t) s → str_with f s ≡ s
unfolding str_with
with_own f (end n) a = refl
with_own f (then t s) a = rw (a.0, with_own f s a.1)

module _ (text : List ℕ) where
  -- a bad number of a text has the refusal of its place
  abbrev Own : Tok → Type 0
  Own t = tok_with (λ p r. bad_at text p) t ≡ t

  token_own : (p : ℕ) (t : Token) → Own (tok_in text (Found.Is p t))
  token_own p ParenOpen = refl
  token_own p ParenClose = refl
  token_own p Comma = refl
  token_own p (Number s l) = refl
  token_own p (Word s l) = refl

  found_own : (f : Found) → Own (tok_in text f)
  found_own (Found.NoToken p) = refl
  found_own (Found.BadNumber p) = refl
  found_own (Found.Is p t) = token_own p t

  tokens_own : str_with (λ p r. bad_at text p) (lex 0 text) ≡ lex 0 text
  tokens_own =
      subst (λ (s : Str). str_with (λ p r. bad_at text p) s ≡ s) (toks_lex text)
      (with_own (λ p r. bad_at text p) (toks text 0) (toks_all Own text refl (λ i. found_own (read_at text i).found)))

  -- so what it had before is renewed by what it has
  tokens_back : str_with (λ p r. renewal text r) (former (lex 0 text)) ≡ lex 0 text
  tokens_back = twice (λ p r. renewal text r) (λ p r. bad_number_at p) (lex 0 text) ∙ tokens_own

  renewal_keeps : (e p : ℕ) → is_own e ≡ true → renewal text (refusal e p) ≡ refusal e p
  renewal_keeps e p h = rw (not-true (eqb e bad_number) (and_both (leb e no_child) _ h).1)

-- "Refusals: 28 and 29 in the place of 6."
pub in_place_of_6 : (N M : ℕ) (text : List ℕ) → reading N M text ≡ renewed text (former_reading N M text)
unfolding reading former_reading
in_place_of_6 N M text = ap (reading_over N M text) (sym (tokens_back text)) ∙ mapped (renewal text) (renewal_keeps text) N M text (former (lex 0 text))

-- ---- exactly where
-- what stands in the place of 6 is 28 or 29
pub bad_numbered : (text : List ℕ) (p : ℕ) → is_bad_number (bad_at text p).number ≡ true
bad_numbered text p = rw (bad_is text p) (wrong_in p (part text p (end_of text p))).0

-- and neither was given before: a map that changes them changes no former reading
unsaid : Refusal → Refusal
unsaid r = cond (is_bad_number r.number) (bad_number_at 0) r

unsaid_keeps : (e p : ℕ) → is_own e ≡ true → unsaid (refusal e p) ≡ refusal e p
unfolding unsaid
unsaid_keeps e p h =
    let l : e ≤ no_child = leb-true e no_child (and_both (leb e no_child) _ h).0 in
    rw (ne_eqb e nothing_after_plus (λ z. omega arith), ne_eqb e number_goes_wrong (λ z. omega arith))

former_unsaid : (N M : ℕ) (text : List ℕ) → former_reading N M text ≡ got_with unsaid (former_reading N M text)
unfolding former_reading unsaid
former_unsaid N M text =
    ap (reading_over N M text) (sym (twice (λ p r. unsaid r) (λ p r. bad_number_at p) (lex 0 text))) ∙ mapped unsaid unsaid_keeps N M text (former (lex 0 text))

never_said : (N M : ℕ) (text : List ℕ) (r : Refusal) → former_reading N M text ≡ refused r → is_bad_number r.number ≡ false
unfolding unsaid
never_said N M text r e = go (is_bad_number r.number) refl (rw e at (former_unsaid N M text))
  where
    go : (b : Bool) → is_bad_number r.number ≡ b → refused r ≡ refused (cond b (bad_number_at 0) r) → is_bad_number r.number ≡ false
    go false w z = w
    go true w z = let q : r ≡ bad_number_at 0 = cc in ap (λ (x : Refusal). is_bad_number x.number) q

pub changes : (N M : ℕ) (text : List ℕ) → Change text (former_reading N M text) (reading N M text)
changes N M text = rw (in_place_of_6 N M text) (go (former_reading N M text) refl)
  where
    met : (r : Refusal) → is_bad_number r.number ≡ false → (b : Bool) → eqb r.number bad_number ≡ b → Change text (refused r) (refused (cond b (bad_at text r.place) r))
    met r w false z = stays {g = refused r} (rw (z, w))
    met r w true z = let q : r ≡ bad_number_at r.place = ap (λ (n : ℕ). refusal n r.place) (eqb-true r.number bad_number z) in rw q (renews r.place)

    low : (e : ℕ) → is_halt e ≡ true → says_bad e ≡ false
    low e h =
        let l : e ≤ too_deep = leb-true e too_deep (and_both (leb no_node_row e) (leb e too_deep) h).1 in
        rw (ne_eqb e bad_number (λ z. omega arith), ne_eqb e nothing_after_plus (λ z. omega arith), ne_eqb e number_goes_wrong (λ z. omega arith))

    go : (x : Got) → former_reading N M text ≡ x → Change text x (renewed text x)
    go (ok o) e = stays {g = ok o} refl
    go (refused r) e = met r (never_said N M text r e) (eqb r.number bad_number) refl
    go (halt r) e = stays {g = halt r} (low r.number (reading_halts N M text r (in_place_of_6 N M text ∙ ap (renewed text) e)).number)

-- a reading was refused 6 if and only if it is refused 28 or 29, and is else what it was
pub exactly_where : (N M : ℕ) (text : List ℕ) →
    ((p : ℕ) × (former_reading N M text ≡ refused (bad_number_at p))) ↔ ((r : Refusal) × (reading N M text ≡ refused r) × (is_bad_number r.number ≡ true))
exactly_where N M text = go (changes N M text)
  where
    go : {x y : Got} → Change text x y → ((p : ℕ) × (x ≡ refused (bad_number_at p))) ↔ ((r : Refusal) × (y ≡ refused r) × (is_bad_number r.number ≡ true))
    go (renews p) = ((λ h. (bad_at text p, refl, bad_numbered text p)), λ h. (p, refl))
    go (stays w) = ((λ h. absurd (false≢true (sym w ∙ ap (λ (x : Got). says_bad (number_in x)) h.1))), λ h. absurd (false≢true (sym w ∙ ap (λ (x : Got). says_bad (number_in x)) h.1 ∙ or_right (eqb h.0.number bad_number) (is_bad_number h.0.number) h.2)))

pub elsewhere : (N M : ℕ) (text : List ℕ) → ((p : ℕ) → former_reading N M text ≡ refused (bad_number_at p) → ⊥) → reading N M text ≡ former_reading N M text
elsewhere N M text = go (changes N M text)
  where
    go : {x y : Got} → Change text x y → ((p : ℕ) → x ≡ refused (bad_number_at p) → ⊥) → y ≡ x
    go (renews p) h = absurd (h p refl)
    go (stays w) h = refl
