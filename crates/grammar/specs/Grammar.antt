-- The grammar (document 01, "Reading"), as a reader of tokens. Above a definition stands in brackets the Rust function that it is.
use Rattle.std.specs.Prelude.{Bool, false, cond, List, [], ◌∷◌, ◌++◌, ℕ, zero, suc, ◌+◌, eqb, ltb, length, Option, Some, None}
use Rattle.names.specs.declared.Name.{Name}
use Rattle.kinds.specs.Kinds.{kind_point, kind_line_string, kind_polygon, kind_multi_point, kind_multi_line_string, kind_multi_polygon, kind_geometry_collection, dim_xy, has_z, has_m}
use Rattle.names.specs.Names.{meaning, ending, is_empty_word}
use Rattle.scan.specs.Bytes.{is_ascii}
use Rattle.lists.specs.Lists.{every}
use Rattle.refusals.specs.Refusals.{no_node_row, no_number_row, too_deep, non_ascii_root, no_root, unknown_name, no_header, unknown_header, not_opened, not_closed, no_x, no_y, no_z, no_m, no_child}
use Rattle.store.specs.Rows.{Row, fresh_row, Span, span, close_in}
use Rattle.token.specs.declared.Refusal.{Refusal}
use Rattle.token_stream.specs.Stream.{Tok}
use Rattle.grammar.specs.Asks.{P, ret, ask, look, bind}
use Rattle.grammar.specs.Tokens.{sort_open, sort_close, sort_comma, sort_number, sort_word, sort_of, place_of, start_of, text_of, refusal_at}

-- the node rows and the number rows used so far
pub data Out : Type 0 where
  out : List Row → List Span → Out

-- read; refused with a number and a place, and the closing token is still taken; ended at once
pub data Got : Type 0 where
  ok : Out → Got
  refused : Refusal → Got
  halt : Refusal → Got

-- what stands after a name: `(` or EMPTY at a place, of a kind and a dimension; or a refusal
pub data Head : Type 0 where
  opens : ℕ → ℕ → ℕ → Head
  empty : ℕ → ℕ → ℕ → Head
  wrong : Refusal → Head

abbrev pub refusal : ℕ → ℕ → Refusal
refusal e p = record { number = e; place = p }

abbrev pub refuse : ℕ → Tok → Got
refuse e t = refused (refusal_at e t)

-- [`?`] on with what was read, if it was
unfoldable pub and_then : Got → (Out → P Got) → P Got
and_then (ok o) f = f o
and_then (refused r) f = ret (refused r)
and_then (halt r) f = ret (halt r)

-- `parts` filled in after the children, in row i
abbrev pub fill : ℕ → ℕ → Out → Out
fill i n (out rs ss) = out (close_in rs i n) ss

abbrev pub rows_used : Out → ℕ
rows_used (out rs ss) = length rs

-- [comma_many] parts by commas, of the node in row i, which has n of them so far; g reads one.
-- F counts down from more than any text has tokens (`grammar_laws/proofs/Fuel`: it never runs out)
unfoldable pub items : (Out → P Got) → ℕ → ℕ → ℕ → Out → P Got
items g zero n i o = ret (refused (refusal 0 0))
items g (suc F) n i o =
    bind (g o) λ r. and_then r λ o1. look λ t.
    cond (eqb (sort_of t) sort_comma) (ask λ c. items g F (n + 1) i o1) (ret (ok (fill i (n + 1) o1)))

-- "anything but `)` gives 13; only with `)` does the body's own answer stand"
abbrev pub close_by : Tok → Got → Got
close_by t r = cond (eqb (sort_of t) sort_close) r (refuse not_closed t)

-- [from_tokens_with_parens, its end] "After the body one token is always taken, even when the body was refused."
-- "Refusals 3, 4 and 5 instead end the reading at once."
unfoldable pub closing : Got → P Got
closing (ok o) = ask λ t. ret (close_by t (ok o))
closing (refused r) = ask λ t. ret (close_by t (refused r))
closing (halt r) = ret (halt r)

-- a node row is used where it can be, else 3 at the place p; a number row, else 4
abbrev pub add_node : ℕ → Out → ℕ → ℕ → ℕ → Got
add_node N (out rs ss) p k d = cond (ltb (length rs) N) (ok (out (rs ++ fresh_row k d ∷ []) ss)) (halt (refusal no_node_row p))

abbrev pub add_number : ℕ → Out → ℕ → ℕ → List ℕ → Got
add_number M (out rs ss) p q x = cond (ltb (length ss) M) (ok (out rs (ss ++ span q (length x) x ∷ []))) (halt (refusal no_number_row p))

-- "a number row when a good number of a coordinate is taken"
abbrev pub take_number : ℕ → ℕ → Out → Tok → Got
take_number M e o t = cond (eqb (sort_of t) sort_number) (add_number M o (place_of t) (start_of t) (text_of t)) (refuse e t)

-- a number, else the refusal e
unfoldable pub number : ℕ → ℕ → Out → P Got
number M e o = ask λ t. ret (take_number M e o t)

unfoldable pub then_number : ℕ → ℕ → Got → P Got
then_number M e r = and_then r (number M e)

-- "X, Y, then Z, M as the dimension asks (14, 15, 16, 17)"
-- a further number, if the dimension asks for it
unfoldable pub if_asked : ℕ → Bool → ℕ → Got → P Got
if_asked M asked e r = cond asked (then_number M e r) (ret r)

-- [Coord::from_tokens]
unfoldable pub coord : ℕ → ℕ → Out → P Got
coord M d o =
    bind (number M no_x o) λ x. bind (then_number M no_y x) λ y. bind (if_asked M (has_z d) no_z y) λ z. if_asked M (has_m d) no_m z

-- [Point::from_tokens] a point's body
unfoldable pub point_body : ℕ → ℕ → ℕ → Out → P Got
point_body M d i o = bind (coord M d o) λ r. and_then r λ o1. ret (ok (fill i 1 o1))

-- a node row for what was opened at p, its body, and one token more
unfoldable pub opened : ℕ → ℕ → ℕ → (ℕ → Out → P Got) → ℕ → Out → P Got
opened N k d body p o = and_then (add_node N o p k d) λ o1. bind (body (rows_used o) o1) closing

-- is the token the word EMPTY, in any case
abbrev pub is_empty_tok : Tok → Bool
is_empty_tok t = cond (eqb (sort_of t) sort_word) (is_empty_word (text_of t)) false

-- [from_tokens_with_parens, its start] "`EMPTY` gives no parts. Not `(`: 12."
unfoldable pub opening : ℕ → ℕ → Tok → Head
opening k d t =
    cond (eqb (sort_of t) sort_open) (opens k d (place_of t))
    (cond (is_empty_tok t) (empty k d (place_of t)) (wrong (refusal_at not_opened t)))

unfoldable pub opener : ℕ → ℕ → P Head
opener k d = ask λ t. ret (opening k d t)

-- [infer_geom_dimension] "Word `Z`, `M`, `ZM`: taken. Word `EMPTY` or a non-word: XY. Another word: 11."
abbrev pub header_ending : ℕ → Tok → Option ℕ → P Head
header_ending k t (Some d) = ask λ z. opener k d
header_ending k t None = cond (is_empty_word (text_of t)) (opener k dim_xy) (ret (wrong (refusal unknown_header (place_of t))))

-- "Header after a bare name: look at one token. No token or a bad number: 10."
unfoldable pub header : ℕ → P Head
header k = look λ t.
    cond (ltb (sort_of t) sort_open) (ret (wrong (refusal no_header (place_of t))))
    (cond (eqb (sort_of t) sort_word) (header_ending k t (ending (text_of t))) (opener k dim_xy))

-- [from_word_and_tokens] "Else refusal 9." "After a joined name no header is looked for."
abbrev pub by_name : ℕ → Option Name → P Head
by_name p None = ret (wrong (refusal unknown_name p))
by_name p (Some (Name.Bare k)) = header k
by_name p (Some (Name.Joined k d)) = opener k d

-- [GeometryCollection::from_tokens] "Collection: a word (else 18), then any geometry with its own header"
unfoldable pub child_head : P Head
child_head = ask λ t. cond (eqb (sort_of t) sort_word) (by_name (place_of t) (meaning (text_of t))) (ret (wrong (refusal_at no_child t)))

-- [Wkt::from_tokens] "Root: a word. A non-ASCII word is refused 7; a bad number [28 or 29]; no token or any other token 8."
unfoldable pub root_head : P Head
root_head = ask λ t.
    cond (eqb (sort_of t) sort_word)
    (cond (every is_ascii (text_of t)) (by_name (place_of t) (meaning (text_of t))) (ret (wrong (refusal non_ascii_root (place_of t)))))
    (ret (wrong (refusal_at no_root t)))

-- with room for N node rows and M number rows
module _ (N M F : ℕ) where
  -- [LineString::from_tokens] "Line string: coordinates by commas."
  unfoldable pub line_body : ℕ → ℕ → Out → P Got
  line_body d i o = items (coord M d) F 0 i o

  -- what stands after a name: a body in parentheses, or a row alone
  unfoldable pub parens : (ℕ → ℕ → Out → P Got) → Out → Head → P Got
  parens inside o (opens k d p) = inside d p o
  parens inside o (empty k d p) = ret (add_node N o p k d)
  parens inside o (wrong r) = ret (refused r)

  -- "line strings in parentheses or EMPTY"
  unfoldable pub line_in : ℕ → ℕ → Out → P Got
  line_in d p o = opened N kind_line_string d (line_body d) p o

  unfoldable pub line_of : ℕ → Out → P Got
  line_of d o = bind (opener kind_line_string d) (parens line_in o)

  -- [Polygon::from_tokens, MultiLineString::from_tokens] "Polygon and multi line string: line strings in parentheses or EMPTY."
  unfoldable pub lines_body : ℕ → ℕ → Out → P Got
  lines_body d i o = items (line_of d) F 0 i o

  unfoldable pub polygon_in : ℕ → ℕ → Out → P Got
  polygon_in d p o = opened N kind_polygon d (lines_body d) p o

  unfoldable pub polygon_of : ℕ → Out → P Got
  polygon_of d o = bind (opener kind_polygon d) (parens polygon_in o)

  -- [MultiPolygon::from_tokens] "Multipolygon: polygons likewise."
  unfoldable pub polygons_body : ℕ → ℕ → Out → P Got
  polygons_body d i o = items (polygon_of d) F 0 i o

  unfoldable pub point_in : ℕ → ℕ → Out → P Got
  point_in d p o = opened N kind_point d (point_body M d) p o

  -- a bare point: its row is used before X, and no token closes it
  unfoldable pub bare_point : ℕ → ℕ → Out → P Got
  bare_point d p o = and_then (add_node N o p kind_point d) λ o1. point_body M d (rows_used o) o1

  -- [from_tokens_with_optional_parens] "Multipoint: a point in parentheses, or bare where the token looked at isn't `(`."
  unfoldable pub point_of : ℕ → Out → P Got
  point_of d o = look λ t. cond (eqb (sort_of t) sort_open) (ask λ u. point_in d (place_of u) o) (bare_point d (place_of t) o)

  -- [MultiPoint::from_tokens]
  unfoldable pub points_body : ℕ → ℕ → Out → P Got
  points_body d i o = items (point_of d) F 0 i o

  -- a geometry of kinds 4 to 6 whose `(` was taken at p
  unfoldable pub multi : ℕ → ℕ → ℕ → Out → P Got
  multi k d p o =
      cond (eqb k kind_multi_point) (opened N kind_multi_point d (points_body d) p o)
      (cond (eqb k kind_multi_line_string) (opened N kind_multi_line_string d (lines_body d) p o)
      (opened N kind_multi_polygon d (polygons_body d) p o))

  -- a geometry of kinds 1 to 6 whose `(` was taken at p
  unfoldable pub simple : ℕ → ℕ → ℕ → Out → P Got
  simple k d p o =
      cond (eqb k kind_point) (point_in d p o)
      (cond (eqb k kind_line_string) (line_in d p o)
      (cond (eqb k kind_polygon) (polygon_in d p o)
      (multi k d p o)))

  -- a geometry after its name, where C reads a collection
  unfoldable pub geometry_by : (ℕ → ℕ → Out → P Got) → Out → Head → P Got
  geometry_by C o (opens k d p) = cond (eqb k kind_geometry_collection) (C d p o) (simple k d p o)
  geometry_by C o (empty k d p) = ret (add_node N o p k d)
  geometry_by C o (wrong r) = ret (refused r)

  unfoldable pub child_of : (ℕ → ℕ → Out → P Got) → Out → P Got
  child_of C o = bind child_head (geometry_by C o)

  -- a collection whose `(` was taken at p, with n more that may be opened: "5 before 3 at one `(`"
  unfoldable pub collection : ℕ → ℕ → ℕ → Out → P Got
  collection zero d p o = ret (halt (refusal too_deep p))
  collection (suc n) d p o = opened N kind_geometry_collection d (λ i o1. items (child_of (collection n)) F 0 i o1) p o

  -- a geometry after its name, with n more collections that may be opened
  unfoldable pub geometry : ℕ → Out → Head → P Got
  geometry n o h = geometry_by (collection n) o h

  -- [Wkt::from_tokens] a whole text's first geometry
  unfoldable pub root : ℕ → P Got
  root n = bind root_head (geometry n (out [] []))
