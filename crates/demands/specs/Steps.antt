-- How a reading comes to the step that refuses: the steps of document 01's "Reading", one after the other, with the nodes that are open, the rows that are
-- used and the tokens that are left. In each state the next token allows one step at most, beside the parts that are filled in.
use Rattle.std.specs.Prelude.{◌≡◌, Bool, true, false, cond, ◌||◌, ◌⊎◌, List, [], ◌∷◌, ◌++◌, ℕ, ◌+◌, ◌<◌, ◌≤◌, eqb, length, Some}
use Rattle.refusals.specs.Refusals.{no_node_row, no_number_row, too_deep, non_ascii_root, no_root, unknown_name, no_header, unknown_header, not_opened, not_closed, no_x, no_y, no_z, no_m, no_child, nothing_after_plus, number_goes_wrong}
use Rattle.limits.specs.Limits.{depth_limit}
use Rattle.kinds.specs.Kinds.{kind_point, kind_line_string, kind_polygon, kind_multi_point, kind_multi_line_string, kind_multi_polygon, kind_geometry_collection, dim_xy, has_z, has_m, width}
use Rattle.names.specs.declared.Name.{Name}
use Rattle.names.specs.Names.{meaning, ending, is_empty_word}
use Rattle.store.specs.Rows.{Row, fresh_row, Span, span}
use Rattle.token_stream.specs.Stream.{Tok, Str, hd, tl}
use Rattle.grammar.specs.Grammar.{Out, out, fill, is_empty_tok}
use Rattle.grammar.specs.Tokens.{sort_open, sort_close, sort_comma, sort_number, sort_word, sort_of, start_of, text_of}

-- a node whose `(` is open: its kind and its dimension
pub data Open : Type 0 where
  node : ℕ → ℕ → Open

-- what is due next
pub data Due : Type 0 where
  -- the root's name; a part of the innermost open node, after its `(` or a comma
  root_due part_due : Due
  -- after a bare name of a kind, a header; after a name with its dimension, or where a child has none, `(` or EMPTY
  header_due : ℕ → Due
  paren_due : ℕ → ℕ → Due
  -- the number of a coordinate after the first n
  number_due : ℕ → Due
  -- a comma or `)`, as a part is read; after the root, nothing
  read_whole : Due

-- where a name is due: at the root, and in a collection
pub data NameDue : List Open → Due → Type 0 where
  of_root : NameDue [] root_due
  of_child : {d : ℕ} {os : List Open} → NameDue (node kind_geometry_collection d ∷ os) part_due

-- "Polygon and multi line string: line strings in parentheses or EMPTY. Multipolygon: polygons likewise. Multipoint: a point in parentheses, or bare where the
-- token looked at isn't `(`."
pub data Child (t : Tok) : ℕ → ℕ → Type 0 where
  child_ring : Child t kind_polygon kind_line_string
  child_line : Child t kind_multi_line_string kind_line_string
  child_polygon : Child t kind_multi_polygon kind_polygon
  child_point : sort_of t ≡ sort_open → Child t kind_multi_point kind_point

-- "X, Y, then Z, M as the dimension asks (14, 15, 16, 17)": the number after the first n of a coordinate, and what it is refused with
pub data Axis (d : ℕ) : ℕ → ℕ → Type 0 where
  axis_x : Axis d 0 no_x
  axis_y : Axis d 1 no_y
  axis_z : has_z d ≡ true → Axis d 2 no_z
  axis_m : has_m d ≡ true → Axis d (2 + cond (has_z d) 1 0) no_m

-- with room for N node rows and M number rows, from the tokens s₀ on
module _ (N M : ℕ) (s₀ : Str) where
  pub data Came : List Open → Due → Out → Str → Type 0 where
    begins : Came [] root_due (out [] []) s₀
    -- "Words are compared with the seven names [..], each alone or with `Z`, `M` or `ZM` joined"
    named_bare : {os : List Open} {u : Due} {o : Out} {s : Str} {k : ℕ} → Came os u o s → NameDue os u → sort_of (hd s) ≡ sort_word → meaning (text_of (hd s)) ≡ Some (Name.Bare k) → Came os (header_due k) o (tl s)
    named_joined : {os : List Open} {u : Due} {o : Out} {s : Str} {k d : ℕ} → Came os u o s → NameDue os u → sort_of (hd s) ≡ sort_word → meaning (text_of (hd s)) ≡ Some (Name.Joined k d) → Came os (paren_due k d) o (tl s)
    -- "Word `Z`, `M`, `ZM`: taken. Word `EMPTY` or a non-word: XY."
    ending_taken : {os : List Open} {o : Out} {s : Str} {k d : ℕ} → Came os (header_due k) o s → sort_of (hd s) ≡ sort_word → ending (text_of (hd s)) ≡ Some d → Came os (paren_due k d) o (tl s)
    flat : {os : List Open} {o : Out} {s : Str} {k : ℕ} → Came os (header_due k) o s → sort_open ≤ sort_of (hd s) → (sort_of (hd s) ≡ sort_word → is_empty_word (text_of (hd s)) ≡ true) → Came os (paren_due k dim_xy) o s
    -- "Children take the parent's dimension."
    nameless : {os : List Open} {o : Out} {s : Str} {k c d : ℕ} → Came (node k d ∷ os) part_due o s → Child (hd s) k c → Came (node k d ∷ os) (paren_due c d) o s
    -- "A node row is used when its `(` or EMPTY is taken (a bare point: before X)"
    paren_taken : {os : List Open} {rs : List Row} {ss : List Span} {s : Str} {k d : ℕ} → Came os (paren_due k d) (out rs ss) s → sort_of (hd s) ≡ sort_open → length rs < N → Came (node k d ∷ os) part_due (out (rs ++ fresh_row k d ∷ []) ss) (tl s)
    empty_taken : {os : List Open} {rs : List Row} {ss : List Span} {s : Str} {k d : ℕ} → Came os (paren_due k d) (out rs ss) s → is_empty_tok (hd s) ≡ true → length rs < N → Came os read_whole (out (rs ++ fresh_row k d ∷ []) ss) (tl s)
    point_begun : {os : List Open} {rs : List Row} {ss : List Span} {s : Str} {d : ℕ} → Came (node kind_multi_point d ∷ os) part_due (out rs ss) s → (sort_of (hd s) ≡ sort_open → ⊥) → length rs < N → Came (node kind_multi_point d ∷ os) (number_due 0) (out (rs ++ fresh_row kind_point d ∷ []) ss) s
    -- the coordinates of a point and of a line string
    coord_begun : {os : List Open} {o : Out} {s : Str} {k d : ℕ} → Came (node k d ∷ os) part_due o s → k ≤ kind_line_string → Came (node k d ∷ os) (number_due 0) o s
    -- "a number row when a good number of a coordinate is taken"
    number_taken : {os : List Open} {rs : List Row} {ss : List Span} {s : Str} {k d n e : ℕ} → Came (node k d ∷ os) (number_due n) (out rs ss) s → Axis d n e → sort_of (hd s) ≡ sort_number → length ss < M
        → Came (node k d ∷ os) (number_due (n + 1)) (out rs (ss ++ span (start_of (hd s)) (length (text_of (hd s))) (text_of (hd s)) ∷ [])) (tl s)
    coord_read : {os : List Open} {o : Out} {s : Str} {k d n : ℕ} → Came (node k d ∷ os) (number_due n) o s → n ≡ width d → Came (node k d ∷ os) read_whole o s
    -- "coordinates by commas", and every other node's parts; "After the body one token is always taken"
    comma_taken : {os : List Open} {o : Out} {s : Str} {k d : ℕ} → Came (node k d ∷ os) read_whole o s → (k ≡ kind_point → ⊥) → sort_of (hd s) ≡ sort_comma → Came (node k d ∷ os) part_due o (tl s)
    close_taken : {os : List Open} {o : Out} {s : Str} {k d : ℕ} → Came (node k d ∷ os) read_whole o s → sort_of (hd s) ≡ sort_close → Came os read_whole o (tl s)
    -- "`parts` filled in after the children"
    parts_filled : {os : List Open} {u : Due} {o : Out} {s : Str} (i n : ℕ) → Came os u o s → Came os u (fill i n o) s

-- how many collections are open
unfoldable pub collections : List Open → ℕ
collections [] = 0
collections (node k d ∷ os) = cond (eqb k kind_geometry_collection) 1 0 + collections os

abbrev pub one_of : ℕ → List ℕ → Bool
one_of e [] = false
one_of e (i ∷ is) = eqb e i || one_of e is

module _ (N M : ℕ) (s₀ : Str) where
  -- "Refusals 3, 4 and 5 instead end the reading at once.": what is due where the token stands, and why the number e is given there
  pub data Stopping : Tok → ℕ → Type 0 where
    -- "a node, a number needs a row and none is free"
    no_node_row_law : {os : List Open} {rs : List Row} {ss : List Span} {s : Str} {k d : ℕ} → Came N M s₀ os (paren_due k d) (out rs ss) s → (sort_of (hd s) ≡ sort_open) ⊎ (is_empty_tok (hd s) ≡ true) → length rs ≡ N → Stopping (hd s) no_node_row
    no_bare_row : {os : List Open} {rs : List Row} {ss : List Span} {s : Str} {d : ℕ} → Came N M s₀ (node kind_multi_point d ∷ os) part_due (out rs ss) s → (sort_of (hd s) ≡ sort_open → ⊥) → length rs ≡ N → Stopping (hd s) no_node_row
    no_number_row_law : {os : List Open} {rs : List Row} {ss : List Span} {s : Str} {k d n e : ℕ} → Came N M s₀ (node k d ∷ os) (number_due n) (out rs ss) s → Axis d n e → sort_of (hd s) ≡ sort_number → length ss ≡ M → Stopping (hd s) no_number_row
    -- "a 33rd open collection"
    too_many : {os : List Open} {o : Out} {s : Str} {d : ℕ} → Came N M s₀ os (paren_due kind_geometry_collection d) o s → sort_of (hd s) ≡ sort_open → collections os ≡ depth_limit → Stopping (hd s) too_deep

  -- the step that refuses, with one of its numbers, at a token; the nodes that are still to be closed, and the tokens that are left
  pub data Refusing : List Open → Tok → ℕ → Str → Type 0 where
    -- "Root: a word. A non-ASCII word is refused 7; a bad number [28 or 29]; no token or any other token 8." "Else refusal 9." "Collection: a word (else 18)"
    at_root : {o : Out} {s : Str} {e : ℕ} → Came N M s₀ [] root_due o s → one_of e (nothing_after_plus ∷ number_goes_wrong ∷ non_ascii_root ∷ no_root ∷ unknown_name ∷ []) ≡ true → Refusing [] (hd s) e (tl s)
    at_child : {os : List Open} {o : Out} {s : Str} {d e : ℕ} → Came N M s₀ (node kind_geometry_collection d ∷ os) part_due o s → one_of e (nothing_after_plus ∷ number_goes_wrong ∷ unknown_name ∷ no_child ∷ []) ≡ true → Refusing (node kind_geometry_collection d ∷ os) (hd s) e (tl s)
    -- "No token or a bad number: 10." "Another word: 11." (the token is only looked at) "Not `(`: 12."
    at_header : {os : List Open} {o : Out} {s : Str} {k e : ℕ} → Came N M s₀ os (header_due k) o s → one_of e (no_header ∷ unknown_header ∷ []) ≡ true → Refusing os (hd s) e s
    at_paren : {os : List Open} {o : Out} {s : Str} {k d e : ℕ} → Came N M s₀ os (paren_due k d) o s → one_of e (nothing_after_plus ∷ number_goes_wrong ∷ not_opened ∷ []) ≡ true → Refusing os (hd s) e (tl s)
    -- "(14, 15, 16, 17)"
    at_number : {os : List Open} {o : Out} {s : Str} {k d n i e : ℕ} → Came N M s₀ (node k d ∷ os) (number_due n) o s → Axis d n i → one_of e (nothing_after_plus ∷ number_goes_wrong ∷ i ∷ []) ≡ true → Refusing (node k d ∷ os) (hd s) e (tl s)
    -- "After the body one token is always taken, even when the body was refused. A bad number there gives [28 or 29]; anything but `)` gives 13"; "the
    -- closing-token rule is unchanged" (document 02)
    at_closing : {os : List Open} {o : Out} {s : Str} {k d e : ℕ} → Came N M s₀ (node k d ∷ os) read_whole o s → one_of e (nothing_after_plus ∷ number_goes_wrong ∷ not_closed ∷ []) ≡ true → Refusing os (hd s) e (tl s)
    behind_refused : {os : List Open} {s : Str} {t : Tok} {k d i e : ℕ} → Refusing (node k d ∷ os) t i s → one_of e (nothing_after_plus ∷ number_goes_wrong ∷ not_closed ∷ []) ≡ true → Refusing os (hd s) e (tl s)
    -- "only with `)` does the body's own answer stand"
    stands : {os : List Open} {s : Str} {t : Tok} {k d e : ℕ} → Refusing (node k d ∷ os) t e s → sort_of (hd s) ≡ sort_close → Refusing os t e (tl s)
