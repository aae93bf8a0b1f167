-- The canonical text of a tree (document 01, "Canonical text").
use Rattle.std.specs.Prelude.{Bool, cond, ◌||◌, List, [], ◌∷◌, ◌++◌, ℕ, zero, suc, eqb}
use Rattle.limits.specs.Limits.{depth_limit}
use Rattle.scan.specs.Bytes.{space, paren_open, paren_close, comma, plus, is_plus}
use Rattle.scan.specs.Front.{begins}
use Rattle.kinds.specs.Kinds.{kind_point, kind_line_string, kind_polygon, kind_multi_point, kind_multi_line_string, kind_multi_polygon, kind_geometry_collection, dim_xy}
use Rattle.names.specs.Letters.{is_letter}
use Rattle.names.specs.Names.{names, endings, string_of}
use Rattle.names.specs.Strings.{empty}
use Rattle.tree.specs.Tree.{Coord, Node, point_n, line_n, polygon_n, multipoint_n, multiline_n, multipolygon_n, collection_n, Tree}

-- each definition named put.. puts its bytes in front of what follows, r
-- "A number text beginning with `+` or a letter gets one more `+` in front."
abbrev pub needs_plus : ℕ → Bool
needs_plus b = is_plus b || is_letter b

unfoldable pub spell : List ℕ → List ℕ
spell x = cond (begins needs_plus x) (plus ∷ x) x

abbrev pub put_spelled : List ℕ → List ℕ → List ℕ
put_spelled x r = spell x ++ r

-- each with the byte s in front
unfoldable pub each : {X : Type 0} → ℕ → (X → List ℕ → List ℕ) → List X → List ℕ → List ℕ
each s f [] r = r
each s f (x ∷ xs) r = s ∷ f x (each s f xs r)

-- with the byte s between them
unfoldable pub separated : {X : Type 0} → ℕ → (X → List ℕ → List ℕ) → List X → List ℕ → List ℕ
separated s f [] r = r
separated s f (x ∷ xs) r = f x (each s f xs r)

-- "Numbers are separated by one space."
abbrev pub put_coord : Coord → List ℕ → List ℕ
put_coord c r = separated space put_spelled c r

-- "the parts in parentheses with `,` between and no blank"
abbrev pub in_parens : {X : Type 0} → (X → List ℕ → List ℕ) → List X → List ℕ → List ℕ
in_parens f xs r = paren_open ∷ separated comma f xs (paren_close ∷ r)

-- "A child of a node of kinds 3 to 6 has no name and is written `EMPTY` or in parentheses"
unfoldable pub put_parts : {X : Type 0} → (X → List ℕ → List ℕ) → List X → List ℕ → List ℕ
put_parts f [] r = empty ++ r
put_parts f (x ∷ xs) r = in_parens f (x ∷ xs) r

-- "then ` EMPTY`, or the parts in parentheses"
unfoldable pub put_named : {X : Type 0} → (X → List ℕ → List ℕ) → List X → List ℕ → List ℕ
put_named f [] r = space ∷ empty ++ r
put_named f (x ∷ xs) r = in_parens f (x ∷ xs) r

-- "space and `Z`, `M` or `ZM` if any"
unfoldable pub put_dimension : ℕ → List ℕ → List ℕ
put_dimension d r = cond (eqb d dim_xy) r (space ∷ string_of endings d ++ r)

-- "Upper-case name; space and `Z`, `M` or `ZM` if any; then ` EMPTY`, or the parts"
unfoldable pub put_with : {X : Type 0} → ℕ → ℕ → (X → List ℕ → List ℕ) → List X → List ℕ → List ℕ
put_with k d f xs r = string_of names k ++ put_dimension d (put_named f xs r)

-- "multipoint points always in parentheses"
abbrev pub put_point : Coord → List ℕ → List ℕ
put_point c r = put_parts put_coord (c ∷ []) r

abbrev pub put_line : List Coord → List ℕ → List ℕ
put_line cs r = put_parts put_coord cs r

abbrev pub put_polygon : List (List Coord) → List ℕ → List ℕ
put_polygon ls r = put_parts put_line ls r

abbrev pub put_geometry : {X : Type 0} → (X → List ℕ → List ℕ) → Node X → List ℕ → List ℕ
put_geometry f (point_n d cs) r = put_with kind_point d put_coord cs r
put_geometry f (line_n d cs) r = put_with kind_line_string d put_coord cs r
put_geometry f (polygon_n d ls) r = put_with kind_polygon d put_line ls r
put_geometry f (multipoint_n d cs) r = put_with kind_multi_point d put_point cs r
put_geometry f (multiline_n d ls) r = put_with kind_multi_line_string d put_line ls r
put_geometry f (multipolygon_n d ps) r = put_with kind_multi_polygon d put_polygon ps r
put_geometry f (collection_n d ts) r = put_with kind_geometry_collection d f ts r

abbrev pub put_nothing : {X : Type 0} → X → List ℕ → List ℕ
put_nothing x r = r

abbrev pub put_tree : (d : ℕ) → Tree d → List ℕ → List ℕ
put_tree zero t r = put_geometry put_nothing t r
put_tree (suc d) t r = put_geometry (put_tree d) t r

-- the canonical text of a whole tree: what the writer writes, and what the reader reads back
abbrev pub canonical_text : Tree depth_limit → List ℕ
canonical_text t = put_tree depth_limit t []
