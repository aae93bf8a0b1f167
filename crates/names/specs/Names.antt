-- Which geometry a word names: the tables of names and endings, and what they make of a word.
use Rattle.std.specs.Prelude.{ℕ, Bool, cond, eqb, length, Option, Some, None}
use mathlib.Core.List.{List, [], ◌∷◌, ◌++◌, map, flat_map}
use Rattle.scan.specs.Text.{bytes}
use Rattle.words.specs.Words.{same_word, starts_word}
use Rattle.names.specs.declared.Name.{Name}
use Rattle.names.specs.declared.Front.{Front}
use Rattle.kinds.specs.Kinds.{kind_point, kind_line_string, kind_polygon, kind_multi_point, kind_multi_line_string, kind_multi_polygon, kind_geometry_collection, dim_xy, dim_xyz, dim_xym, dim_xyzm}
use Rattle.names.specs.Strings.{empty}

-- ---- the table: seven names, four endings, one extra word
-- the seven names, each with its kind
abbrev pub names : List (ℕ × List ℕ)
names =
    (kind_point, bytes "POINT")
    ∷ (kind_line_string, bytes "LINESTRING")
    ∷ (kind_polygon, bytes "POLYGON")
    ∷ (kind_multi_point, bytes "MULTIPOINT")
    ∷ (kind_multi_line_string, bytes "MULTILINESTRING")
    ∷ (kind_multi_polygon, bytes "MULTIPOLYGON")
    ∷ (kind_geometry_collection, bytes "GEOMETRYCOLLECTION")
    ∷ []

-- the four endings, each with its dimension; the first is none at all
abbrev pub endings : List (ℕ × List ℕ)
endings = (dim_xy, bytes "") ∷ (dim_xyz, bytes "Z") ∷ (dim_xym, bytes "M") ∷ (dim_xyzm, bytes "ZM") ∷ []

-- the one extra word: "`LINEARRING` alone means LINESTRING"
abbrev pub extra : Name × List ℕ
extra = (Name.Bare kind_line_string, bytes "LINEARRING")

-- the string that stands beside a number in a table
unfoldable pub string_of : List (ℕ × List ℕ) → ℕ → List ℕ
string_of [] n = []
string_of (entry ∷ table) n = cond (eqb n entry.0) entry.1 (string_of table n)

-- ---- the spellings
-- a name alone, which a header may follow, or with an ending joined: "After a joined name no header is looked for."
abbrev pub named : ℕ → ℕ → Name
named kind dim = cond (eqb dim dim_xy) (Name.Bare kind) (Name.Joined kind dim)

-- a name with an ending joined to it, and what the two mean
abbrev pub spelling : ℕ × List ℕ → ℕ × List ℕ → Name × List ℕ
spelling name end = (named name.0 end.0, name.1 ++ end.1)

-- "each alone or with `Z`, `M` or `ZM` joined"
abbrev pub with_endings : ℕ × List ℕ → List (Name × List ℕ)
with_endings name = map (spelling name) endings

-- the seven names with the four endings, and the one extra word
unfoldable pub spellings : List (Name × List ℕ)
spellings = flat_map with_endings names ++ extra ∷ []

-- what stands in a table beside the first string that the word passes the test with, if any
unfoldable pub lookup : {A : Type 0} → (List ℕ → List ℕ → Bool) → List (A × List ℕ) → List ℕ → Option A
lookup test [] w = None
lookup test (row ∷ rows) w = cond (test w row.1) (Some row.0) (lookup test rows w)

-- "Words are compared with the seven names without regard to ASCII case, each alone or with `Z`, `M` or `ZM` joined; `LINEARRING` alone means LINESTRING. Else refusal 9."
unfoldable pub meaning : List ℕ → Option Name
meaning w = lookup same_word spellings w

-- the dimension of the ending that the word is, where it is one of the four
unfoldable pub ending : List ℕ → Option ℕ
ending w = lookup same_word endings w

-- the name that the word begins with: its kind and length
abbrev pub front_row : ℕ × List ℕ → Front × List ℕ
front_row name = (record { kind = name.0; len = length name.1 }, name.1)

unfoldable pub front : List ℕ → Option Front
front w = lookup starts_word (map front_row names) w

-- "its words, and EMPTY, in any ASCII case"
abbrev pub is_empty_word : List ℕ → Bool
is_empty_word w = same_word w empty

-- the meaning of a kind's name with an ending after it
abbrev pub after_name : ℕ → Option ℕ → Option Name
after_name kind (Some dim) = Some (named kind dim)
after_name kind None = None
