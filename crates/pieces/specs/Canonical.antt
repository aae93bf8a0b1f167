-- The parts of a canonical text that are put in one go (document 01, "Canonical text"): a number, the comma before a child, a node's name with its dimension.
-- A definition named put.. takes what comes after it: the bytes of its own, then the rest.
use Rattle.std.specs.Prelude.{cond, not, List, ◌∷◌, ◌++◌, ℕ, eqb}
use Rattle.scan.specs.Bytes.{space, comma}
use Rattle.names.specs.Names.{names, string_of}
use Rattle.canonical_text.specs.Canonical.{spell, put_dimension}
use Rattle.nodes.specs.declared.Visit.{Visit}
use Rattle.nodes.specs.Nodes.{is_free}
use Rattle.shape.specs.Numbers.{text_at}

-- the number row i
unfoldable pub put_number : List ℕ → List ℕ → ℕ → List ℕ → List ℕ
put_number text numbers i rest = spell (text_at text numbers i) ++ rest

-- "Upper-case name"
unfoldable pub put_name : ℕ → List ℕ → List ℕ
put_name kind rest = string_of names kind ++ rest

-- "with `,` between": before every child but the first
unfoldable pub put_comma : Visit → List ℕ → List ℕ
put_comma v rest = cond (eqb v.parent.next 0) rest (comma ∷ rest)

-- "A child of a node of kinds 3 to 6 has no name"; "then ` EMPTY`": the space before it
unfoldable pub put_head : Visit → List ℕ → List ℕ
put_head v rest = cond (not (is_free v.parent.kind)) rest (put_name v.kind (put_dimension v.dimension (cond (eqb v.parts 0) (space ∷ rest) rest)))
