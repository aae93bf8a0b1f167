-- The canonical text of a store (document 01, "Canonical text"): that of its tree. Below it the text as the writer puts it, thing by thing as a walk meets
-- them; `proofs/Trees` shows that they are one. A definition named put.. takes what comes after it: the bytes of its own, then the rest.
use Rattle.std.specs.Prelude.{cond, List, [], ◌∷◌, ◌++◌, ℕ, zero, suc, ◌+◌, ◌-◌, eqb, leb}
use Rattle.std.proofs.Math.Option.{Option, none, some}
use Rattle.scan.specs.Bytes.{space, paren_open, paren_close, comma}
use Rattle.kinds.specs.Kinds.{kind_line_string, width}
use Rattle.names.specs.Strings.{empty}
use Rattle.canonical_text.specs.Canonical.{canonical_text}
use Rattle.lists.specs.Options.{map_o}
use Rattle.nodes.specs.declared.Visit.{Visit}
use Rattle.nodes.specs.declared.Met.{Met}
use Rattle.nodes.specs.declared.Met.TheVariants.{Node, End, Done, Ill}
use Rattle.shape.specs.Store.{tree_of}
use Rattle.pieces.specs.Canonical.{put_number, put_comma, put_head}

-- the canonical text of a store, if it is well formed
unfoldable pub store_text : List ℕ → List ℕ → List ℕ → Option (List ℕ)
store_text text nodes numbers = map_o canonical_text (tree_of text nodes numbers)

-- the same, of a store that is
abbrev pub the_text : Option (List ℕ) → List ℕ
the_text none = []
the_text (some bytes) = bytes

unfoldable pub written_text : List ℕ → List ℕ → List ℕ → List ℕ
written_text text nodes numbers = the_text (store_text text nodes numbers)

-- ---- coordinates
-- "Numbers are separated by one space.": n numbers from i on, a space before each
unfoldable pub put_spaced : List ℕ → List ℕ → ℕ → ℕ → List ℕ → List ℕ
put_spaced text numbers i zero rest = rest
put_spaced text numbers i (suc n) rest = space ∷ put_number text numbers i (put_spaced text numbers (i + 1) n rest)

-- a coordinate of w numbers from i on
unfoldable pub put_coordinate : List ℕ → List ℕ → ℕ → ℕ → List ℕ → List ℕ
put_coordinate text numbers i w rest = put_number text numbers i (put_spaced text numbers (i + 1) (w - 1) rest)

-- n coordinates, a comma before each
unfoldable pub put_listed : List ℕ → List ℕ → ℕ → ℕ → ℕ → List ℕ → List ℕ
put_listed text numbers i w zero rest = rest
put_listed text numbers i w (suc n) rest = comma ∷ put_coordinate text numbers i w (put_listed text numbers (i + w) w n rest)

-- n coordinates "with `,` between and no blank"
unfoldable pub put_coordinates : List ℕ → List ℕ → ℕ → ℕ → ℕ → List ℕ → List ℕ
put_coordinates text numbers i w n rest = put_coordinate text numbers i w (put_listed text numbers (i + w) w (n - 1) rest)

-- ---- what a walk meets
-- "` EMPTY`, or the parts in parentheses with `,` between and no blank": where the children follow, only the parenthesis that opens
unfoldable pub put_body : List ℕ → List ℕ → Visit → List ℕ → List ℕ
put_body text numbers v rest =
    cond (eqb v.parts 0) (empty ++ rest)
    (paren_open ∷ cond (leb v.kind kind_line_string) (put_coordinates text numbers v.number (width v.dimension) v.parts (paren_close ∷ rest)) rest)

unfoldable pub put_node : List ℕ → List ℕ → Visit → List ℕ → List ℕ
put_node text numbers v rest = put_comma v (put_head v (put_body text numbers v rest))

-- a node; the parenthesis that closes at its end
unfoldable pub put_met : List ℕ → List ℕ → Met → List ℕ → List ℕ
put_met text numbers (Node v) rest = put_node text numbers v rest
put_met text numbers (End i n) rest = paren_close ∷ rest
put_met text numbers Done rest = rest
put_met text numbers Ill rest = rest

-- all that is met, one after the other
unfoldable pub put_all : List ℕ → List ℕ → List Met → List ℕ → List ℕ
put_all text numbers [] rest = rest
put_all text numbers (m ∷ ms) rest = put_met text numbers m (put_all text numbers ms rest)
