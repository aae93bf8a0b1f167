-- Worked examples of this crate's definitions, by computation.
use Rattle.std.specs.Prelude.{◌≡◌, refl, true, false, List, [], ◌∷◌, ℕ}
use Rattle.scan.specs.Text.{bytes}
use Rattle.scan.specs.Front.{begins}
use Rattle.store.specs.Rows.{cell}
use Rattle.names.specs.Names.{string_of}
use Rattle.canonical_text.specs.Canonical.{spell, put_dimension}
use Rattle.nodes.specs.declared.Visit.{Visit}
use Rattle.nodes.specs.Nodes.{frame}
use Rattle.shape.specs.Numbers.{text_at}
use Rattle.pen.specs.Pen.{pen, has_room, pen_after, out_after}
use Rattle.pieces.specs.Canonical.{put_number, put_name, put_comma, put_head}
use Rattle.pieces.specs.Pieces.{pen_after_each, out_after_each, number_pieces, word_pieces, name_pieces, dimension_pieces, comma_pieces, head_pieces}

-- the child `next` below a node of the kind `above`
child : ℕ → ℕ → ℕ → ℕ → ℕ → Visit
child above next kind dimension parts = record { row = 0; number = 0; kind = kind; dimension = dimension; parts = parts; parent = frame 0 above 0 0 9 next }

all : ℕ
unfolding child begins cell spell string_of put_dimension text_at has_room pen_after out_after put_number put_name put_comma put_head pen_after_each out_after_each number_pieces word_pieces name_pieces dimension_pieces comma_pieces head_pieces
all = 0

-- `+4`, `inf` and `-4` of this text
signed : List ℕ
signed = bytes "+4inf-4"

rows : List ℕ
rows = 0 ∷ 2 ∷ 2 ∷ 3 ∷ 5 ∷ 2 ∷ []

numbers : (put_number signed rows 0 (bytes " ") ≡ bytes "++4 ") × (put_number signed rows 1 (bytes " ") ≡ bytes "+inf ") × (put_number signed rows 2 (bytes " ") ≡ bytes "-4 ")
unfolding all signed rows
numbers = (refl, refl, refl)

-- no comma before the first child
commas : (put_comma (child 7 0 1 0 1) (bytes "x") ≡ bytes "x") × (put_comma (child 7 1 1 0 1) (bytes "x") ≡ bytes ",x") × (put_comma (child 3 2 2 0 1) (bytes "x") ≡ bytes ",x")
unfolding all
commas = (refl, refl, refl)

-- at the root and in a collection; before EMPTY a blank; below kinds 3 to 6 nothing
heads : (put_head (child 0 0 1 0 1) (bytes "(") ≡ bytes "POINT(") × (put_head (child 7 1 2 3 1) (bytes "(") ≡ bytes "LINESTRING ZM(") × (put_head (child 7 0 7 2 0) (bytes "EMPTY") ≡ bytes "GEOMETRYCOLLECTION M EMPTY") × (put_head (child 0 0 3 0 0) (bytes "EMPTY") ≡ bytes "POLYGON EMPTY") × (put_head (child 3 0 2 0 0) (bytes "EMPTY") ≡ bytes "EMPTY")
unfolding all
heads = (refl, refl, refl, refl, refl)

-- the pieces: a plus goes with its number; a name, a blank, an ending and a blank each by itself
pieces : (number_pieces 40 (bytes "+4") ≡ bytes "(" ∷ bytes "++4" ∷ []) × (number_pieces 44 (bytes "4") ≡ bytes ",4" ∷ []) × (head_pieces (child 0 0 2 3 0) ≡ bytes "LINESTRING" ∷ bytes " " ∷ bytes "ZM" ∷ bytes " " ∷ []) × (head_pieces (child 7 0 1 0 1) ≡ bytes "POINT" ∷ []) × (head_pieces (child 5 0 2 1 1) ≡ []) × (comma_pieces (child 5 1 2 1 1) ≡ bytes "," ∷ [])
unfolding all
pieces = (refl, refl, refl, refl, refl, refl)

-- put in a room of four bytes, of three, and with a full pen
room : List ℕ
room = bytes "....."

put : (pen_after_each (pen 1 false) room (bytes "(" ∷ bytes "++4" ∷ []) ≡ pen 5 false) × (out_after_each (pen 1 false) room (bytes "(" ∷ bytes "++4" ∷ []) ≡ bytes ".(++4") × (pen_after_each (pen 2 false) room (bytes "(" ∷ bytes "++4" ∷ bytes "," ∷ []) ≡ pen 3 true) × (out_after_each (pen 2 false) room (bytes "(" ∷ bytes "++4" ∷ bytes "," ∷ []) ≡ bytes "..(..") × (out_after_each (pen 1 true) room (bytes "(" ∷ []) ≡ room)
unfolding all room
put = (refl, refl, refl, refl, refl)
