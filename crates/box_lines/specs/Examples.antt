-- Worked examples of this crate's definitions, by computation.
use Rattle.std.specs.Prelude.{◌≡◌, refl, List, [], ◌∷◌, ◌++◌, ℕ, ℤ, pos, negsuc}
use Rattle.scan.specs.Text.{bytes}
use Rattle.store.specs.Rows.{cell}
use Rattle.printing.specs.Printing.{places_from, decimal}
use Rattle.signed_lines.specs.Signed.{fraction}
use Rattle.signed_lines.specs.Examples.{joined}
use Rattle.row_lines.specs.Lines.{lines_of}
use Rattle.box_lines.specs.Lines.{box_lines}

-- `GEOMETRYCOLLECTION(POINT(1 -2.5),POINT EMPTY)`, and its boxes
nodes : List ℕ
nodes = 7 ∷ 0 ∷ 2 ∷ 1 ∷ 0 ∷ 1 ∷ 1 ∷ 0 ∷ 0 ∷ []

point : List ℤ
point = pos 1 ∷ pos 10000000 ∷ pos 10000000 ∷ negsuc 24999999 ∷ negsuc 24999999 ∷ []

none : List ℤ
none = pos 0 ∷ pos 0 ∷ pos 0 ∷ pos 0 ∷ pos 0 ∷ []

all : ℕ
unfolding nodes point none joined cell places_from decimal fraction lines_of
all = 0

collection : joined (box_lines nodes (point ++ (point ++ none)) 3) ≡ bytes "0 7 1.0000000 1.0000000 -2.5000000 -2.5000000\n1 1 1.0000000 1.0000000 -2.5000000 -2.5000000\n2 1 -\n"
unfolding all
collection = refl

-- low before high, X before Y
order : joined (box_lines nodes (pos 1 ∷ negsuc 0 ∷ pos 0 ∷ pos 1 ∷ pos 20000000 ∷ []) 1) ≡ bytes "0 7 -0.0000001 0.0000000 0.0000001 2.0000000\n"
unfolding all
order = refl

-- a table with fewer rows
short : joined (box_lines nodes none 3) ≡ bytes "0 7 -\n"
unfolding all
short = refl
