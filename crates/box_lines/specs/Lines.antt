-- The lines of boxes (request 2026-03: "a line for each node: row, kind, the four numbers as decimals with seven places, or `-` where there is none").
use Rattle.std.specs.Prelude.{ℕ, ◌*◌, min, cond, List, [], ◌∷◌, ◌++◌, eqb, ℤ, pos, nat_abs, get_or, drop}
use Rattle.scan.specs.Text.{bytes}
use Rattle.store.specs.Rows.{kind_at}
use Rattle.bounds.specs.Bounds.{box_width, box_room}
use Rattle.printing.specs.Printing.{decimal, spaced}
use Rattle.console.specs.Console.{newline}
use Rattle.signed_lines.specs.Signed.{spaced_units}
use Rattle.row_lines.specs.Lines.{lines_of}

-- row and kind
abbrev pub heading : ℕ → ℕ → List (List ℕ)
heading row kind = decimal row ∷ spaced kind

-- low and high of X or of Y, each after a space
abbrev pub pair : ℤ → ℤ → List (List ℕ)
pair low high = spaced_units low ++ spaced_units high

-- the column c of the row of a table that stands at the front
abbrev pub column : List ℤ → ℕ → ℤ
column l c = get_or l c (pos 0)

-- low X, high X, low Y, high Y, "or `-` where there is none"
abbrev pub box_text : List ℤ → List (List ℕ)
box_text l = cond (eqb (nat_abs (column l 0)) 0) (bytes " -" ∷ []) (pair (column l 1) (column l 2) ++ pair (column l 3) (column l 4))

abbrev pub row_line : ℕ → ℕ → List ℤ → List (List ℕ)
row_line row kind l = heading row kind ++ (box_text l ++ newline ∷ [])

-- "a line for each node"
abbrev pub box_line : List ℕ → List ℤ → ℕ → List (List ℕ)
box_line ns t i = row_line i (kind_at ns i) (drop (i * box_width) t)

-- of so many nodes, or of as many as the table has rows
abbrev pub box_lines : List ℕ → List ℤ → ℕ → List (List ℕ)
box_lines ns t n = lines_of (box_line ns t) (min n (box_room t))
