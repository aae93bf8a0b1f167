-- Rows in lent slices (document 01, "The store").
use Rattle.std.specs.Prelude.{ℕ, zero, suc, ◌+◌, ◌-◌, ◌*◌, ◌/◌, cond, ltb, leb, length, get_or, take, drop, replicate}
use mathlib.Core.List.{List, [], ◌∷◌, ◌++◌, flat_map}
use Rattle.std.proofs.lemmas.List.Edits.{sets}

-- "Nodes are rows of three u32", "Numbers are rows of two u32": the widths stand here alone
abbrev pub node_width : ℕ
node_width = 3

abbrev pub number_width : ℕ
number_width = 2

-- "kind [..], dimension [..], parts"
abbrev pub kind_column : ℕ
kind_column = 0

abbrev pub dimension_column : ℕ
dimension_column = 1

abbrev pub parts_column : ℕ
parts_column = 2

-- "start and length"
abbrev pub start_column : ℕ
start_column = 0

abbrev pub length_column : ℕ
length_column = 1

-- "Room is the slice length divided by 3 or 2, rounded down."
abbrev pub node_room : List ℕ → ℕ
node_room ns = length ns / node_width

abbrev pub number_room : List ℕ → ℕ
number_room ms = length ms / number_width

-- how many places the first n rows of width w take, or all of them where there are fewer rows
unfoldable pub places_of : ℕ → List ℕ → ℕ → ℕ
places_of w s n = cond (leb n (length s / w)) (n * w) (length s)

-- the number in column c of row i, of rows of width w: 0 where there is no such row
unfoldable pub cell : ℕ → List ℕ → ℕ → ℕ → ℕ
cell w s i c = cond (ltb i (length s / w)) (get_or s (i * w + c) 0) 0

-- the numbers vs in row i from column c on: nothing changes where there is no such row
unfoldable pub put : ℕ → List ℕ → ℕ → ℕ → List ℕ → List ℕ
put w s i c vs = cond (ltb i (length s / w)) (sets s (i * w + c) vs) s

-- the first n of what f gives
unfoldable pub firsts : {A : Type 0} → (ℕ → A) → ℕ → List A
firsts f zero = []
firsts f (suc n) = firsts f n ++ (f n ∷ [])

-- what a node row says; others take a row apart by these names alone
pub record Row : Type 0 where
  pub kind : ℕ
  pub dimension : ℕ
  pub parts : ℕ

abbrev pub row : ℕ → ℕ → ℕ → Row
row k d n = record { kind = k; dimension = d; parts = n }

-- the row of a node of kind k and dimension d with so many parts, given the rows of all that is under it; and that row with those after it
abbrev pub node_row : ℕ → ℕ → ℕ → List Row → Row
node_row k d n under = row k d n

abbrev pub node_over : ℕ → ℕ → ℕ → List Row → List Row
node_over k d n under = node_row k d n under ∷ under

-- a row that is opened: it has no parts yet, and nothing is under it
abbrev pub fresh_row : ℕ → ℕ → Row
fresh_row k d = node_row k d 0 []

-- a row that is closed: "parts filled in after the children"
abbrev pub closed_row : Row → ℕ → List Row → Row
closed_row r n under = node_row r.kind r.dimension n under

-- rows as numbers
abbrev pub row_numbers : Row → List ℕ
row_numbers r = r.kind ∷ r.dimension ∷ r.parts ∷ []

-- start, length and bytes of a number's text
pub data Span : Type 0 where
  span : ℕ → ℕ → List ℕ → Span

abbrev pub kind_at : List ℕ → ℕ → ℕ
kind_at ns i = cell node_width ns i kind_column

abbrev pub dimension_at : List ℕ → ℕ → ℕ
dimension_at ns i = cell node_width ns i dimension_column

abbrev pub parts_at : List ℕ → ℕ → ℕ
parts_at ns i = cell node_width ns i parts_column

abbrev pub row_at : List ℕ → ℕ → Row
row_at ns i = row (kind_at ns i) (dimension_at ns i) (parts_at ns i)

-- the number in each column of a node row, for who asks for all of them: 0 where there is no such column or no such row
unfoldable pub node_column : List ℕ → ℕ → ℕ → ℕ
node_column ns i c = cond (ltb c node_width) (cell node_width ns i c) 0

abbrev pub span_start_at : List ℕ → ℕ → ℕ
span_start_at ms i = cell number_width ms i start_column

abbrev pub span_length_at : List ℕ → ℕ → ℕ
span_length_at ms i = cell number_width ms i length_column

-- the span from `start` on, of `len` bytes
abbrev pub span_of : List ℕ → ℕ → ℕ → Span
span_of text start len = span start len (take len (drop start text))

abbrev pub span_at : List ℕ → List ℕ → ℕ → Span
span_at text ms i = span_of text (span_start_at ms i) (span_length_at ms i)

-- the first n node rows
unfoldable pub rows_in : List ℕ → ℕ → List Row
rows_in ns n = firsts (row_at ns) n

-- the first m number rows, with their texts
unfoldable pub spans_in : List ℕ → List ℕ → ℕ → List Span
spans_in text ms m = firsts (span_at text ms) m

-- row i opened, with all its columns; and closed, with what follows from its parts
unfoldable pub open_row : List ℕ → ℕ → ℕ → ℕ → List ℕ
open_row ns i k d = put node_width ns i kind_column (row_numbers (fresh_row k d))

unfoldable pub close_row : List ℕ → ℕ → ℕ → List ℕ
close_row ns i parts = put node_width ns i parts_column (parts ∷ [])

-- row i with all its columns
unfoldable pub put_row : List ℕ → ℕ → ℕ → ℕ → ℕ → List ℕ
put_row ns i k d n = put node_width ns i kind_column (row_numbers (row k d n))

unfoldable pub put_span : List ℕ → ℕ → ℕ → ℕ → List ℕ
put_span ms i start len = put number_width ms i start_column (start ∷ len ∷ [])

-- the rows with the one at i closed, so that those after it are under it: nothing changes past the end
unfoldable pub close_in : List Row → ℕ → ℕ → List Row
close_in [] i v = []
close_in (r ∷ rs) zero v = closed_row r v rs ∷ rs
close_in (r ∷ rs) (suc i) v = r ∷ close_in rs i v

abbrev pub span_numbers : Span → List ℕ
span_numbers (span start len text) = start ∷ len ∷ []

unfoldable pub flat_rows : List Row → List ℕ
flat_rows rs = flat_map row_numbers rs

unfoldable pub flat_spans : List Span → List ℕ
flat_spans ss = flat_map span_numbers ss

abbrev pub zeros : ℕ → List ℕ
zeros n = replicate n 0

-- "Unused places are zero after every call.": the list, and zeros up to the length n
abbrev pub padded : List ℕ → ℕ → List ℕ
padded l n = l ++ zeros (n - length l)

-- the slice with zeros from the place `from` on: of numbers of any type, whose zero is z, and of unsigned ones
unfoldable pub cleared_to : {A : Type 0} → A → List A → ℕ → List A
cleared_to z s from = take from s ++ replicate (length s - from) z

abbrev pub cleared : List ℕ → ℕ → List ℕ
cleared s from = cleared_to 0 s from
