-- Worked examples of this crate's definitions, by computation.
use Rattle.std.specs.Prelude.{◌≡◌, refl, ℕ, take}
use mathlib.Core.List.{List, [], ◌∷◌, map, flat_map}
use Rattle.store.specs.Answers.{Outcome, filled, refused, read_answer, Leaves, Output, bytes, refusal, write_answer, room_after, Writes}
use Rattle.store.specs.Rows.{node_room, number_room, places_of, cell, put, firsts, Row, row, node_over, span, kind_at, dimension_at, parts_at, node_column, span_start_at, span_length_at, node_width, number_width, rows_in, spans_in, open_row, close_row, put_row, put_span, close_in, flat_rows, flat_spans, padded, cleared, cleared_to}

-- two rows, and one number that makes no row
nodes : List ℕ
nodes = 7 ∷ 1 ∷ 9 ∷ 1 ∷ 0 ∷ 1 ∷ 5 ∷ []

-- slices of 0 to 6 numbers
sliced : List (List ℕ)
unfolding nodes
sliced = map (λ n. take n nodes) (0 ∷ 1 ∷ 2 ∷ 3 ∷ 4 ∷ 5 ∷ 6 ∷ [])

collection : Row
collection = row 7 1 9

point : Row
point = row 1 0 1

all : ℕ
unfolding nodes collection point places_of cell node_column put firsts rows_in spans_in open_row close_row put_row put_span close_in flat_rows flat_spans flat_map cleared_to
all = 0

-- seven numbers have room for two node rows, or for three number rows
room : (node_room nodes ≡ 2) × (number_room nodes ≡ 3) × (node_room [] ≡ 0)
unfolding all
room = (refl, refl, refl)

-- the places of the first two node rows, and of three, of which there are two
used : (places_of 3 nodes 0 ≡ 0) × (places_of 3 nodes 2 ≡ 6) × (places_of 3 nodes 3 ≡ 7) × (places_of 2 nodes 3 ≡ 6)
unfolding all
used = (refl, refl, refl, refl)

-- where a row is not whole, or there is none, its kind is 0
held : (rows_in nodes 2 ≡ collection ∷ point ∷ []) × (kind_at nodes 1 ≡ 1) × (kind_at nodes 2 ≡ 0) × (kind_at nodes 4 ≡ 0)
unfolding all
held = (refl, refl, refl, refl)

-- row 0 is opened; a row that is not whole is left alone
puts : (open_row nodes 0 2 3 ≡ 2 ∷ 3 ∷ 0 ∷ 1 ∷ 0 ∷ 1 ∷ 5 ∷ []) × (open_row nodes 2 2 3 ≡ nodes)
unfolding all
puts = (refl, refl)

-- a whole row is put: the first, the last, and one past it
wholes : (put_row nodes 0 2 3 4 ≡ 2 ∷ 3 ∷ 4 ∷ 1 ∷ 0 ∷ 1 ∷ 5 ∷ []) × (put_row nodes 1 2 3 4 ≡ 7 ∷ 1 ∷ 9 ∷ 2 ∷ 3 ∷ 4 ∷ 5 ∷ []) × (put_row nodes 2 2 3 4 ≡ nodes) × (put_row [] 0 2 3 4 ≡ [])
unfolding all
wholes = (refl, refl, refl, refl)

-- row 0 is closed: only its parts change
parts : (close_row nodes 0 1 ≡ 7 ∷ 1 ∷ 1 ∷ 1 ∷ 0 ∷ 1 ∷ 5 ∷ []) × (close_row nodes 2 1 ≡ nodes) × (close_in (collection ∷ point ∷ []) 0 1 ≡ row 7 1 1 ∷ point ∷ []) × (close_in (point ∷ []) 1 4 ≡ point ∷ [])
unfolding all
parts = (refl, refl, refl, refl)

-- `12` of `(12)` in the second of two rows
spans : (put_span (0 ∷ 0 ∷ 0 ∷ 0 ∷ []) 1 1 2 ≡ 0 ∷ 0 ∷ 1 ∷ 2 ∷ []) × (spans_in (40 ∷ 49 ∷ 50 ∷ 41 ∷ []) (1 ∷ 2 ∷ []) 1 ≡ span 1 2 (49 ∷ 50 ∷ []) ∷ [])
unfolding all
spans = (refl, refl)

flat : (flat_rows (collection ∷ point ∷ []) ≡ 7 ∷ 1 ∷ 9 ∷ 1 ∷ 0 ∷ 1 ∷ []) × (flat_spans (span 1 2 (49 ∷ 50 ∷ []) ∷ []) ≡ 1 ∷ 2 ∷ [])
unfolding all
flat = (refl, refl)

-- what lies after the first row is zero; past the end nothing changes
unused : (cleared nodes 3 ≡ 7 ∷ 1 ∷ 9 ∷ 0 ∷ 0 ∷ 0 ∷ 0 ∷ []) × (cleared nodes 3 ≡ padded (7 ∷ 1 ∷ 9 ∷ []) 7) × (cleared nodes 8 ≡ nodes)
unfolding all
unused = (refl, refl, refl)

-- "Nodes are rows of three u32", "Numbers are rows of two u32"
widths : (◌≡◌ {A = ℕ} node_width 3) × (◌≡◌ {A = ℕ} number_width 2)
widths = (refl, refl)

-- each column of the rows: kind, dimension, parts; start, length
columns : (kind_at nodes 0 ≡ 7) × (dimension_at nodes 0 ≡ 1) × (parts_at nodes 0 ≡ 9) × (span_start_at nodes 0 ≡ 7) × (span_length_at nodes 0 ≡ 1) × (span_start_at nodes 2 ≡ 0) × (span_length_at nodes 2 ≡ 1) × (span_start_at nodes 3 ≡ 0) × (span_length_at nodes 3 ≡ 0)
unfolding all
columns = (refl, refl, refl, refl, refl, refl, refl, refl, refl)

-- all columns of the second row, and one past the last
by_column : (map (node_column nodes 1) (0 ∷ 1 ∷ 2 ∷ 3 ∷ []) ≡ 1 ∷ 0 ∷ 1 ∷ 0 ∷ []) × (node_column nodes 0 3 ≡ 0) × (node_column nodes 2 0 ≡ 0)
unfolding all
by_column = (refl, refl, refl)

-- a collection of nine over a point: its row, and the point's after it
over : (node_over 7 1 9 (point ∷ []) ≡ collection ∷ point ∷ []) × (node_over 1 0 1 [] ≡ point ∷ [])
unfolding all
over = (refl, refl)

-- "rounded down": the room for node rows and for number rows of slices of 0 to 6 numbers
rooms : (map node_room sliced ≡ 0 ∷ 0 ∷ 0 ∷ 1 ∷ 1 ∷ 1 ∷ 2 ∷ []) × (map number_room sliced ≡ 0 ∷ 0 ∷ 1 ∷ 1 ∷ 2 ∷ 2 ∷ 3 ∷ [])
unfolding all sliced
rooms = (refl, refl)

-- the last row, and one past it
lasts : (open_row nodes 1 2 3 ≡ 7 ∷ 1 ∷ 9 ∷ 2 ∷ 3 ∷ 0 ∷ 5 ∷ []) × (close_row nodes 1 4 ≡ 7 ∷ 1 ∷ 9 ∷ 1 ∷ 0 ∷ 4 ∷ 5 ∷ []) × (put_span nodes 2 8 6 ≡ 7 ∷ 1 ∷ 9 ∷ 1 ∷ 8 ∷ 6 ∷ 5 ∷ []) × (put_span nodes 3 8 6 ≡ nodes) × (cleared nodes 0 ≡ 0 ∷ 0 ∷ 0 ∷ 0 ∷ 0 ∷ 0 ∷ 0 ∷ []) × (cleared nodes 6 ≡ 7 ∷ 1 ∷ 9 ∷ 1 ∷ 0 ∷ 1 ∷ 0 ∷ []) × (cleared nodes 7 ≡ nodes)
unfolding all
lasts = (refl, refl, refl, refl, refl, refl, refl)

-- ---- what readers and writers answer, and what they leave
-- two node rows and one number row; and a refusal, 14 at place 6
accepts : Outcome
accepts = filled (collection ∷ point ∷ []) (span 1 2 (49 ∷ 50 ∷ []) ∷ [])

refuses : Outcome
refuses = refused 14 6

-- "Number and place are 0 when accepted, all after the place 0 when refused."
answers : (read_answer accepts ≡ record { number = 0; place = 0; nodes = 2; numbers = 1 }) × (read_answer refuses ≡ record { number = 14; place = 6; nodes = 0; numbers = 0 })
unfolding accepts refuses
answers = (refl, refl)

-- "Unused places are zero after every call.": whatever stood in the slices, the used rows stand there now, and zeros after them
leaves : Leaves accepts nodes (8 ∷ 8 ∷ 8 ∷ []) (record { number = 0; place = 0; nodes = 2; numbers = 1 }) (7 ∷ 1 ∷ 9 ∷ 1 ∷ 0 ∷ 1 ∷ 0 ∷ []) (1 ∷ 2 ∷ 0 ∷ [])
unfolding all accepts
leaves = record { answer = refl; nodes = refl; numbers = refl }

-- after a refusal all of both slices
leaves_none : Leaves refuses nodes (8 ∷ 8 ∷ 8 ∷ []) (record { number = 14; place = 6; nodes = 0; numbers = 0 }) (0 ∷ 0 ∷ 0 ∷ 0 ∷ 0 ∷ 0 ∷ 0 ∷ []) (0 ∷ 0 ∷ 0 ∷ [])
unfolding all refuses
leaves_none = record { answer = refl; nodes = refl; numbers = refl }

-- two bytes in a room for three, for two, for one and for none; no bytes in no room; and a refusal, 22, whatever the room is
text : Output
text = bytes (65 ∷ 66 ∷ [])

written : (write_answer text 3 ≡ record { number = 0; place = 0; length = 2 }) × (write_answer text 2 ≡ record { number = 0; place = 0; length = 2 }) × (write_answer text 1 ≡ record { number = 23; place = 0; length = 0 }) × (write_answer text 0 ≡ record { number = 23; place = 0; length = 0 }) × (write_answer (bytes []) 0 ≡ record { number = 0; place = 0; length = 0 }) × (write_answer (refusal 22) 0 ≡ record { number = 22; place = 0; length = 0 }) × (write_answer (refusal 22) 3 ≡ record { number = 22; place = 0; length = 0 })
unfolding text
written = (refl, refl, refl, refl, refl, refl, refl)

-- "A refusing writer zeroes its output; an accepting one zeroes what lies after the text."
rooms_after : (room_after text 4 ≡ 65 ∷ 66 ∷ 0 ∷ 0 ∷ []) × (room_after text 2 ≡ 65 ∷ 66 ∷ []) × (room_after text 1 ≡ 0 ∷ []) × (room_after text 0 ≡ []) × (room_after (bytes []) 2 ≡ 0 ∷ 0 ∷ []) × (room_after (refusal 22) 3 ≡ 0 ∷ 0 ∷ 0 ∷ [])
unfolding text
rooms_after = (refl, refl, refl, refl, refl, refl)

-- answer and room together
writes : Writes text 3 (record { number = 0; place = 0; length = 2 }) (65 ∷ 66 ∷ 0 ∷ []) × Writes text 1 (record { number = 23; place = 0; length = 0 }) (0 ∷ []) × Writes (refusal 22) 1 (record { number = 22; place = 0; length = 0 }) (0 ∷ [])
unfolding text
writes = (record { answer = refl; bytes = refl }, record { answer = refl; bytes = refl }, record { answer = refl; bytes = refl })
