-- The lines that a text is listed as: "`accepted 1 3`, `node 1 1 1`, `number 1`, `number 2`, `number 3`, a line each; a refusal prints as
-- `refused 13 8`".
use Rattle.std.specs.Prelude.{ℕ, zero, suc, ◌-◌, min, ◌≡◌, true, false, cond, eqb, length, take, drop}
use mathlib.Core.List.{List, [], ◌∷◌, ◌++◌, flat_map}
use Rattle.scan.specs.Text.{bytes}
use Rattle.store.specs.Rows.{node_room, number_room, row_numbers, row_at, span_start_at, span_length_at}
use Rattle.grammar.specs.Reading.{reading}
use Rattle.store.specs.declared.ReadAnswer.{ReadAnswer}
use Rattle.wkt.specs.Leaves.{Leaves}
use Rattle.printing.specs.Printing.{Buffer, put_all_in, spaced}
use Rattle.console.specs.Console.{is_over_input, newline, counts_line, refusal_line, too_long_line}

-- a node's row: its numbers in their order, which are kind, dimension and parts
abbrev pub node_numbers : List ℕ → ℕ → List (List ℕ)
node_numbers ns i = flat_map spaced (row_numbers (row_at ns i))

abbrev pub node_line : List ℕ → ℕ → List (List ℕ)
node_line ns i = bytes "node" ∷ (node_numbers ns i ++ newline ∷ [])

-- the kept text of a number: what lies in the text of the bytes that its row names
abbrev pub kept_text : List ℕ → ℕ → ℕ → List ℕ
kept_text text start len = take (min len (length text - min start (length text))) (drop (min start (length text)) text)

abbrev pub number_line : List ℕ → List ℕ → ℕ → List (List ℕ)
number_line text ms i = bytes "number " ∷ kept_text text (span_start_at ms i) (span_length_at ms i) ∷ newline ∷ []

-- the lines of the first n rows, one after the other
unfoldable pub lines_of : (ℕ → List (List ℕ)) → ℕ → List (List ℕ)
lines_of f zero = []
lines_of f (suc n) = lines_of f n ++ f n

-- the first line: what was answered
abbrev pub answer_line : ReadAnswer → List (List ℕ)
answer_line a = cond (eqb a.number 0) (counts_line (bytes "accepted") a.nodes a.numbers newline) (refusal_line a.number a.place newline)

-- all lines, given the answer and the rows that were read
abbrev pub listing_lines : ReadAnswer → List ℕ → List ℕ → List ℕ → List (List ℕ)
listing_lines a text ns ms = answer_line a ++ (lines_of (node_line ns) a.nodes ++ lines_of (number_line text ms) a.numbers)

-- a text is listed: over the programs' limit it isn't read
pub data Listed (text ns ms : List ℕ) (b : Buffer) (ns' ms' : List ℕ) (b' : Buffer) : Type 0 where
  long : is_over_input (length text) ≡ true → ns' ≡ ns → ms' ≡ ms → b' ≡ put_all_in too_long_line b → Listed text ns ms b ns' ms' b'
  read : is_over_input (length text) ≡ false → (a : ReadAnswer) → Leaves (reading (node_room ns) (number_room ms) text) ns ms a ns' ms' → b' ≡ put_all_in (listing_lines a text ns' ms') b → Listed text ns ms b ns' ms' b'
