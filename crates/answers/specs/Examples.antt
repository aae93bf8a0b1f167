-- Worked examples of this crate's definitions, by computation.
use Rattle.std.specs.Prelude.{◌≡◌, refl, Ok, Err, List, [], ◌∷◌, ℕ}
use Rattle.scan.specs.Text.{bytes}
use Rattle.scan.specs.Runs.{run, first_not, after_one_at}
use Rattle.token.specs.declared.Token.TheVariants.{Comma, Number, ParenClose, ParenOpen, Word}
use Rattle.tokenizer.specs.declared.Held.{Held}
use Rattle.tokenizer.specs.declared.Cursor.{Cursor}
use Rattle.token.specs.Examples.{all_bad}
use Rattle.token.specs.Tokens.{start_at, token_at, read_at}
use Rattle.tokenizer.specs.Tokens.{take_held, cursor_at}
use Rattle.store.specs.Rows.{Row, Span, put, close_row}
use Rattle.grammar.specs.Grammar.{out, ok, refused, halt, refusal}
use Rattle.sorts.specs.Taken.{clipped, told, taken_at}
use Rattle.answers.specs.declared.Unread.TheVariants.{Refused, Stopped}
use Rattle.answers.specs.Reading.{Answer, spot, state, ended_nodes, closed_at, closed_nodes, after_refusal, row_for, got_of, end_of}

-- `)` at 0 and, after a blank, at 2; `(` at 3; a comma at 4; NUL at 5; and the end at 6
text : List ℕ
text = bytes ") )(,\0"

-- two node rows, and what a slice of less than two whole rows is
ns : List ℕ
ns = 7 ∷ 0 ∷ 0 ∷ 1 ∷ 0 ∷ 0 ∷ []

five : List ℕ
five = 7 ∷ 0 ∷ 0 ∷ 1 ∷ 0 ∷ []

all : ℕ
unfolding all_bad text ns five run first_not after_one_at start_at token_at read_at take_held clipped told taken_at put close_row closed_at closed_nodes after_refusal row_for
all = 0

-- a cursor at 9 that holds something which was read at 7
holding : Held → Cursor
holding h = record { at = 9; held = h }

after : Cursor → Answer
after c = closed_at text (state c 5 6)

-- "only with `)` does the body's own answer stand": right at the cursor, behind a blank, held
closed : (after (cursor_at 0) ≡ Ok (spot 1 5 6)) × (after (cursor_at 1) ≡ Ok (spot 3 5 6)) × (after (holding (Held.Is 7 ParenClose)) ≡ Ok (spot 9 5 6))
unfolding all after holding
closed = (refl, refl, refl)

-- "anything but `)` gives 13", a bad number what it is refused with (past the end nothing is left of it): each sort, at its place, and it is taken
unclosed : (after (cursor_at 3) ≡ Err (Refused (refusal 13 3) (cursor_at 4))) × (after (cursor_at 4) ≡ Err (Refused (refusal 13 4) (cursor_at 5))) × (after (cursor_at 5) ≡ Err (Refused (refusal 13 5) (cursor_at 6))) × (after (cursor_at 6) ≡ Err (Refused (refusal 13 6) (cursor_at 6))) × (after (holding (Held.Is 7 ParenOpen)) ≡ Err (Refused (refusal 13 7) (cursor_at 9))) × (after (holding (Held.Is 7 Comma)) ≡ Err (Refused (refusal 13 7) (cursor_at 9))) × (after (holding (Held.Is 7 (Number 8 1))) ≡ Err (Refused (refusal 13 7) (cursor_at 9))) × (after (holding (Held.Is 7 (Word 7 2))) ≡ Err (Refused (refusal 13 7) (cursor_at 9))) × (after (holding (Held.NoToken 7)) ≡ Err (Refused (refusal 13 7) (cursor_at 9))) × (after (holding (Held.BadNumber 7)) ≡ Err (Refused (refusal 28 7) (cursor_at 9)))
unfolding all after holding
unclosed = (refl, refl, refl, refl, refl, refl, refl, refl, refl, refl)

-- the parts are filled in, of that row alone, where the node has ended
filled : (ended_nodes ns 0 2 (spot 1 2 3) ≡ 7 ∷ 0 ∷ 2 ∷ 1 ∷ 0 ∷ 0 ∷ []) × (closed_nodes text (state (cursor_at 0) 5 6) ns 1 9 ≡ 7 ∷ 0 ∷ 0 ∷ 1 ∷ 0 ∷ 9 ∷ []) × (closed_nodes text (state (cursor_at 3) 5 6) ns 1 9 ≡ ns)
unfolding all
filled = (refl, refl, refl)

lost : Cursor → Answer
lost c = after_refusal text (Err (Refused (refusal 11 8) c))

-- "After the body one token is always taken, even when the body was refused."
taken : (lost (cursor_at 0) ≡ Err (Refused (refusal 11 8) (cursor_at 1))) × (lost (cursor_at 1) ≡ Err (Refused (refusal 11 8) (cursor_at 3))) × (lost (holding (Held.Is 7 ParenClose)) ≡ Err (Refused (refusal 11 8) (cursor_at 9))) × (lost (cursor_at 3) ≡ Err (Refused (refusal 13 3) (cursor_at 4))) × (lost (cursor_at 4) ≡ Err (Refused (refusal 13 4) (cursor_at 5))) × (lost (cursor_at 6) ≡ Err (Refused (refusal 13 6) (cursor_at 6))) × (lost (holding (Held.Is 7 (Word 7 2))) ≡ Err (Refused (refusal 13 7) (cursor_at 9))) × (lost (holding (Held.NoToken 7)) ≡ Err (Refused (refusal 13 7) (cursor_at 9))) × (lost (holding (Held.BadNumber 7)) ≡ Err (Refused (refusal 28 7) (cursor_at 9)))
unfolding all lost holding
taken = (refl, refl, refl, refl, refl, refl, refl, refl, refl)

-- "Refusals 3, 4 and 5 instead end the reading at once.": nothing is taken
stopped : (after_refusal text (Err (Stopped (refusal 3 8) (cursor_at 0))) ≡ Err (Stopped (refusal 3 8) (cursor_at 0))) × (after_refusal text (Ok (spot 0 5 6)) ≡ Ok (spot 0 5 6))
unfolding all
stopped = (refl, refl)

-- one row more up to the last whole row of the slice, else 3 at the place given
rows : (row_for ns 8 (spot 4 0 6) ≡ Ok (spot 4 1 6)) × (row_for ns 8 (spot 4 1 6) ≡ Ok (spot 4 2 6)) × (row_for ns 8 (spot 4 2 6) ≡ Err (Stopped (refusal 3 8) (cursor_at 4))) × (row_for five 8 (spot 4 1 6) ≡ Err (Stopped (refusal 3 8) (cursor_at 4)))
unfolding all
rows = (refl, refl, refl, refl)

-- what each answer means, and where it ends
module _ (R : ℕ → List Row) (S : ℕ → List Span) where
  means : (got_of R S (Ok (spot 1 2 3)) ≡ ok (out (R 2) (S 3))) × (got_of R S (Err (Refused (refusal 13 8) (cursor_at 1))) ≡ refused (refusal 13 8)) × (got_of R S (Err (Stopped (refusal 3 8) (cursor_at 1))) ≡ halt (refusal 3 8))
  means = (refl, refl, refl)

ends : (end_of (Ok (spot 1 2 3)) ≡ cursor_at 1) × (end_of (Err (Refused (refusal 13 8) (holding (Held.NoToken 7)))) ≡ holding (Held.NoToken 7)) × (end_of (Err (Stopped (refusal 3 8) (holding Held.Nothing))) ≡ cursor_at 9)
unfolding holding
ends = (refl, refl, refl)
