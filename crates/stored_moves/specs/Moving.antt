-- What moving stored bytes from one version of the form to another comes to (document 02, 2026-06), over any two versions.
use Rattle.std.specs.Prelude.{◌≡◌, cond, List, [], ℕ, leb, length}
use Rattle.std.proofs.Common.{sym, ◌∙◌}
use Rattle.refusals.specs.Refusals.{no_room}
use Rattle.store.specs.Rows.{Row, Span, flat_rows, flat_spans, padded}
use Rattle.store.specs.Answers.{Outcome, filled, Output, bytes, refusal}
use Rattle.store.specs.Answers as outcome
use Rattle.stored_form.specs.declared.Version.{Version}
use Rattle.stored_form.specs.Form.{stored_of}
use Rattle.stored_form.specs.Reading.{reading_of}
use Rattle.stored_moves.specs.declared.MoveAnswer.{MoveAnswer}

-- ---- what a move comes to: the rows and the spans that were read with the bytes that were written, or a refusal's number and place
pub data Moving : Type 0 where
  moved : List Row → List Span → List ℕ → Moving
  refused : ℕ → ℕ → Moving

-- "then 27, then 23", of what the other version's writer comes to; their place is 0
abbrev pub after_writing : ℕ → List Row → List Span → Output → Moving
after_writing room rs ss (refusal number) = refused number 0
after_writing room rs ss (bytes b) = cond (leb (length b) room) (moved rs ss b) (refused no_room 0)

-- "the reading side's first"; "with no text at hand": the numbers' texts lie in the source
abbrev pub after_reading : Version → ℕ → List ℕ → Outcome → Moving
after_reading w room source (outcome.refused number place) = refused number place
after_reading w room source (filled rs ss) = after_writing room rs ss (stored_of w source (flat_rows rs) (flat_spans ss))

-- a move from version v to version w, "through a lent store" with room for N node rows and M number rows, into so much room
unfoldable pub moving_of : Version → Version → ℕ → ℕ → ℕ → List ℕ → Moving
moving_of v w N M room source = after_reading w room source (reading_of v N M source)

-- ---- "the moves answer number, place, length, node count, number count"
abbrev pub move_answer : Moving → MoveAnswer
move_answer (moved rs ss b) = record { number = 0; place = 0; length = length b; nodes = length rs; numbers = length ss }
move_answer (refused number place) = record { number = number; place = place; length = 0; nodes = 0; numbers = 0 }

-- "left as the reader leaves it, all zero on any refusal"
abbrev pub store_left : Moving → Outcome
store_left (moved rs ss b) = filled rs ss
store_left (refused number place) = outcome.refused number place

abbrev pub bytes_left : Moving → List ℕ
bytes_left (moved rs ss b) = b
bytes_left (refused number place) = []

-- the answer, every place of both slices, and every byte of the room
pub record Moves (m : Moving) (ns ms : List ℕ) (room : ℕ) (a : MoveAnswer) (ns' ms' out : List ℕ) : Type 0 where
  pub answer : a ≡ move_answer m
  pub nodes : ns' ≡ padded (outcome.used_rows (store_left m)) (length ns)
  pub numbers : ms' ≡ padded (outcome.used_spans (store_left m)) (length ms)
  pub output : out ≡ padded (bytes_left m) room

-- two outcomes that such a contract allows coincide
pub moves_one : {m : Moving} {ns ms : List ℕ} {room : ℕ} {a a' : MoveAnswer} {ns' ns'' ms' ms'' out out' : List ℕ} → Moves m ns ms room a ns' ms' out → Moves m ns ms room a' ns'' ms'' out' → (a ≡ a') × (ns' ≡ ns'') × (ms' ≡ ms'') × (out ≡ out')
moves_one x y = (x.answer ∙ sym y.answer, x.nodes ∙ sym y.nodes, x.numbers ∙ sym y.numbers, x.output ∙ sym y.output)
