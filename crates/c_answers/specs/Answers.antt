-- What the entries for C leave in the four places of a lent answer (five for a move), and in the slices: the answers of `wkt`, `to_wkt`,
-- `stored`, `strict` and `infer_type` in the order that document 01 names their values in ("Refusal numbers"), and that of
-- `node_boxes` (request 2026-03), of a move (2026-06) and of `token`, then zeros.
use Rattle.std.specs.Prelude.{◌≡◌, List, [], ◌∷◌, ℕ, ℤ, length}
use Rattle.store.specs.declared.ReadAnswer.{ReadAnswer}
use Rattle.store.specs.declared.WriteAnswer.{WriteAnswer}
use Rattle.store.specs.Answers.{Outcome, read_answer, Leaves, Output, write_answer, Writes}
use Rattle.strict.specs.declared.StrictAnswer.{StrictAnswer}
use Rattle.infer_type.specs.declared.Inferred.{Inferred}
use Rattle.bounds.specs.declared.BoxAnswer.{BoxAnswer}
use Rattle.bounds.specs.Bounds.{padded}
use Rattle.stored_moves.specs.declared.MoveAnswer.{MoveAnswer}
use Rattle.stored_moves.specs.Moving.{Moving, move_answer, Moves}
use Rattle.token.specs.declared.Token.{Token}
use Rattle.token.specs.declared.Token.TheVariants.{Comma, Number, ParenClose, ParenOpen, Word}
use Rattle.token.specs.declared.Found.{Found}
use Rattle.token.specs.declared.Found.TheVariants.{NoToken, BadNumber, Is}

-- "The reader answers number, place, node count, number count"
abbrev pub read_places : ReadAnswer → List ℕ
read_places a = a.number ∷ a.place ∷ a.nodes ∷ a.numbers ∷ []

-- "the writer number, place, length"
abbrev pub write_places : WriteAnswer → List ℕ
write_places a = a.number ∷ a.place ∷ a.length ∷ 0 ∷ []

-- "the strict check number, letter (its ASCII byte, 0 if none), node row (0 if none)"
abbrev pub strict_places : StrictAnswer → List ℕ
strict_places a = a.number ∷ a.letter ∷ a.row ∷ 0 ∷ []

-- "infer_type number, place, kind, dimension"
abbrev pub infer_places : Inferred → List ℕ
infer_places a = a.number ∷ a.place ∷ a.kind ∷ a.dimension ∷ []

-- the boxes number, place
abbrev pub box_places : BoxAnswer → List ℕ
box_places a = a.number ∷ a.place ∷ 0 ∷ 0 ∷ []

-- "the moves answer number, place, length, node count, number count"
abbrev pub move_places : MoveAnswer → List ℕ
move_places a = a.number ∷ a.place ∷ a.length ∷ a.nodes ∷ a.numbers ∷ []

-- a token its sort, the place where it stands, and start and length of a number's text or of a word
abbrev pub places_of : ℕ → Token → List ℕ
places_of p Comma = 2 ∷ p ∷ 0 ∷ 0 ∷ []
places_of p (Number s n) = 5 ∷ p ∷ s ∷ n ∷ []
places_of p ParenClose = 3 ∷ p ∷ 0 ∷ 0 ∷ []
places_of p ParenOpen = 4 ∷ p ∷ 0 ∷ 0 ∷ []
places_of p (Word s n) = 6 ∷ p ∷ s ∷ n ∷ []

-- and where there is none, sort and place
abbrev pub token_places : Found → List ℕ
token_places (NoToken p) = 0 ∷ p ∷ 0 ∷ 0 ∷ []
token_places (BadNumber p) = 1 ∷ p ∷ 0 ∷ 0 ∷ []
token_places (Is p t) = places_of p t

-- a reader, by what reading comes to: both slices are left as its contract says, and the answer is the one that it fixes
pub record ReadsInto (o : Outcome) (ns ms ns' ms' answer : List ℕ) : Type 0 where
  pub rows : Leaves o ns ms (read_answer o) ns' ms'
  pub places : answer ≡ read_places (read_answer o)

-- a writer, in the same way
pub record WritesInto (o : Output) (room : ℕ) (out' answer : List ℕ) : Type 0 where
  pub bytes : Writes o room (write_answer o room) out'
  pub places : answer ≡ write_places (write_answer o room)

-- a move, in the same way
pub record MovesInto (m : Moving) (ns ms : List ℕ) (room : ℕ) (ns' ms' out' answer : List ℕ) : Type 0 where
  pub left : Moves m ns ms room (move_answer m) ns' ms' out'
  pub places : answer ≡ move_places (move_answer m)

-- the boxes, by what is answered and the rows that are used: these stand in the table from its first place on, and zeros follow them
pub record BoxesInto (a : BoxAnswer) (used t t' : List ℤ) (answer : List ℕ) : Type 0 where
  pub table : t' ≡ padded used (length t)
  pub places : answer ≡ box_places a
