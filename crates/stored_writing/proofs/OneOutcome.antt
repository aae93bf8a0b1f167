-- Two outcomes that a public function's contract allows for one input are one outcome: the answer, and what the lent room and the lent slices are left with.
-- Assumes nothing.
use Prim.Native.Nat.{ℕ}
use mathlib.Core.Path.{◌≡◌}
use mathlib.Core.List.{List}
use Rattle.store.specs.declared.WriteAnswer.{WriteAnswer}
use Rattle.store.specs.Rows.{node_room, number_room}
use Rattle.store.specs.Answers.{Writes, writes_one}
use Rattle.stored_form.specs.declared.Edition.{Edition}
use Rattle.stored_form.specs.Form.{version_of, stored_of}
use Rattle.stored_moves.specs.declared.MoveAnswer.{MoveAnswer}
use Rattle.stored_moves.specs.Moving.{moving_of, Moves, moves_one}

pub write_one : (text nodes numbers : List ℕ) (edition : Edition) {out out' : List ℕ} {room : ℕ} {r r' : WriteAnswer} → Writes (stored_of (version_of edition) text nodes numbers) room r out → Writes (stored_of (version_of edition) text nodes numbers) room r' out' → (r ≡ r') × (out ≡ out')
write_one text nodes numbers edition x y = writes_one x y

pub move_between_one : (bytes : List ℕ) (from to : Edition) (ns ms : List ℕ) (room : ℕ) {a a' : MoveAnswer} {ns' ns'' ms' ms'' out out' : List ℕ} → Moves (moving_of (version_of from) (version_of to) (node_room ns) (number_room ms) room bytes) ns ms room a ns' ms' out → Moves (moving_of (version_of from) (version_of to) (node_room ns) (number_room ms) room bytes) ns ms room a' ns'' ms'' out' → (a ≡ a') × (ns' ≡ ns'') × (ms' ≡ ms'') × (out ≡ out')
move_between_one bytes from to ns ms room x y = moves_one x y
