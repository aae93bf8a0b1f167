-- Two outcomes that a public function's contract allows for one input are one outcome: the answer, and what the lent slices are left with.
-- Assumes nothing.
use Prim.Native.Nat.{ℕ}
use mathlib.Core.Path.{◌≡◌}
use mathlib.Core.List.{List}
use Rattle.store.specs.declared.ReadAnswer.{ReadAnswer}
use Rattle.store.specs.declared.WriteAnswer.{WriteAnswer}
use Rattle.store.specs.Rows.{node_room, number_room}
use Rattle.store.specs.Answers.{Leaves, leaves_one, Writes, writes_one}
use Rattle.stored_form.specs.Form.{version1, version2, stored_of}
use Rattle.stored_form.specs.Reading.{reading_of}
use Rattle.stored_moves.specs.declared.MoveAnswer.{MoveAnswer}
use Rattle.stored_moves.specs.Moving.{moving_of, Moves, moves_one}

pub read_1_one : (bytes ns ms : List ℕ) {a a' : ReadAnswer} {ns' ns'' ms' ms'' : List ℕ} → Leaves (reading_of version1 (node_room ns) (number_room ms) bytes) ns ms a ns' ms' → Leaves (reading_of version1 (node_room ns) (number_room ms) bytes) ns ms a' ns'' ms'' → (a ≡ a') × (ns' ≡ ns'') × (ms' ≡ ms'')
read_1_one bytes ns ms x y = leaves_one x y

pub read_2_one : (bytes ns ms : List ℕ) {a a' : ReadAnswer} {ns' ns'' ms' ms'' : List ℕ} → Leaves (reading_of version2 (node_room ns) (number_room ms) bytes) ns ms a ns' ms' → Leaves (reading_of version2 (node_room ns) (number_room ms) bytes) ns ms a' ns'' ms'' → (a ≡ a') × (ns' ≡ ns'') × (ms' ≡ ms'')
read_2_one bytes ns ms x y = leaves_one x y

pub write_1_one : (text nodes numbers : List ℕ) {out out' : List ℕ} {room : ℕ} {r r' : WriteAnswer} → Writes (stored_of version1 text nodes numbers) room r out → Writes (stored_of version1 text nodes numbers) room r' out' → (r ≡ r') × (out ≡ out')
write_1_one text nodes numbers x y = writes_one x y

pub write_2_one : (text nodes numbers : List ℕ) {out out' : List ℕ} {room : ℕ} {r r' : WriteAnswer} → Writes (stored_of version2 text nodes numbers) room r out → Writes (stored_of version2 text nodes numbers) room r' out' → (r ≡ r') × (out ≡ out')
write_2_one text nodes numbers x y = writes_one x y

pub move_1_to_2_one : (bytes ns ms : List ℕ) (room : ℕ) {a a' : MoveAnswer} {ns' ns'' ms' ms'' out out' : List ℕ} → Moves (moving_of version1 version2 (node_room ns) (number_room ms) room bytes) ns ms room a ns' ms' out → Moves (moving_of version1 version2 (node_room ns) (number_room ms) room bytes) ns ms room a' ns'' ms'' out' → (a ≡ a') × (ns' ≡ ns'') × (ms' ≡ ms'') × (out ≡ out')
move_1_to_2_one bytes ns ms room x y = moves_one x y

pub move_2_to_1_one : (bytes ns ms : List ℕ) (room : ℕ) {a a' : MoveAnswer} {ns' ns'' ms' ms'' out out' : List ℕ} → Moves (moving_of version2 version1 (node_room ns) (number_room ms) room bytes) ns ms room a ns' ms' out → Moves (moving_of version2 version1 (node_room ns) (number_room ms) room bytes) ns ms room a' ns'' ms'' out' → (a ≡ a') × (ns' ≡ ns'') × (ms' ≡ ms'') × (out ≡ out')
move_2_to_1_one bytes ns ms room x y = moves_one x y
