-- Two outcomes that a public function's contract allows for one input are one outcome: the answer, and what the lent slices are left with.
-- Assumes nothing.
use Prim.Native.Nat.{ℕ}
use mathlib.Core.Path.{◌≡◌}
use mathlib.Core.List.{List}
use Rattle.store.specs.declared.ReadAnswer.{ReadAnswer}
use Rattle.store.specs.Rows.{node_room, number_room}
use Rattle.store.specs.Answers.{Leaves, leaves_one}
use Rattle.stored_form.specs.declared.Edition.{Edition}
use Rattle.stored_form.specs.Form.{version_of}
use Rattle.stored_form.specs.Reading.{reading_of}

pub read_one : (bytes : List ℕ) (edition : Edition) (ns ms : List ℕ) {a a' : ReadAnswer} {ns' ns'' ms' ms'' : List ℕ} → Leaves (reading_of (version_of edition) (node_room ns) (number_room ms) bytes) ns ms a ns' ms' → Leaves (reading_of (version_of edition) (node_room ns) (number_room ms) bytes) ns ms a' ns'' ms'' → (a ≡ a') × (ns' ≡ ns'') × (ms' ≡ ms'')
read_one bytes edition ns ms x y = leaves_one x y
