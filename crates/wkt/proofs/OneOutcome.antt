-- Two outcomes that the contract of `read` allows for one input are one outcome: the answer, and what both slices are left with.
-- Assumes nothing.
use Prim.Native.Nat.{ℕ}
use mathlib.Core.Path.{◌≡◌}
use mathlib.Core.List.{List}
use Rattle.store.specs.Rows.{node_room, number_room}
use Rattle.grammar.specs.Reading.{reading}
use Rattle.store.specs.declared.ReadAnswer.{ReadAnswer}
use Rattle.store.specs.Answers.{leaves_one}
use Rattle.wkt.specs.Leaves.{Leaves}

pub read_one : (text ns ms : List ℕ) {a a' : ReadAnswer} {ns' ns'' ms' ms'' : List ℕ} → Leaves (reading (node_room ns) (number_room ms) text) ns ms a ns' ms' → Leaves (reading (node_room ns) (number_room ms) text) ns ms a' ns'' ms'' → (a ≡ a') × (ns' ≡ ns'') × (ms' ≡ ms'')
read_one text ns ms x y = leaves_one x y
