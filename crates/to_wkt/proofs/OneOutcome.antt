-- Two answers that a public function's contract allows for one input are one answer, and so are two slices that are left.
-- Assumes nothing.
use Prim.Native.Nat.{ℕ}
use mathlib.Core.Path.{◌≡◌}
use mathlib.Core.List.{List}
use Rattle.store.specs.declared.WriteAnswer.{WriteAnswer}
use Rattle.store.specs.Answers.{writes_one}
use Rattle.to_wkt.specs.Write.{Written}

-- two outcomes of `write`: the answer and the room
pub write_one : (text nodes numbers : List ℕ) {out out' : List ℕ} {room : ℕ} {r r' : WriteAnswer} → Written text nodes numbers room r out → Written text nodes numbers room r' out' → (r ≡ r') × (out ≡ out')
write_one text nodes numbers x y = writes_one x y
