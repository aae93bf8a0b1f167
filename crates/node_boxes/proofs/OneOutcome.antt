-- Two outcomes that a public function's contract allows for one input are one outcome: the answer, and what the lent table is left with.
-- Assumes nothing.
use Prim.Native.Nat.{ℕ}
use mathlib.Core.Path.{◌≡◌}
use mathlib.Core.List.{List}
use lib.IntN.{ℤ}
use Rattle.bounds.specs.declared.BoxAnswer.{BoxAnswer}
use Rattle.bounds.specs.Bounds.{box_room}
use Rattle.node_boxes.specs.Boxes.{boxes_of, FillsTable, fills_one}

pub boxes_one : (text nodes numbers : List ℕ) (table : List ℤ) {a a' : BoxAnswer} {left left' : List ℤ} → FillsTable (boxes_of text nodes numbers (box_room table)) table a left → FillsTable (boxes_of text nodes numbers (box_room table)) table a' left' → (a ≡ a') × (left ≡ left')
boxes_one text nodes numbers table x y = fills_one x y
