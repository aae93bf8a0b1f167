-- Two buffers that the public function's contract allows for one input are one.
-- Assumes nothing.
use Prim.Native.Nat.{ℕ}
use mathlib.Core.Path.{◌≡◌}
use mathlib.Core.List.{List}
use lib.IntN.{ℤ}
use Rattle.lists.specs.One.{One}
use Rattle.lists.proofs.One.{one}
use Rattle.printing.specs.Printing.{Buffer, put_all_in}
use Rattle.box_lines.specs.Lines.{box_lines}

-- the bytes and the count together
pub put_boxes_one : (b : Buffer) (ns : List ℕ) (t : List ℤ) (rows : ℕ) → One (λ left. left ≡ put_all_in (box_lines ns t rows) b)
put_boxes_one b ns t rows = one
