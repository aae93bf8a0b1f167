-- Two answers that a public function's contract allows for one input are one answer.
-- Assumes nothing.
use Prim.Native.Nat.{ℕ}
use mathlib.Core.Path.{◌≡◌}
use Rattle.lists.specs.One.{One}
use Rattle.lists.proofs.One.{one}
use Rattle.rooms.specs.Rooms.{enough_rows}

pub enough_rows_one : (bytes : ℕ) → One (λ r. r ≡ enough_rows bytes)
enough_rows_one bytes = one
