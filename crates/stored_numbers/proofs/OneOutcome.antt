-- Two answers that a public function's contract allows for one input are one answer.
-- Assumes nothing.
use Prim.Native.Nat.{ℕ}
use mathlib.Core.Path.{◌≡◌}
use mathlib.Core.List.{List}
use Rattle.lists.specs.One.{One}
use Rattle.lists.proofs.One.{one}
use Rattle.stored_numbers.specs.Looks.{numbers_seen}

pub look_at_numbers_one : (bytes : List ℕ) (first count : ℕ) → One (λ r. r ≡ numbers_seen bytes first count)
look_at_numbers_one bytes first count = one
