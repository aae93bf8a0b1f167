-- Two answers that a public function's contract allows for one input are one answer.
-- Assumes nothing.
use Prim.Native.Nat.{ℕ}
use mathlib.Core.Path.{◌≡◌}
use mathlib.Core.List.{List}
use Rattle.lists.specs.One.{One}
use Rattle.lists.proofs.One.{one}
use Rattle.token.specs.Tokens.{read_at, bad_at}

pub bad_number_at_one : (text : List ℕ) (place : ℕ) → One (λ r. r ≡ bad_at text place)
bad_number_at_one text place = one

pub read_at_one : (text : List ℕ) (from : ℕ) → One (λ r. r ≡ read_at text from)
read_at_one text from = one
