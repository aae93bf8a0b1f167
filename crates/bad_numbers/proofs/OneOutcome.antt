-- Two answers that a public function's contract allows for one input are one answer.
-- Assumes nothing.
use Prim.Native.Nat.{ℕ}
use mathlib.Core.Path.{◌≡◌}
use mathlib.Core.List.{List}
use Rattle.lists.specs.One.{One}
use Rattle.lists.proofs.One.{one}
use Rattle.bad_numbers.specs.Openings.{opens_word, goes_wrong}

pub opens_word_one : (w : List ℕ) → One (λ r. r ≡ opens_word w)
opens_word_one w = one

pub wrong_at_one : (w : List ℕ) → One (λ r. r ≡ goes_wrong w)
wrong_at_one w = one
