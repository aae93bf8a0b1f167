-- Two answers that a public function's contract allows for one input are one answer.
-- Assumes nothing.
use Prim.Native.Nat.{ℕ}
use mathlib.Core.Path.{◌≡◌}
use mathlib.Core.List.{List}
use lib.ListN.{length}
use Rattle.lists.specs.One.{One}
use Rattle.lists.proofs.One.{one}
use Rattle.scan.specs.Runs.{first_not}
use Rattle.line_places.specs.Lines.{is_in_line, goes_on, line_start, line_from, shown_place}

module _ (text : List ℕ) where
  pub line_start_one : One (λ r. r ≡ line_start text (length text))
  line_start_one = one

  pub line_end_one : (place : ℕ) → One (λ r. r ≡ first_not is_in_line text place)
  line_end_one place = one

  pub next_begin_one : (place : ℕ) → One (λ r. r ≡ first_not goes_on text place)
  next_begin_one place = one

  pub line_at_one : (number : ℕ) → One (λ r. r ≡ line_from text number)
  line_at_one number = one

  pub shown_place_one : (place : ℕ) → One (λ r. r ≡ shown_place text place)
  shown_place_one place = one
