-- Two answers that a public function's contract allows for one input are one answer.
-- Assumes nothing.
use Prim.Native.Nat.{ℕ}
use mathlib.Core.Path.{◌≡◌}
use mathlib.Core.List.{List}
use lib.ListN.{length}
use Rattle.lists.specs.One.{One}
use Rattle.lists.proofs.One.{one}
use Rattle.limits.specs.Limits.{text_limit, over_limit, depth_limit}

pub longest_one : One (λ r. ◌≡◌ {A = ℕ} r text_limit)
longest_one = one

pub deepest_one : One (λ r. ◌≡◌ {A = ℕ} r depth_limit)
deepest_one = one

pub is_over_one : (text : List ℕ) → One (λ r. r ≡ over_limit (length text))
is_over_one text = one
