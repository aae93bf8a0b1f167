-- Two answers that a public function's contract allows for one input are one answer, and so are two slices that are left.
-- Assumes nothing.
use Prim.Native.Nat.{ℕ}
use mathlib.Core.Path.{◌≡◌}
use mathlib.Core.List.{List}
use Rattle.lists.specs.One.{One}
use Rattle.lists.proofs.One.{one}
use Rattle.store.specs.Rows.{Row}
use Rattle.nodes.specs.declared.Frame.{Frame}
use Rattle.walk.specs.declared.Walk.{Walk}
use Rattle.walk.specs.Walk.{beginning, coming_next, entering, advancing, has_ended, walk_step}

-- the answer and the frames together, and the walk where it is lent
module _ (frames : List Frame) where
  pub start_one : One (λ r. r ≡ beginning frames)
  start_one = one

  pub next_one : (w : Walk) → One (λ r. r ≡ coming_next frames w)
  next_one w = one

  pub enter_one : (count : ℕ) (w : Walk) (met : Row) → One (λ r. r ≡ entering frames count w met)
  enter_one count w met = one

  pub advance_one : (count : ℕ) (w : Walk) (met : Row) → One (λ r. r ≡ advancing frames count w met)
  advance_one count w met = one

  pub has_ended_one : (count : ℕ) (w : Walk) → One (λ r. r ≡ has_ended frames count w)
  has_ended_one count w = one

  pub step_one : (nodes : List ℕ) (count : ℕ) (w : Walk) → One (λ r. r ≡ walk_step nodes count frames w)
  step_one nodes count w = one
