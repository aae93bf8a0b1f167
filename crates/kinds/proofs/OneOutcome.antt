-- Two answers that a public function's contract allows for one input are one answer.
-- Assumes nothing.
use Prim.Native.Nat.{ℕ}
use mathlib.Core.Path.{◌≡◌}
use Rattle.lists.specs.One.{One}
use Rattle.lists.proofs.One.{one}
use Rattle.kinds.specs.Kinds.{has_z, has_m, width}

module _ (dimension : ℕ) where
  pub has_z_one : One (λ r. r ≡ has_z dimension)
  has_z_one = one

  pub has_m_one : One (λ r. r ≡ has_m dimension)
  has_m_one = one

  pub width_of_one : One (λ r. r ≡ width dimension)
  width_of_one = one
