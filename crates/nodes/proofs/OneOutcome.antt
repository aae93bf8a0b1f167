-- Two answers that a public function's contract allows for one input are one answer.
-- Assumes nothing.
use Prim.Native.Nat.{ℕ}
use mathlib.Core.Path.{◌≡◌}
use Rattle.lists.specs.One.{One}
use Rattle.lists.proofs.One.{one}
use Rattle.nodes.specs.declared.Visit.{Visit}
use Rattle.nodes.specs.Nodes.{is_free, is_leaf, numbers_of, is_allowed, may_open}

pub numbers_of_one : (v : Visit) → One (λ r. r ≡ numbers_of v)
numbers_of_one v = one

pub is_leaf_one : (v : Visit) → One (λ r. r ≡ is_leaf v)
is_leaf_one v = one

pub is_free_one : (parent : ℕ) → One (λ r. r ≡ is_free parent)
is_free_one parent = one

pub is_allowed_one : (v : Visit) → One (λ r. r ≡ is_allowed v)
is_allowed_one v = one

pub may_open_one : (v : Visit) → One (λ r. r ≡ may_open v)
may_open_one v = one
