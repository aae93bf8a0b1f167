-- Two answers that a public function's contract allows for one input are one answer.
-- Assumes nothing.
use Prim.Native.Nat.{ℕ}
use mathlib.Core.Path.{◌≡◌}
use mathlib.Core.List.{List}
use Rattle.lists.specs.One.{One}
use Rattle.lists.proofs.One.{one}
use Rattle.strict.specs.Strict.{strict_of}

pub strict_one : (text nodes numbers : List ℕ) → One (λ r. r ≡ strict_of text nodes numbers)
strict_one text nodes numbers = one
