-- Two buffers that the contract of a function of another file allows for one input are one: the bytes and the count together.
-- Assumes nothing.
use mathlib.Core.Path.{◌≡◌}
use mathlib.Core.Bool.{Bool}
use mathlib.Core.List.{List}
use Prim.Native.Nat.{ℕ}
use Rattle.lists.specs.One.{One}
use Rattle.lists.proofs.One.{one}
use Rattle.printing.specs.Printing.{Buffer, put_all_in}
use Rattle.explain.specs.Shown.{pieces}

module _ (b : Buffer) where
  pub put_part_one : (part : List ℕ) (under : Bool) → One (λ left. left ≡ put_all_in (pieces under part) b)
  put_part_one part under = one
