-- Well-formed stores as document 01 says it, clause by clause ("The store"). `proofs/Stores` shows that `well_formed` says the same.
use Rattle.std.specs.Prelude.{◌≡◌, true, List, ℕ}
use Rattle.tree.specs.TreeIn.{WellFormed}
use Rattle.shape.specs.Store.{all_rows, all_spans, are_whole}

-- "A store is well formed if its rows are exactly one preorder tree [..]"; "a slice length not divisible by 3 or 2 is ill formed"
pub record IsTree (text nodes numbers : List ℕ) : Type 0 where
  pub lengths : are_whole nodes numbers ≡ true
  pub well : WellFormed text (all_rows nodes) (all_spans text numbers)
