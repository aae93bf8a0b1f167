-- A row that is opened, has the rows of its node's parts after it and is then closed, is that node's row.
-- Assumes nothing.
use mathlib.Core.Path.{◌≡◌}
use mathlib.Core.List.{List, [], ◌∷◌, ◌++◌, flat_map, append_assoc}
use Prim.Native.Nat.{ℕ}
use lib.ListN.{length}
use Rattle.store.specs.Rows.{Row, fresh_row, close_in}
use Rattle.store.proofs.Rows.{close_in_seam}
use Rattle.tree.specs.Tree.{rows_with}

pub closed_rows : {X : Type 0} (k d : ℕ) (ro : X → List Row) (xs : List X) (rs : List Row) → close_in ((rs ++ fresh_row k d ∷ []) ++ flat_map ro xs) (length rs) (length xs) ≡ rs ++ rows_with k d ro xs
unfolding rows_with
closed_rows k d ro xs rs = rw (append_assoc rs (fresh_row k d ∷ []) (flat_map ro xs)) (close_in_seam rs (fresh_row k d) (flat_map ro xs) (length xs))
