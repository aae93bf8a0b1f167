-- Some things are met, and then others: before the next row, and after it.
-- Assumes nothing.
use mathlib.Core.Path.{◌≡◌, refl, ap}
use mathlib.Core.Bool.{true, false}
use mathlib.Core.Option.{Option, none, some}
use mathlib.Core.List.{List, [], ◌∷◌, ◌++◌, append_assoc}
use Prim.Native.Nat.{ℕ}
use Rattle.store.specs.Rows.{Row}
use Rattle.nodes.specs.declared.Frame.{Frame}
use Rattle.nodes.specs.declared.Met.{Met}
use Rattle.nodes.specs.Nodes.{is_spent, node_end, node_ends, still_open, follow, meets_rows, meets}

pub follow_none : (o : Option (List Met)) → follow [] o ≡ o
follow_none none = refl
follow_none (some ms) = refl

pub follow_both : (a b : List Met) (o : Option (List Met)) → follow (a ++ b) o ≡ follow a (follow b o)
follow_both a b none = refl
follow_both a b (some ms) = ap some (append_assoc a b ms)

module _ (count : ℕ) where
  -- the innermost open node has a child to come; it has none
  pub meets_open : (f : Frame) (fs : List Frame) (i j : ℕ) (rs : List Row) → is_spent f ≡ false → meets count (f ∷ fs) i j rs ≡ meets_rows count (f ∷ fs) i j rs
  unfolding meets node_ends still_open
  meets_open f fs i j rs e = rw e (follow_none (meets_rows count (f ∷ fs) i j rs))

  pub meets_spent : (f : Frame) (fs : List Frame) (i j : ℕ) (rs : List Row) → is_spent f ≡ true → meets count (f ∷ fs) i j rs ≡ follow (node_end f i) (meets count fs i j rs)
  unfolding meets node_ends still_open
  meets_spent f fs i j rs e = rw e (follow_both (node_end f i) (node_ends fs i) (meets_rows count (still_open fs) i j rs))
