-- Worked examples of this crate's definitions, by computation: each clause about rows broken by itself, and rows that are a tree.
use Rattle.std.specs.Prelude.{◌≡◌, refl, true, List, [], ◌∷◌, ◌++◌, ℕ, zero, suc}
use Rattle.std.proofs.Math.Option.{none}
use Rattle.lists.specs.Options.{is_some}
use Rattle.kinds.specs.Kinds.{width}
use Rattle.store.specs.Rows.{Row, node_over}
use Rattle.nodes.specs.Nodes.{above, node_end, node_ends, still_open, at_last, is_allowed, child_kind, numbers_of, meets_node, meets_rows, meets}

-- the row of a node with no rows under it
unfoldable pub leaf : ℕ → ℕ → ℕ → List Row
leaf k d n = node_over k d n []

-- n collections, each the one child of that before it, over rows
unfoldable pub nest : ℕ → List Row → List Row
nest zero under = under
nest (suc n) under = node_over 7 0 1 (nest n under)

unfoldable pub point : List Row
point = leaf 1 0 1

unfoldable pub empty_point : List Row
empty_point = leaf 1 0 0

-- `GEOMETRYCOLLECTION(MULTIPOINT((1 2)),POINT EMPTY)`
unfoldable pub store : List Row
store = node_over 7 0 2 (node_over 4 0 1 point ++ empty_point)

all : ℕ
unfolding leaf nest point empty_point width numbers_of child_kind is_allowed node_end node_ends still_open at_last meets_node meets_rows meets
all = 0

-- rows that are no tree come to none: a point of two parts, 33 collections on a path, a point in a polygon, an empty point in a multipoint, a
-- number left over
by_rows_ill : (meets 4 (above ∷ []) 0 0 (leaf 1 0 2) ≡ none) × (meets 0 (above ∷ []) 0 0 (nest 33 empty_point) ≡ none) × (meets 0 (above ∷ []) 0 0 (node_over 3 0 1 empty_point) ≡ none) × (meets 0 (above ∷ []) 0 0 (node_over 4 0 1 empty_point) ≡ none) × (meets 3 (above ∷ []) 0 0 point ≡ none)
unfolding all
by_rows_ill = (refl, refl, refl, refl, refl)

-- rows that are a tree come to something: each node that has ended gives way to its parent, up to the frame above the root, and no number is left
by_rows_well : is_some (meets 2 (above ∷ []) 0 0 store) ≡ true
unfolding all store
by_rows_well = refl
