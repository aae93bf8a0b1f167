-- What a walk has ahead of the rows of a slice, and what is tested before it.
use Rattle.std.specs.Prelude.{Bool, ◌&&◌, List, [], ◌∷◌, ℕ, drop}
use Rattle.std.proofs.Math.Option.{Option}
use Rattle.store.specs.Rows.{Row}
use Rattle.nodes.specs.declared.Frame.{Frame}
use Rattle.nodes.specs.declared.Met.{Met}
use Rattle.nodes.specs.Nodes.{above, meets}
use Rattle.walk.specs.declared.Walk.{Walk}
use Rattle.walk.specs.Walk.{ahead_by}
use Rattle.shape.specs.Numbers.{are_numbers}
use Rattle.shape.specs.Store.{are_whole, all_rows}

abbrev pub rows_from : List ℕ → ℕ → List Row
rows_from nodes i = drop i (all_rows nodes)

-- what is still to be met
abbrev pub ahead : List ℕ → ℕ → List Frame → Walk → Option (List Met)
ahead nodes count s w = ahead_by count s w (rows_from nodes w.row)

-- what is met in all
abbrev pub whole_walk : List ℕ → ℕ → Option (List Met)
whole_walk nodes count = meets count (above ∷ []) 0 0 (all_rows nodes)

-- what is tested before the walk: whole rows, and numbers that lie in the text and are lexemes
unfoldable pub are_rows : List ℕ → List ℕ → List ℕ → Bool
are_rows text nodes numbers = are_whole nodes numbers && are_numbers text numbers
