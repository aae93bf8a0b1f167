-- Worked examples of this crate's definitions, by computation: rows that are given one by one.
use Rattle.std.specs.Prelude as rust
use Rattle.std.specs.Prelude.{Some, None, replicate, ◌≡◌, refl, Bool, true, false, List, [], ◌∷◌, ◌++◌, ℕ, ◌-◌, ◌^◌}
use Rattle.std.proofs.Math.Option.{Option, none, some}
use Rattle.kinds.specs.Kinds.{width}
use Rattle.store.specs.Rows.{Row, row, node_over}
use Rattle.lists.specs.Options.{map_o}
use Rattle.nodes.specs.declared.Frame.{Frame}
use Rattle.nodes.specs.Nodes.{node_end, node_ends, still_open, at_last, is_allowed, child_kind, numbers_of, meets_node, meets_rows, meets}
use Rattle.nodes.specs.Examples.{leaf, nest, point, empty_point, store}
use Rattle.walk.specs.declared.Walk.{Walk}
use Rattle.walk.specs.Walk.{frames, no_frame, put_next, walk_at, beginning, passing_leaf, pushing, meeting, wanted_in, wanted_from, entering, advancing, has_ended}

-- a walk and its frames, if no row before was ill
abbrev Standing : Type 0
Standing = Option (Walk × List Frame)

on_to : rust.Option Walk × List Frame → Standing
on_to (Some w, s) = some (w, s)
on_to (None, s) = none

-- rows are given to it one after the other
give : ℕ → Standing → List Row → Standing
give count x [] = x
give count none (r ∷ rs) = none
give count (some (w, s)) (r ∷ rs) = give count (on_to (entering s count w r)) rs

-- from above the root, with frames that held zeros
start : Walk × List Frame
start = beginning (replicate frames no_frame)

after : ℕ → List Row → Standing
after count rs = give count (some start) rs

stands : ℕ → List Row → Option Walk
stands count rs = map_o (λ x. x.0) (after count rs)

wants : ℕ → List Row → Option (rust.Option ℕ)
wants count rs = map_o (λ x. wanted_from x.1 x.0.top) (after count rs)

ended : ℕ → List Row → Option Bool
ended count rs = map_o (λ x. has_ended x.1 count x.0) (after count rs)

-- whether one more row is met in place, and the walk then
in_place : ℕ → List Row → Row → Option (Bool × Walk)
in_place count rs r = map_o (λ x. ((advancing x.1 count x.0 r).0, (advancing x.1 count x.0 r).1)) (after count rs)

-- the frames then
frames_then : ℕ → List Row → Row → Option (List Frame)
frames_then count rs r = map_o (λ x. (advancing x.1 count x.0 r).2) (after count rs)

frames_of : ℕ → List Row → Option (List Frame)
frames_of count rs = map_o (λ x. x.1) (after count rs)

given : ℕ
unfolding leaf nest point empty_point store width numbers_of child_kind is_allowed node_end node_ends still_open at_last meets_node meets_rows meets on_to give start after stands wants ended in_place frames_then frames_of put_next beginning passing_leaf pushing meeting wanted_in entering advancing has_ended
given = 0

-- `GEOMETRYCOLLECTION(POINT(1 2))`: nothing, its first row, both; the collection has the frame below that above the root
by_one :
    (stands 2 [] ≡ some (walk_at 0 0 34)) × (wants 2 [] ≡ some (Some 34)) × (ended 2 [] ≡ some false)
    × (stands 2 (leaf 7 0 1) ≡ some (walk_at 1 0 33)) × (wants 2 (leaf 7 0 1) ≡ some (Some 33)) × (ended 2 (leaf 7 0 1) ≡ some false)
    × (stands 2 (nest 1 point) ≡ some (walk_at 2 2 33)) × (wants 2 (nest 1 point) ≡ some None) × (ended 2 (nest 1 point) ≡ some true)
unfolding given
by_one = (refl, refl, refl, refl, refl, refl, refl, refl, refl)

-- `GEOMETRYCOLLECTION(MULTIPOINT((1 2)),POINT EMPTY)`: after its third row the multipoint, in frame 32, has ended, and the collection's second child is wanted
inner_ended :
    (stands 2 (node_over 7 0 2 (node_over 4 0 1 point)) ≡ some (walk_at 3 2 32)) × (wants 2 (node_over 7 0 2 (node_over 4 0 1 point)) ≡ some (Some 33))
    × (stands 2 store ≡ some (walk_at 4 2 33)) × (ended 2 store ≡ some true)
unfolding given
inner_ended = (refl, refl, refl, refl)

-- a row where none is wanted: after the root, and after the one child of a multipoint
none_wanted : (stands 0 (empty_point ++ empty_point) ≡ none) × (stands 4 (node_over 4 0 1 (point ++ point)) ≡ none)
unfolding given
none_wanted = (refl, refl)

-- a child of a wrong kind, a point in a polygon; of a wrong dimension, an XYZ ring in an XY polygon; a 33rd collection
wrong_child : (stands 0 (node_over 3 0 1 empty_point) ≡ none) × (stands 0 (node_over 3 0 1 (leaf 2 1 0)) ≡ none) × (ended 0 (nest 32 empty_point) ≡ some true) × (stands 0 (nest 33 empty_point) ≡ none)
unfolding given
wrong_child = (refl, refl, refl, refl)

-- a number too few is told by the row that needs it; one too many, by all having ended
number_count_law : (stands 1 point ≡ none) × (ended 2 point ≡ some true) × (stands 3 point ≡ some (walk_at 1 2 34)) × (wants 3 point ≡ some None) × (ended 3 point ≡ some false)
unfolding given
number_count_law = (refl, refl, refl, refl, refl)

-- the last row that can be counted, and one more
row_count : (map_o (λ x. x.0) (give 0 (some (walk_at (2 ^ 64 - 2) 0 34, start.1)) empty_point) ≡ some (walk_at (2 ^ 64 - 1) 0 34)) × (give 0 (some (walk_at (2 ^ 64 - 1) 0 34, start.1)) empty_point ≡ none)
unfolding given
row_count = (refl, refl)

-- in place: a row that is met; one that needs a number too many, one of an unknown kind, and one where none is wanted: each time the walk stays where it stood, and the frames as they were
taken_on_in_place :
    (in_place 2 (leaf 7 0 1) (row 1 0 1) ≡ some (true, walk_at 2 2 33)) × (frames_then 2 (leaf 7 0 1) (row 1 0 1) ≡ frames_of 2 (nest 1 point))
    × (in_place 1 (leaf 7 0 1) (row 1 0 1) ≡ some (false, walk_at 1 0 33)) × (frames_then 1 (leaf 7 0 1) (row 1 0 1) ≡ frames_of 1 (leaf 7 0 1))
    × (in_place 2 (leaf 7 0 1) (row 9 0 0) ≡ some (false, walk_at 1 0 33)) × (frames_then 2 (leaf 7 0 1) (row 9 0 0) ≡ frames_of 2 (leaf 7 0 1))
    × (in_place 2 (nest 1 point) (row 1 0 0) ≡ some (false, walk_at 2 2 33)) × (frames_then 2 (nest 1 point) (row 1 0 0) ≡ frames_of 2 (nest 1 point))
unfolding given
taken_on_in_place = (refl, refl, refl, refl, refl, refl, refl, refl)
