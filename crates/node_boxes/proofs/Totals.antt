-- The box around coordinates, one after the other and all at once, and its row in the table.
-- Assumes nothing.
use mathlib.Core.Path.{◌≡◌, refl, ap, sym, ◌∙◌}
use mathlib.Core.Bool.{false, cond}
use mathlib.Core.List.{List, [], ◌∷◌, ◌++◌, map}
use lib.IntN.{pos}
use lib.Signed.{lt_z}
use Rattle.tree.specs.Tree.{Coord}
use Rattle.bounds.specs.declared.Bounds.{Bounds}
use Rattle.bounds.specs.Bounds.{box, box_row, no_box, merge, nothing, done_row}
use Rattle.node_boxes.specs.Boxes.{low_x, high_x, low_y, high_y, lowest, highest, box_around}
use Rattle.node_boxes.proofs.Algebra.{Inside, nothing_inside, merge_inside, merge_assoc, merge_nothing, corner_inside, merge_first, stays_wide}
use Rattle.node_boxes.proofs.Sides.{corner, its_corner}

unfoldable pub total_on : Bounds → List Coord → Bounds
total_on b [] = b
total_on b (c ∷ cs) = total_on (merge b (corner c)) cs

abbrev pub total : List Coord → Bounds
total cs = total_on nothing cs

pub on_inside : (b : Bounds) (cs : List Coord) → Inside b → Inside (total_on b cs)
unfolding total_on
on_inside b [] h = h
on_inside b (c ∷ cs) h = on_inside (merge b (corner c)) cs (merge_inside h (corner_inside (corner c) (its_corner c)))

pub total_inside : (cs : List Coord) → Inside (total cs)
total_inside cs = on_inside nothing cs nothing_inside

-- what was before, and then all of them
pub on_total : (b : Bounds) (cs : List Coord) → Inside b → total_on b cs ≡ merge b (total cs)
unfolding total_on
on_total b [] h = sym (merge_nothing b h)
on_total b (c ∷ cs) h =
    let k = corner_inside (corner c) (its_corner c) in
    on_total (merge b (corner c)) cs (merge_inside h k)
    ∙ merge_assoc b (corner c) (total cs)
    ∙ ap (λ x. merge b (merge x (total cs))) (sym (merge_first (corner c) (its_corner c)))
    ∙ ap (merge b) (sym (on_total (merge nothing (corner c)) cs (merge_inside nothing_inside k)))

on_append : (b : Bounds) (xs ys : List Coord) → total_on b (xs ++ ys) ≡ total_on (total_on b xs) ys
unfolding total_on
on_append b [] ys = refl
on_append b (c ∷ xs) ys = on_append (merge b (corner c)) xs ys

pub total_append : (xs ys : List Coord) → total (xs ++ ys) ≡ merge (total xs) (total ys)
total_append xs ys = on_append nothing xs ys ∙ on_total (total xs) ys (total_inside xs)

-- ---- its sides are the lowest and the highest
pub on_sides : (b : Bounds) (cs : List Coord) → total_on b cs ≡ box (lowest b.left (map low_x cs)) (highest b.right (map high_x cs)) (lowest b.bottom (map low_y cs)) (highest b.top (map high_y cs))
unfolding total_on lowest highest merge
on_sides b [] = refl
on_sides b (c ∷ cs) = on_sides (merge b (corner c)) cs

stays : (b : Bounds) (cs : List Coord) → lt_z b.right b.left ≡ false → lt_z (total_on b cs).right (total_on b cs).left ≡ false
unfolding total_on
stays b [] h = h
stays b (c ∷ cs) h = stays (merge b (corner c)) cs (stays_wide b (corner c) h)

-- "1, low X, high X, low Y, high Y; all 0 without coordinates"
pub done_around : (cs : List Coord) → done_row (total cs) ≡ box_around cs
unfolding done_row box_around total_on
done_around [] = refl
done_around (c ∷ cs) =
    ap (λ b. done_row (total_on b cs)) (merge_first (corner c) (its_corner c))
    ∙ ap (λ x. cond x no_box (box_row (pos 1) (total_on (corner c) cs))) (stays (corner c) cs (its_corner c).wide)
    ∙ ap (box_row (pos 1)) (on_sides (corner c) cs)
