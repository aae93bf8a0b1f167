-- Request 2026-03, "A box beside each node", over the slices as `node_boxes::boxes` sees them. The theorems that give these are in proofs/Boxes.
use Rattle.std.specs.Prelude.{◌≡◌, true, false, ◌↔◌, ◌⊎◌, ℕ, ◌-◌, ◌*◌, ◌≤◌, ◌<◌, ℤ, pos, length, drop, get_or}
use Rattle.std.proofs.Math.Option.{some}
use mathlib.Core.List.{List, [], flat_map}
use Rattle.lists.specs.Lists.{All}
use Rattle.limits.specs.Limits.{depth_limit}
use Rattle.refusals.specs.Refusals.{ill_formed_store, no_room, no_finite_number, number_too_large}
use Rattle.store.specs.Rows.{node_room}
use Rattle.tree.specs.Tree.{Tree}
use Rattle.shape.specs.Store.{tree_of, well_formed, walk_root}
use Rattle.bounds.specs.declared.BoxAnswer.{BoxAnswer}
use Rattle.bounds.specs.Bounds.{no_box, box_width, box_room, five_of, zeros, padded, box_answer}
use Rattle.node_boxes.specs.Boxes.{coords, boxes, boxes_of, FillsTable}
use Rattle.node_boxes.specs.Holds.{HoldsEach, NearEach, InParent, AlikeEach, each_coords, row_at}
use Rattle.node_boxes.specs.Faults.{CleanCoord, FirstAtFault}

-- what a call of `node_boxes::boxes` may answer, and leave in the table t
abbrev pub NodeBoxes : List ℕ → List ℕ → List ℕ → List ℤ → BoxAnswer → List ℤ → Type 0
NodeBoxes text nodes numbers t a t' = FillsTable (boxes_of text nodes numbers (box_room t)) t a t'

-- "prove that two outcomes allowed by it coincide"
abbrev pub OneBoxes : Type 0
OneBoxes = (text nodes numbers : List ℕ) (t : List ℤ) (a : BoxAnswer) (t' : List ℤ) (c : BoxAnswer) (t'' : List ℤ) → NodeBoxes text nodes numbers t a t' → NodeBoxes text nodes numbers t c t'' → (a ≡ c) × (t' ≡ t'')

-- ---- "Refusals: 22, 23 for fewer table rows than nodes, then at the text of the first offending X or Y 30 [..], 31 [..]"; "all zero on a refusal"
pub data BoxesOutcome (text nodes numbers : List ℕ) (t : List ℤ) : BoxAnswer → List ℤ → Type 0 where
  no_store : well_formed text nodes numbers ≡ false → BoxesOutcome text nodes numbers t (box_answer ill_formed_store 0) (zeros (length t))
  too_few : well_formed text nodes numbers ≡ true → box_room t < node_room nodes → BoxesOutcome text nodes numbers t (box_answer no_room 0) (zeros (length t))
  at_fault : (x : Tree depth_limit) (number place : ℕ) → tree_of text nodes numbers ≡ some x → node_room nodes ≤ box_room t → FirstAtFault numbers (coords depth_limit x) number place →
      BoxesOutcome text nodes numbers t (box_answer number place) (zeros (length t))
  boxed : (x : Tree depth_limit) → tree_of text nodes numbers ≡ some x → node_room nodes ≤ box_room t → All CleanCoord (coords depth_limit x) →
      BoxesOutcome text nodes numbers t (box_answer 0 0) (padded (flat_map five_of (boxes depth_limit x)) (length t))

abbrev pub BoxesAnswer : Type 0
BoxesAnswer = (text nodes numbers : List ℕ) (t : List ℤ) (a : BoxAnswer) (t' : List ℤ) → NodeBoxes text nodes numbers t a t' → BoxesOutcome text nodes numbers t a t'

-- each exactly when
abbrev pub OfCoordinates : ℕ → Type 0
OfCoordinates number = (number ≡ no_finite_number) ⊎ (number ≡ number_too_large)

pub record BoxesExactly (text nodes numbers : List ℕ) (t : List ℤ) (a : BoxAnswer) : Type 0 where
  pub ill : (a.number ≡ ill_formed_store) ↔ (well_formed text nodes numbers ≡ false)
  pub roomless : (a.number ≡ no_room) ↔ ((well_formed text nodes numbers ≡ true) × (box_room t < node_room nodes))
  pub fault : (number place : ℕ) → ((a ≡ box_answer number place) × OfCoordinates number)
      ↔ ((x : Tree depth_limit) × (tree_of text nodes numbers ≡ some x) × (node_room nodes ≤ box_room t) × FirstAtFault numbers (coords depth_limit x) number place)
  pub accepted : (a.number ≡ 0) ↔ ((x : Tree depth_limit) × (tree_of text nodes numbers ≡ some x) × (node_room nodes ≤ box_room t) × All CleanCoord (coords depth_limit x))

abbrev pub BoxesRefuseExactly : Type 0
BoxesRefuseExactly = (text nodes numbers : List ℕ) (t : List ℤ) (a : BoxAnswer) (t' : List ℤ) → NodeBoxes text nodes numbers t a t' → BoxesExactly text nodes numbers t a

-- ---- "unused places zero, all zero on a refusal"
pub record LeftOver (nodes : List ℕ) (t : List ℤ) (a : BoxAnswer) (t' : List ℤ) : Type 0 where
  pub as_long : length t' ≡ length t
  pub refused : (a.number ≡ 0 → ⊥) → t' ≡ zeros (length t)
  pub unused : a.number ≡ 0 → drop (node_room nodes * box_width) t' ≡ zeros (length t - node_room nodes * box_width)

abbrev pub BoxesLeave : Type 0
BoxesLeave = (text nodes numbers : List ℕ) (t : List ℤ) (a : BoxAnswer) (t' : List ℤ) → NodeBoxes text nodes numbers t a t' → LeftOver nodes t a t'

-- ---- boxes that are not refused, of a store that is this tree
abbrev pub OfBoxes : ((x : Tree depth_limit) → List ℤ → Type 0) → Type 0
OfBoxes P = (text nodes numbers : List ℕ) (t : List ℤ) (a : BoxAnswer) (t' : List ℤ) → NodeBoxes text nodes numbers t a t' → a.number ≡ 0 → (x : Tree depth_limit) → tree_of text nodes numbers ≡ some x → P x t'

-- "so the box holds the shape": row i holds each of the coordinates of node i, its own and its descendants'
abbrev pub BoxesHold : Type 0
BoxesHold = OfBoxes (λ x t'. (i : ℕ) → HoldsEach (get_or (each_coords depth_limit x) i []) (row_at t' i))

-- "and is less than one unit too wide on each side"
abbrev pub BoxesNear : Type 0
BoxesNear = OfBoxes (λ x t'. (i : ℕ) → NearEach (get_or (each_coords depth_limit x) i []) (row_at t' i))

-- a child's box lies in its parent's: of each node that a walk through the tree meets, by its row and its parent's
abbrev pub ChildInParent : Type 0
ChildInParent = OfBoxes (λ x t'. All (InParent (row_at t')) (walk_root x))

-- "all 0 without coordinates", and 1 in front with some
abbrev pub NoCoordinatesZeros : Type 0
NoCoordinatesZeros =
    OfBoxes (λ x t'. (i : ℕ) → (get_or (each_coords depth_limit x) i [] ≡ [] → row_at t' i ≡ no_box) × ((get_or (each_coords depth_limit x) i [] ≡ [] → ⊥) → (row_at t' i).first ≡ pos 1))

-- equal decimals spelt otherwise (`1e1`, `10`, `10.0`) give the same box: of two calls, node i has the same row in both tables if its coordinates are alike in both stores
abbrev pub SameBox : Type 0
SameBox =
    OfBoxes (λ x t'. OfBoxes (λ x₁ t₁'. (i : ℕ) → AlikeEach (get_or (each_coords depth_limit x) i []) (get_or (each_coords depth_limit x₁) i []) → row_at t' i ≡ row_at t₁' i))
