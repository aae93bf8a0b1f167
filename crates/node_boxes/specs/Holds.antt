-- What a box says of a node's coordinates (request 2026-03): "lows rounded down, highs rounded up, so the box holds the shape and is less than one unit too wide on
-- each side". A coordinate's exact X or Y in units is the whole number `exact_units` over the `denominator` of what its text writes, so both sides of a comparison are
-- taken times the denominator.
use Rattle.std.specs.Prelude.{◌≡◌, true, ℕ, zero, suc, ℤ, pos, ◌+ℤ◌, ◌-ℤ◌, ◌*ℤ◌, ◌≤ℤ◌, ◌<ℤ◌}
use mathlib.Core.List.{List, [], ◌∷◌, Memᴰ, flat_map}
use Rattle.tree.specs.Tree.{Coord, Node, point_n, line_n, polygon_n, multipoint_n, multiline_n, multipolygon_n, collection_n, Tree}
use Rattle.nodes.specs.declared.Met.{Met}
use Rattle.nodes.specs.declared.Met.TheVariants as met
use Rattle.decimal.specs.Decimal.{denominator, written, SameNumber}
use Rattle.decimal.specs.Units.{exact_units}
use Rattle.decimal.specs.Reckon.{reckoned}
use Rattle.decimal.specs.Spellings.{is_sides, Written}
use Rattle.bounds.specs.declared.Bounds.{Bounds}
use Rattle.bounds.specs.Bounds.{BoxRow, box_row, first_at, bounds_at}
use Rattle.node_boxes.specs.Boxes.{x_text, y_text, line_coords, point_coords, polygon_coords, no_coords, coords}

-- ---- one number, and one coordinate
-- a number of whole units against the exact value of a number's text
abbrev pub AtMost : ℤ → List ℕ → Type 0
AtMost a l = (a *ℤ pos (denominator (written l))) ≤ℤ exact_units (written l)

abbrev pub AtLeast : ℤ → List ℕ → Type 0
AtLeast a l = exact_units (written l) ≤ℤ (a *ℤ pos (denominator (written l)))

abbrev pub Less : ℤ → List ℕ → Type 0
Less a l = (a *ℤ pos (denominator (written l))) <ℤ exact_units (written l)

abbrev pub More : ℤ → List ℕ → Type 0
More a l = exact_units (written l) <ℤ (a *ℤ pos (denominator (written l)))

-- a coordinate whose X and Y are decimals within the limits
pub record Placed (c : Coord) : Type 0 where
  pub x : is_sides (reckoned (x_text c)) ≡ true
  pub y : is_sides (reckoned (y_text c)) ≡ true

-- ---- "the box holds the shape": a coordinate's exact X and Y lie between the sides
pub record Holds (b : Bounds) (c : Coord) : Type 0 where
  pub left : AtMost b.left (x_text c)
  pub right : AtLeast b.right (x_text c)
  pub bottom : AtMost b.bottom (y_text c)
  pub top : AtLeast b.top (y_text c)

-- each of them
abbrev pub HoldsEach : List Coord → BoxRow → Type 0
HoldsEach cs r = (c : Coord) → Memᴰ c cs → Holds r.bounds c

-- ---- "less than one unit too wide on each side": one unit farther in, each side would be past the exact X or Y of one of them
pub record Near (b : Bounds) (cs : List Coord) : Type 0 where
  pub left : (c : Coord) × Memᴰ c cs × More (b.left +ℤ pos 1) (x_text c)
  pub right : (c : Coord) × Memᴰ c cs × Less (b.right -ℤ pos 1) (x_text c)
  pub bottom : (c : Coord) × Memᴰ c cs × More (b.bottom +ℤ pos 1) (y_text c)
  pub top : (c : Coord) × Memᴰ c cs × Less (b.top -ℤ pos 1) (y_text c)

-- where there are any
abbrev pub NearEach : List Coord → BoxRow → Type 0
NearEach [] r = Unit {0}
NearEach (c ∷ cs) r = Near r.bounds (c ∷ cs)

-- ---- a box in another: a row with coordinates lies in one that has some, and no side is past the other's
pub record Inside (b a : Bounds) : Type 0 where
  pub left : a.left ≤ℤ b.left
  pub right : b.right ≤ℤ a.right
  pub bottom : a.bottom ≤ℤ b.bottom
  pub top : b.top ≤ℤ a.top

abbrev pub LiesIn : BoxRow → BoxRow → Type 0
LiesIn r s = r.first ≡ pos 1 → (s.first ≡ pos 1) × Inside r.bounds s.bounds

-- ---- "each node's own and descendants' coordinates", in node order
abbrev pub leaf_own : List Coord → List (List Coord)
leaf_own cs = cs ∷ []

unfoldable pub nest_own : {X : Type 0} → (X → List Coord) → (X → List (List Coord)) → List X → List (List Coord)
nest_own co own xs = flat_map co xs ∷ flat_map own xs

abbrev pub point_own : Coord → List (List Coord)
point_own c = leaf_own (c ∷ [])

abbrev pub polygon_own : List (List Coord) → List (List Coord)
polygon_own ls = nest_own line_coords leaf_own ls

abbrev pub node_own : {X : Type 0} → (X → List Coord) → (X → List (List Coord)) → Node X → List (List Coord)
node_own co own (point_n d cs) = leaf_own cs
node_own co own (line_n d cs) = leaf_own cs
node_own co own (polygon_n d ls) = nest_own line_coords leaf_own ls
node_own co own (multipoint_n d cs) = nest_own point_coords point_own cs
node_own co own (multiline_n d ls) = nest_own line_coords leaf_own ls
node_own co own (multipolygon_n d ps) = nest_own polygon_coords polygon_own ps
node_own co own (collection_n d ts) = nest_own co own ts

abbrev pub no_own : {X : Type 0} → X → List (List Coord)
no_own x = []

abbrev pub each_coords : (d : ℕ) → Tree d → List (List Coord)
each_coords zero t = node_own no_coords no_own t
each_coords (suc d) t = node_own (coords d) (each_coords d) t

-- ---- row i of a table
abbrev pub row_at : List ℤ → ℕ → BoxRow
row_at t i = box_row (first_at t i) (bounds_at t i)

-- the row of a node that a walk meets, and that of the node above it; the root is told to stand below row 0, which is its own
abbrev pub InParent : (ℕ → BoxRow) → Met → Type 0
InParent at (met.Node v) = LiesIn (at v.row) (at v.parent.row)
InParent at (met.End i n) = Unit {0}
InParent at met.Done = Unit {0}
InParent at met.Ill = Unit {0}

-- ---- equal decimals spelt otherwise: two texts are the same text, or decimals within the limit of the exponent that are one number
pub data SameText (l m : List ℕ) : Type 0 where
  itself : l ≡ m → SameText l m
  spelt : Written l → Written m → SameNumber (written l) (written m) → SameText l m

pub record Alike (c d : Coord) : Type 0 where
  pub x : SameText (x_text c) (x_text d)
  pub y : SameText (y_text c) (y_text d)

unfoldable pub AlikeEach : List Coord → List Coord → Type 0
AlikeEach [] [] = Unit {0}
AlikeEach [] (d ∷ ds) = ⊥
AlikeEach (c ∷ cs) [] = ⊥
AlikeEach (c ∷ cs) (d ∷ ds) = Alike c d × AlikeEach cs ds
