-- What node rows are in their places (document 01, "The store"): "exactly one preorder tree with kinds and dimensions as above, children of
-- the kinds named and, below kinds 3 to 6, of the parent's dimension, a point has at most 1 part, a multipoint's points exactly 1, at most 32
-- non-empty collections lie on a path, the numbers are exactly as many as needed".
use Rattle.std.specs.Prelude.{Bool, cond, not, ◌&&◌, ◌||◌, List, [], ◌∷◌, ◌++◌, ℕ, ◌+◌, ◌-◌, ◌*◌, eqb, leb, ltb}
use Rattle.std.proofs.Math.Option.{Option, none, some}
use Rattle.limits.specs.Limits.{depth_limit}
use Rattle.kinds.specs.Kinds.{kind_point, kind_line_string, kind_polygon, kind_multi_point, kind_multi_polygon, kind_geometry_collection, dim_xyzm, width}
use Rattle.store.specs.Rows.{Row}
use Rattle.nodes.specs.declared.Frame.{Frame}
use Rattle.nodes.specs.declared.Visit.{Visit}
use Rattle.nodes.specs.declared.Met.{Met}
use Rattle.nodes.specs.declared.Met.TheVariants.{Node, End}

-- above the root
abbrev pub no_kind : ℕ
no_kind = 0

abbrev pub frame : ℕ → ℕ → ℕ → ℕ → ℕ → ℕ → Frame
frame i k d depth n next = record { row = i; kind = k; dimension = d; depth = depth; parts = n; next = next }

-- the frame above the root, its one child
abbrev pub above : Frame
above = frame 0 no_kind 0 0 1 0

-- the node of row i below a parent, its numbers from number row j on
abbrev pub visit_of : ℕ → ℕ → Frame → Row → Visit
visit_of i j f r = record { row = i; number = j; kind = r.kind; dimension = r.dimension; parts = r.parts; parent = f }

-- "parts (coordinates for kinds 1 and 2, children otherwise)": how many numbers a node has itself
unfoldable pub numbers_of : Visit → ℕ
numbers_of v = cond (leb v.kind kind_line_string) (v.parts * width v.dimension) 0

-- a node without child rows
abbrev pub is_leaf : Visit → Bool
is_leaf v = leb v.kind kind_line_string || eqb v.parts 0

-- ---- where a node may stand
-- at the root and in a collection all kinds may
abbrev pub is_free : ℕ → Bool
is_free parent = eqb parent no_kind || eqb parent kind_geometry_collection

-- below kinds 3 to 6: line strings in a polygon and a multi line string, points in a multipoint, polygons in a multipolygon
unfoldable pub child_kind : ℕ → ℕ
child_kind parent = cond (eqb parent kind_multi_point) kind_point (cond (eqb parent kind_multi_polygon) kind_polygon kind_line_string)

-- "kinds and dimensions as above [..] a point has at most 1 part"
abbrev pub is_geometry : Visit → Bool
is_geometry v = (leb kind_point v.kind && leb v.kind kind_geometry_collection && leb v.dimension dim_xyzm) && (not (eqb v.kind kind_point) || leb v.parts 1)

-- "children of the kinds named and, below kinds 3 to 6, of the parent's dimension [..] a multipoint's points exactly 1"
abbrev pub is_child : Visit → Bool
is_child v = (eqb v.kind (child_kind v.parent.kind) && eqb v.dimension v.parent.dimension) && (not (eqb v.parent.kind kind_multi_point) || eqb v.parts 1)

unfoldable pub is_allowed : Visit → Bool
is_allowed v = cond (is_free v.parent.kind) (is_geometry v) (is_child v)

-- "at most 32 non-empty collections lie on a path"
abbrev pub is_collection : Visit → Bool
is_collection v = eqb v.kind kind_geometry_collection

abbrev pub may_open : Visit → Bool
may_open v = not (is_collection v) || ltb v.parent.depth depth_limit

-- ---- the open nodes, the innermost first
-- a node is opened, and its first child comes next
abbrev pub frame_of : Visit → Frame
frame_of v = frame v.row v.kind v.dimension (cond (is_collection v) (v.parent.depth + 1) v.parent.depth) v.parts 0

-- a child has been met, and the one after it comes next
abbrev pub onward : Frame → Frame
onward f = frame f.row f.kind f.dimension f.depth f.parts (f.next + 1)

-- no child is still to come
abbrev pub is_spent : Frame → Bool
is_spent f = leb f.parts f.next

-- the end of an open node before row i; what stands above the root has none
unfoldable pub node_end : Frame → ℕ → List Met
node_end f i = cond (eqb f.kind no_kind) [] (End f.row (i - f.row) ∷ [])

-- the ends of the innermost nodes that have no child to come, before row i, and the nodes that are then still open
unfoldable pub node_ends : List Frame → ℕ → List Met
node_ends [] i = []
node_ends (f ∷ fs) i = cond (is_spent f) (node_end f i ++ node_ends fs i) []

unfoldable pub still_open : List Frame → List Frame
still_open [] = []
still_open (f ∷ fs) = cond (is_spent f) (still_open fs) (f ∷ fs)

-- ---- what is met on the way through rows
-- some things are met, and then others, if those are a tree's
abbrev pub follow : List Met → Option (List Met) → Option (List Met)
follow ms none = none
follow ms (some more) = some (ms ++ more)

-- after the last row no node is open, and no number is left
unfoldable pub at_last : ℕ → List Frame → ℕ → Option (List Met)
at_last count [] j = cond (eqb j count) (some []) none
at_last count (f ∷ fs) j = none

-- a node below the frame f, and what follows it, given the nodes that are then open and the number row that is next
unfoldable pub meets_node : ℕ → Frame → List Frame → Visit → (List Frame → ℕ → Option (List Met)) → Option (List Met)
meets_node count f fs v rest =
    cond (is_allowed v)
    (cond (is_leaf v)
    (cond (leb (v.number + numbers_of v) count) (follow (Node v ∷ []) (rest (onward f ∷ fs) (v.number + numbers_of v))) none)
    (cond (may_open v) (follow (Node v ∷ []) (rest (frame_of v ∷ onward f ∷ fs) v.number)) none))
    none

-- the rows from i on, with a child of the innermost open node next, if they are exactly what the open nodes lack and need the number rows from j
-- on, up to count
unfoldable pub meets_rows : ℕ → List Frame → ℕ → ℕ → List Row → Option (List Met)
meets_rows count fs i j [] = at_last count fs j
meets_rows count [] i j (r ∷ rs) = none
meets_rows count (f ∷ fs) i j (r ∷ rs) = meets_node count f fs (visit_of i j f r) λ gs j'. follow (node_ends gs (i + 1)) (meets_rows count (still_open gs) (i + 1) j' rs)

-- what is met from here on: the ends that come before the next row, then the rows
unfoldable pub meets : ℕ → List Frame → ℕ → ℕ → List Row → Option (List Met)
meets count fs i j rs = follow (node_ends fs i) (meets_rows count (still_open fs) i j rs)
