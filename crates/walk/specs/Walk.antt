-- The walk as the code takes it, step by step, with its frames in a lent array: `proofs/Fed`, for rows that are given, and `proofs/Stepped` of `shape`,
-- for those of a slice, show that it meets what `Nodes` says.
use Rattle.std.specs.Prelude.{Bool, cond, not, ◌&&◌, true, false, Option, Some, None, is_none, List, ℕ, zero, suc, ◌+◌, ◌-◌, ◌*◌, ◌^◌, ◌≤◌, ◌<◌, eqb, leb, ltb, drop, slice_index_or, slice_set}
use Rattle.std.proofs.Math.Option as maybe
use Rattle.kinds.specs.Kinds.{kind_line_string, width}
use Rattle.store.specs.Rows.{Row, node_room, row_at}
use Rattle.nodes.specs.declared.Frame.{Frame}
use Rattle.nodes.specs.declared.Visit.{Visit}
use Rattle.nodes.specs.declared.Met.{Met}
use Rattle.nodes.specs.declared.Met.TheVariants.{Node, End, Done, Ill}
use Rattle.nodes.specs.Nodes.{no_kind, frame, above, visit_of, numbers_of, is_leaf, is_allowed, may_open, frame_of, is_spent, meets}
use Rattle.walk.specs.declared.Walk.{Walk}
use Rattle.walk.specs.declared.Walked.{Walked}
use Rattle.walk.specs.declared.Coming.{Coming}
use Rattle.walk.specs.declared.Coming.TheVariants as coming

-- ---- frames
-- how many there are
abbrev pub frames : ℕ
frames = 35

-- where there is none
abbrev pub no_frame : Frame
no_frame = frame 0 no_kind 0 0 0 0

-- the frame at place t
abbrev pub frame_at : List Frame → ℕ → Frame
frame_at s t = slice_index_or s t no_frame

-- the child that comes next in a frame
abbrev pub next_in : Frame → ℕ → Frame
next_in f n = frame f.row f.kind f.dimension f.depth f.parts n

unfoldable pub put_next : List Frame → ℕ → ℕ → List Frame
put_next s t n = slice_set s t (next_in (frame_at s t) n)

-- ---- a step
abbrev pub walk_at : ℕ → ℕ → ℕ → Walk
walk_at i j top = record { row = i; number = j; top = top }

abbrev pub walked : Met → Walk → Walked
walked m w = record { met = m; next = w }

-- what a step answers, and the frames after it
abbrev pub After : Type 0
After = Walked × List Frame

abbrev pub ill : List Frame → Walk → After
ill s w = (walked Ill w, s)

-- above the root
unfoldable pub beginning : List Frame → Walk × List Frame
beginning s = (walk_at 0 0 (frames - 1), slice_set s (frames - 1) above)

-- the innermost open node: a child of it is wanted, or it has ended
unfoldable pub coming_in : Frame → Walk → Coming
coming_in f w =
    cond (is_spent f)
    (cond (eqb f.kind no_kind) coming.Last (coming.End f.row (w.row - f.row) (walk_at w.row w.number (w.top + 1))))
    (coming.Child f)

unfoldable pub coming_next : List Frame → Walk → Coming
coming_next s w = cond (ltb w.top frames) (coming_in (frame_at s w.top) w) coming.Last

-- the walk after a node that is met, or none where it is ill, and the frames
abbrev pub Taken : Type 0
Taken = Option Walk × List Frame

-- a node without child rows
unfoldable pub passing_leaf : List Frame → ℕ → Walk → Visit → Taken
passing_leaf s count w v =
    cond (leb (v.number + numbers_of v) count)
    (Some (walk_at (w.row + 1) (v.number + numbers_of v) w.top), put_next s w.top (v.parent.next + 1))
    (None, s)

-- a node whose children follow gets a frame, if there is one
unfoldable pub pushing : List Frame → Walk → Visit → Taken
pushing s w v =
    cond (may_open v && not (eqb w.top 0))
    (Some (walk_at (w.row + 1) v.number (w.top - 1)), slice_set (put_next s w.top (v.parent.next + 1)) (w.top - 1) (frame_of v))
    (None, s)

unfoldable pub meeting : List Frame → ℕ → Walk → Visit → Taken
meeting s count w v = cond (is_allowed v) (cond (is_leaf v) (passing_leaf s count w v) (pushing s w v)) (None, s)

-- ---- rows that are given one by one
-- the innermost open node that wants a child, among n frames from t on: those before it have ended
unfoldable pub wanted_in : List Frame → ℕ → ℕ → Option ℕ
wanted_in s zero t = None
wanted_in s (suc n) t = cond (is_spent (frame_at s t)) (cond (eqb (frame_at s t).kind no_kind) None (wanted_in s n (t + 1))) (Some t)

abbrev pub wanted_from : List Frame → ℕ → Option ℕ
wanted_from s top = wanted_in s (frames - top) top

-- a row is met where one is wanted, if it can be counted
abbrev pub entering_at : List Frame → ℕ → Walk → Row → Option ℕ → Taken
entering_at s count w r None = (None, s)
entering_at s count w r (Some t) =
    cond (ltb (w.row + 1) (2 ^ 64))
    (meeting s count (walk_at w.row w.number t) (visit_of w.row w.number (frame_at s t) r))
    (None, s)

unfoldable pub entering : List Frame → ℕ → Walk → Row → Taken
entering s count w r = entering_at s count w r (wanted_from s w.top)

-- the same in place: whether the row is met, and the walk after it, which stays where the row is ill
abbrev pub advanced_by : Walk → Taken → Bool × Walk × List Frame
advanced_by w (Some w', s) = (true, w', s)
advanced_by w (None, s) = (false, w, s)

unfoldable pub advancing : List Frame → ℕ → Walk → Row → Bool × Walk × List Frame
advancing s count w r = advanced_by w (entering s count w r)

-- none is wanted after the last, and no number is left
unfoldable pub has_ended : List Frame → ℕ → Walk → Bool
has_ended s count w = is_none (wanted_from s w.top) && eqb w.number count

-- ---- rows of a slice
-- the root has ended: no row and no number is left
unfoldable pub last_met : List ℕ → ℕ → Walk → Met
last_met nodes count w = cond (leb (node_room nodes) w.row && eqb w.number count) Done Ill

-- a node was met, and the walk goes on; or none was
abbrev pub met_by : Walk → Visit → Taken → After
met_by w v (Some w', s) = (walked (Node v) w', s)
met_by w v (None, s) = ill s w

abbrev pub step_to : List Frame → ℕ → Walk → Visit → After
step_to s count w v = met_by w v (meeting s count w v)

-- a step over rows that are there
abbrev pub step_at : List ℕ → ℕ → List Frame → Walk → Coming → After
step_at nodes count s w (coming.Child f) = cond (ltb w.row (node_room nodes)) (step_to s count w (visit_of w.row w.number f (row_at nodes w.row))) (ill s w)
step_at nodes count s w (coming.End i n w') = (walked (End i n) w', s)
step_at nodes count s w coming.Last = (walked (last_met nodes count w) w, s)

unfoldable pub walk_step : List ℕ → ℕ → List Frame → Walk → After
walk_step nodes count s w = step_at nodes count s w (coming_next s w)

-- ---- what a walk has ahead
abbrev pub open_at : List Frame → Walk → List Frame
open_at s w = drop w.top s

-- what is still to be met of rows that are given
abbrev pub ahead_by : ℕ → List Frame → Walk → List Row → maybe.Option (List Met)
ahead_by count s w rs = meets count (open_at s w) w.row w.number rs

-- ---- what private functions ask
-- a node's coordinates are among the first `count` numbers
abbrev pub CoordinatesIn : ℕ → Visit → Type 0
CoordinatesIn count v = v.number + v.parts * width v.dimension ≤ count

-- the same of a node, if its parts are coordinates
abbrev pub NumbersIn : ℕ → Visit → Type 0
NumbersIn count v = v.kind ≤ kind_line_string → CoordinatesIn count v

-- a child of the innermost open node can be met
pub record HasChild (w : Walk) (v : Visit) : Type 0 where
  pub row : w.row + 1 < 2 ^ 64
  pub top : w.top < frames
  pub next : v.parent.next < v.parent.parts
