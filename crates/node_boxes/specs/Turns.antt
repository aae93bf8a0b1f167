-- What the code makes of the things that a walk meets, one after the other: `proofs` shows that it comes to the boxes of the tree.
use Rattle.std.specs.Prelude.{Bool, true, false, cond, ◌&&◌, ◌≡◌, List, [], ◌∷◌, ℕ, zero, suc, ◌+◌, ◌-◌, leb, ℤ, length}
use Rattle.std.proofs.Math.Option.{Option, none, some}
use Rattle.kinds.specs.Kinds.{kind_line_string, width}
use Rattle.refusals.specs.Refusals.{ill_formed_store, no_finite_number, number_too_large}
use Rattle.store.specs.Rows.{span_start_at, span_length_at}
use Rattle.nodes.specs.declared.Visit.{Visit}
use Rattle.nodes.specs.declared.Met.{Met}
use Rattle.nodes.specs.declared.Met.TheVariants.{Node, End, Done, Ill}
use Rattle.nodes.specs.Nodes.{is_leaf}
use Rattle.shape.specs.Numbers.{text_at, is_number_at}
use Rattle.std.specs.Prelude.{Ok, Err}
use Rattle.rounding.specs.declared.NoSides.TheVariants.{Named, Beyond, NoNumber}
use Rattle.rounding.specs.Rounding.{Reckoned}
use Rattle.decimal.specs.Reckon.{reckoned}
use Rattle.bounds.specs.declared.BoxAnswer.{BoxAnswer}
use Rattle.bounds.specs.declared.Bounds.{Bounds}
use Rattle.bounds.specs.Bounds.{lower, higher, box, nothing, opened, settled, closed, box_answer}
use Rattle.node_boxes.specs.declared.Seen.{Seen}
use Rattle.node_boxes.specs.Boxes.{fine, or_first}

-- ---- numbers
-- what the number row i comes to
unfoldable pub reckoned_at : List ℕ → List ℕ → ℕ → Reckoned
reckoned_at text numbers i = cond (leb (span_start_at numbers i + span_length_at numbers i) (length text)) (reckoned (text_at text numbers i)) (Err NoNumber)

-- n numbers from i on are numbers in the text
unfoldable pub are_good : List ℕ → List ℕ → ℕ → ℕ → Bool
are_good text numbers i zero = true
are_good text numbers i (suc n) = is_number_at text numbers i && are_good text numbers (i + 1) n

-- ---- coordinates: whether all their numbers are some, and the first offence
abbrev pub seen : Bool → BoxAnswer → Seen
seen good a = record { good = good; number = a.number; place = a.place }

abbrev pub offence_in : Seen → BoxAnswer
offence_in s = box_answer s.number s.place

abbrev pub unseen : Seen
unseen = seen true fine

-- an X or Y that offends, in the number row i: it counts, if none before it did
abbrev pub found_on : List ℕ → ℕ → ℕ → Seen → Seen
found_on numbers i number s = seen s.good (or_first (offence_in s) (box_answer number (span_start_at numbers i)))

-- one X or Y more: "30 for inf or nan, 31 for an exponent beyond 9,999 either way or a scaled size over 10^17"
abbrev pub seen_next : List ℕ → ℕ → Reckoned → Seen → Seen
seen_next numbers i (Ok x) s = s
seen_next numbers i (Err Named) s = found_on numbers i no_finite_number s
seen_next numbers i (Err Beyond) s = found_on numbers i number_too_large s
seen_next numbers i (Err NoNumber) s = seen false (offence_in s)

-- the first k of X and Y, of the coordinate at `at`
unfoldable pub seen_up_to : List ℕ → List ℕ → ℕ → ℕ → Seen → Seen
seen_up_to text numbers at zero s = s
seen_up_to text numbers at (suc k) s = seen_next numbers (at + k) (reckoned_at text numbers (at + k)) (seen_up_to text numbers at k s)

-- one coordinate more, of w numbers from `at` on, and n more: the others need be numbers, and no more
abbrev pub with_others : Bool → Seen → Seen
with_others others s = seen (s.good && others) (offence_in s)

unfoldable pub seen_one : List ℕ → List ℕ → ℕ → ℕ → Seen → Seen
seen_one text numbers w at s = with_others (are_good text numbers (at + 2) (w - 2)) (seen_up_to text numbers at 2 s)

unfoldable pub seen_on : List ℕ → List ℕ → ℕ → ℕ → ℕ → Seen → Seen
seen_on text numbers w at zero s = s
seen_on text numbers w at (suc n) s = seen_on text numbers w (at + w) n (seen_one text numbers w at s)

-- ---- the box around coordinates
-- on one axis it is widened by a low and a high side
abbrev pub widened_axis : ℕ → ℤ → ℤ → Bounds → Bounds
widened_axis zero low high b = box (lower b.left low) (higher b.right high) b.bottom b.top
widened_axis (suc k) low high b = box b.left b.right (lower b.bottom low) (higher b.top high)

-- a number without sides widens nothing
abbrev pub axis_next : ℕ → Reckoned → Bounds → Bounds
axis_next axis (Ok s) b = widened_axis axis s.low s.high b
axis_next axis (Err e) b = b

-- by the first k of X and Y, of the coordinate at `at`; and by n coordinates
unfoldable pub sided_up_to : List ℕ → List ℕ → ℕ → ℕ → Bounds → Bounds
sided_up_to text numbers at zero b = b
sided_up_to text numbers at (suc k) b = axis_next k (reckoned_at text numbers (at + k)) (sided_up_to text numbers at k b)

unfoldable pub around_on : List ℕ → List ℕ → ℕ → ℕ → ℕ → Bounds → Bounds
around_on text numbers w at zero b = b
around_on text numbers w at (suc n) b = around_on text numbers w (at + w) n (sided_up_to text numbers at 2 b)

-- ---- nodes: a node's own coordinates, which kinds 1 and 2 have
unfoldable pub own : List ℕ → List ℕ → Visit → Seen
own text numbers v = cond (leb v.kind kind_line_string) (seen_on text numbers (width v.dimension) v.number v.parts unseen) unseen

abbrev pub own_box : List ℕ → List ℕ → Visit → Bounds
own_box text numbers v = around_on text numbers (width v.dimension) v.number v.parts nothing

-- whether all numbers are some, so far
unfoldable pub good_by : List ℕ → List ℕ → Bool → List Met → Bool
good_by text numbers g [] = g
good_by text numbers g (Node v ∷ ms) = good_by text numbers (g && (own text numbers v).good) ms
good_by text numbers g (End i n ∷ ms) = good_by text numbers g ms
good_by text numbers g (Done ∷ ms) = good_by text numbers g ms
good_by text numbers g (Ill ∷ ms) = good_by text numbers g ms

-- the first offence, so far
unfoldable pub offence_by : List ℕ → List ℕ → BoxAnswer → List Met → BoxAnswer
offence_by text numbers a [] = a
offence_by text numbers a (Node v ∷ ms) = offence_by text numbers (or_first a (offence_in (own text numbers v))) ms
offence_by text numbers a (End i n ∷ ms) = offence_by text numbers a ms
offence_by text numbers a (Done ∷ ms) = offence_by text numbers a ms
offence_by text numbers a (Ill ∷ ms) = offence_by text numbers a ms

-- the table, so far: a node that has coordinates itself has ended at once, and so has one without child rows
abbrev pub ended_leaf : Visit → List ℤ → List ℤ
ended_leaf v t = cond (is_leaf v) (closed t v.row) t

unfoldable pub entered : List ℕ → List ℕ → Visit → List ℤ → List ℤ
entered text numbers v t =
    cond (leb v.kind kind_line_string)
    (settled t v.row v.parent.row (own_box text numbers v))
    (ended_leaf v (opened t v.row v.parent.row))

unfoldable pub table_by : List ℕ → List ℕ → List ℤ → List Met → List ℤ
table_by text numbers t [] = t
table_by text numbers t (Node v ∷ ms) = table_by text numbers (entered text numbers v t) ms
table_by text numbers t (End i n ∷ ms) = table_by text numbers (closed t i) ms
table_by text numbers t (Done ∷ ms) = table_by text numbers t ms
table_by text numbers t (Ill ∷ ms) = table_by text numbers t ms

-- 22 comes before 30 and 31
abbrev pub verdict : Bool → BoxAnswer → BoxAnswer
verdict good a = cond good a (box_answer ill_formed_store 0)

-- all that was met, if the rows are a tree
abbrev pub FilledBy : List ℕ → List ℕ → List ℤ → BoxAnswer → List ℤ → Option (List Met) → Type 0
FilledBy text numbers t a t' none = a ≡ box_answer ill_formed_store 0
FilledBy text numbers t a t' (some ms) = (a ≡ verdict (good_by text numbers true ms) (offence_by text numbers fine ms)) × (t' ≡ table_by text numbers t ms)
