-- Worked examples of this crate's definitions, by computation: boxes, rows in a table, and each step by which it is filled.
use Rattle.std.specs.Prelude.{◌≡◌, refl, true, false, List, [], ◌∷◌, ◌++◌, ℕ, ◌^◌, ℤ, pos, neg_ℤ}
use Rattle.store.specs.Rows.{cleared_to}
use Rattle.bounds.specs.declared.Bounds.{Bounds}
use Rattle.bounds.specs.Bounds.{lower, higher, box, merge, edge, nothing, is_nothing, box_width, box_room, box_row, five, five_of, no_box, done_row, put_five, box_cell, first_at, bounds_at, opened, widened, widened_above, closed, zeros, padded, cleared, box_answer}

neg : ℕ → ℤ
neg n = neg_ℤ (pos n)

-- the numbers of a table, for the examples: none is negative
table : List ℕ → List ℤ
table [] = []
table (n ∷ l) = pos n ∷ table l

-- two rows, and two places that make no third
two : List ℤ
two = table (10 ∷ 11 ∷ 12 ∷ 13 ∷ 14 ∷ 20 ∷ 21 ∷ 22 ∷ 23 ∷ 24 ∷ 8 ∷ 9 ∷ [])

-- two rows of zeros, and a place more
bare : List ℤ
bare = table (0 ∷ 0 ∷ 0 ∷ 0 ∷ 0 ∷ 0 ∷ 0 ∷ 0 ∷ 0 ∷ 0 ∷ 7 ∷ [])

a : Bounds
a = box (neg 4) (neg 3) (pos 5) (pos 6)

b : Bounds
b = box (neg 2) (pos 1) (pos 0) (pos 9)

-- a row as it stands while nothing was met under it, below the row p
fresh : ℕ → List ℤ
fresh p = pos p ∷ pos 1000000000000000000 ∷ neg 1000000000000000000 ∷ pos 1000000000000000000 ∷ neg 1000000000000000000 ∷ []

all : ℕ
unfolding neg table two bare a b fresh merge done_row put_five box_cell opened widened closed cleared_to
all = 0

-- the lower and the higher of two, of either sign, and of equals
sides :
    (lower (pos 3) (pos 5) ∷ lower (pos 5) (pos 3) ∷ lower (neg 3) (pos 5) ∷ lower (neg 3) (neg 5) ∷ lower (neg 5) (neg 3) ∷ lower (pos 3) (pos 3) ∷ [] ≡ pos 3 ∷ pos 3 ∷ neg 3 ∷ neg 5 ∷ neg 5 ∷ pos 3 ∷ [])
    × (higher (pos 3) (pos 5) ∷ higher (pos 5) (pos 3) ∷ higher (neg 3) (pos 5) ∷ higher (neg 3) (neg 5) ∷ higher (neg 5) (neg 3) ∷ higher (pos 3) (pos 3) ∷ [] ≡ pos 5 ∷ pos 5 ∷ pos 5 ∷ neg 3 ∷ neg 3 ∷ pos 3 ∷ [])
unfolding all
sides = (refl, refl)

-- a box around two has the lower lows and the higher highs, in either order; a box around nothing adds nothing
merged : (merge a b ≡ box (neg 4) (pos 1) (pos 0) (pos 9)) × (merge b a ≡ box (neg 4) (pos 1) (pos 0) (pos 9)) × (merge nothing a ≡ a) × (merge a nothing ≡ a) × (merge nothing nothing ≡ nothing)
unfolding all
merged = (refl, refl, refl, refl, refl)

-- a box around nothing is told from one of a single point; its sides are farther in than 10^17 + 1 of either sign
empty : (is_nothing nothing ≡ true) × (is_nothing (box (pos 3) (pos 3) (pos 5) (pos 5)) ≡ false) × (is_nothing (box (neg 100000000000000000) (neg 100000000000000000) (pos 0) (pos 0)) ≡ false) × (edge ≡ 10 ^ 18)
unfolding all
empty = (refl, refl, refl, refl)

-- "Five i64 a row: 1, low X, high X, low Y, high Y; all 0 without coordinates"
rows : (five_of (done_row a) ≡ pos 1 ∷ neg 4 ∷ neg 3 ∷ pos 5 ∷ pos 6 ∷ []) × (five_of (done_row nothing) ≡ pos 0 ∷ pos 0 ∷ pos 0 ∷ pos 0 ∷ pos 0 ∷ []) × (five_of no_box ≡ pos 0 ∷ pos 0 ∷ pos 0 ∷ pos 0 ∷ pos 0 ∷ []) × (five_of (box_row (pos 1) a) ≡ five (pos 1) a)
unfolding all
rows = (refl, refl, refl, refl)

-- "its length divided by 5": no row in 4 places, one in 5 and in 9, two in 10
room : (box_width ≡ 5) × (box_room (zeros 0) ∷ box_room (zeros 4) ∷ box_room (zeros 5) ∷ box_room (zeros 9) ∷ box_room (zeros 10) ∷ [] ≡ 0 ∷ 0 ∷ 1 ∷ 1 ∷ 2 ∷ [])
unfolding all
room = (refl, refl)

-- the first row and the last; beyond it nothing changes, though there are places more
put :
    (put_five two 0 (table (1 ∷ 2 ∷ 3 ∷ 4 ∷ 5 ∷ [])) ≡ table (1 ∷ 2 ∷ 3 ∷ 4 ∷ 5 ∷ 20 ∷ 21 ∷ 22 ∷ 23 ∷ 24 ∷ 8 ∷ 9 ∷ []))
    × (put_five two 1 (table (1 ∷ 2 ∷ 3 ∷ 4 ∷ 5 ∷ [])) ≡ table (10 ∷ 11 ∷ 12 ∷ 13 ∷ 14 ∷ 1 ∷ 2 ∷ 3 ∷ 4 ∷ 5 ∷ 8 ∷ 9 ∷ []))
    × (put_five two 2 (table (1 ∷ 2 ∷ 3 ∷ 4 ∷ 5 ∷ [])) ≡ two)
    × (put_five two 18446744073709551615 (table (1 ∷ 2 ∷ 3 ∷ 4 ∷ 5 ∷ [])) ≡ two)
    × (put_five [] 0 (table (1 ∷ 2 ∷ 3 ∷ 4 ∷ 5 ∷ [])) ≡ [])
unfolding all
put = (refl, refl, refl, refl, refl)

-- each column of the first row and of the last, and 0 beyond it
cells :
    (box_cell two 0 0 ∷ box_cell two 0 1 ∷ box_cell two 0 2 ∷ box_cell two 0 3 ∷ box_cell two 0 4 ∷ [] ≡ table (10 ∷ 11 ∷ 12 ∷ 13 ∷ 14 ∷ []))
    × (box_cell two 1 0 ∷ box_cell two 1 1 ∷ box_cell two 1 2 ∷ box_cell two 1 3 ∷ box_cell two 1 4 ∷ [] ≡ table (20 ∷ 21 ∷ 22 ∷ 23 ∷ 24 ∷ []))
    × (box_cell two 2 0 ∷ box_cell two 2 1 ∷ box_cell [] 0 0 ∷ [] ≡ table (0 ∷ 0 ∷ 0 ∷ []))
    × (first_at two 1 ≡ pos 20) × (bounds_at two 1 ≡ box (pos 21) (pos 22) (pos 23) (pos 24))
unfolding all
cells = (refl, refl, refl, refl, refl)

-- the root stands below row 0, which is its own; a child below row 0 too; neither a row nor a parent beyond the table changes anything
opening :
    (opened two 0 0 ≡ fresh 0 ++ table (20 ∷ 21 ∷ 22 ∷ 23 ∷ 24 ∷ 8 ∷ 9 ∷ []))
    × (opened two 1 0 ≡ table (10 ∷ 11 ∷ 12 ∷ 13 ∷ 14 ∷ []) ++ fresh 0 ++ table (8 ∷ 9 ∷ []))
    × (opened two 1 1 ≡ table (10 ∷ 11 ∷ 12 ∷ 13 ∷ 14 ∷ []) ++ fresh 1 ++ table (8 ∷ 9 ∷ []))
    × (opened two 2 0 ≡ two) × (opened two 1 2 ≡ two)
unfolding all
opening = (refl, refl, refl, refl, refl)

-- a row is widened by a box and by another, and keeps its first place
widening :
    (widened (fresh 3) 0 a ≡ pos 3 ∷ neg 4 ∷ neg 3 ∷ pos 5 ∷ pos 6 ∷ [])
    × (widened (widened (fresh 3) 0 a) 0 b ≡ pos 3 ∷ neg 4 ∷ pos 1 ∷ pos 0 ∷ pos 9 ∷ [])
    × (widened (fresh 3) 1 a ≡ fresh 3)
    × (widened two 1 a ≡ table (10 ∷ 11 ∷ 12 ∷ 13 ∷ 14 ∷ []) ++ (pos 20 ∷ neg 4 ∷ pos 22 ∷ pos 5 ∷ pos 24 ∷ []) ++ table (8 ∷ 9 ∷ []))
unfolding all
widening = (refl, refl, refl, refl)

-- above a row: only a row before it is widened
widening_above :
    (widened_above (fresh 0 ++ fresh 0) 1 0 a ≡ (pos 0 ∷ neg 4 ∷ neg 3 ∷ pos 5 ∷ pos 6 ∷ []) ++ fresh 0)
    × (widened_above (fresh 0) 0 0 a ≡ fresh 0) × (widened_above (fresh 1 ++ fresh 1) 0 1 a ≡ fresh 1 ++ fresh 1)
unfolding all
widening_above = (refl, refl, refl)

-- a root that has ended: its box, or zeros
closing_root : (closed (widened (opened bare 0 0) 0 a) 0 ≡ (pos 1 ∷ neg 4 ∷ neg 3 ∷ pos 5 ∷ pos 6 ∷ []) ++ table (0 ∷ 0 ∷ 0 ∷ 0 ∷ 0 ∷ 7 ∷ [])) × (closed (opened two 0 0) 0 ≡ zeros 5 ++ table (20 ∷ 21 ∷ 22 ∷ 23 ∷ 24 ∷ 8 ∷ 9 ∷ []))
unfolding all
closing_root = (refl, refl)

-- a child that has ended widens the root, which is still open; then that one ends
closing_child :
    (closed (widened (opened (opened bare 0 0) 1 0) 1 a) 1 ≡ (pos 0 ∷ neg 4 ∷ neg 3 ∷ pos 5 ∷ pos 6 ∷ []) ++ (pos 1 ∷ neg 4 ∷ neg 3 ∷ pos 5 ∷ pos 6 ∷ []) ++ table (7 ∷ []))
    × (closed (closed (widened (opened (opened bare 0 0) 1 0) 1 a) 1) 0 ≡ (pos 1 ∷ neg 4 ∷ neg 3 ∷ pos 5 ∷ pos 6 ∷ []) ++ (pos 1 ∷ neg 4 ∷ neg 3 ∷ pos 5 ∷ pos 6 ∷ []) ++ table (7 ∷ []))
unfolding all
closing_child = (refl, refl)

-- a child around nothing leaves the root as it is, open or around something
closing_empty :
    (closed (opened (opened bare 0 0) 1 0) 1 ≡ fresh 0 ++ zeros 5 ++ table (7 ∷ []))
    × (closed (opened (widened (opened bare 0 0) 0 a) 1 0) 1 ≡ (pos 0 ∷ neg 4 ∷ neg 3 ∷ pos 5 ∷ pos 6 ∷ []) ++ zeros 5 ++ table (7 ∷ []))
unfolding all
closing_empty = (refl, refl)

-- a row with a negative first place was never opened: nothing changes; nor for a row beyond the table
closing_none : (closed (neg 1 ∷ table (2 ∷ 3 ∷ 4 ∷ 5 ∷ [])) 0 ≡ neg 1 ∷ table (2 ∷ 3 ∷ 4 ∷ 5 ∷ [])) × (closed (table (1 ∷ 2 ∷ 3 ∷ [])) 0 ≡ table (1 ∷ 2 ∷ 3 ∷ []))
unfolding all
closing_none = (refl, refl)

-- zeros from a place on, up to the end, also where that is in no row; from its end on nothing changes
clearing :
    (cleared two 5 ≡ table (10 ∷ 11 ∷ 12 ∷ 13 ∷ 14 ∷ 0 ∷ 0 ∷ 0 ∷ 0 ∷ 0 ∷ 0 ∷ 0 ∷ []))
    × (cleared two 0 ≡ zeros 12) × (cleared two 11 ≡ table (10 ∷ 11 ∷ 12 ∷ 13 ∷ 14 ∷ 20 ∷ 21 ∷ 22 ∷ 23 ∷ 24 ∷ 8 ∷ 0 ∷ []))
    × (cleared two 12 ≡ two) × (cleared two 20 ≡ two) × (cleared [] 0 ≡ [])
unfolding all
clearing = (refl, refl, refl, refl, refl, refl)

-- numbers, and zeros up to a length
padding : (padded (table (1 ∷ 2 ∷ [])) 4 ≡ table (1 ∷ 2 ∷ 0 ∷ 0 ∷ [])) × (padded (table (1 ∷ 2 ∷ [])) 2 ≡ table (1 ∷ 2 ∷ [])) × (padded [] 3 ≡ table (0 ∷ 0 ∷ 0 ∷ []))
unfolding all
padding = (refl, refl, refl)

-- an answer's fields
answers : ((box_answer 30 6).number ≡ 30) × ((box_answer 30 6).place ≡ 6)
answers = (refl, refl)
