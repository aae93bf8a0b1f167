-- Worked examples of this crate's definitions, by computation.
use Rattle.std.specs.Prelude.{ℕ, ◌≡◌, refl, true, false, Some, None, take, drop, replicate}
use mathlib.Core.List.{List, [], ◌∷◌, ◌++◌, flat_map}
use Rattle.scan.specs.Text.{bytes}
use Rattle.store.specs.Rows.{places_of, firsts}
use Rattle.store.specs.declared.ReadAnswer.{ReadAnswer}
use Rattle.store.specs.declared.WriteAnswer.{WriteAnswer}
use Rattle.printing.specs.Printing.{buffer, has_room_at, put_in, put_all_in, places_from, decimal}
use Rattle.console.specs.Console.{u32_at}
use Rattle.records.specs.declared.input.Front.TheVariants.{Whole, TooLarge, Cut}
use Rattle.records.specs.Records.{has_text_at, slices, slices_at, text_after_rows, lent_in, brought_in, numbers_in, filled, Loads}
use Rattle.records.specs.Input.{state, front_in, front_of, cut_in}
use Rattle.records.specs.Lines.{not_zero, each_of, read_line, write_line, move_line}

-- all pieces together
joined : List (List ℕ) → List ℕ
joined [] = []
joined (piece ∷ pieces) = piece ++ joined pieces

answer : ℕ → ℕ → ℕ → ℕ → ReadAnswer
answer number place nodes numbers = record { number = number; place = place; nodes = nodes; numbers = numbers }

read_shown : ReadAnswer → List ℕ → List ℕ → List ℕ
read_shown a ns ms = joined (read_line a ns ms)

write_shown : WriteAnswer → List ℕ → List ℕ
write_shown a out = joined (write_line a out)

move_shown : ReadAnswer → ℕ → List ℕ → List ℕ → List ℕ → List ℕ
move_shown a n out ns ms = joined (move_line a n out ns ms)

all : ℕ
unfolding joined answer read_shown write_shown move_shown has_room_at put_in put_all_in places_from decimal u32_at places_of firsts flat_map has_text_at slices_at text_after_rows numbers_in filled front_in not_zero each_of
all = 0

-- "an empty list leaves its place between the semicolons empty (`8 0 0 0 ;  ;  ; 0`)"
refused : read_shown (answer 8 0 0 0) (0 ∷ 0 ∷ 0 ∷ []) (0 ∷ 0 ∷ []) ≡ bytes "8 0 0 0 ;  ;  ; 0\n"
unfolding all
refused = refl

-- `POINT(1 2)` read into room for two nodes and two numbers and a half: the rows of the nodes come first
point : read_shown (answer 0 0 1 2) (1 ∷ 0 ∷ 1 ∷ 0 ∷ 0 ∷ 0 ∷ []) (6 ∷ 1 ∷ 8 ∷ 1 ∷ 0 ∷ []) ≡ bytes "0 0 1 2 ; 1 0 1 ; 6 1 8 1 ; 0\n"
unfolding all
point = refl

-- "K is how many places after the used part aren't zero, in both slices together: all of them are looked at": the first and the last of the nodes' and the half row's of
-- the numbers; on a refusal no place is used
left : (read_shown (answer 0 0 1 2) (1 ∷ 0 ∷ 1 ∷ 9 ∷ 0 ∷ 5 ∷ []) (6 ∷ 1 ∷ 8 ∷ 1 ∷ 4 ∷ []) ≡ bytes "0 0 1 2 ; 1 0 1 ; 6 1 8 1 ; 3\n") × (read_shown (answer 3 0 0 0) (7 ∷ 0 ∷ []) (0 ∷ 7 ∷ 7 ∷ []) ≡ bytes "3 0 0 0 ;  ;  ; 3\n")
unfolding all
left = (refl, refl)

-- "bytes lower-case hex": `NUMBER PLACE LENGTH ; HEX ; K`
written : (write_shown (record { number = 0; place = 0; length = 2 }) (31 ∷ 160 ∷ 255 ∷ 0 ∷ 1 ∷ []) ≡ bytes "0 0 2 ; 1fa0 ; 2\n") × (write_shown (record { number = 23; place = 0; length = 0 }) (0 ∷ 0 ∷ []) ≡ bytes "23 0 0 ;  ; 0\n")
unfolding all
written = (refl, refl)

-- `NUMBER PLACE LENGTH NODES NUMBERS ; HEX ; node rows ; number rows ; K`: K counts in all three; and a refusal
moved : (move_shown (answer 0 0 1 2) 2 (31 ∷ 160 ∷ 255 ∷ []) (1 ∷ 0 ∷ 1 ∷ 9 ∷ []) (18 ∷ 1 ∷ 22 ∷ 1 ∷ 4 ∷ []) ≡ bytes "0 0 2 1 2 ; 1fa0 ; 1 0 1 ; 18 1 22 1 ; 3\n")
    × (move_shown (answer 25 8 0 0) 0 (0 ∷ []) (0 ∷ 0 ∷ 0 ∷ []) (0 ∷ 0 ∷ []) ≡ bytes "25 8 0 0 0 ;  ;  ;  ; 0\n")
unfolding all
moved = (refl, refl)

-- a slice of 98,304 places and an empty text; of one more; and with the second length cut
limits : (lent_in (0 ∷ 128 ∷ 1 ∷ 0 ∷ 5 ∷ 0 ∷ 0 ∷ 0 ∷ []) ≡ Some (slices 98304 5 8)) × (lent_in (1 ∷ 128 ∷ 1 ∷ 0 ∷ 5 ∷ 0 ∷ 0 ∷ 0 ∷ []) ≡ None) × (lent_in (1 ∷ 0 ∷ 0 ∷ 0 ∷ 5 ∷ 0 ∷ 0 ∷ []) ≡ None)
unfolding all
limits = (refl, refl, refl)

-- one place for nodes, two for numbers, their rows 7, 264 and 9, and the text `ab`
brought : List ℕ
brought = 1 ∷ 0 ∷ 0 ∷ 0 ∷ 2 ∷ 0 ∷ 0 ∷ 0 ∷ 7 ∷ 0 ∷ 0 ∷ 0 ∷ 8 ∷ 1 ∷ 0 ∷ 0 ∷ 9 ∷ 0 ∷ 0 ∷ 0 ∷ bytes "ab"

-- where the text starts; and without the last byte of the rows the record is cut
told : (brought_in brought ≡ Some (slices 1 2 20)) × (drop 20 brought ≡ bytes "ab") × (brought_in (take 19 brought) ≡ None)
unfolding all brought
told = (refl, refl, refl)

-- the rows at the front of four places each
rows : Loads brought (replicate 4 5) (replicate 4 6) (Some (slices 1 2 20)) (7 ∷ 5 ∷ 5 ∷ 5 ∷ []) (264 ∷ 9 ∷ 6 ∷ 6 ∷ [])
unfolding all brought
rows = record { told = refl; nodes = refl; numbers = refl }

-- a buffer of twelve bytes: a count of two, `ab`, and then a count of nine, which it can't hold
input : List ℕ
input = 2 ∷ 0 ∷ 0 ∷ 0 ∷ bytes "ab" ++ 9 ∷ 0 ∷ 0 ∷ 0 ∷ bytes "cd"

-- a whole record; one that lacks a byte, or one of its count; one that is too large, of which seven bytes are still to come
fronts : (front_of input (state 0 12 0 true) ≡ Whole 4 6) × (front_of input (state 0 5 0 true) ≡ Cut) × (front_of input (state 0 3 0 true) ≡ Cut) × (front_of input (state 6 12 0 true) ≡ TooLarge 7)
unfolding all input
fronts = (refl, refl, refl, refl)

-- a buffer of twelve blanks
out : List ℕ
out = replicate 12 32

-- a byte is left unread when the input has ended, or none is
cut : (cut_in (state 0 1 0 false) (buffer out 0) ≡ buffer (bytes "bad record\n ") 11) × (cut_in (state 1 1 0 false) (buffer out 3) ≡ buffer out 3)
unfolding all out
cut = (refl, refl)
