-- Worked examples of what reading comes to, by computation: stored bytes of each sort, and each refusal with each thing that may be at fault.
use Rattle.std.specs.Prelude.{◌≡◌, refl, not, ℕ, take}
use mathlib.Core.List.{List, [], ◌∷◌, ◌++◌, flat_map}
use Rattle.kinds.specs.Kinds.{width}
use Rattle.scan.specs.Front.{begins, after_one, after_all, is_nil}
use Rattle.words.specs.Words.{same_word}
use Rattle.lists.specs.Lists.{every, passing, bytes_that}
use Rattle.number.specs.Lexeme.{is_named, is_digits, is_exponent, is_decimal, is_unsigned, is_lexeme}
use Rattle.store.specs.Rows.{row, span, cell, firsts, rows_in, spans_in, flat_rows, flat_spans}
use Rattle.store.specs.Answers.{Outcome, filled, refused}
use Rattle.tree.specs.Tree.{rows_with}
use Rattle.tree.specs.TreeIn.{on_front, as_a, times, find_text, find_row, exactly_one, at_most_one, find_parts, find_node, whole}
use Rattle.shape.specs.Numbers.{are_numbers}
use Rattle.shape.specs.Store.{are_whole, tree_of, well_formed}
use Rattle.fields.specs.Counts.{count_after}
use Rattle.fields.specs.Fields.{length_in, is_field, is_sized}
use Rattle.stored_form.specs.declared.Version.{Version}
use Rattle.stored_form.specs.Form.{version1, version2}
use Rattle.stored_form.specs.Reading.{is_other_version, head_in, fields_from, place_after, roomed, checked, reading_of}

-- `POINT(1 2)`: its head, its node, its numbers
head : List ℕ
head = 1 ∷ 0 ∷ 5 ∷ 1 ∷ 0 ∷ 1 ∷ 0 ∷ 2 ∷ []

node : List ℕ
node = 2 ∷ 0 ∷ 4 ∷ 1 ∷ 0 ∷ 0 ∷ 1 ∷ []

numbers : List ℕ
numbers = 3 ∷ 0 ∷ 1 ∷ 49 ∷ 3 ∷ 0 ∷ 1 ∷ 50 ∷ []

point : List ℕ
unfolding head node numbers
point = head ++ (node ++ numbers)

-- version 1, with room enough and with none
read : List ℕ → Outcome
read bytes = reading_of version1 9 9 bytes

without : List ℕ → Outcome
without bytes = reading_of version1 0 0 bytes

-- a version of the same form with a limit of 22 bytes
short : Version
short = record { number = 1; width = 2; largest = 65535; limit = 22 }

-- `POINT(1 2)` in version 2, and that version with room enough and with none
point_2 : List ℕ
point_2 = 1 ∷ 0 ∷ 9 ∷ 2 ∷ 0 ∷ 0 ∷ 0 ∷ 1 ∷ 0 ∷ 0 ∷ 0 ∷ 2 ∷ 2 ∷ 0 ∷ 6 ∷ 1 ∷ 0 ∷ 0 ∷ 0 ∷ 0 ∷ 1 ∷ 3 ∷ 0 ∷ 1 ∷ 49 ∷ 3 ∷ 0 ∷ 1 ∷ 50 ∷ []

read_2 : List ℕ → Outcome
read_2 bytes = reading_of version2 9 9 bytes

all : ℕ
unfolding head node numbers point read without short point_2 read_2 flat_rows flat_spans begins after_one after_all is_nil same_word is_named is_digits is_exponent is_decimal is_unsigned is_lexeme every cell firsts rows_in spans_in width flat_map rows_with on_front as_a times find_text find_row exactly_one at_most_one find_parts find_node whole are_numbers are_whole tree_of well_formed count_after length_in is_field is_sized is_other_version head_in fields_from place_after roomed checked reading_of
all = 0

-- a point; an empty collection; `MULTIPOINT Z((1 2 -3))`; and a point of version 2
accepted : (read point ≡ filled (row 1 0 1 ∷ []) (span 18 1 (49 ∷ []) ∷ span 22 1 (50 ∷ []) ∷ []))
    × (read (1 ∷ 0 ∷ 5 ∷ 1 ∷ 0 ∷ 1 ∷ 0 ∷ 0 ∷ 2 ∷ 0 ∷ 4 ∷ 7 ∷ 3 ∷ 0 ∷ 0 ∷ []) ≡ filled (row 7 3 0 ∷ []) [])
    × (read (1 ∷ 0 ∷ 5 ∷ 1 ∷ 0 ∷ 2 ∷ 0 ∷ 3 ∷ 2 ∷ 0 ∷ 4 ∷ 4 ∷ 1 ∷ 0 ∷ 1 ∷ 2 ∷ 0 ∷ 4 ∷ 1 ∷ 1 ∷ 0 ∷ 1 ∷ 3 ∷ 0 ∷ 1 ∷ 49 ∷ 3 ∷ 0 ∷ 1 ∷ 50 ∷ 3 ∷ 0 ∷ 2 ∷ 45 ∷ 51 ∷ [])
    ≡ filled (row 4 1 1 ∷ row 1 1 1 ∷ []) (span 25 1 (49 ∷ []) ∷ span 29 1 (50 ∷ []) ∷ span 33 2 (45 ∷ 51 ∷ []) ∷ []))
    × (reading_of version2 1 2 point_2 ≡ filled (row 1 0 1 ∷ []) (span 24 1 (49 ∷ []) ∷ span 28 1 (50 ∷ []) ∷ []))
unfolding all
accepted = (refl, refl, refl, refl)

-- 1: one byte over the limit, before 26 and 25; at the limit it isn't given
too_long : (reading_of short 9 9 point ≡ refused 1 22) × (reading_of short 9 9 (1 ∷ 0 ∷ 0 ∷ 7 ∷ point) ≡ refused 1 22) × (reading_of short 9 9 (take 22 point) ≡ refused 25 19)
unfolding all
too_long = (refl, refl, refl)

-- 26: another version, whatever the length says, and where nothing follows; not where the first byte isn't 1, nor where there is no byte 3
other_version : (read (1 ∷ 255 ∷ 255 ∷ 2 ∷ []) ≡ refused 26 3) × (read (1 ∷ 0 ∷ 5 ∷ 0 ∷ 0 ∷ 1 ∷ 0 ∷ 2 ∷ []) ≡ refused 26 3) × (read (2 ∷ 0 ∷ 5 ∷ 2 ∷ []) ≡ refused 25 0) × (read (1 ∷ 0 ∷ 5 ∷ []) ≡ refused 25 0)
unfolding all
other_version = (refl, refl, refl, refl)

-- "that of version 1 must answer 26 on version 2 (1 still comes first), and the other way round": each knows its own version byte only. `01 FF FF 02` is 26 at 3 for
-- version 1 and 25 at 0 for version 2; and a whole tree of the one version is 26 for the other
each_its_own : (read (1 ∷ 255 ∷ 255 ∷ 2 ∷ []) ≡ refused 26 3) × (read_2 (1 ∷ 255 ∷ 255 ∷ 2 ∷ []) ≡ refused 25 0) × (read (1 ∷ 255 ∷ 255 ∷ 1 ∷ []) ≡ refused 25 0) × (read_2 (1 ∷ 255 ∷ 255 ∷ 1 ∷ []) ≡ refused 26 3)
    × (read point_2 ≡ refused 26 3) × (read_2 point ≡ refused 26 3) × (read (1 ∷ 0 ∷ 5 ∷ 3 ∷ []) ≡ refused 26 3) × (read_2 (1 ∷ 0 ∷ 9 ∷ 3 ∷ []) ≡ refused 26 3) × (reading_of short 9 9 point_2 ≡ refused 1 22)
unfolding all
each_its_own = (refl, refl, refl, refl, refl, refl, refl, refl, refl)

-- and no other of the 256
known_bytes : (bytes_that (λ b. not (is_other_version version1 (1 ∷ 0 ∷ 0 ∷ b ∷ []))) ≡ 1 ∷ []) × (bytes_that (λ b. not (is_other_version version2 (1 ∷ 0 ∷ 0 ∷ b ∷ []))) ≡ 2 ∷ [])
unfolding all passing
known_bytes = (refl, refl)

-- version 2 has none of version 1's lengths, nor the other way round: heads of 5 and of 9 bytes, nodes of 4 and of 6
each_its_lengths : (read_2 (1 ∷ 0 ∷ 5 ∷ 2 ∷ 0 ∷ 1 ∷ 0 ∷ 2 ∷ (node ++ numbers)) ≡ refused 25 0) × (read (1 ∷ 0 ∷ 9 ∷ 1 ∷ 0 ∷ 0 ∷ 0 ∷ 1 ∷ 0 ∷ 0 ∷ 0 ∷ 2 ∷ (node ++ numbers)) ≡ refused 25 0) × (read_2 (take 12 point_2 ++ (node ++ numbers)) ≡ refused 25 12)
    × (read (head ++ (2 ∷ 0 ∷ 6 ∷ 1 ∷ 0 ∷ 0 ∷ 0 ∷ 0 ∷ 1 ∷ numbers)) ≡ refused 25 8)
unfolding all
each_its_lengths = (refl, refl, refl, refl)

-- of version 2 as of version 1: a head, a node and a number that are cut, what is left over, rows that there aren't, and what is no tree
as_version_1 : (read_2 (take 11 point_2) ≡ refused 25 0) × (read_2 (take 20 point_2) ≡ refused 25 12) × (read_2 (take 28 point_2) ≡ refused 25 25) × (read_2 (point_2 ++ (0 ∷ [])) ≡ refused 25 29)
    × (reading_of version2 0 0 point_2 ≡ refused 3 12) × (reading_of version2 1 0 point_2 ≡ refused 4 21) × (reading_of version2 1 1 point_2 ≡ refused 4 25) × (read_2 (take 12 point_2 ++ (2 ∷ 0 ∷ 6 ∷ 1 ∷ 0 ∷ 1 ∷ 0 ∷ 0 ∷ 1 ∷ numbers)) ≡ refused 22 0)
unfolding all
as_version_1 = (refl, refl, refl, refl, refl, refl, refl, refl)

-- 25 at the head: missing; cut in the tag's length, in the content; of another tag; too short and too long
head_faults : (read [] ≡ refused 25 0) × (read (1 ∷ 0 ∷ []) ≡ refused 25 0) × (read (take 7 point) ≡ refused 25 0) × (read (2 ∷ 0 ∷ 5 ∷ 1 ∷ 0 ∷ 1 ∷ 0 ∷ 2 ∷ []) ≡ refused 25 0) × (read (1 ∷ 0 ∷ 4 ∷ 1 ∷ 0 ∷ 1 ∷ 0 ∷ 2 ∷ []) ≡ refused 25 0) × (read (1 ∷ 0 ∷ 6 ∷ 1 ∷ 0 ∷ 1 ∷ 0 ∷ 2 ∷ 0 ∷ []) ≡ refused 25 0) × (read (1 ∷ 1 ∷ 5 ∷ 1 ∷ 0 ∷ 1 ∷ 0 ∷ 2 ∷ []) ≡ refused 25 0)
unfolding all
head_faults = (refl, refl, refl, refl, refl, refl, refl)

-- 25 at a node: missing, at the end of the data; cut in the length, in the content; of another tag; too short and too long
node_faults : (read head ≡ refused 25 8) × (read (head ++ (2 ∷ 0 ∷ [])) ≡ refused 25 8) × (read (head ++ take 6 node) ≡ refused 25 8) × (read (head ++ (3 ∷ 0 ∷ 4 ∷ 1 ∷ 0 ∷ 0 ∷ 1 ∷ numbers)) ≡ refused 25 8) × (read (head ++ (2 ∷ 0 ∷ 3 ∷ 1 ∷ 0 ∷ 0 ∷ 1 ∷ numbers)) ≡ refused 25 8) × (read (head ++ (2 ∷ 0 ∷ 5 ∷ 1 ∷ 0 ∷ 0 ∷ 1 ∷ numbers)) ≡ refused 25 8)
unfolding all
node_faults = (refl, refl, refl, refl, refl, refl)

-- 25 at a number: the first missing, the second missing; cut in the length and in the content; of another tag; a length that takes in too much
number_faults : (read (head ++ node) ≡ refused 25 15) × (read (take 19 point) ≡ refused 25 19) × (read (take 20 point) ≡ refused 25 19) × (read (take 22 point) ≡ refused 25 19) × (read (head ++ (node ++ (2 ∷ 0 ∷ 1 ∷ 49 ∷ 3 ∷ 0 ∷ 1 ∷ 50 ∷ []))) ≡ refused 25 15) × (read (head ++ (node ++ (3 ∷ 0 ∷ 2 ∷ 49 ∷ 3 ∷ 0 ∷ 1 ∷ 50 ∷ []))) ≡ refused 25 20) × (read (head ++ (node ++ (3 ∷ 1 ∷ 0 ∷ 49 ∷ 3 ∷ 0 ∷ 1 ∷ 50 ∷ []))) ≡ refused 25 15)
unfolding all
number_faults = (refl, refl, refl, refl, refl, refl, refl)

-- 25 at what is left over, be it a field or a byte; a count that is one too low leaves a field over, of nodes where a number must stand
left_over : (read (point ++ (0 ∷ [])) ≡ refused 25 23) × (read (point ++ (3 ∷ 0 ∷ 1 ∷ 51 ∷ [])) ≡ refused 25 23) × (read (1 ∷ 0 ∷ 5 ∷ 1 ∷ 0 ∷ 1 ∷ 0 ∷ 1 ∷ (node ++ numbers)) ≡ refused 25 19) × (read (1 ∷ 0 ∷ 5 ∷ 1 ∷ 0 ∷ 0 ∷ 0 ∷ 2 ∷ (node ++ numbers)) ≡ refused 25 8) × (read (1 ∷ 0 ∷ 5 ∷ 1 ∷ 0 ∷ 1 ∷ 0 ∷ 3 ∷ (node ++ numbers)) ≡ refused 25 23)
unfolding all
left_over = (refl, refl, refl, refl, refl)

-- 22 with no room at all: no node; a kind and a dimension that there isn't; a point of two parts; a number too many, one too few; a text that is no lexeme, and an empty one; and not before a fault behind it
ill_formed : (without (1 ∷ 0 ∷ 5 ∷ 1 ∷ 0 ∷ 0 ∷ 0 ∷ 0 ∷ []) ≡ refused 22 0)
    × (without (head ++ (2 ∷ 0 ∷ 4 ∷ 8 ∷ 0 ∷ 0 ∷ 1 ∷ numbers)) ≡ refused 22 0)
    × (without (head ++ (2 ∷ 0 ∷ 4 ∷ 1 ∷ 4 ∷ 0 ∷ 1 ∷ numbers)) ≡ refused 22 0)
    × (without (head ++ (2 ∷ 0 ∷ 4 ∷ 1 ∷ 0 ∷ 0 ∷ 2 ∷ numbers)) ≡ refused 22 0)
    × (without (head ++ (2 ∷ 0 ∷ 4 ∷ 1 ∷ 0 ∷ 0 ∷ 0 ∷ numbers)) ≡ refused 22 0)
    × (without (head ++ (2 ∷ 0 ∷ 4 ∷ 1 ∷ 1 ∷ 0 ∷ 1 ∷ numbers)) ≡ refused 22 0)
    × (without (head ++ (node ++ (3 ∷ 0 ∷ 1 ∷ 120 ∷ 3 ∷ 0 ∷ 1 ∷ 50 ∷ []))) ≡ refused 22 0)
    × (without (head ++ (node ++ (3 ∷ 0 ∷ 0 ∷ 3 ∷ 0 ∷ 1 ∷ 50 ∷ []))) ≡ refused 22 0)
    × (without (head ++ (2 ∷ 0 ∷ 4 ∷ 8 ∷ 0 ∷ 0 ∷ 1 ∷ take 7 numbers)) ≡ refused 25 19)
unfolding all
ill_formed = (refl, refl, refl, refl, refl, refl, refl, refl, refl)

-- 3 at the first node field without a row, before 4 at the first number field without one
no_rows_law : (reading_of version1 0 0 point ≡ refused 3 8) × (reading_of version1 1 0 point ≡ refused 4 15) × (reading_of version1 1 1 point ≡ refused 4 19) × (reading_of version1 0 2 point ≡ refused 3 8)
    × (reading_of version1 1 2 (1 ∷ 0 ∷ 5 ∷ 1 ∷ 0 ∷ 2 ∷ 0 ∷ 2 ∷ 2 ∷ 0 ∷ 4 ∷ 4 ∷ 0 ∷ 0 ∷ 1 ∷ (node ++ numbers)) ≡ refused 3 15)
unfolding all
no_rows_law = (refl, refl, refl, refl, refl)
