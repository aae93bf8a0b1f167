-- The lines of answers. "Numbers are decimal, bytes lower-case hex, with one space between fields; an empty list leaves its place between the semicolons empty".
use Rattle.std.specs.Prelude.{ℕ, ◌+◌, ◌/◌, ◌%◌, cond, eqb, get_or, take, drop}
use mathlib.Core.List.{List, [], ◌∷◌, ◌++◌, flat_map}
use Rattle.scan.specs.Text.{bytes}
use Rattle.store.specs.Rows.{node_width, number_width, places_of}
use Rattle.store.specs.declared.ReadAnswer.{ReadAnswer}
use Rattle.store.specs.declared.WriteAnswer.{WriteAnswer}
use Rattle.printing.specs.Printing.{decimal, spaced}

-- "is answered `bad record`"
abbrev pub bad_record : List (List ℕ)
bad_record = bytes "bad record\n" ∷ []

abbrev pub three_numbers : ℕ → ℕ → ℕ → List (List ℕ)
three_numbers a b c = decimal a ∷ (spaced b ++ spaced c)

-- "K is how many places after the used part aren't zero": of these places
abbrev pub one_unless_zero : ℕ → ℕ
one_unless_zero n = cond (eqb n 0) 0 1

unfoldable pub not_zero : List ℕ → ℕ
not_zero [] = 0
not_zero (n ∷ l) = one_unless_zero n + not_zero l

abbrev pub left_over : List ℕ → ℕ → ℕ
left_over l used = not_zero (drop used l)

-- how many they are, at the line's end
abbrev pub left_line : ℕ → List (List ℕ)
left_line k = bytes " ;" ∷ (spaced k ++ bytes "\n" ∷ [])

-- what is put for each of the first n entries
unfoldable pub each_of : (ℕ → List (List ℕ)) → List ℕ → ℕ → List (List ℕ)
each_of f l n = flat_map f (take n l)

-- the used places of a slice, each after a space, or nothing after a space
abbrev pub rows_line : List ℕ → ℕ → List (List ℕ)
rows_line l used = bytes " ;" ∷ cond (eqb used 0) (bytes " " ∷ []) (each_of spaced l used)

abbrev pub used_nodes : ReadAnswer → List ℕ → ℕ
used_nodes a ns = places_of node_width ns a.nodes

abbrev pub used_numbers : ReadAnswer → List ℕ → ℕ
used_numbers a ms = places_of number_width ms a.numbers

abbrev pub numbers_line : ReadAnswer → List (List ℕ)
numbers_line a = three_numbers a.number a.place a.nodes ++ spaced a.numbers

-- `NUMBER PLACE NODES NUMBERS ; node rows ; number rows ; K`
abbrev pub read_line : ReadAnswer → List ℕ → List ℕ → List (List ℕ)
read_line a ns ms =
    numbers_line a
    ++ (rows_line ns (used_nodes a ns)
    ++ (rows_line ms (used_numbers a ms) ++ left_line (left_over ns (used_nodes a ns) + left_over ms (used_numbers a ms))))

-- a byte's two digits, the high one first
abbrev pub hex_digit : ℕ → ℕ
hex_digit n = get_or (bytes "0123456789abcdef") n 0

abbrev pub hex_byte : ℕ → List (List ℕ)
hex_byte b = (hex_digit (b / 16) ∷ hex_digit (b % 16) ∷ []) ∷ []

-- `NUMBER PLACE LENGTH ; HEX ; K`
abbrev pub write_line : WriteAnswer → List ℕ → List (List ℕ)
write_line a out =
    three_numbers a.number a.place a.length ++ (bytes " ; " ∷ (each_of hex_byte out a.length ++ left_line (left_over out a.length)))

-- `NUMBER PLACE LENGTH NODES NUMBERS ; HEX ; node rows ; number rows ; K`, of what was read and how many bytes were written
abbrev pub move_numbers : ReadAnswer → ℕ → List (List ℕ)
move_numbers a n = three_numbers a.number a.place n ++ (spaced a.nodes ++ spaced a.numbers)

abbrev pub move_line : ReadAnswer → ℕ → List ℕ → List ℕ → List ℕ → List (List ℕ)
move_line a n out ns ms =
    move_numbers a n
    ++ (bytes " ; "
    ∷ (each_of hex_byte out n
    ++ (rows_line ns (used_nodes a ns)
    ++ (rows_line ms (used_numbers a ms) ++ left_line (left_over out n + (left_over ns (used_nodes a ns) + left_over ms (used_numbers a ms)))))))
