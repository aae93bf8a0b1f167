-- What the programs have in common: their input limit, and the lines that tell two numbers.
use Rattle.std.specs.Prelude.{ℕ, ◌+◌, ◌*◌, Bool, cond, List, [], ◌∷◌, ◌++◌, ltb, leb, length, get_or}
use Rattle.scan.specs.Text.{bytes}
use Rattle.refusals.specs.Refusals.{text_too_long}
use Rattle.printing.specs.Printing.{spaced}

-- the most bytes that a program reads as a text; the library's limit is `text_limit`, which may become another
abbrev pub input_limit : ℕ
input_limit = 65535

abbrev pub is_over_input : ℕ → Bool
is_over_input n = ltb input_limit n

-- "It has room for 1,024 nodes and 4,096 numbers."
abbrev pub room_for_nodes : ℕ
room_for_nodes = 1024

abbrev pub room_for_numbers : ℕ
room_for_numbers = 4096

-- a name and two numbers, each after a space, and what ends the line
abbrev pub counts_line : List ℕ → ℕ → ℕ → List ℕ → List (List ℕ)
counts_line name first second end = name ∷ (spaced first ++ (spaced second ++ (end ∷ [])))

-- "a refusal prints as `refused 13 8`"
abbrev pub refusal_line : ℕ → ℕ → List ℕ → List (List ℕ)
refusal_line number place end = counts_line (bytes "refused") number place end

abbrev pub newline : List ℕ
newline = bytes "\n"

-- of a text over the programs' limit
abbrev pub too_long_line : List (List ℕ)
too_long_line = refusal_line text_too_long input_limit newline

-- the u32 that stands at a place, its lowest byte first; 0 where it isn't there whole
unfoldable pub u32_at : List ℕ → ℕ → ℕ
u32_at l at = cond (leb (at + 4) (length l)) (get_or l at 0 + get_or l (at + 1) 0 * 256 + (get_or l (at + 2) 0 + get_or l (at + 3) 0 * 256) * 65536) 0
