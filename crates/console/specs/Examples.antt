-- Worked examples of this crate's definitions, by computation.
use Rattle.std.specs.Prelude.{◌≡◌, refl, true, false, List, [], ◌∷◌, ℕ}
use Rattle.scan.specs.Text.{bytes}
use Rattle.printing.specs.Printing.{buffer, has_room_at, put_in, put_all_in, places_from, decimal}
use Rattle.console.specs.Console.{input_limit, is_over_input, room_for_nodes, room_for_numbers, newline, counts_line, refusal_line, too_long_line, u32_at}

-- a buffer of twenty blanks
out : List ℕ
out = bytes "                    "

all : ℕ
unfolding out has_room_at put_in put_all_in places_from decimal u32_at
all = 0

-- 65,535 bytes are read, and one more isn't
limits : (input_limit ≡ 65535) × (is_over_input 65535 ≡ false) × (is_over_input 65536 ≡ true)
limits = (refl, refl, refl)

-- the programs' rooms: 1,024 nodes and 4,096 numbers
rooms : (room_for_nodes ≡ 1024) × (room_for_numbers ≡ 4096)
rooms = (refl, refl)

-- "a refusal prints as `refused 13 8`": the number, then the place
refusal : put_all_in (refusal_line 13 8 newline) (buffer out 0) ≡ buffer (bytes "refused 13 8\n       ") 13
unfolding all
refusal = refl

accepted : put_all_in (counts_line (bytes "accepted") 1 3 newline) (buffer out 0) ≡ buffer (bytes "accepted 1 3\n       ") 13
unfolding all
accepted = refl

-- of a text over the limit: 1 at 65,535
too_long : put_all_in too_long_line (buffer out 0) ≡ buffer (bytes "refused 1 65535\n    ") 16
unfolding all
too_long = refl

-- the lowest byte stands first; a number that isn't whole is 0
records : (u32_at (1 ∷ 2 ∷ 3 ∷ 4 ∷ 5 ∷ []) 1 ≡ 84148994) × (u32_at (1 ∷ 2 ∷ 3 ∷ 4 ∷ 5 ∷ []) 2 ≡ 0)
unfolding all
records = (refl, refl)
