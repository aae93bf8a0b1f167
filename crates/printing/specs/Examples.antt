-- Worked examples of this crate's definitions, by computation.
use Rattle.std.specs.Prelude.{◌≡◌, refl, List, [], ℕ}
use Rattle.scan.specs.Text.{bytes}
use Rattle.printing.specs.Printing.{buffer, has_room_at, put_in, put_all_in, places_from, decimal, spaced}

-- one byte of four is full
out : List ℕ
out = bytes "abcd"

all : ℕ
unfolding out has_room_at put_in put_all_in places_from decimal
all = 0

-- behind the full byte; at the start, since there is no room behind it; nowhere
put : (put_in (bytes "xyz") (buffer out 1) ≡ buffer (bytes "axyz") 4) × (put_in (bytes "wxyz") (buffer out 1) ≡ buffer (bytes "wxyz") 4) × (put_in (bytes "vwxyz") (buffer out 1) ≡ buffer out 0)
unfolding all
put = (refl, refl, refl)

-- a count past the end is the end; nothing has room everywhere
past : (put_in [] (buffer out 9) ≡ buffer out 4) × (put_in (bytes "z") (buffer out 9) ≡ buffer (bytes "zbcd") 1)
unfolding all
past = (refl, refl)

numbers : (decimal 0 ≡ bytes "0") × (decimal 9 ≡ bytes "9") × (decimal 10 ≡ bytes "10") × (decimal 65535 ≡ bytes "65535")
unfolding all
numbers = (refl, refl, refl, refl)

counts_line : put_all_in (spaced 13) (buffer out 1) ≡ buffer (bytes "a 13") 4
unfolding all
counts_line = refl
