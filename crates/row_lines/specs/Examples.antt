-- Worked examples of this crate's definitions, by computation.
use Rattle.std.specs.Prelude.{◌≡◌, refl, ℕ, ◌-◌, replicate}
use mathlib.Core.List.{List, [], ◌∷◌, ◌++◌, flat_map}
use Rattle.scan.specs.Text.{bytes}
use Rattle.store.specs.Rows.{cell}
use Rattle.store.specs.declared.ReadAnswer.{ReadAnswer}
use Rattle.printing.specs.Printing.{Buffer, buffer, has_room_at, put_in, put_all_in, places_from, decimal}
use Rattle.row_lines.specs.Lines.{kept_text, lines_of, listing_lines}

-- `POINT Z(1 2 +3)` as it is read
text : List ℕ
text = bytes "POINT Z(1 2 +3)"

point : List ℕ
point = 1 ∷ 1 ∷ 1 ∷ []

spans : List ℕ
spans = 8 ∷ 1 ∷ 10 ∷ 1 ∷ 13 ∷ 1 ∷ []

accepted : ReadAnswer
accepted = record { number = 0; place = 0; nodes = 1; numbers = 3 }

refused : ReadAnswer
refused = record { number = 13; place = 8; nodes = 0; numbers = 0 }

-- a buffer of 64 zeros
out : List ℕ
out = replicate 64 0

-- so many bytes of it are these, and zeros follow
holds : List ℕ → ℕ → Buffer
holds l n = buffer (l ++ replicate (64 - n) 0) n

all : ℕ
unfolding text point spans accepted refused out holds flat_map cell has_room_at put_in put_all_in places_from decimal lines_of
all = 0

-- "prints exactly `accepted 1 3`, `node 1 1 1`, `number 1`, `number 2`, `number 3`, a line each"
listed : put_all_in (listing_lines accepted text point spans) (buffer out 0) ≡ holds (bytes "accepted 1 3\nnode 1 1 1\nnumber 1\nnumber 2\nnumber 3\n") 51
unfolding all
listed = refl

-- "a refusal prints as `refused 13 8`", and no row follows
refusal : put_all_in (listing_lines refused text point spans) (buffer out 0) ≡ holds (bytes "refused 13 8\n") 13
unfolding all
refusal = refl

-- kind, dimension and parts, in this order; each row of its own
rows : put_all_in (listing_lines (record { number = 0; place = 0; nodes = 2; numbers = 0 }) text (7 ∷ 2 ∷ 1 ∷ 3 ∷ 1 ∷ 0 ∷ []) []) (buffer out 0) ≡ holds (bytes "accepted 2 0\nnode 7 2 1\nnode 3 1 0\n") 35
unfolding all
rows = refl

-- a span that ends behind the text is cut there
cut : (kept_text text 13 9 ≡ bytes "3)") × (kept_text text 15 1 ≡ [])
unfolding all
cut = (refl, refl)
