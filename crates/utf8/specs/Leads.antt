-- What a character's first byte tells of its other bytes, read off the table.
use Rattle.std.specs.Prelude.{ℕ, zero, suc, Bool, false, cond, List, [], ◌∷◌, ltb, length}
use Rattle.utf8.specs.Utf8.{Range, ◌‥◌, holds, table, fits}

-- is the byte a character by itself
abbrev pub is_ascii : ℕ → Bool
is_ascii b = ltb b 0x80

-- does the byte lie in the first range of the row
abbrev pub leads : List Range → ℕ → Bool
leads [] b = false
leads (r ∷ rs) b = holds r b

-- the first of the rows that the byte leads, or an empty one
unfoldable pub row_of : List (List Range) → ℕ → List Range
row_of [] b = []
row_of (row ∷ rows) b = cond (leads row b) row (row_of rows b)

-- the range of most bytes that go on with a character
abbrev pub tail : Range
tail = 0x80 ‥ 0xBF

-- the second range of a row, `tail` where it has none
abbrev pub second : List Range → Range
second [] = tail
second (r ∷ []) = tail
second (r ∷ s ∷ rs) = s

-- how many bytes a character has whose first byte is b, or 0 where none has
unfoldable pub width_of : ℕ → ℕ
width_of b = length (row_of table b)

-- the range of its second byte
unfoldable pub second_of : ℕ → Range
second_of b = second (row_of table b)

-- the ranges of n bytes: one of its own, then `tail` throughout
unfoldable pub followers : Range → ℕ → List Range
followers r zero = []
followers r (suc n) = r ∷ followers tail n

-- w, where the list begins with such bytes; else 0
unfoldable pub if_followed : ℕ → Range → ℕ → List ℕ → ℕ
if_followed w r n l = cond (fits (followers r n) l) w 0
