-- Well-formed UTF-8 byte sequences. Document 01: "UTF-8 follows the Unicode Standard's table of well-formed sequences." (table 3-7)
use Rattle.std.specs.Prelude.{ℕ, zero, suc, Bool, true, false, cond, ◌&&◌, List, [], ◌∷◌, leb, eqb, length}

infix 68 ◌‥◌
-- a range of bytes, both ends included
pub record Range : Type 0 where
  pub low : ℕ
  pub high : ℕ

abbrev pub ◌‥◌ : ℕ → ℕ → Range
a ‥ b = record { low = a; high = b }

abbrev pub only : ℕ → Range
only b = b ‥ b

abbrev pub holds : Range → ℕ → Bool
holds r b = leb r.low b && leb b r.high

-- Table 3-7, row by row: the range of each byte of a character
unfoldable pub table : List (List Range)
table =
    (0x00 ‥ 0x7F ∷ [])  -- U+0000..U+007F
    ∷ (0xC2 ‥ 0xDF ∷ 0x80 ‥ 0xBF ∷ [])  -- U+0080..U+07FF
    ∷ (only 0xE0 ∷ 0xA0 ‥ 0xBF ∷ 0x80 ‥ 0xBF ∷ [])  -- U+0800..U+0FFF
    ∷ (0xE1 ‥ 0xEC ∷ 0x80 ‥ 0xBF ∷ 0x80 ‥ 0xBF ∷ [])  -- U+1000..U+CFFF
    ∷ (only 0xED ∷ 0x80 ‥ 0x9F ∷ 0x80 ‥ 0xBF ∷ [])  -- U+D000..U+D7FF
    ∷ (0xEE ‥ 0xEF ∷ 0x80 ‥ 0xBF ∷ 0x80 ‥ 0xBF ∷ [])  -- U+E000..U+FFFF
    ∷ (only 0xF0 ∷ 0x90 ‥ 0xBF ∷ 0x80 ‥ 0xBF ∷ 0x80 ‥ 0xBF ∷ [])  -- U+10000..U+3FFFF
    ∷ (0xF1 ‥ 0xF3 ∷ 0x80 ‥ 0xBF ∷ 0x80 ‥ 0xBF ∷ 0x80 ‥ 0xBF ∷ [])  -- U+40000..U+FFFFF
    ∷ (only 0xF4 ∷ 0x80 ‥ 0x8F ∷ 0x80 ‥ 0xBF ∷ 0x80 ‥ 0xBF ∷ [])  -- U+100000..U+10FFFF
    ∷ []

-- does the list begin with a byte of each of the row's ranges, in order
unfoldable pub fits : List Range → List ℕ → Bool
fits [] l = true
fits (r ∷ rs) [] = false
fits (r ∷ rs) (b ∷ l) = holds r b && fits rs l

-- the length of the first of the rows that fits, or 0
unfoldable pub first_fit : List (List Range) → List ℕ → ℕ
first_fit [] l = 0
first_fit (row ∷ rows) l = cond (fits row l) (length row) (first_fit rows l)

-- how many bytes the character at the front has, or 0 where no whole character starts
unfoldable pub char_width : List ℕ → ℕ
char_width l = first_fit table l

-- a character of `suc more` bytes, and on past its `more` other bytes; or nothing
abbrev pub past_char : ℕ → (ℕ → ℕ) → ℕ
past_char zero on = 0
past_char (suc more) on = suc (on more)

-- how far whole characters go, one after the other, where the next `skip` bytes are the rest of one
unfoldable pub walk : ℕ → List ℕ → ℕ
walk skip [] = 0
walk zero (b ∷ l) = past_char (char_width (b ∷ l)) (λ more. walk more l)
walk (suc skip) (b ∷ l) = suc (walk skip l)

-- Refusal 2, "ill-formed UTF-8", its place: "first byte where no whole character starts"; the length of the text where there is none
unfoldable pub first_ill : List ℕ → ℕ
first_ill text = walk 0 text

-- does a text pass refusal 2
abbrev pub is_utf8 : List ℕ → Bool
is_utf8 text = eqb (first_ill text) (length text)
