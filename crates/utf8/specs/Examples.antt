-- Worked examples of this crate's definitions, by computation.
use Rattle.std.specs.Prelude.{◌≡◌, refl, Bool, true, false, not, ◌&&◌, List, [], ◌∷◌, ◌++◌, ℕ, eqb, leb, length}
use Rattle.lists.specs.Lists.{passing, bytes_that}
use Rattle.utf8.specs.Utf8.{table, fits, first_fit, char_width, walk, first_ill, is_utf8, ◌‥◌}
use Rattle.utf8.specs.Leads.{row_of, width_of, second_of}

-- what the examples open
all : ℕ
unfolding table fits first_fit char_width walk first_ill row_of width_of second_of
all = 0

-- `京` is E4 BA AC: whole it is one character, cut short none, after `a` none at 1
cut : (first_ill (0xE4 ∷ 0xBA ∷ 0xAC ∷ []) ≡ 3) × (first_ill (0xE4 ∷ 0xBA ∷ []) ≡ 0) × (first_ill (0x61 ∷ 0xE4 ∷ 0xBA ∷ []) ≡ 1)
unfolding all
cut = (refl, refl, refl)

-- the place is where the character starts, not where it breaks: `a`, then E4 with `b` after it
broken : first_ill (0x61 ∷ 0xE4 ∷ 0x62 ∷ []) ≡ 1
unfolding all
broken = refl

-- forms that are too long: C0 80 and E0 80 80 for NUL, F0 8F BF BF for U+FFFF
overlong : (char_width (0xC0 ∷ 0x80 ∷ []) ≡ 0) × (char_width (0xC1 ∷ 0xBF ∷ []) ≡ 0) × (char_width (0xE0 ∷ 0x80 ∷ 0x80 ∷ []) ≡ 0) × (char_width (0xF0 ∷ 0x8F ∷ 0xBF ∷ 0xBF ∷ []) ≡ 0)
unfolding all
overlong = (refl, refl, refl, refl)

-- the surrogates D800..DFFF are no characters; D7FF before and E000 after them are
surrogates : (char_width (0xED ∷ 0xA0 ∷ 0x80 ∷ []) ≡ 0) × (char_width (0xED ∷ 0xBF ∷ 0xBF ∷ []) ≡ 0) × (char_width (0xED ∷ 0x9F ∷ 0xBF ∷ []) ≡ 3) × (char_width (0xEE ∷ 0x80 ∷ 0x80 ∷ []) ≡ 3)
unfolding all
surrogates = (refl, refl, refl, refl)

-- U+10FFFF is the last character
last : (char_width (0xF4 ∷ 0x8F ∷ 0xBF ∷ 0xBF ∷ []) ≡ 4) × (char_width (0xF4 ∷ 0x90 ∷ 0x80 ∷ 0x80 ∷ []) ≡ 0) × (char_width (0xF5 ∷ 0x80 ∷ 0x80 ∷ 0x80 ∷ []) ≡ 0)
unfolding all
last = (refl, refl, refl)

-- a continuation byte starts nothing, NUL is a character like any other, the empty text is well formed
alone : (first_ill (0x80 ∷ []) ≡ 0) × (is_utf8 (0x80 ∷ []) ≡ false) × (is_utf8 (0x61 ∷ 0x00 ∷ 0x62 ∷ []) ≡ true) × (is_utf8 [] ≡ true)
unfolding all
alone = (refl, refl, refl, refl)

-- what a first byte tells: ED of three bytes with 80..9F as the second, C1 of none
told : (width_of 0xED ≡ 3) × (second_of 0xED ≡ 0x80 ‥ 0x9F) × (width_of 0xC1 ≡ 0)
unfolding all
told = (refl, refl, refl)

-- ---- the table by its whole range
-- the bytes from the first to the last, both included
between : ℕ → ℕ → List ℕ
unfolding passing
between a b = bytes_that (λ x. leb a x && leb x b)

-- is the list one whole character
is_char : List ℕ → Bool
unfolding all
is_char c = not (eqb (length c) 0) && eqb (char_width c) (length c)

-- the first bytes of characters of one, two, three and four bytes; the other bytes start none
firsts : (bytes_that (λ b. eqb (width_of b) 1) ≡ between 0x00 0x7F) × (bytes_that (λ b. eqb (width_of b) 2) ≡ between 0xC2 0xDF) × (bytes_that (λ b. eqb (width_of b) 3) ≡ between 0xE0 0xEF) × (bytes_that (λ b. eqb (width_of b) 4) ≡ between 0xF0 0xF4) × (bytes_that (λ b. eqb (width_of b) 0) ≡ between 0x80 0xC1 ++ between 0xF5 0xFF)
unfolding all passing between
firsts = (refl, refl, refl, refl, refl)

-- the second bytes after each first byte that has a range of its own, and after its neighbours
seconds : (bytes_that (λ b. is_char (0xC2 ∷ b ∷ [])) ≡ between 0x80 0xBF)
    × (bytes_that (λ b. is_char (0xDF ∷ b ∷ [])) ≡ between 0x80 0xBF)
    × (bytes_that (λ b. is_char (0xE0 ∷ b ∷ 0x80 ∷ [])) ≡ between 0xA0 0xBF)
    × (bytes_that (λ b. is_char (0xE1 ∷ b ∷ 0x80 ∷ [])) ≡ between 0x80 0xBF)
    × (bytes_that (λ b. is_char (0xEC ∷ b ∷ 0x80 ∷ [])) ≡ between 0x80 0xBF)
    × (bytes_that (λ b. is_char (0xED ∷ b ∷ 0x80 ∷ [])) ≡ between 0x80 0x9F)
    × (bytes_that (λ b. is_char (0xEE ∷ b ∷ 0x80 ∷ [])) ≡ between 0x80 0xBF)
    × (bytes_that (λ b. is_char (0xEF ∷ b ∷ 0x80 ∷ [])) ≡ between 0x80 0xBF)
    × (bytes_that (λ b. is_char (0xF0 ∷ b ∷ 0x80 ∷ 0x80 ∷ [])) ≡ between 0x90 0xBF)
    × (bytes_that (λ b. is_char (0xF1 ∷ b ∷ 0x80 ∷ 0x80 ∷ [])) ≡ between 0x80 0xBF)
    × (bytes_that (λ b. is_char (0xF3 ∷ b ∷ 0x80 ∷ 0x80 ∷ [])) ≡ between 0x80 0xBF)
    × (bytes_that (λ b. is_char (0xF4 ∷ b ∷ 0x80 ∷ 0x80 ∷ [])) ≡ between 0x80 0x8F)
unfolding all passing between is_char
seconds = (refl, refl, refl, refl, refl, refl, refl, refl, refl, refl, refl, refl)

-- the third and the fourth bytes
tails : (bytes_that (λ b. is_char (0xE0 ∷ 0xA0 ∷ b ∷ [])) ≡ between 0x80 0xBF)
    × (bytes_that (λ b. is_char (0xED ∷ 0x80 ∷ b ∷ [])) ≡ between 0x80 0xBF)
    × (bytes_that (λ b. is_char (0xEE ∷ 0x80 ∷ b ∷ [])) ≡ between 0x80 0xBF)
    × (bytes_that (λ b. is_char (0xF0 ∷ 0x90 ∷ b ∷ 0x80 ∷ [])) ≡ between 0x80 0xBF)
    × (bytes_that (λ b. is_char (0xF4 ∷ 0x80 ∷ b ∷ 0x80 ∷ [])) ≡ between 0x80 0xBF)
    × (bytes_that (λ b. is_char (0xF0 ∷ 0x90 ∷ 0x80 ∷ b ∷ [])) ≡ between 0x80 0xBF)
    × (bytes_that (λ b. is_char (0xF4 ∷ 0x80 ∷ 0x80 ∷ b ∷ [])) ≡ between 0x80 0xBF)
unfolding all passing between is_char
tails = (refl, refl, refl, refl, refl, refl, refl)

-- ---- each row by its first and last character
-- U+0000, U+007F; U+0080, U+07FF; U+0800, U+0FFF; U+1000, U+CFFF; U+D000, U+D7FF; U+E000, U+FFFF; U+10000, U+3FFFF; U+40000,
-- U+FFFFF; U+100000, U+10FFFF: in a row they are well formed
rows : List ℕ
rows =
    0x00 ∷ 0x7F ∷ 0xC2 ∷ 0x80 ∷ 0xDF ∷ 0xBF ∷ 0xE0 ∷ 0xA0 ∷ 0x80 ∷ 0xE0 ∷ 0xBF ∷ 0xBF ∷ 0xE1 ∷ 0x80 ∷ 0x80 ∷ 0xEC ∷ 0xBF ∷ 0xBF ∷ 0xED ∷ 0x80 ∷ 0x80 ∷ 0xED ∷ 0x9F ∷ 0xBF ∷ 0xEE ∷ 0x80 ∷ 0x80 ∷ 0xEF ∷ 0xBF ∷ 0xBF ∷ 0xF0 ∷ 0x90 ∷ 0x80 ∷ 0x80 ∷ 0xF0 ∷ 0xBF ∷ 0xBF ∷ 0xBF ∷ 0xF1 ∷ 0x80 ∷ 0x80 ∷ 0x80 ∷ 0xF3 ∷ 0xBF ∷ 0xBF ∷ 0xBF ∷ 0xF4 ∷ 0x80 ∷ 0x80 ∷ 0x80 ∷ 0xF4 ∷ 0x8F ∷ 0xBF ∷ 0xBF ∷ []

rows_pass : (is_utf8 rows ≡ true) × (first_ill rows ≡ 54) × (first_ill (rows ++ 0xC1 ∷ rows) ≡ 54)
unfolding all rows
rows_pass = (refl, refl, refl)

-- a character of four bytes cut after each byte, with nothing or with `a` behind it: the place is its first byte's
cut_short : (first_ill (0x61 ∷ 0xF0 ∷ []) ≡ 1) × (first_ill (0x61 ∷ 0xF0 ∷ 0x9F ∷ []) ≡ 1) × (first_ill (0x61 ∷ 0xF0 ∷ 0x9F ∷ 0x8C ∷ []) ≡ 1) × (first_ill (0x61 ∷ 0xF0 ∷ 0x9F ∷ 0x8C ∷ 0x8D ∷ []) ≡ 5) × (first_ill (0xF0 ∷ 0x61 ∷ []) ≡ 0) × (first_ill (0xF0 ∷ 0x9F ∷ 0x61 ∷ []) ≡ 0) × (first_ill (0xF0 ∷ 0x9F ∷ 0x8C ∷ 0x61 ∷ []) ≡ 0)
unfolding all
cut_short = (refl, refl, refl, refl, refl, refl, refl)
