-- ASCII letters: what they are, and how the code compares them.
use Rattle.std.specs.Prelude.{ℕ, ◌+◌, ◌*◌, Bool, cond, ◌&&◌, List, eqb, leb, ltb, length, get_or}
use Rattle.scan.specs.Bytes.{space}
use Rattle.words.specs.Words.{upper}

-- `A` to `Z`, in either case
abbrev pub is_letter : ℕ → Bool
is_letter b = leb 65 (upper b) && leb (upper b) 90

-- `A` to `Z`
abbrev pub is_capital : ℕ → Bool
is_capital b = leb 65 b && leb b 90

-- ---- endings, of two places in the code's table
-- the letter at i in upper case, or the blank that fills a place without one
unfoldable pub letter_at : List ℕ → ℕ → ℕ
letter_at w i = cond (ltb i (length w)) (upper (get_or w i 0)) space

abbrev pub has_both : List ℕ → ℕ → ℕ → Bool
has_both letters first second = eqb first (get_or letters 0 0) && eqb second (get_or letters 1 0)

-- ---- names, four letters at a time
-- four bytes as one number, the first of them lowest
abbrev pub packed_of : ℕ → ℕ → ℕ → ℕ → ℕ
packed_of a b c d = ((d * 256 + c) * 256 + b) * 256 + a

-- those of a list from i on
abbrev pub four_at : List ℕ → ℕ → ℕ
four_at l i = packed_of (get_or l i 0) (get_or l (i + 1) 0) (get_or l (i + 2) 0) (get_or l (i + 3) 0)
