-- Lines and characters of a text, by their places.
use Rattle.std.specs.Prelude.{ℕ, zero, suc, ◌-◌, Bool, cond, not, ◌||◌, ◌&&◌, List, [], ◌∷◌, eqb, ltb, leb, length, get_or, take, drop}

-- LF and CR end a line
abbrev pub is_break : ℕ → Bool
is_break b = eqb b 10 || eqb b 13

abbrev pub is_in_line : ℕ → Bool
is_in_line b = not (is_break b)

-- a character of UTF-8 goes on with the bytes 80 to BF, and begins with any other
abbrev pub goes_on : ℕ → Bool
goes_on b = leb 128 b && ltb b 192

-- where the line begins that the byte before place p stands in: behind the last line end before p, or at 0
unfoldable pub line_start : List ℕ → ℕ → ℕ
line_start text zero = 0
line_start text (suc p) = cond (is_break (get_or text p 0)) (suc p) (line_start text p)

-- how many line ends a byte is
abbrev pub break_count : ℕ → ℕ
break_count b = cond (is_break b) 1 0

-- where the line with the index n begins, counted from the front, or the end
unfoldable pub line_from : List ℕ → ℕ → ℕ
line_from [] n = 0
line_from (b ∷ l) zero = 0
line_from (b ∷ l) (suc n) = suc (line_from l (suc n - break_count b))

-- the line with the index n, with its end
abbrev pub numbered_line : List ℕ → ℕ → List ℕ
numbered_line l n = take (line_from (drop (line_from l n) l) 1) (drop (line_from l n) l)

-- where the first p bytes end without the line ends behind them
unfoldable pub trimmed : List ℕ → ℕ → ℕ
trimmed text zero = 0
trimmed text (suc p) = cond (is_break (get_or text p 0)) (trimmed text p) (suc p)

-- the place that is shown: that of the text's end is behind its last line, as a line end there begins no line
unfoldable pub shown_place : List ℕ → ℕ → ℕ
shown_place text place = cond (ltb place (length text)) place (trimmed text (length text))
