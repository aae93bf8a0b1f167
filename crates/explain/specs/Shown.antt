-- A line's characters as they are shown on a terminal, and what stands under them.
use Rattle.std.specs.Prelude.{ℕ, zero, suc, ◌+◌, Bool, cond, not, ◌||◌, ◌&&◌, List, [], ◌∷◌, eqb, ltb, leb, length, get_or}
use Rattle.scan.specs.Bytes.{space}
use Rattle.scan.specs.Front.{part}
use Rattle.scan.specs.Runs.{first_not}
use Rattle.utf8.specs.Utf8.{first_ill}
use Rattle.line_places.specs.Lines.{goes_on}
use Rattle.explain.specs.declared.characters.Shown.{Shown}
use Rattle.explain.specs.declared.characters.Shown.TheVariants.{Mark, Blank, Tab, WideBlank, Itself}

unfoldable pub byte_at : List ℕ → ℕ → ℕ
byte_at l i = cond (ltb i (length l)) (get_or l i 0) 0

-- shown over two columns: U+1100 to U+113F, U+2E80 to U+A4FF, U+AC00 to U+D7FF, U+F900 to U+FAFF, U+FF00 to U+FF60, U+1F000 to U+3FFFF
abbrev pub is_wide : ℕ → ℕ → ℕ → Bool
is_wide a b c =
    ((((((eqb a 0xE1 && eqb b 0x84) || (eqb a 0xE2 && leb 0xBA b)) || ((leb 0xE3 a && leb a 0xED) && ((not (eqb a 0xEA) || leb b 0x93) || leb 0xB0 b)))
    || ((eqb a 0xEF && leb 0xA4 b) && leb b 0xAB))
    || (eqb a 0xEF && (eqb b 0xBC || (eqb b 0xBD && leb c 0xA0))))
    || (eqb a 0xF0 && leb 0x9F b))

-- acted on and not shown: all controls but the tab, and U+0080 to U+009F
abbrev pub is_control : ℕ → ℕ → Bool
is_control a b = ((ltb a 0x20 && not (eqb a 9)) || eqb a 0x7F) || (eqb a 0xC2 && ltb b 0xA0)

-- the same of a character
unfoldable pub wide : List ℕ → Bool
wide c = is_wide (byte_at c 0) (byte_at c 1) (byte_at c 2)

unfoldable pub control : List ℕ → Bool
control c = is_control (byte_at c 0) (byte_at c 1)

-- what stands under a character: as many columns of blanks
unfoldable pub blank_under : List ℕ → Shown
blank_under c = cond (eqb (byte_at c 0) 9) Tab (cond (wide c) WideBlank Blank)

-- what is put for a character, or under it: "Controls, and bytes that are no whole character, are shown as `?`."
unfoldable pub shown_for : Bool → List ℕ → Shown
shown_for under c =
    cond (ltb (first_ill c) (length c)) (cond under Blank Mark)
    (cond under (blank_under c)
    (cond (control c) Mark Itself))

abbrev pub piece_of : Shown → List ℕ → List ℕ
piece_of Mark c = 63 ∷ []
piece_of Blank c = space ∷ []
piece_of Tab c = 9 ∷ []
piece_of WideBlank c = 0xE3 ∷ 0x80 ∷ 0x80 ∷ []
piece_of Itself c = c

-- where the character that begins at i ends
abbrev pub end_from : List ℕ → ℕ → ℕ
end_from l i = first_not goes_on l (i + 1)

abbrev pub piece_at : Bool → List ℕ → ℕ → List ℕ
piece_at under l i = piece_of (shown_for under (part l i (end_from l i))) (part l i (end_from l i))

-- those of the characters from i on, of which there are `most` at most
unfoldable pub pieces_from : ℕ → Bool → List ℕ → ℕ → List (List ℕ)
pieces_from zero under l i = []
pieces_from (suc most) under l i = cond (ltb i (length l)) (piece_at under l i ∷ pieces_from most under l (end_from l i)) []

-- of all characters; there are no more than bytes
abbrev pub pieces : Bool → List ℕ → List (List ℕ)
pieces under l = pieces_from (length l) under l 0
