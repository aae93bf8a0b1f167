-- Worked examples of this crate's definitions, by computation.
use Rattle.std.specs.Prelude.{◌≡◌, refl, List, [], ◌∷◌, ◌++◌, true, not, ℕ, eqb, length, replicate}
use Rattle.lists.specs.Lists.{passing, bytes_that}
use Rattle.scan.specs.Text.{bytes}
use Rattle.scan.specs.Runs.{run, first_not}
use Rattle.words.specs.Words.{starts_word}
use Rattle.utf8.specs.Utf8.{table, fits, first_fit, char_width, walk, first_ill}
use Rattle.names.specs.Names.{string_of, lookup, front}
use Rattle.limits.specs.Limits.{over_limit}
use Rattle.infer_type.specs.declared.Inferred.{Inferred}
use Rattle.infer_type.specs.Part.{is_trimmed, is_no_paren, trimmed_at, end_at, wide_at}
use Rattle.infer_type.specs.Search.{has_word, first_word}
use Rattle.infer_type.specs.Infer.{accepted, refused, dimension_in, with_paren, without_paren, infer_looked, infer_type}

answers : List ℕ → Inferred → Type 0
answers text answer = infer_type text ≡ answer

-- what the examples open
all : ℕ
unfolding answers run first_not starts_word table fits first_fit char_width walk first_ill lookup front trimmed_at end_at wide_at has_word first_word string_of dimension_in with_paren without_paren infer_looked infer_type
all = 0

-- "`POINTZ EMPTY` is XY, though the reader says XYZ; `POINTEMPTY` is 20."
edges : (answers (bytes "POINTZ EMPTY") (accepted 1 0)) × (answers (bytes "POINTEMPTY") (refused 20 0))
unfolding all
edges = (refl, refl)

-- "Its comment promises no dimension for EMPTY; the code returns one": XYZ, and XYZM between the first space and EMPTY
empties : (answers (bytes "POINT Z EMPTY") (accepted 1 1)) × (answers (bytes "multipoint zm empty") (accepted 4 3)) × (answers (bytes "POINT EMPTY Z") (accepted 1 0))
unfolding all
empties = (refl, refl, refl)

-- a `(` with anything after it
parens : (answers (bytes "POINT(") (accepted 1 0)) × (answers (bytes "  point zm (") (accepted 1 3)) × (answers (bytes "MULTIPOINT(1 2)") (accepted 4 0)) × (answers (bytes "LINESTRINGM(") (accepted 2 2)) × (answers (bytes "POLYGON M Z(") (accepted 3 1))
unfolding all
parens = (refl, refl, refl, refl, refl)

-- where the reader says otherwise: `POINT EMPTY(` is XYM by EMPTY's M, `POINTLESS(` a POINT, LINEARRING no name
unlike : (answers (bytes "POINT EMPTY(") (accepted 1 2)) × (answers (bytes "POINTLESS(") (accepted 1 0)) × (answers (bytes "LINEARRING(") (refused 19 0)) × (answers (bytes "POINT\tEMPTY") (refused 20 0))
unfolding all
unlike = (refl, refl, refl, refl)

-- tab, LF, vertical tab (11), form feed (12), CR and space are trimmed, 8 and 14 are not
trims : (answers (9 ∷ 10 ∷ 11 ∷ 12 ∷ 13 ∷ 32 ∷ bytes "POINT(") (accepted 1 0)) × (answers (12 ∷ bytes "X(") (refused 19 1)) × (answers (8 ∷ bytes "POINT(") (refused 19 0)) × (answers (14 ∷ bytes "POINT(") (refused 19 0))
unfolding all
trims = (refl, refl, refl, refl)

-- 21 before 20 before 19; the place is the first byte after trimming, or the text's length
orders : (answers [] (refused 21 0)) × (answers (bytes " \n") (refused 21 2)) × (answers (bytes " X") (refused 21 1)) × (answers (bytes "XEMPTY") (refused 20 0)) × (answers (bytes "X EMPTY") (refused 19 0)) × (answers (bytes "XEMPTY EMPTY") (refused 20 0))
unfolding all
orders = (refl, refl, refl, refl, refl, refl)

-- `京` is E4 BA AC: 24 in the part looked at only, and cut short it is 2, wherever it stands
wides : (answers (bytes "POINT EMPTY" ++ 0xE4 ∷ 0xBA ∷ 0xAC ∷ []) (refused 24 11)) × (answers (bytes "POINT(" ++ 0xE4 ∷ 0xBA ∷ 0xAC ∷ []) (accepted 1 0)) × (answers (bytes " x" ++ 0xE4 ∷ 0xBA ∷ 0xAC ∷ bytes "(") (refused 24 2)) × (answers (bytes "POINT(" ++ 0xE4 ∷ 0xBA ∷ []) (refused 2 6))
unfolding all
wides = (refl, refl, refl, refl)

-- a no-break space (C2 A0) isn't trimmed
no_break : answers (0xC2 ∷ 0xA0 ∷ bytes "POINT(") (refused 24 0)
unfolding all
no_break = refl

-- "Number and place are 0 when accepted, all after the place 0 when refused."
records : (accepted 3 2 ≡ record { number = 0; place = 0; kind = 3; dimension = 2 }) × (refused 19 4 ≡ record { number = 19; place = 4; kind = 0; dimension = 0 })
records = (refl, refl)

-- ---- by the whole range of bytes
-- "bytes 9 to 13 and 32"; all but `(` belong to the part looked at
trimmed : (bytes_that is_trimmed ≡ 9 ∷ 10 ∷ 11 ∷ 12 ∷ 13 ∷ 32 ∷ []) × (bytes_that (λ b. not (is_no_paren b)) ≡ 40 ∷ [])
unfolding passing
trimmed = (refl, refl)

-- the bytes that may stand in front of `POINT(`; that make it a Z, an M; with which `EMPTY` may follow: a space, or a `(`
fronts : (bytes_that (λ b. eqb (infer_type (b ∷ bytes "POINT(")).number 0) ≡ 9 ∷ 10 ∷ 11 ∷ 12 ∷ 13 ∷ 32 ∷ [])
    × (bytes_that (λ b. eqb (infer_type (bytes "POINT" ++ b ∷ 40 ∷ [])).dimension 1) ≡ 90 ∷ 122 ∷ [])
    × (bytes_that (λ b. eqb (infer_type (bytes "POINT" ++ b ∷ 40 ∷ [])).dimension 2) ≡ 77 ∷ 109 ∷ [])
    × (bytes_that (λ b. eqb (infer_type (bytes "POINT" ++ b ∷ bytes "EMPTY")).number 0) ≡ 32 ∷ 40 ∷ [])
unfolding all passing
fronts = (refl, refl, refl, refl)

-- each name with `(` and with EMPTY: kinds 1 to 7
kinds : (answers (bytes "point(") (accepted 1 0)) × (answers (bytes "linestring(") (accepted 2 0)) × (answers (bytes "polygon(") (accepted 3 0)) × (answers (bytes "multipoint(") (accepted 4 0)) × (answers (bytes "multilinestring(") (accepted 5 0)) × (answers (bytes "multipolygon(") (accepted 6 0)) × (answers (bytes "geometrycollection(") (accepted 7 0)) × (answers (bytes "GEOMETRYCOLLECTION M EMPTY") (accepted 7 2))
unfolding all
kinds = (refl, refl, refl, refl, refl, refl, refl, refl)

-- ---- the order of the refusals
-- 2 before 24 before 19: `京` before E4 cut short, in the part looked at and behind it; then `京` alone
order : (answers (0xE4 ∷ 0xBA ∷ 0xAC ∷ 0xE4 ∷ []) (refused 2 3)) × (answers (bytes "X(" ++ 0xE4 ∷ []) (refused 2 2)) × (answers (bytes "X" ++ 0xE4 ∷ 0xBA ∷ 0xAC ∷ bytes "(") (refused 24 1)) × (answers (bytes "X(" ++ 0xE4 ∷ 0xBA ∷ 0xAC ∷ []) (refused 19 0)) × (answers (bytes "XEMPTY" ++ 0xE4 ∷ 0xBA ∷ 0xAC ∷ []) (refused 24 6))
unfolding all
order = (refl, refl, refl, refl, refl)

-- `🌍` is F0 9F 8C 8D, a character of four bytes: 24 at its first byte, 2 there where it is cut, nothing behind the `(`
fours : (answers (bytes "POINT" ++ 0xF0 ∷ 0x9F ∷ 0x8C ∷ 0x8D ∷ bytes "(") (refused 24 5)) × (answers (bytes "POINT" ++ 0xF0 ∷ 0x9F ∷ 0x8C ∷ bytes "(") (refused 2 5)) × (answers (bytes "POINT(" ++ 0xF0 ∷ 0x9F ∷ 0x8C ∷ 0x8D ∷ []) (accepted 1 0)) × (answers (bytes "POINT(" ++ 0xF4 ∷ 0x90 ∷ 0x80 ∷ 0x80 ∷ []) (refused 2 6))
unfolding all
fours = (refl, refl, refl, refl)

-- 1 at 4,194,304 of every longer text, whatever it holds: so before 2
long : (text : List ℕ) → over_limit (length text) ≡ true → answers text (refused 1 4194304)
unfolding all
long text over = rw over

-- and of no shorter one: of 65,535 bytes FF 2 comes first, and of 65,536, 65,537 and 70,000, which were too many once
short : (answers (replicate 65535 0xFF) (refused 2 0)) × (answers (replicate 65536 0xFF) (refused 2 0)) × (answers (replicate 65537 0xFF) (refused 2 0)) × (answers (bytes "POINT(" ++ replicate 70000 0xFF) (refused 2 6))
unfolding all
short = (refl, refl, refl, refl)
