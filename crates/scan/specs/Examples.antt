-- Worked examples of this crate's definitions, by computation.
use Rattle.std.specs.Prelude.{◌≡◌, refl, true, false, List, [], ◌∷◌, ℕ, length}
use Rattle.lists.specs.Lists.{passing, bytes_that}
use Rattle.scan.specs.Bytes.{is_blank, is_mark, is_stop, is_inner, is_digit, is_sign, is_plus, is_point, is_numberlike, is_ascii, tab, nul, paren_open}
use Rattle.scan.specs.Runs.{run, first_not, after_one_at}
use Rattle.scan.specs.Front.{begins, after_one, after_all, rest, part}

-- ---- each class whole: the bytes below 256 that have it
-- "Blanks are space, tab, LF and CR."
blanks : bytes_that is_blank ≡ 9 ∷ 10 ∷ 13 ∷ 32 ∷ []
unfolding passing
blanks = refl

-- NUL, `(`, `)` and `,`
marks : bytes_that is_mark ≡ 0 ∷ 40 ∷ 41 ∷ 44 ∷ []
unfolding passing
marks = refl

-- "a blank (taken too) or [..] NUL, `(`, `)` or `,` (not taken)"
stops : bytes_that is_stop ≡ 0 ∷ 9 ∷ 10 ∷ 13 ∷ 32 ∷ 40 ∷ 41 ∷ 44 ∷ []
unfolding passing
stops = refl

digits : bytes_that is_digit ≡ 48 ∷ 49 ∷ 50 ∷ 51 ∷ 52 ∷ 53 ∷ 54 ∷ 55 ∷ 56 ∷ 57 ∷ []
unfolding passing
digits = refl

-- `+` and `-`; one leading `+`; the point
signs : (bytes_that is_sign ≡ 43 ∷ 45 ∷ []) × (bytes_that is_plus ≡ 43 ∷ []) × (bytes_that is_point ≡ 46 ∷ [])
unfolding passing
signs = (refl, refl, refl)

-- "A token starting with `.`, `-`, `+` or a digit is a number"
numberlikes : bytes_that is_numberlike ≡ 43 ∷ 45 ∷ 46 ∷ 48 ∷ 49 ∷ 50 ∷ 51 ∷ 52 ∷ 53 ∷ 54 ∷ 55 ∷ 56 ∷ 57 ∷ []
unfolding passing
numberlikes = refl

-- all but the eight stops are within a number or a word, and half of all bytes are ASCII
counted : (length (bytes_that is_inner) ≡ 248) × (bytes_that is_ascii ≡ passing 128 (λ b. true))
unfolding passing
counted = (refl, refl)

-- ---- and by single bytes
-- a form feed (12) is no blank, and NUL is a mark and no blank
blank : (is_blank tab ≡ true) × (is_blank 12 ≡ false) × (is_blank nul ≡ false) × (is_mark nul ≡ true)
blank = (refl, refl, refl, refl)

-- `京` begins with E4, which is within a word
wide : (is_inner 0xE4 ≡ true) × (is_stop paren_open ≡ true) × (is_digit 0x2F ≡ false) × (is_numberlike 46 ≡ true)
wide = (refl, refl, refl, refl)

-- tab, space, `12,`
text : List ℕ
text = 9 ∷ 32 ∷ 49 ∷ 50 ∷ 44 ∷ []

-- the blanks end at 2, the number there at 4; from past the end it is the end
runs : (first_not is_blank text 0 ≡ 2) × (first_not is_inner text 2 ≡ 4) × (first_not is_blank text 9 ≡ 5)
unfolding text run first_not
runs = (refl, refl, refl)

-- one byte is passed over where it passes the test, and none past the end
ones : (after_one_at is_blank text 0 ≡ 1) × (after_one_at is_blank text 2 ≡ 2) × (after_one_at is_digit text 2 ≡ 3) × (after_one_at is_blank text 5 ≡ 5) × (after_one_at is_blank text 9 ≡ 9)
unfolding text after_one_at
ones = (refl, refl, refl, refl, refl)

fronts : (begins is_digit (rest text 2) ≡ true) × (after_one is_digit (rest text 2) ≡ 50 ∷ 44 ∷ []) × (after_all is_digit (rest text 2) ≡ 44 ∷ []) × (part text 2 4 ≡ 49 ∷ 50 ∷ [])
unfolding text rest begins after_one after_all
fronts = (refl, refl, refl, refl)
