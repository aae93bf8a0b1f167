-- Worked examples of this crate's definitions, by computation.
use Rattle.std.specs.Prelude.{◌≡◌, refl, List, [], ◌∷◌, ◌++◌, Bool, false, ℕ, eqb, ltb, length}
use Prim.Native.String.{String}
use Rattle.lists.specs.Lists.{passing, bytes_that}
use Rattle.scan.specs.Text.{bytes}
use Rattle.scan.specs.Front.{begins, after_one, after_all, is_nil}
use Rattle.scan.specs.Runs.{run, first_not, after_one_at}
use Rattle.words.specs.Words.{same_word, starts_word}
use Rattle.number.specs.Lexeme.{is_named, is_digits, is_exponent, is_decimal, is_unsigned, is_lexeme}
use Rattle.bad_numbers.specs.Openings.{opens_decimal, opens_word, opens, longest_up_to}
use Rattle.token.specs.declared.Token.{Token}
use Rattle.token.specs.declared.Token.TheVariants.{Comma, Number, ParenClose, ParenOpen, Word}
use Rattle.token.specs.declared.Found.{Found}
use Rattle.token.specs.declared.Refusal.{Refusal}
use Rattle.token.specs.Tokens.{number_at, word_at, start_at, token_at, read_at, read, bad_number_at, nothing_left, gone_wrong, wrong_number_at, bad_at}

-- `POINT(++4 -4e x`, NUL, `)`
text : List ℕ
text = bytes "POINT(++4 -4e x" ++ 0 ∷ bytes ")"

all : ℕ
unfolding text run first_not after_one_at number_at word_at start_at token_at read_at is_named is_digits is_exponent is_decimal is_unsigned is_lexeme begins after_one after_all is_nil same_word
all = 0

-- all that a bad number's refusal computes with
unfoldable pub all_bad : ℕ
unfolding run first_not after_one_at begins after_one after_all is_nil starts_word is_digits is_exponent is_decimal opens_decimal opens_word opens longest_up_to wrong_number_at bad_at
all_bad = 0

-- a word ends before its `(`, which is not taken
word : read_at text 0 ≡ read (Found.Is 0 (Token.Word 0 5)) 5
unfolding all
word = refl

-- one `+` is dropped, and the blank after the number is taken
number : read_at text 6 ≡ read (Found.Is 6 (Token.Number 7 2)) 10
unfolding all
number = refl

-- an exponent without digits
bad : read_at text 10 ≡ read (Found.BadNumber 10) 14
unfolding all
bad = refl

-- NUL ends a word, then is "no token" and is passed over, and past the end "no token" comes each time
nul : (read_at text 14 ≡ read (Found.Is 14 (Token.Word 14 1)) 15) × (read_at text 15 ≡ read (Found.NoToken 15) 16) × (read_at text 40 ≡ read (Found.NoToken 17) 17)
unfolding all
nul = (refl, refl, refl)

-- ---- by the whole range of bytes
-- the sorts of what is found, numbered as they stand here
sort_of : Found → ℕ
sort_of (Found.NoToken p) = 0
sort_of (Found.BadNumber p) = 1
sort_of (Found.Is p ParenOpen) = 2
sort_of (Found.Is p ParenClose) = 3
sort_of (Found.Is p Comma) = 4
sort_of (Found.Is p (Number start len)) = 5
sort_of (Found.Is p (Word start len)) = 6

-- a number's text that starts behind the token's own start
starts_later : Found → Bool
starts_later (Found.NoToken p) = false
starts_later (Found.BadNumber p) = false
starts_later (Found.Is p ParenOpen) = false
starts_later (Found.Is p ParenClose) = false
starts_later (Found.Is p Comma) = false
starts_later (Found.Is p (Number start len)) = ltb p start
starts_later (Found.Is p (Word start len)) = ltb p start

-- is this what a text of the one byte b starts with
starts_as : ℕ → ℕ → Bool
unfolding all sort_of
starts_as sort b = eqb (sort_of (read_at (b ∷ []) 0).found) sort

-- NUL and blanks are no token, `+`, `-` and `.` bad numbers, the marks and the digits what they are, and all others words
starts : (bytes_that (starts_as 0) ≡ 0 ∷ 9 ∷ 10 ∷ 13 ∷ 32 ∷ [])
    × (bytes_that (starts_as 1) ≡ 43 ∷ 45 ∷ 46 ∷ [])
    × (bytes_that (starts_as 2) ≡ 40 ∷ [])
    × (bytes_that (starts_as 3) ≡ 41 ∷ [])
    × (bytes_that (starts_as 4) ≡ 44 ∷ [])
    × (bytes_that (starts_as 5) ≡ 48 ∷ 49 ∷ 50 ∷ 51 ∷ 52 ∷ 53 ∷ 54 ∷ 55 ∷ 56 ∷ 57 ∷ [])
    × (length (bytes_that (starts_as 6)) ≡ 235)
unfolding all passing starts_as sort_of
starts = (refl, refl, refl, refl, refl, refl, refl)

-- the bytes that end `A` and `1` before a `B`, and those of them that are taken behind it
ends : (bytes_that (λ b. eqb (read_at (65 ∷ b ∷ 66 ∷ []) 0).at 1) ≡ 0 ∷ 40 ∷ 41 ∷ 44 ∷ [])
    × (bytes_that (λ b. eqb (read_at (65 ∷ b ∷ 66 ∷ []) 0).at 2) ≡ 9 ∷ 10 ∷ 13 ∷ 32 ∷ [])
    × (bytes_that (λ b. eqb (read_at (49 ∷ b ∷ 66 ∷ []) 0).at 1) ≡ 0 ∷ 40 ∷ 41 ∷ 44 ∷ [])
    × (bytes_that (λ b. eqb (read_at (49 ∷ b ∷ 66 ∷ []) 0).at 2) ≡ 9 ∷ 10 ∷ 13 ∷ 32 ∷ [])
unfolding all passing
ends = (refl, refl, refl, refl)

-- the bytes that are dropped before `4`: one `+`
dropped : bytes_that (λ b. starts_later (read_at (b ∷ 52 ∷ []) 0).found) ≡ 43 ∷ []
unfolding all passing starts_later
dropped = refl

-- one `+` is dropped, and the rest must be a lexeme: `+4`, `++4`, `+-4`, `-4`, and `+++4`, `+`, `-+4`, which are bad
plusses : ((read_at (bytes "+4") 0).found ≡ Found.Is 0 (Number 1 1)) × ((read_at (bytes "++4") 0).found ≡ Found.Is 0 (Number 1 2)) × ((read_at (bytes "+-4") 0).found ≡ Found.Is 0 (Number 1 2)) × ((read_at (bytes "-4") 0).found ≡ Found.Is 0 (Number 0 2)) × ((read_at (bytes "+inf") 0).found ≡ Found.Is 0 (Number 1 3)) × ((read_at (bytes "+++4") 0).found ≡ Found.BadNumber 0) × ((read_at (bytes "+") 0).found ≡ Found.BadNumber 0) × ((read_at (bytes "-+4") 0).found ≡ Found.BadNumber 0)
unfolding all
plusses = (refl, refl, refl, refl, refl, refl, refl, refl)

-- each sort of token after blanks, with its place and the place behind it; one blank of two is taken
placed : (read_at (bytes " \t(x") 0 ≡ read (Found.Is 2 ParenOpen) 3) × (read_at (bytes "\n)x") 0 ≡ read (Found.Is 1 ParenClose) 2) × (read_at (bytes "\r,x") 0 ≡ read (Found.Is 1 Comma) 2) × (read_at (bytes " 12  x") 0 ≡ read (Found.Is 1 (Number 1 2)) 4) × (read_at (bytes " ab  x") 0 ≡ read (Found.Is 1 (Word 1 2)) 4) × (read_at (bytes " 1x  x") 0 ≡ read (Found.BadNumber 1) 4) × (read_at (bytes "  \0x") 0 ≡ read (Found.NoToken 2) 3) × (read_at (bytes "   ") 0 ≡ read (Found.NoToken 3) 3)
unfolding all
placed = (refl, refl, refl, refl, refl, refl, refl, refl)

-- ---- what a bad number is refused with: the whole of a text that it stands in at p
bad_in : String → ℕ → Refusal
bad_in text p = bad_at (bytes text) p

-- "nothing left after the dropped plus (place: that plus)": before each stop, at the end, after a blank and after a mark
nothing : (bad_in "+" 0 ≡ nothing_left 0) × (bad_in "+ 5" 0 ≡ nothing_left 0) × (bad_in "(+)" 1 ≡ nothing_left 1) × (bad_in " \t+\n" 2 ≡ nothing_left 2) × (bad_in "+\r" 0 ≡ nothing_left 0) × (bad_in "1,+,2" 2 ≡ nothing_left 2) × (bad_in "+(" 0 ≡ nothing_left 0) × (bad_in "+\0x" 0 ≡ nothing_left 0)
unfolding all_bad bad_in
nothing = (refl, refl, refl, refl, refl, refl, refl, refl)

-- "one plus is dropped, so `+` is 28 at 0, `++` is 29 at 2, `+q` 29 at 1, `+infi` 29 at its end"
dropped_plus : (bad_in "++" 0 ≡ gone_wrong 2) × (bad_in "+q" 0 ≡ gone_wrong 1) × (bad_in "+infi" 0 ≡ gone_wrong 5) × (bad_in "+++4" 0 ≡ gone_wrong 2) × (bad_in "+-" 0 ≡ gone_wrong 2) × (bad_in "+-q" 0 ≡ gone_wrong 2) × (bad_in "+1x" 0 ≡ gone_wrong 2) × (bad_in "+." 0 ≡ gone_wrong 2) × (bad_in "+1e" 0 ≡ gone_wrong 3)
unfolding all_bad bad_in
dropped_plus = (refl, refl, refl, refl, refl, refl, refl, refl, refl)

-- "the first byte at which no lexeme can go on, or the token's end where more was needed"
gone : (bad_in "4x" 0 ≡ gone_wrong 1) × (bad_in "1e" 0 ≡ gone_wrong 2) × (bad_in "1e+" 0 ≡ gone_wrong 3) × (bad_in "." 0 ≡ gone_wrong 1) × (bad_in ".e5" 0 ≡ gone_wrong 1) × (bad_in "--1" 0 ≡ gone_wrong 1) × (bad_in "-infx" 0 ≡ gone_wrong 4) × (bad_in "-infix" 0 ≡ gone_wrong 5) × (bad_in "-nay" 0 ≡ gone_wrong 3) × (bad_in "1.2.3" 0 ≡ gone_wrong 3) × (bad_in "-" 0 ≡ gone_wrong 1)
unfolding all_bad bad_in
gone = (refl, refl, refl, refl, refl, refl, refl, refl, refl, refl, refl)

-- the token ends before a stop, and its end is the place, where more was needed
ended : (bad_in "(1e 5)" 1 ≡ gone_wrong 3) × (bad_in "(1e)" 1 ≡ gone_wrong 3) × (bad_in "(-,1)" 1 ≡ gone_wrong 2) × (bad_in "(+infi(" 1 ≡ gone_wrong 6) × (bad_in "(1 .\0" 3 ≡ gone_wrong 4) × (bad_in "( 4x5 6" 2 ≡ gone_wrong 3)
unfolding all_bad bad_in
ended = (refl, refl, refl, refl, refl, refl)

-- a wide character (京) within, and past the end nothing is left
wide : (bad_at (bytes "(1" ++ 0xE4 ∷ 0xBA ∷ 0xAC ∷ bytes " 2)") 1 ≡ gone_wrong 2) × (bad_at (bytes "+" ++ 0xE4 ∷ 0xBA ∷ 0xAC ∷ []) 0 ≡ gone_wrong 1) × (bad_in "ab" 2 ≡ nothing_left 2) × (bad_in "ab" 7 ≡ nothing_left 7)
unfolding all_bad bad_in
wide = (refl, refl, refl, refl)

-- the numbers 28 and 29, each with its place; and 6, which was given at the token's start
numbers : (nothing_left 3 ≡ record { number = 28; place = 3 }) × (gone_wrong 3 ≡ record { number = 29; place = 3 }) × (bad_number_at 3 ≡ record { number = 6; place = 3 })
numbers = (refl, refl, refl)
