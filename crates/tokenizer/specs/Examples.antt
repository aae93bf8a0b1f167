-- Worked examples of this crate's definitions, by computation.
use Rattle.std.specs.Prelude.{◌≡◌, refl, List, [], ◌∷◌, ◌++◌, true, false, ℕ, Option, Some, None, is_some}
use Rattle.lists.specs.Lists.{passing, bytes_that}
use Rattle.scan.specs.Text.{bytes}
use Rattle.scan.specs.Front.{begins, after_one, after_all, is_nil}
use Rattle.scan.specs.Runs.{run, first_not, after_one_at}
use Rattle.words.specs.Words.{same_word}
use Rattle.number.specs.Lexeme.{is_named, is_digits, is_exponent, is_decimal, is_unsigned, is_lexeme}
use Rattle.token.specs.declared.Token.{Token}
use Rattle.token.specs.declared.Token.TheVariants.{Comma, Number, ParenClose, ParenOpen, Word}
use Rattle.token.specs.declared.Found.{Found}
use Rattle.token.specs.Tokens.{number_at, word_at, start_at, token_at, read_at}
use Rattle.tokenizer.specs.declared.Held.{Held}
use Rattle.tokenizer.specs.declared.Passed.{Passed}
use Rattle.tokenizer.specs.declared.PassedOpen.{PassedOpen}
use Rattle.tokenizer.specs.Tokens.{take_held, take_at, look_at, cursor_at, passed, pass_comma, passed_open, pass_open, closes_held, closes_at}

-- `POINT(++4 -4e x`, NUL, `)`
text : List ℕ
text = bytes "POINT(++4 -4e x" ++ 0 ∷ bytes ")"

all : ℕ
unfolding text run first_not after_one_at number_at word_at start_at token_at read_at take_held is_named is_digits is_exponent is_decimal is_unsigned is_lexeme begins after_one after_all is_nil same_word pass_comma pass_open closes_held
all = 0

-- what is looked at comes out once
looked : ((take_at text (look_at text (cursor_at 15)).next).found ≡ Found.NoToken 15) × ((take_at text (take_at text (look_at text (cursor_at 15)).next).next).found ≡ Found.Is 16 Token.ParenClose)
unfolding all
looked = (refl, refl)

-- each sort of what is held comes out as it was found, the place is left alone, and nothing is held after it
out : (take_at text (record { at = 3; held = Held.NoToken 1 }) ≡ record { found = Found.NoToken 1; next = cursor_at 3 })
    × (take_at text (record { at = 3; held = Held.BadNumber 1 }) ≡ record { found = Found.BadNumber 1; next = cursor_at 3 })
    × (take_at text (record { at = 3; held = Held.Is 1 Token.Comma }) ≡ record { found = Found.Is 1 Token.Comma; next = cursor_at 3 })
unfolding all
out = (refl, refl, refl)

-- and is held as it was found
held : ((look_at text (cursor_at 15)).next ≡ record { at = 16; held = Held.NoToken 15 }) × ((look_at text (cursor_at 10)).next ≡ record { at = 14; held = Held.BadNumber 10 }) × ((look_at text (cursor_at 5)).next ≡ record { at = 6; held = Held.Is 5 Token.ParenOpen })
unfolding all
held = (refl, refl, refl)

-- a comma is passed over, and another token is held
commas : (pass_comma (bytes " ,)") (cursor_at 0) ≡ passed true (cursor_at 2)) × (pass_comma (bytes ",)") (cursor_at 1) ≡ passed false (record { at = 2; held = Held.Is 1 Token.ParenClose }))
unfolding all
commas = (refl, refl)

-- so is `(`: where it stands, after a blank, and where it is held, and nothing is held behind it
opened : (pass_open text (cursor_at 5) ≡ passed_open true 5 (cursor_at 6)) × (pass_open (bytes " (x") (cursor_at 0) ≡ passed_open true 1 (cursor_at 2)) × (pass_open text (record { at = 3; held = Held.Is 1 Token.ParenOpen }) ≡ passed_open true 1 (cursor_at 3))
unfolding all
opened = (refl, refl, refl)

-- a word, "no token" and a bad number stay held, as does what was held
unopened : (pass_open text (cursor_at 0) ≡ passed_open false 0 (record { at = 5; held = Held.Is 0 (Token.Word 0 5) }))
    × (pass_open text (cursor_at 15) ≡ passed_open false 15 (record { at = 16; held = Held.NoToken 15 }))
    × (pass_open text (cursor_at 10) ≡ passed_open false 10 (record { at = 14; held = Held.BadNumber 10 }))
    × (pass_open text (record { at = 5; held = Held.Is 1 Token.ParenClose }) ≡ passed_open false 1 (record { at = 5; held = Held.Is 1 Token.ParenClose }))
unfolding all
unopened = (refl, refl, refl, refl)

-- `)` that stands at the cursor, and one that is held: the place behind it
closed : (closes_at text (cursor_at 16) ≡ Some 17) × (closes_at text (record { at = 3; held = Held.Is 1 Token.ParenClose }) ≡ Some 3)
unfolding all
closed = (refl, refl)

-- not one behind a blank, nor one behind another token that is held, nor what is past the end
unclosed : (closes_at (bytes " )") (cursor_at 0) ≡ None) × (closes_at text (record { at = 16; held = Held.Is 5 Token.ParenOpen }) ≡ None) × (closes_at text (record { at = 16; held = Held.BadNumber 10 }) ≡ None) × (closes_at text (cursor_at 17) ≡ None)
unfolding all
unclosed = (refl, refl, refl, refl)

-- each sort of what is held, before a `,`, a `(` or a `)`: what it is itself says whether it is passed over, and it stays held
-- where it isn't
held_before : Held → (Passed × PassedOpen × Option ℕ)
held_before h = (pass_comma (bytes "x,") (record { at = 1; held = h }), pass_open (bytes "x(") (record { at = 1; held = h }), closes_at (bytes "x)") (record { at = 1; held = h }))

stays : Held → (Passed × PassedOpen × Option ℕ)
stays h = (passed false (record { at = 1; held = h }), passed_open false 0 (record { at = 1; held = h }), None)

marks : (held_before (Held.Is 0 Comma) ≡ (passed true (cursor_at 1), (stays (Held.Is 0 Comma)).1, None))
    × (held_before (Held.Is 0 ParenOpen) ≡ ((stays (Held.Is 0 ParenOpen)).0, passed_open true 0 (cursor_at 1), None))
    × (held_before (Held.Is 0 ParenClose) ≡ ((stays (Held.Is 0 ParenClose)).0, (stays (Held.Is 0 ParenClose)).1, Some 1))
    × (held_before (Held.Is 0 (Number 0 1)) ≡ stays (Held.Is 0 (Number 0 1)))
    × (held_before (Held.Is 0 (Word 0 1)) ≡ stays (Held.Is 0 (Word 0 1)))
    × (held_before (Held.BadNumber 0) ≡ stays (Held.BadNumber 0))
    × (held_before (Held.NoToken 0) ≡ stays (Held.NoToken 0))
unfolding all held_before stays
marks = (refl, refl, refl, refl, refl, refl, refl)

-- ---- by the whole range of bytes
-- the bytes that are passed over as a comma and as `(`, and that close
passes : (bytes_that (λ b. (pass_comma (b ∷ []) (cursor_at 0)).comma) ≡ 44 ∷ [])
    × (bytes_that (λ b. (pass_open (b ∷ []) (cursor_at 0)).opens) ≡ 40 ∷ [])
    × (bytes_that (λ b. is_some (closes_at (b ∷ []) (cursor_at 0))) ≡ 41 ∷ [])
unfolding all passing
passes = (refl, refl, refl)
