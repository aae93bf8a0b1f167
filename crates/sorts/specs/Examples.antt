-- Worked examples of this crate's definitions, by computation.
use Rattle.std.specs.Prelude.{◌≡◌, refl, List, ℕ}
use Rattle.scan.specs.Text.{bytes}
use Rattle.scan.specs.Front.{begins, after_one, after_all, is_nil}
use Rattle.scan.specs.Runs.{run, first_not, after_one_at}
use Rattle.words.specs.Words.{same_word}
use Rattle.number.specs.Lexeme.{is_named, is_digits, is_exponent, is_decimal, is_unsigned, is_lexeme}
use Rattle.token.specs.declared.Token.{Token}
use Rattle.tokenizer.specs.declared.Held.{Held}
use Rattle.token.specs.Examples.{all_bad}
use Rattle.token.specs.Tokens.{number_at, word_at, start_at, token_at, read_at}
use Rattle.tokenizer.specs.Tokens.{take_held, cursor_at}
use Rattle.grammar.specs.Tokens.{sort_none, sort_bad, sort_open, sort_close, sort_comma, sort_number, sort_word}
use Rattle.sorts.specs.declared.Taken.{Taken}
use Rattle.sorts.specs.Taken.{taken, clipped, told, taken_at, refusal_by}

-- eleven bytes: a word, a number behind a `+`, `(`, `)`, a comma, a bad number and NUL
text : List ℕ
text = bytes "ab +4(),4x\0"

all : ℕ
unfolding all_bad text run first_not after_one_at number_at word_at start_at token_at read_at take_held is_named is_digits is_exponent is_decimal is_unsigned is_lexeme begins after_one after_all is_nil same_word clipped told taken_at
all = 0

at : ℕ → Taken
at i = taken_at text (cursor_at i)

-- each sort, with its place, the span of a number's or a word's text, and the place behind it
each : (at 0 ≡ taken sort_word 0 0 2 3) × (at 3 ≡ taken sort_number 3 4 1 5) × (at 5 ≡ taken sort_open 5 0 0 6) × (at 6 ≡ taken sort_close 6 0 0 7) × (at 7 ≡ taken sort_comma 7 0 0 8) × (at 8 ≡ taken sort_bad 8 0 0 10) × (at 10 ≡ taken sort_none 10 0 0 11) × (at 11 ≡ taken sort_none 11 0 0 11)
unfolding all at
each = (refl, refl, refl, refl, refl, refl, refl, refl)

-- each sort after blanks: its place is its own
blanks : (taken_at (bytes " \t(x") (cursor_at 0) ≡ taken sort_open 2 0 0 3) × (taken_at (bytes "\n)x") (cursor_at 0) ≡ taken sort_close 1 0 0 2) × (taken_at (bytes "\r,x") (cursor_at 0) ≡ taken sort_comma 1 0 0 2) × (taken_at (bytes " +12  x") (cursor_at 0) ≡ taken sort_number 1 2 2 5) × (taken_at (bytes " ab  x") (cursor_at 0) ≡ taken sort_word 1 1 2 4) × (taken_at (bytes " 1x  x") (cursor_at 0) ≡ taken sort_bad 1 0 0 4) × (taken_at (bytes "  \0x") (cursor_at 0) ≡ taken sort_none 2 0 0 3) × (taken_at (bytes "   ") (cursor_at 0) ≡ taken sort_none 3 0 0 3)
unfolding all
blanks = (refl, refl, refl, refl, refl, refl, refl, refl)

holding : Held → Taken
holding h = taken_at text (record { at = 9; held = h })

-- a held one of each comes out as it is, wherever the cursor is
held : (holding (Held.Is 1 (Token.Word 0 2)) ≡ taken sort_word 1 0 2 9) × (holding (Held.Is 3 (Token.Number 4 1)) ≡ taken sort_number 3 4 1 9) × (holding (Held.Is 5 Token.ParenOpen) ≡ taken sort_open 5 0 0 9) × (holding (Held.Is 6 Token.ParenClose) ≡ taken sort_close 6 0 0 9) × (holding (Held.Is 7 Token.Comma) ≡ taken sort_comma 7 0 0 9) × (holding (Held.BadNumber 8) ≡ taken sort_bad 8 0 0 9) × (holding (Held.NoToken 2) ≡ taken sort_none 2 0 0 9)
unfolding all holding
held = (refl, refl, refl, refl, refl, refl, refl)

-- a span that runs past the text ends with it, and one that starts past it is the end
past : (holding (Held.Is 1 (Token.Word 9 5)) ≡ taken sort_word 1 9 2 9) × (holding (Held.Is 1 (Token.Number 10 1)) ≡ taken sort_number 1 10 1 9) × (holding (Held.Is 1 (Token.Number 11 0)) ≡ taken sort_number 1 11 0 9) × (holding (Held.Is 1 (Token.Word 20 3)) ≡ taken sort_word 1 11 0 9)
unfolding all holding
past = (refl, refl, refl, refl)

-- a bad number is refused as it goes wrong, whatever was asked for, and any other token what was asked for
refusals : (refusal_by text 13 (at 8) ≡ record { number = 29; place = 9 }) × (refusal_by text 13 (at 7) ≡ record { number = 13; place = 7 }) × (refusal_by text 13 (at 11) ≡ record { number = 13; place = 11 })
unfolding all at
refusals = (refl, refl, refl)
