-- Worked examples of this crate's definitions, by computation.
use Rattle.std.specs.Prelude.{◌≡◌, List, ◌∷◌, ◌++◌, ℕ}
use Rattle.std.proofs.Math.Path.{refl}
use Rattle.std.specs.Borrow.{Bor}
use Rattle.scan.specs.Text.{bytes}
use Rattle.scan.specs.Front.{begins, after_one, after_all, is_nil}
use Rattle.scan.specs.Runs.{run, first_not, after_one_at}
use Rattle.words.specs.Words.{same_word}
use Rattle.number.specs.Lexeme.{is_named, is_digits, is_exponent, is_decimal, is_unsigned, is_lexeme}
use Rattle.token.specs.declared.Token.{Token}
use Rattle.token.specs.declared.Found.{Found}
use Rattle.token.specs.Tokens.{number_at, word_at, start_at, token_at, read_at}
use Rattle.tokenizer.specs.Tokens.{take_held, cursor_at}
use Rattle.token_reader.specs.declared.Tokens.{Tokens}
use Rattle.token_reader.specs.Reader.{reader, next_of, after_next, peek_of, after_peek, nth_from}

-- `a(4x`, NUL, `+1`
text : List ℕ
text = bytes "a(4x" ++ 0 ∷ bytes "+1"

all : ℕ
unfolding text run first_not after_one_at number_at word_at start_at token_at read_at take_held is_named is_digits is_exponent is_decimal is_unsigned is_lexeme begins after_one after_all is_nil same_word nth_from
all = 0

-- the text as it is lent, wherever it lies
module _ (ptr : ℕ × ℕ) where
  lent : Bor (List ℕ)
  lent = record { ref_ptr = ptr; now = text }

  -- a reader from a place on
  from : ℕ → Tokens
  from i = reader lent (cursor_at i)

  -- two tokens from the start
  taken : (next_of (from 0) ≡ Found.Is 0 (Token.Word 0 1)) × (next_of (after_next (from 0)) ≡ Found.Is 1 Token.ParenOpen)
  unfolding all lent from
  taken = (refl, refl)

  -- a token looked at twice is there both times, "comes out once", and then the next one comes
  once : (peek_of (from 1) ≡ Found.Is 1 Token.ParenOpen) × (peek_of (after_peek (from 1)) ≡ Found.Is 1 Token.ParenOpen) × (next_of (after_peek (after_peek (from 1))) ≡ Found.Is 1 Token.ParenOpen) × (next_of (after_next (after_peek (after_peek (from 1)))) ≡ Found.BadNumber 2)
  unfolding all lent from
  once = (refl, refl, refl, refl)

  -- ""no token" and a bad number included": the bad number and the NUL are held, and each comes out once
  held : (next_of (after_peek (from 2)) ≡ Found.BadNumber 2) × (next_of (after_next (after_peek (from 2))) ≡ Found.NoToken 4) × (next_of (after_peek (from 4)) ≡ Found.NoToken 4) × (next_of (after_next (after_peek (from 4))) ≡ Found.Is 5 (Token.Number 6 1))
  unfolding all lent from
  held = (refl, refl, refl, refl)

  -- "any place (past the end is the end)", and the reader keeps its text
  past : (next_of (from 40) ≡ Found.NoToken 7) × (after_next (after_peek (from 40)) ≡ from 7)
  unfolding all lent from
  past = (refl, refl)

-- the first token, the fifth, and one past the last
counted : (nth_from text 0 (cursor_at 0) ≡ Found.Is 0 (Token.Word 0 1)) × (nth_from text 4 (cursor_at 0) ≡ Found.Is 5 (Token.Number 6 1)) × (nth_from text 9 (cursor_at 0) ≡ Found.NoToken 7)
unfolding all
counted = (refl, refl, refl)
