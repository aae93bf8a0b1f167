-- A worked example of this crate's definitions, by computation.
use Rattle.std.specs.Prelude.{◌≡◌, refl, List, ◌∷◌, ◌++◌, ℕ}
use Rattle.scan.specs.Text.{bytes}
use Rattle.scan.specs.Front.{begins, after_one, after_all, is_nil}
use Rattle.scan.specs.Runs.{run, first_not, after_one_at}
use Rattle.words.specs.Words.{same_word}
use Rattle.number.specs.Lexeme.{is_named, is_digits, is_exponent, is_decimal, is_unsigned, is_lexeme}
use Rattle.token.specs.Examples.{all_bad}
use Rattle.token.specs.Tokens.{number_at, word_at, start_at, token_at, read_at}
use Rattle.tokenizer.specs.Tokens.{cursor_at}
use Rattle.token_stream.specs.Stream.{end, then, tok, none_tk, bad_tk, close_tk, word_tk, cons, toks_by, toks, stream}

-- `POINT(++4 -4e x`, NUL, `)`
text : List ℕ
text = bytes "POINT(++4 -4e x" ++ 0 ∷ bytes ")"

all : ℕ
unfolding all_bad text run first_not after_one_at number_at word_at start_at token_at read_at is_named is_digits is_exponent is_decimal is_unsigned is_lexeme begins after_one after_all is_nil same_word cons toks_by toks stream
all = 0

-- the stream from 9 on
tokens : stream text (cursor_at 9) ≡ then (tok 10 (bad_tk (record { number = 29; place = 13 }))) (then (tok 14 (word_tk (bytes "x"))) (then (tok 15 none_tk) (then (tok 16 close_tk) (end 17))))
unfolding all
tokens = refl
