-- The tokens of a text byte by byte, with no cursor and no place to start from: what theorems about whole texts speak of.
-- Proved equal to `toks` (proofs/Bridge).
use Rattle.std.specs.Prelude.{cond, List, [], ◌∷◌, ℕ, ◌+◌, eqb}
use Rattle.scan.specs.Bytes.{nul, paren_open, paren_close, plus, is_blank, is_stop, is_numberlike}
use Rattle.number.specs.Lexeme.{is_lexeme}
use Rattle.token.specs.declared.Refusal.{Refusal}
use Rattle.token.specs.Tokens.{wrong_number_at}
use Rattle.token_stream.specs.Stream.{Tk, open_tk, close_tk, comma_tk, none_tk, bad_tk, word_tk, number_tk, tok, Str, end, then}

unfoldable pub mark_tk : ℕ → Tk
mark_tk b = cond (eqb b nul) none_tk (cond (eqb b paren_open) open_tk (cond (eqb b paren_close) close_tk comma_tk))

-- the token of a number whose text x starts at q, or of a bad one with its refusal
unfoldable pub number_token : Refusal → ℕ → List ℕ → Tk
number_token r q x = cond (is_lexeme x) (number_tk q x) (bad_tk r)

-- the token of a run that starts at p with the byte b: of a number one leading `+` is dropped
unfoldable pub run_tk : ℕ → ℕ → List ℕ → Tk
run_tk p b bs =
    cond (is_numberlike b)
    (cond (eqb b plus) (number_token (wrong_number_at p (b ∷ bs)) (p + 1) bs) (number_token (wrong_number_at p (b ∷ bs)) p (b ∷ bs)))
    (word_tk (b ∷ bs))

-- the run of inner bytes that a text begins with, and the tokens after it
pub data Lexed : Type 0 where
  lexed : List ℕ → Str → Lexed

-- a run as a token, if there is one
unfoldable pub flush : ℕ → Lexed → Str
flush p (lexed [] s) = s
flush p (lexed (b ∷ bs) s) = then (tok p (run_tk p b bs)) s

unfoldable pub push : ℕ → Lexed → Lexed
push b (lexed r s) = lexed (b ∷ r) s

-- a blank ends a run; a mark ends one and is a token; any other byte belongs to a run
unfoldable pub lex_byte : ℕ → ℕ → Lexed → Lexed
lex_byte p b l = cond (is_blank b) (lexed [] (flush (p + 1) l)) (cond (is_stop b) (lexed [] (then (tok p (mark_tk b)) (flush (p + 1) l))) (push b l))

unfoldable pub lex_run : ℕ → List ℕ → Lexed
lex_run p [] = lexed [] (end p)
lex_run p (b ∷ bs) = lex_byte p b (lex_run (p + 1) bs)

-- the tokens of the bytes bs, the first of which stands at the place p
unfoldable pub lex : ℕ → List ℕ → Str
lex p bs = flush p (lex_run p bs)
