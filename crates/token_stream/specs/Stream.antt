-- What a cursor means: the stream of tokens still to come. A reader takes its head or looks at it, and the grammar is read over it.
use Rattle.std.specs.Prelude.{ℕ, zero, suc, ◌+◌, cond, List, length, take, drop, eqb}
use Rattle.token.specs.declared.Token.{Token}
use Rattle.token.specs.declared.Token.TheVariants.{Comma, Number, ParenClose, ParenOpen, Word}
use Rattle.token.specs.declared.Found.{Found}
use Rattle.tokenizer.specs.declared.Held.{Held}
use Rattle.tokenizer.specs.declared.Cursor.{Cursor}
use Rattle.token.specs.declared.Refusal.{Refusal}
use Rattle.token.specs.Tokens.{bad_at, read_at}

-- what a token is: a word with its bytes, a number with the place and the bytes of its text, a bad number with its refusal;
-- NUL and the end are "no token"
pub data Tk : Type 0 where
  open_tk close_tk comma_tk none_tk : Tk
  bad_tk : Refusal → Tk
  word_tk : List ℕ → Tk
  number_tk : ℕ → List ℕ → Tk

-- a token and the place where it starts
pub data Tok : Type 0 where
  tok : ℕ → Tk → Tok

-- tokens one after the other, and then the end at a place, where "no token" comes each time
pub data Str : Type 0 where
  end : ℕ → Str
  then : Tok → Str → Str

abbrev pub hd : Str → Tok
hd (end n) = tok n none_tk
hd (then t s) = t

abbrev pub tl : Str → Str
tl (end n) = end n
tl (then t s) = s

-- how many tokens there are before the end
unfoldable pub size : Str → ℕ
size (end n) = 0
size (then t s) = size s + 1

-- "no token" in front of a stream: at the end's own place it is the end
abbrev pub none_then : ℕ → Str → Str
none_then p (end n) = cond (eqb p n) (end n) (then (tok p none_tk) (end n))
none_then p (then t s) = then (tok p none_tk) (then t s)

-- a token in front of a stream
unfoldable pub cons : Tok → Str → Str
cons (tok p none_tk) s = none_then p s
cons (tok p (bad_tk r)) s = then (tok p (bad_tk r)) s
cons (tok p open_tk) s = then (tok p open_tk) s
cons (tok p close_tk) s = then (tok p close_tk) s
cons (tok p comma_tk) s = then (tok p comma_tk) s
cons (tok p (word_tk w)) s = then (tok p (word_tk w)) s
cons (tok p (number_tk q x)) s = then (tok p (number_tk q x)) s

-- the bytes of a span
abbrev pub span_in : List ℕ → ℕ → ℕ → List ℕ
span_in text start len = take len (drop start text)

abbrev pub tk_in : List ℕ → Token → Tk
tk_in text ParenOpen = open_tk
tk_in text ParenClose = close_tk
tk_in text Comma = comma_tk
tk_in text (Number s l) = number_tk s (span_in text s l)
tk_in text (Word s l) = word_tk (span_in text s l)

abbrev pub tok_in : List ℕ → Found → Tok
tok_in text (Found.NoToken p) = tok p none_tk
tok_in text (Found.BadNumber p) = tok p (bad_tk (bad_at text p))
tok_in text (Found.Is p t) = tok p (tk_in text t)

-- the tokens of a text from the place i on, as they are read; n is enough if the text has no more than n bytes from there
unfoldable pub toks_by : List ℕ → ℕ → ℕ → Str
toks_by text zero i = end (length text)
toks_by text (suc n) i = cons (tok_in text (read_at text i).found) (toks_by text n (read_at text i).at)

unfoldable pub toks : List ℕ → ℕ → Str
toks text i = toks_by text (length text) i

-- what is held stands before what is still to be read
abbrev pub before : List ℕ → ℕ → Held → Str
before text i Held.Nothing = toks text i
before text i (Held.NoToken p) = cons (tok_in text (Found.NoToken p)) (toks text i)
before text i (Held.BadNumber p) = cons (tok_in text (Found.BadNumber p)) (toks text i)
before text i (Held.Is p t) = cons (tok_in text (Found.Is p t)) (toks text i)

unfoldable pub stream : List ℕ → Cursor → Str
stream text c = before text c.at c.held
