-- What a token reader answers, and what it is after (document 01, "Tokens").
use Rattle.std.specs.Prelude.{ℕ, zero, suc, List}
use Rattle.std.specs.Borrow.{Bor}
use Rattle.token.specs.declared.Found.{Found}
use Rattle.tokenizer.specs.declared.Cursor.{Cursor}
use Rattle.tokenizer.specs.Tokens.{take_at, look_at}
use Rattle.token_reader.specs.declared.Tokens.{Tokens}

-- "A token reader keeps the lent text and its place together"
abbrev pub reader : Bor (List ℕ) → Cursor → Tokens
reader text c = record { text = text; cursor = c }

-- the token that is taken next, and the reader after it: the same text, at the next cursor
abbrev pub next_of : Tokens → Found
next_of r = (take_at r.text.now r.cursor).found

abbrev pub after_next : Tokens → Tokens
after_next r = reader r.text (take_at r.text.now r.cursor).next

-- "a token looked at and not yet taken is held"
abbrev pub peek_of : Tokens → Found
peek_of r = (look_at r.text.now r.cursor).found

abbrev pub after_peek : Tokens → Tokens
after_peek r = reader r.text (look_at r.text.now r.cursor).next

-- the token that comes after n others
unfoldable pub nth_from : List ℕ → ℕ → Cursor → Found
nth_from text zero c = (take_at text c).found
nth_from text (suc n) c = nth_from text n (take_at text c).next
