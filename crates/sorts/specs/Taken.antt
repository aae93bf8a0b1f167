-- What the code is told of a token that was taken.
use Rattle.std.specs.Prelude.{cond, List, ℕ, ◌-◌, eqb, ltb, length}
use Rattle.token.specs.declared.Token.{Token}
use Rattle.token.specs.declared.Token.TheVariants.{Comma, Number, ParenClose, ParenOpen, Word}
use Rattle.token.specs.declared.Found.{Found}
use Rattle.tokenizer.specs.declared.Cursor.{Cursor}
use Rattle.token.specs.declared.Refusal.{Refusal}
use Rattle.token.specs.Tokens.{bad_at}
use Rattle.tokenizer.specs.Tokens.{take_at}
use Rattle.grammar.specs.Tokens.{sort_none, sort_bad, sort_open, sort_close, sort_comma, sort_number, sort_word}
use Rattle.grammar.specs.Grammar.{refusal}
use Rattle.sorts.specs.declared.Taken.{Taken}
use Rattle.sorts.specs.declared.Clipped.{Clipped}

abbrev pub taken : ℕ → ℕ → ℕ → ℕ → ℕ → Taken
taken k p s l i = record { sort = k; place = p; start = s; len = l; at = i }

-- a span without what lies past the text's end
unfoldable pub clipped : List ℕ → ℕ → ℕ → Clipped
clipped text start len =
    cond (ltb start (length text))
    (cond (ltb (length text - start) len) (record { start = start; len = length text - start }) (record { start = start; len = len }))
    (record { start = length text; len = 0 })

abbrev pub spelt_as : List ℕ → ℕ → ℕ → ℕ → ℕ → ℕ → Taken
spelt_as text k p start len i = taken k p (clipped text start len).start (clipped text start len).len i

abbrev pub told_token : List ℕ → ℕ → Token → ℕ → Taken
told_token text p ParenOpen i = taken sort_open p 0 0 i
told_token text p ParenClose i = taken sort_close p 0 0 i
told_token text p Comma i = taken sort_comma p 0 0 i
told_token text p (Number s l) i = spelt_as text sort_number p s l i
told_token text p (Word s l) i = spelt_as text sort_word p s l i

-- a token that was found, and the place behind it
unfoldable pub told : List ℕ → Found → ℕ → Taken
told text (Found.NoToken p) i = taken sort_none p 0 0 i
told text (Found.BadNumber p) i = taken sort_bad p 0 0 i
told text (Found.Is p t) i = told_token text p t i

-- the next token of a cursor, which is taken: nothing is held behind it
unfoldable pub taken_at : List ℕ → Cursor → Taken
taken_at text c = told text (take_at text c).found (take_at text c).next.at

-- the refusal at a token that was taken and is not the one asked for, where e is the number: a bad number has its own
abbrev pub refusal_by : List ℕ → ℕ → Taken → Refusal
refusal_by text e t = cond (eqb t.sort sort_bad) (bad_at text t.place) (refusal e t.place)
