-- The reading as it was before request 2026-02 (document 02): "A bad number that is taken gives 6", at the token's start. It is given no more, and stands here for
-- what is said of the change: "Refusals: 28 and 29 in the place of 6." (grammar_laws/proofs/Former, demands/specs/Former)
use Rattle.std.specs.Prelude.{◌≡◌, Bool, false, cond, ◌||◌, List, ℕ, eqb}
use Rattle.refusals.specs.Refusals.{bad_number}
use Rattle.token.specs.declared.Refusal.{Refusal}
use Rattle.token.specs.Tokens.{is_bad_number, bad_number_at, bad_at}
use Rattle.token_stream.specs.Lex.{lex}
use Rattle.token_stream.specs.Stream.{Tk, open_tk, close_tk, comma_tk, none_tk, bad_tk, word_tk, number_tk, Tok, tok, Str, end, then}
use Rattle.grammar.specs.Grammar.{Got, ok, refused, halt}
use Rattle.grammar.specs.Reading.{reading_over}

-- tokens whose bad numbers have other refusals: f gives one by the place where the number starts and the refusal that it has
abbrev pub tk_with : (ℕ → Refusal → Refusal) → ℕ → Tk → Tk
tk_with f p none_tk = none_tk
tk_with f p (bad_tk r) = bad_tk (f p r)
tk_with f p open_tk = open_tk
tk_with f p close_tk = close_tk
tk_with f p comma_tk = comma_tk
tk_with f p (number_tk q x) = number_tk q x
tk_with f p (word_tk w) = word_tk w

abbrev pub tok_with : (ℕ → Refusal → Refusal) → Tok → Tok
tok_with f (tok p k) = tok p (tk_with f p k)

unfoldable pub str_with : (ℕ → Refusal → Refusal) → Str → Str
str_with f (end n) = end n
str_with f (then t s) = then (tok_with f t) (str_with f s)

-- the tokens as they were: each bad number with 6 where it starts
abbrev pub former : Str → Str
former s = str_with (λ p r. bad_number_at p) s

-- what reading a text came to
unfoldable pub former_reading : ℕ → ℕ → List ℕ → Got
former_reading N M text = reading_over N M text (former (lex 0 text))

-- "28 and 29 in the place of 6": of the bad number that starts at the place of the 6
abbrev pub renewal : List ℕ → Refusal → Refusal
renewal text r = cond (eqb r.number bad_number) (bad_at text r.place) r

-- an answer with another refusal
abbrev pub got_with : (Refusal → Refusal) → Got → Got
got_with f (ok o) = ok o
got_with f (refused r) = refused (f r)
got_with f (halt r) = halt r

abbrev pub renewed : List ℕ → Got → Got
renewed text g = got_with (renewal text) g

-- ---- exactly where
-- "0 when accepted"
abbrev pub number_in : Got → ℕ
number_in (ok o) = 0
number_in (refused r) = r.number
number_in (halt r) = r.number

-- the number of a bad number, former or not
abbrev pub says_bad : ℕ → Bool
says_bad e = eqb e bad_number || is_bad_number e

-- what a text came to, and what it comes to: a 6 is renewed by what the bad number there gives, and whatever else there is stays, none of it a bad number's
pub data Change (text : List ℕ) : Got → Got → Type 0 where
  renews : (p : ℕ) → Change text (refused (bad_number_at p)) (refused (bad_at text p))
  stays : {g : Got} → says_bad (number_in g) ≡ false → Change text g g
