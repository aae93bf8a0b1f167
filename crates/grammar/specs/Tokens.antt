-- What the grammar asks of a token. Its sort is a number, so that a test of it is a test of numbers, in the code too.
use Rattle.std.specs.Prelude.{ℕ, List, []}
use Rattle.token.specs.declared.Refusal.{Refusal}
use Rattle.token_stream.specs.Stream.{Tk, open_tk, close_tk, comma_tk, none_tk, bad_tk, word_tk, number_tk, Tok, tok}

abbrev pub sort_none : ℕ
sort_none = 0

abbrev pub sort_bad : ℕ
sort_bad = 1

abbrev pub sort_open : ℕ
sort_open = 2

abbrev pub sort_close : ℕ
sort_close = 3

abbrev pub sort_comma : ℕ
sort_comma = 4

abbrev pub sort_number : ℕ
sort_number = 5

abbrev pub sort_word : ℕ
sort_word = 6

abbrev pub tk_sort : Tk → ℕ
tk_sort none_tk = sort_none
tk_sort (bad_tk r) = sort_bad
tk_sort open_tk = sort_open
tk_sort close_tk = sort_close
tk_sort comma_tk = sort_comma
tk_sort (number_tk q x) = sort_number
tk_sort (word_tk w) = sort_word

abbrev pub sort_of : Tok → ℕ
sort_of (tok p k) = tk_sort k

abbrev pub place_of : Tok → ℕ
place_of (tok p k) = p

-- where a number's text starts
abbrev pub tk_start : Tk → ℕ
tk_start none_tk = 0
tk_start (bad_tk r) = 0
tk_start open_tk = 0
tk_start close_tk = 0
tk_start comma_tk = 0
tk_start (number_tk q x) = q
tk_start (word_tk w) = 0

abbrev pub start_of : Tok → ℕ
start_of (tok p k) = tk_start k

-- the bytes of a number or a word
abbrev pub tk_text : Tk → List ℕ
tk_text none_tk = []
tk_text (bad_tk r) = []
tk_text open_tk = []
tk_text close_tk = []
tk_text comma_tk = []
tk_text (number_tk q x) = x
tk_text (word_tk w) = w

abbrev pub text_of : Tok → List ℕ
text_of (tok p k) = tk_text k

-- the refusal at a token that was taken and is not the one asked for: a bad number has its own. "Refusals: 28 and 29 in the place of 6." (document 02)
abbrev pub tk_refusal : ℕ → ℕ → Tk → Refusal
tk_refusal e p none_tk = record { number = e; place = p }
tk_refusal e p (bad_tk r) = r
tk_refusal e p open_tk = record { number = e; place = p }
tk_refusal e p close_tk = record { number = e; place = p }
tk_refusal e p comma_tk = record { number = e; place = p }
tk_refusal e p (number_tk q x) = record { number = e; place = p }
tk_refusal e p (word_tk w) = record { number = e; place = p }

abbrev pub refusal_at : ℕ → Tok → Refusal
refusal_at e (tok p k) = tk_refusal e p k
