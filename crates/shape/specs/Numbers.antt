-- Number rows and their texts (document 01, "The store").
use Rattle.std.specs.Prelude.{Bool, ◌&&◌, List, ℕ, ◌+◌, leb, length, take, drop}
use Rattle.lists.specs.Lists.{every}
use Rattle.number.specs.Lexeme.{is_lexeme}
use Rattle.store.specs.Rows.{Span, span, span_start_at, span_length_at, span_at, number_room, spans_in}

-- the text of the number row i
unfoldable pub text_at : List ℕ → List ℕ → ℕ → List ℕ
text_at text numbers i = take (span_length_at numbers i) (drop (span_start_at numbers i) text)

-- "each lies in its text and is a lexeme"
abbrev pub is_number : List ℕ → Span → Bool
is_number text (span start len bytes) = leb (start + len) (length text) && is_lexeme bytes

unfoldable pub is_number_at : List ℕ → List ℕ → ℕ → Bool
is_number_at text numbers i = is_number text (span_at text numbers i)

unfoldable pub are_numbers : List ℕ → List ℕ → Bool
are_numbers text numbers = every (is_number text) (spans_in text numbers (number_room numbers))
