-- "The place is the start of the token at fault (a `+` counts as its start); for "no token", the NUL or the text's length.": which tokens
-- can be at fault for which number, and at which place, as one table (document 01, "Reading" and "Refusal numbers"). A bad number that is taken has a place of
-- its own (document 02).
use Rattle.std.specs.Prelude.{◌≡◌, true, false, ◌⊎◌, List, [], ℕ, zero, suc, ◌<◌, length, get_or, None}
use Rattle.limits.specs.Limits.{text_limit, over_limit}
use Rattle.scan.specs.Bytes.{nul, paren_open, paren_close, comma, is_ascii, is_inner, is_numberlike}
use Rattle.scan.specs.Front.{part}
use Rattle.number.specs.Grammar.{Float}
use Rattle.refusals.specs.Refusals.{text_too_long, ill_formed_utf8, no_node_row, no_number_row, too_deep, non_ascii_root, no_root, unknown_name, no_header, unknown_header, not_opened, not_closed, no_x, no_y, no_z, no_m, no_child}
use Rattle.utf8.specs.Utf8.{is_utf8, first_ill}
use Rattle.lists.specs.Lists.{every}
use Rattle.names.specs.Names.{meaning, ending, is_empty_word}
use Rattle.token.specs.declared.Refusal.{Refusal}
use Rattle.token.specs.Tokens.{is_bad_number, bad_at, text_start, end_of, number_text, WrongNumber}
use Rattle.token_stream.specs.Stream.{open_tk, close_tk, comma_tk, none_tk, bad_tk, word_tk, number_tk, Tok, tok, Str, hd, tl, toks}
use Rattle.grammar.specs.Answers.{Passes}
use Rattle.grammar.specs.Grammar.{is_empty_tok}
use Rattle.demands.specs.Steps.{Stopping, Refusing}
use Rattle.grammar.specs.Tokens.{sort_bad, sort_open, sort_close, sort_number, sort_word, sort_of, place_of, text_of}

-- neither a bad number nor of the sort that was asked for
abbrev pub Other : ℕ → Tok → Type 0
Other sort t = (sort_of t ≡ sort_bad → ⊥) × (sort_of t ≡ sort → ⊥)

pub data AtFault (t : Tok) : ℕ → ℕ → Type 0 where
  -- "a node [..] needs a row and none is free | its token; bare point: the next token": `(`, EMPTY, or whatever stands there (`Stopping` says which, and why)
  no_node : AtFault t no_node_row (place_of t)
  -- "a number needs a row and none is free | its token"
  no_number : sort_of t ≡ sort_number → AtFault t no_number_row (place_of t)
  -- "a 33rd open collection | its `(`"
  too_deep_law : sort_of t ≡ sort_open → AtFault t too_deep (place_of t)
  -- "Refusals: 28 and 29 in the place of 6.": a bad number that is taken has its own number and place, which `Starts` tells
  bad_number_law : {p : ℕ} {r : Refusal} → t ≡ tok p (bad_tk r) → is_bad_number r.number ≡ true → AtFault t r.number r.place
  -- "Root: a word. A non-ASCII word is refused 7; a bad number [28 or 29]; no token or any other token 8."
  not_ascii : sort_of t ≡ sort_word → every is_ascii (text_of t) ≡ false → AtFault t non_ascii_root (place_of t)
  no_root_law : Other sort_word t → AtFault t no_root (place_of t)
  -- "Words are compared with the seven names [..]. Else refusal 9."
  no_name_law : sort_of t ≡ sort_word → meaning (text_of t) ≡ None → AtFault t unknown_name (place_of t)
  -- "No token or a bad number: 10. [..] Another word: 11.": a bad number is only looked at here, and 10 keeps its start
  no_header_law : sort_of t < sort_open → AtFault t no_header (place_of t)
  no_ending : sort_of t ≡ sort_word → ending (text_of t) ≡ None → is_empty_word (text_of t) ≡ false → AtFault t unknown_header (place_of t)
  -- "`EMPTY` gives no parts. Not `(`: 12." "anything but `)` gives 13"
  not_opened_law : Other sort_open t → is_empty_tok t ≡ false → AtFault t not_opened (place_of t)
  not_closed_law : Other sort_close t → AtFault t not_closed (place_of t)
  -- "X, Y, then Z, M as the dimension asks (14, 15, 16, 17)."
  no_x_law : Other sort_number t → AtFault t no_x (place_of t)
  no_y_law : Other sort_number t → AtFault t no_y (place_of t)
  no_z_law : Other sort_number t → AtFault t no_z (place_of t)
  no_m_law : Other sort_number t → AtFault t no_m (place_of t)
  -- "Collection: a word (else 18)"
  no_child_law : Other sort_word t → AtFault t no_child (place_of t)

-- the tokens of a stream behind the first n
abbrev pub later : ℕ → Str → Str
later zero s = s
later (suc n) s = tl (later n s)

-- t is one of the tokens of a stream
pub record Among (s : Str) (t : Tok) : Type 0 where
  pub index : ℕ
  pub is : hd (later index s) ≡ t

-- ---- where a token stands
abbrev pub ByteAt : List ℕ → ℕ → ℕ → Type 0
ByteAt text p b = (p < length text) × (get_or text p 0 ≡ b)

-- at its place a token starts: a mark is the byte there; a number or a bad number has its first byte there, be it a `+` that is dropped from the
-- kept text, and a bad number is exactly one whose text isn't of the grammar of `f64`, and has the refusal of the one at that place, which is told over
-- the grammar (`WrongNumber`); a word has its bytes from there on; "for "no token", the NUL or the text's length"
abbrev pub Starts : List ℕ → Tok → Type 0
Starts text (tok p none_tk) = (p ≡ length text) ⊎ ByteAt text p nul
Starts text (tok p (bad_tk r)) = (is_numberlike (get_or text p 0) ≡ true) × (Float (number_text text p) → ⊥) × (r ≡ bad_at text p) × WrongNumber text p r
Starts text (tok p open_tk) = ByteAt text p paren_open
Starts text (tok p close_tk) = ByteAt text p paren_close
Starts text (tok p comma_tk) = ByteAt text p comma
Starts text (tok p (number_tk q x)) = (is_numberlike (get_or text p 0) ≡ true) × (q ≡ text_start text p) × (x ≡ number_text text p) × Float x
Starts text (tok p (word_tk w)) = (is_inner (get_or text p 0) ≡ true) × (is_numberlike (get_or text p 0) ≡ false) × (w ≡ part text p (end_of text p))

abbrev pub TokensStart : Type 0
TokensStart = (text : List ℕ) (t : Tok) → Among (toks text 0) t → Starts text t

-- ---- "Given exactly when" and "Place", by number, with room for N node rows and M number rows. From 3 on: a token of the text that can be at fault, and the
-- step that stops (3, 4 and 5, with the rows used and the collections open) or refuses (7 to 18, 28 and 29, all nodes closed again), which was due where it stands
pub data PlaceOf (N M : ℕ) (text : List ℕ) : ℕ → ℕ → Type 0 where
  over_limit_law : over_limit (length text) ≡ true → PlaceOf N M text text_too_long text_limit
  ill_formed : over_limit (length text) ≡ false → is_utf8 text ≡ false → PlaceOf N M text ill_formed_utf8 (first_ill text)
  stopped : {e : ℕ} {t : Tok} → Passes text → Among (toks text 0) t → AtFault t e (place_of t) → Stopping N M (toks text 0) t e → PlaceOf N M text e (place_of t)
  at_fault : {e p : ℕ} {t : Tok} {s : Str} → Passes text → Among (toks text 0) t → AtFault t e p → Refusing N M (toks text 0) [] t e s → PlaceOf N M text e p
