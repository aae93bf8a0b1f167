-- The numbers of the refusals (document 01, "Refusal numbers"), each with the words that it is given for: made by tools/refusals from crates/refusals/table.txt.
use Rattle.std.specs.Prelude.{ℕ}

-- "text over 4,194,304 bytes"
abbrev pub text_too_long : ℕ
text_too_long = 1

-- "ill-formed UTF-8"
abbrev pub ill_formed_utf8 : ℕ
ill_formed_utf8 = 2

-- "a node [..] needs a row and none is free"
abbrev pub no_node_row : ℕ
no_node_row = 3

-- "a number needs a row and none is free"
abbrev pub no_number_row : ℕ
no_number_row = 4

-- "a 33rd open collection"
abbrev pub too_deep : ℕ
too_deep = 5

-- "A bad number that is taken gives 6."
abbrev pub bad_number : ℕ
bad_number = 6

-- "A non-ASCII word is refused 7"
abbrev pub non_ascii_root : ℕ
non_ascii_root = 7

-- "no token or any other token 8"
abbrev pub no_root : ℕ
no_root = 8

-- "Words are compared with the seven names [..]. Else refusal 9."
abbrev pub unknown_name : ℕ
unknown_name = 9

-- "No token or a bad number: 10."
abbrev pub no_header : ℕ
no_header = 10

-- "Another word: 11."
abbrev pub unknown_header : ℕ
unknown_header = 11

-- "Not `(`: 12."
abbrev pub not_opened : ℕ
not_opened = 12

-- "anything but `)` gives 13"
abbrev pub not_closed : ℕ
not_closed = 13

-- "X, Y, then Z, M as the dimension asks (14, 15, 16, 17)"
abbrev pub no_x : ℕ
no_x = 14

-- "X, Y, then Z, M as the dimension asks (14, 15, 16, 17)"
abbrev pub no_y : ℕ
no_y = 15

-- "X, Y, then Z, M as the dimension asks (14, 15, 16, 17)"
abbrev pub no_z : ℕ
no_z = 16

-- "X, Y, then Z, M as the dimension asks (14, 15, 16, 17)"
abbrev pub no_m : ℕ
no_m = 17

-- "Collection: a word (else 18)"
abbrev pub no_child : ℕ
no_child = 18

-- "infer_type: unsupported name"
abbrev pub unsupported_name : ℕ
unsupported_name = 19

-- "EMPTY without a space before it"
abbrev pub empty_without_space : ℕ
empty_without_space = 20

-- "neither `(` nor EMPTY"
abbrev pub neither_paren_nor_empty : ℕ
neither_paren_nor_empty = 21

-- "writer or strict check: store ill formed"
abbrev pub ill_formed_store : ℕ
ill_formed_store = 22

-- "writer: canonical text longer than the room"
abbrev pub no_room : ℕ
no_room = 23

-- "infer_type: non-ASCII byte in the part looked at"
abbrev pub non_ascii : ℕ
non_ascii = 24

-- "a field cut, missing, extra or of wrong tag or length, at its tag"
abbrev pub faulty_field : ℕ
faulty_field = 25

-- "at byte 3 if the first byte is 1 and byte 3 exists and is no known version"
abbrev pub unknown_version : ℕ
unknown_version = 26

-- "a count, a text or the whole doesn't fit the form"
abbrev pub does_not_fit : ℕ
does_not_fit = 27

-- "nothing left after the dropped plus (place: that plus)"
abbrev pub nothing_after_plus : ℕ
nothing_after_plus = 28

-- "a number that goes wrong"
abbrev pub number_goes_wrong : ℕ
number_goes_wrong = 29

-- "at the text of the first offending X or Y 30 for inf or nan"
abbrev pub no_finite_number : ℕ
no_finite_number = 30

-- "31 for an exponent beyond 9,999 either way or a scaled size over 10^17"
abbrev pub number_too_large : ℕ
number_too_large = 31
