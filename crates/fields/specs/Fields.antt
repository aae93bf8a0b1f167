-- Fields (document 02, 2026-01): "one-byte tag, two-byte big-endian length, content".
use Rattle.std.specs.Prelude.{Bool, cond, Option, Some, None, ◌&&◌, List, ◌∷◌, ◌++◌, ℕ, ◌+◌, eqb, leb, length, get_or, take, drop}
use Rattle.fields.specs.Counts.{count_in, count_bytes}

-- "two-byte [..] length"
abbrev pub length_width : ℕ
length_width = 2

-- the bytes before the content
abbrev pub head_length : ℕ
head_length = 3

-- the longest content whose length two bytes can say
abbrev pub longest : ℕ
longest = 65535

unfoldable pub field : ℕ → List ℕ → List ℕ
field tag content = tag ∷ (count_bytes length_width (length content) ++ content)

-- ---- a field at a place of bytes
-- the length that it tells
unfoldable pub length_in : List ℕ → ℕ → ℕ
length_in bytes at = count_in (take length_width (drop (at + 1) bytes))

abbrev pub content_end : List ℕ → ℕ → ℕ
content_end bytes at = at + head_length + length_in bytes at

abbrev pub content_in : List ℕ → ℕ → List ℕ
content_in bytes at = take (length_in bytes at) (drop (at + head_length) bytes)

-- it has the tag, and is neither missing nor cut: all that it tells of is there
unfoldable pub is_field : ℕ → List ℕ → ℕ → Bool
is_field tag bytes at = eqb (get_or bytes at 0) tag && leb (content_end bytes at) (length bytes)

unfoldable pub field_at : ℕ → List ℕ → ℕ → Option ℕ
field_at tag bytes at = cond (is_field tag bytes at) (Some (content_end bytes at)) None

-- and its length is this one
unfoldable pub is_sized : ℕ → ℕ → List ℕ → ℕ → Bool
is_sized tag size bytes at = is_field tag bytes at && eqb (length_in bytes at) size
