-- What a buffer holds after a text is put behind its full bytes. What leaves it for standard output is outside of the language.
use Rattle.std.specs.Prelude.{◌≡◌, ℕ, zero, suc, ◌+◌, ◌/◌, min, Bool, cond, List, [], ◌∷◌, leb, ltb, length}
use Rattle.std.proofs.lemmas.List.Edits.{sets}
use Rattle.scan.specs.Bytes.{space}
use Rattle.printing.specs.declared.Out.{Out}
use Rattle.io.specs.Digits.{last_digits}

-- a buffer, and how many of its bytes are full
pub record Buffer : Type 0 where
  pub bytes : List ℕ
  pub count : ℕ

abbrev pub buffer : List ℕ → ℕ → Buffer
buffer bytes count = record { bytes = bytes; count = count }

-- what lent bytes hold
abbrev pub held : Out → Buffer
held o = buffer o.bytes.now o.at

-- the count, which a caller may give too large
abbrev pub full_of : Buffer → ℕ
full_of b = min b.count (length b.bytes)

-- there is room for a text from a place on
unfoldable pub has_room_at : ℕ → List ℕ → List ℕ → Bool
has_room_at at text bytes = leb (at + length text) (length bytes)

-- the text stands there, and nothing behind it is full
abbrev pub standing : ℕ → List ℕ → List ℕ → Buffer
standing at text bytes = buffer (sets bytes at text) (at + length text)

-- a text is put at the start, where nothing is full any more; where it has no room even there, it is written out and nothing is full
unfoldable pub put_anew : List ℕ → Buffer → Buffer
put_anew text b = cond (has_room_at 0 text b.bytes) (standing 0 text b.bytes) (buffer b.bytes 0)

-- a text is put behind the full bytes. Where it has no room they are written out, and it is put at the start; where it has none even there,
-- it is written out too and nothing is full
unfoldable pub put_in : List ℕ → Buffer → Buffer
put_in text b =
    cond (has_room_at (full_of b) text b.bytes) (standing (full_of b) text b.bytes)
    (cond (has_room_at 0 text b.bytes) (standing 0 text b.bytes)
    (buffer b.bytes 0))

-- texts are put one after the other
unfoldable pub put_all_in : List (List ℕ) → Buffer → Buffer
put_all_in [] b = b
put_all_in (text ∷ texts) b = put_all_in texts (put_in text b)

-- texts are put one after the other, into the same bytes
pub record Prints (texts : List (List ℕ)) (o o' : Out) : Type 0 where
  pub same_bytes : o'.bytes.ghost_name ≡ o.bytes.ghost_name
  pub holds : held o' ≡ put_all_in texts (held o)

-- how many decimal digits a number has; no number has more than itself and one
unfoldable pub places_from : ℕ → ℕ → ℕ
places_from zero n = 1
places_from (suc most) n = cond (ltb n 10) 1 (suc (places_from most (n / 10)))

-- a number's decimal digits
unfoldable pub decimal : ℕ → List ℕ
decimal n = last_digits 10 (places_from n n) n

-- a number behind a space
abbrev pub spaced : ℕ → List (List ℕ)
spaced n = (space ∷ []) ∷ decimal n ∷ []
