-- Worked examples of what number fields come to, by computation: each way to be faulty, each sort of text, and texts of sixteen bytes and more.
use Rattle.std.specs.Prelude.{◌≡◌, refl, Result, true, false, List, [], ◌∷◌, ℕ, length, take}
use Rattle.lists.specs.Lists.{every}
use Rattle.scan.specs.Text as text
use Rattle.scan.specs.Front.{begins, after_one, after_all, is_nil}
use Rattle.words.specs.Words.{same_word}
use Rattle.number.specs.Lexeme.{is_named, is_digits, is_exponent, is_decimal, is_unsigned, is_lexeme}
use Rattle.fields.specs.Counts.{count_after}
use Rattle.fields.specs.Fields.{length_in, is_field}
use Rattle.stored_form.specs.declared.Refusal.{Refusal}
use Rattle.stored_form.specs.declared.Seen.{Seen}
use Rattle.stored_form.specs.Reading.{refusal_at, seen, fields_from}
use Rattle.stored_numbers.specs.Looks.{numbers_seen}

all : ℕ
unfolding every begins after_one after_all is_nil same_word is_named is_digits is_exponent is_decimal is_unsigned is_lexeme count_after length_in is_field fields_from
all = 0

-- the fields of `1` and `-2`, behind a byte of something else
two : List ℕ
two = 9 ∷ 3 ∷ 0 ∷ 1 ∷ 49 ∷ 3 ∷ 0 ∷ 2 ∷ 45 ∷ 50 ∷ []

-- a field of this text, of less than 256 bytes, and nothing else
one : List ℕ → List ℕ
one w = 3 ∷ 0 ∷ length w ∷ w

-- the field at this place is faulty
abbrev fault : ℕ → Result Seen Refusal
fault at = refusal_at 25 at

-- both; none where none is told; and bytes that are left over behind one or none
counted : (numbers_seen two 1 2 ≡ seen true 10) × (numbers_seen [] 0 0 ≡ seen true 0) × (numbers_seen two 10 0 ≡ seen true 10) × (numbers_seen two 1 1 ≡ fault 5) × (numbers_seen two 1 0 ≡ fault 1)
unfolding all two
counted = (refl, refl, refl, refl, refl)

-- missing; cut in the length and in the content; of another tag; too long a length
faults : (numbers_seen two 1 3 ≡ fault 10) × (numbers_seen (take 7 two) 1 2 ≡ fault 5) × (numbers_seen (take 9 two) 1 2 ≡ fault 5) × (numbers_seen two 0 1 ≡ fault 0) × (numbers_seen (3 ∷ 1 ∷ 0 ∷ 49 ∷ []) 0 1 ≡ fault 0)
unfolding all two
faults = (refl, refl, refl, refl, refl)

-- a text that is no lexeme doesn't make its field faulty, and a fault behind it is told
texts : (numbers_seen (one (text.bytes "x")) 0 1 ≡ seen false 4) × (numbers_seen (one []) 0 1 ≡ seen false 3) × (numbers_seen (one (text.bytes "-.")) 0 1 ≡ seen false 5) × (numbers_seen (one (text.bytes "1.2.3")) 0 1 ≡ seen false 8)
    × (numbers_seen (one (text.bytes "1e5")) 0 1 ≡ seen true 6) × (numbers_seen (one (text.bytes "+inf")) 0 1 ≡ seen true 7) × (numbers_seen (one (text.bytes "-.5")) 0 1 ≡ seen true 6) × (numbers_seen (one (text.bytes "x")) 0 2 ≡ fault 4)
unfolding all one
texts = (refl, refl, refl, refl, refl, refl, refl, refl)

-- fifteen, sixteen and seventeen digits; a sign before sixteen; a point among sixteen, and two
long : (numbers_seen (one (text.bytes "123456789012345")) 0 1 ≡ seen true 18) × (numbers_seen (one (text.bytes "1234567890123456")) 0 1 ≡ seen true 19) × (numbers_seen (one (text.bytes "12345678901234567")) 0 1 ≡ seen true 20)
    × (numbers_seen (one (text.bytes "-1234567890123456")) 0 1 ≡ seen true 20) × (numbers_seen (one (text.bytes "123456789012345.")) 0 1 ≡ seen true 19) × (numbers_seen (one (text.bytes ".12345678901234.")) 0 1 ≡ seen false 19)
unfolding all one
long = (refl, refl, refl, refl, refl, refl)
