-- Worked examples of this crate's definitions, by computation.
use Rattle.std.specs.Prelude.{◌≡◌, refl, ℕ}
use mathlib.Core.List.{List, [], flat_map}
use Rattle.scan.specs.Text.{bytes}
use Rattle.printing.specs.Printing.{decimal, places_from}
use Rattle.line_places.specs.Lines.{line_from}
use Rattle.messages.specs.Messages.{message_lines}
use Rattle.messages.specs.ExpectedLines.{expected_lines}
use Rattle.messages.specs.Complaint.{told_line, complaint}

all : ℕ
unfolding message_lines expected_lines told_line line_from decimal places_from flat_map
all = 0

whole : ℕ → ℕ → ℕ → List ℕ
whole number place expected = flat_map (λ (piece : List ℕ). piece) (complaint (bytes "keep") number place expected)

-- the message is that of the number, and the last one has its line too
told : (whole 13 8 0 ≡ bytes "keep: refused 13 at byte 8: Missing closing parenthesis for type\n")
    × (whole 26 3 0 ≡ bytes "keep: refused 26 at byte 3: The stored bytes are of another version\n")
    × (whole 29 7 0 ≡ bytes "keep: refused 29 at byte 7: Unable to parse input number as the desired output type\n")
unfolding all whole
told = (refl, refl, refl)

-- with what was expected, behind the message; nothing is told of a number past the last
expected : (whole 29 7 1 ≡ bytes "keep: refused 29 at byte 7: Unable to parse input number as the desired output type: nothing more was expected\n")
    × (told_line 29 2 ≡ bytes "Unable to parse input number as the desired output type: a digit was expected\n")
    × (told_line 29 3 ≡ bytes "Unable to parse input number as the desired output type: a digit or a sign was expected after e\n")
    × (told_line 28 4 ≡ bytes "Unable to parse input number as the desired output type: a digit, a point, inf, infinity or nan was expected after the sign\n")
    × (told_line 29 5 ≡ bytes "Unable to parse input number as the desired output type: inf, infinity or nan was expected after the sign\n")
    × (told_line 29 6 ≡ [])
unfolding all whole
expected = (refl, refl, refl, refl, refl, refl)
