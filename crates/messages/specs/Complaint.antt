-- How a program tells of a refusal, in pieces.
use Rattle.std.specs.Prelude.{ℕ, cond, List, [], ◌∷◌, eqb}
use Rattle.scan.specs.Text.{bytes}
use Rattle.printing.specs.Printing.{decimal}
use Rattle.line_places.specs.Lines.{numbered_line}
use Rattle.messages.specs.Messages.{message_lines}
use Rattle.messages.specs.ExpectedLines.{expected_lines}

-- "`explain` shows the byte with words that say what was expected there [..], beside the Rust's message": 0 is no expectation
unfoldable pub told_line : ℕ → ℕ → List ℕ
told_line number expected = cond (eqb expected 0) (numbered_line message_lines number) (numbered_line expected_lines expected)

abbrev pub complaint : List ℕ → ℕ → ℕ → ℕ → List (List ℕ)
complaint program number place expected = program ∷ bytes ": refused " ∷ decimal number ∷ bytes " at byte " ∷ decimal place ∷ bytes ": " ∷ told_line number expected ∷ []
