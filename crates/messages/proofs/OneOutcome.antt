-- Two buffers that a public function's contract allows for one input are one: the bytes and the count together.
-- Assumes nothing.
use Prim.Native.Nat.{ℕ}
use mathlib.Core.Path.{◌≡◌}
use mathlib.Core.List.{List}
use Rattle.lists.specs.One.{One}
use Rattle.lists.proofs.One.{one}
use Rattle.printing.specs.Printing.{Buffer, put_in, put_all_in}
use Rattle.line_places.specs.Lines.{numbered_line}
use Rattle.messages.specs.Messages.{message_lines}
use Rattle.messages.specs.ExpectedLines.{expected_lines}
use Rattle.messages.specs.Complaint.{told_line, complaint}

module _ (b : Buffer) where
  pub put_message_one : (number : ℕ) → One (λ left. left ≡ put_in (numbered_line message_lines number) b)
  put_message_one number = one

  pub put_expected_one : (expected : ℕ) → One (λ left. left ≡ put_in (numbered_line expected_lines expected) b)
  put_expected_one expected = one

  pub put_told_one : (number expected : ℕ) → One (λ left. left ≡ put_in (told_line number expected) b)
  put_told_one number expected = one

  pub put_complaint_one : (program : List ℕ) (number place expected : ℕ) → One (λ left. left ≡ put_all_in (complaint program number place expected) b)
  put_complaint_one program number place expected = one
