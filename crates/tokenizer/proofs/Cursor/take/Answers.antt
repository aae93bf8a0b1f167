-- `tokenizer::Cursor::take` meets its contract.
use Rattle.tokenizer.specs.Tokens.{take_held}
use Rattle.tokenizer.proofs.Cursor.take.Goals as goal
use Rattle.tokenizer.proofs.Cursor.take.Goals.{in-NoToken, in-BadNumber, in-Is}

pub returns-in-Nothing : goal.returns-in-Nothing
unfolding take_held
returns-in-Nothing c = rw (c.in-Nothing.is, c.new.ensures, ← c.read_at-read.ensures)

pub returns : goal.returns
unfolding take_held
returns c =
    elim c.match-self.branch [
      | in-NoToken w ↦ rw (w.in-NoToken.is, w.found-is, c.new-2.ensures)
      | in-BadNumber w ↦ rw (w.in-BadNumber.is, w.found-is, c.new-2.ensures)
      | in-Is w ↦ rw (w.in-Is.is, w.found-is, c.new-2.ensures)
    ]
