-- `number::is_lexeme` meets its contract: its part up to the first stop is all of it.
use Rattle.number.proofs.Text.{whole_is}
use Rattle.number.proofs.is_lexeme.Goals as goal

pub returns : goal.returns
returns c = whole_is _ _ c.read_lexeme-lexeme.ensures
