-- `number::is_named` meets its contract.
use Rattle.number.specs.Lexeme.{is_named}
use Rattle.number.proofs.is_named.Goals as goal

pub returns : goal.returns
unfolding is_named
returns c = rw (c.same_word.ensures, c.same_word-2.ensures, c.same_word-3.ensures)
