-- `token::read_number` meets its contract.
use mathlib.Core.Bool.{true, false}
use Rattle.token.proofs.Tokens.{start_end, number_is}
use Rattle.token.proofs.read_number.Goals as goal
use Rattle.token.proofs.read_number.Goals.{then-lexeme, else-lexeme}

pub overflow_sub-found : goal.overflow_sub-found
overflow_sub-found c = rw (c.read_lexeme-lexeme.ensures, c.after_plus-start.ensures) (start_end _ _ c.requires)

pub returns : goal.returns
returns c =
    elim c.if-lexeme.branch [
      | then-lexeme w ↦ rw w.found-is (number_is _ _ _ _ _ true c.after_plus-start.ensures c.read_lexeme-lexeme.ensures c.after_blank.ensures w.if-lexeme.true)
      | else-lexeme w ↦ rw w.found-is (number_is _ _ _ _ _ false c.after_plus-start.ensures c.read_lexeme-lexeme.ensures c.after_blank.ensures w.if-lexeme.false)
    ]
