-- `token::read_at` meets its contract.
use borrow.Author.Rules.{rules}
use mathlib.Core.Path.{sym, ◌∙◌}
use native.Mathlib.Omega.{arith}
use mathlib.Core.Bool.{true, false}
use Rattle.token.specs.Tokens.{start_at, read_at}
use Rattle.token.proofs.Tokens.{end_is, byte_is, other_is}
use Rattle.token.proofs.read_at.Goals as goal

pub returns-then-text-p : goal.returns-then-text-p
unfolding read_at
returns-then-text-p c = rw (← c.skip_blanks-p.ensures) (end_is _ _ c.if-text-p.true)

pub returns-then-is_numberlike : goal.returns-then-is_numberlike
unfolding read_at
returns-then-is_numberlike c =
    rw (← c.skip_blanks-p.ensures)
    (c.read_number.ensures
    ∙ other_is _ _ (search rules) (omega arith) (omega arith) (omega arith) (omega arith) true (sym c.is_numberlike.ensures ∙ c.if-is_numberlike.true))

pub returns-in_default : goal.returns-in_default
unfolding read_at
returns-in_default c =
    rw (← c.skip_blanks-p.ensures)
    (c.read_word.ensures
    ∙ other_is _ _ (search rules) (omega arith) (omega arith) (omega arith) (omega arith) false (sym c.is_numberlike.ensures ∙ c.if-is_numberlike.false))

pub returns-in-0 : goal.returns-in-0
unfolding read_at start_at
returns-in-0 c = rw (← c.skip_blanks-p.ensures) (byte_is _ _ (search rules) 0 c.in-0.is)

pub returns-in-40 : goal.returns-in-40
unfolding read_at start_at
returns-in-40 c = rw (← c.skip_blanks-p.ensures) (byte_is _ _ (search rules) 40 c.in-40.is)

pub returns-in-41 : goal.returns-in-41
unfolding read_at start_at
returns-in-41 c = rw (← c.skip_blanks-p.ensures) (byte_is _ _ (search rules) 41 c.in-41.is)

pub returns-in-44 : goal.returns-in-44
unfolding read_at start_at
returns-in-44 c = rw (← c.skip_blanks-p.ensures) (byte_is _ _ (search rules) 44 c.in-44.is)
