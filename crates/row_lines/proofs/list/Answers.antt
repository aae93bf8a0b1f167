-- `list` meets its contract: a text over the limit isn't read, and of any other the lines are put.
use Rattle.std.proofs.Common.{refl, sym, ◌∙◌}
use Rattle.row_lines.specs.Lines.{Listed}
use Rattle.row_lines.proofs.list.Goals as goal

pub returns-then-is_over-clause-listed : goal.returns-then-is_over-clause-listed
returns-then-is_over-clause-listed c = Listed.long (sym c.is_over.ensures ∙ c.if-is_over.true) refl refl c.put_too_long.ensures.holds

pub returns-clause-listed : goal.returns-clause-listed
returns-clause-listed c = Listed.read (sym c.is_over.ensures ∙ c.if-is_over.false) _ c.read-answer.ensures c.put_lines.ensures.holds
