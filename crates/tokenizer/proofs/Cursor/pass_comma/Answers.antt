-- `tokenizer::Cursor::pass_comma` meets its contract.
use Rattle.std.proofs.Common.{sym, ◌∙◌}
use Rattle.tokenizer.proofs.Marks.{pass_here, pass_close, pass_yes, pass_no}
use Rattle.tokenizer.proofs.Cursor.pass_comma.Goals as goal

pub returns-then-stands_at : goal.returns-then-stands_at
returns-then-stands_at c = rw c.new.ensures (pass_here _ _ (sym c.stands_at.ensures ∙ c.if-stands_at.true))

pub returns-then-stands_at-2 : goal.returns-then-stands_at-2
returns-then-stands_at-2 c = pass_close _ _ (sym c.stands_at-2.ensures ∙ c.if-stands_at-2.true)

pub returns-then-comma : goal.returns-then-comma
returns-then-comma c = rw (c.if-comma.true, c.new-then-comma.ensures) (pass_yes _ _ _ c.look-step.ensures (sym c.is_comma-comma.ensures ∙ c.if-comma.true))

pub returns-else-comma : goal.returns-else-comma
returns-else-comma c = rw c.if-comma.false (pass_no _ _ _ c.look-step.ensures (sym c.is_comma-comma.ensures ∙ c.if-comma.false))
