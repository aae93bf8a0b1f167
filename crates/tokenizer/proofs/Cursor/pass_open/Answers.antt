-- `tokenizer::Cursor::pass_open` meets its contract.
use Rattle.std.proofs.Common.{sym, ◌∙◌}
use Rattle.tokenizer.proofs.Marks.{open_here, open_yes, open_no}
use Rattle.tokenizer.proofs.Cursor.pass_open.Goals as goal

pub returns-then-stands_at : goal.returns-then-stands_at
returns-then-stands_at c = rw c.new.ensures (open_here _ _ (sym c.stands_at.ensures ∙ c.if-stands_at.true))

pub returns-then-opens : goal.returns-then-opens
returns-then-opens c = rw (c.if-opens.true, c.new-then-opens.ensures) (open_yes _ _ _ c.look-step.ensures _ c.place_in.ensures (sym c.is_open-opens.ensures ∙ c.if-opens.true))

pub returns-else-opens : goal.returns-else-opens
returns-else-opens c = rw c.if-opens.false (open_no _ _ _ c.look-step.ensures _ c.place_in.ensures (sym c.is_open-opens.ensures ∙ c.if-opens.false))
