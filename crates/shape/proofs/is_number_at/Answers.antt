-- `shape::is_number_at` meets its contract: the part of the text is the span's text, and a plain one is a lexeme.
use mathlib.Core.Path.{sym, ◌∙◌}
use Rattle.number.proofs.Plain.{plain_lexeme}
use Rattle.shape.proofs.Numbers.{number_off, number_in}
use Rattle.shape.proofs.is_number_at.Goals as goal

pub returns-then-text-end : goal.returns-then-text-end
returns-then-text-end c = number_off _ _ _ _ _ c.start_at-start.ensures c.length_at.ensures c.if-text-end.true

pub returns-then-is_plain : goal.returns-then-is_plain
returns-then-is_plain c = number_in _ _ _ _ _ c.start_at-start.ensures c.length_at.ensures _ c.if-text-end.false (c.if-is_plain.true ∙ sym (plain_lexeme _ (sym c.is_plain.ensures ∙ c.if-is_plain.true)))

pub returns-else-is_plain : goal.returns-else-is_plain
returns-else-is_plain c = number_in _ _ _ _ _ c.start_at-start.ensures c.length_at.ensures _ c.if-text-end.false c.is_lexeme.ensures
