-- `shown_for` meets its contract: bytes that are no whole character, what stands under one, a control, or any other.
use mathlib.Core.Path.{sym, ◌∙◌}
use Rattle.explain.proofs.ShownLaws.{control_is, ill_under, ill_shown, whole_under, whole_control, whole_itself}
use Rattle.explain.proofs.characters.shown_for.Goals as goal

pub returns-then-under : goal.returns-then-under
returns-then-under c = ill_under _ c.first_ill_formed.ensures c.if-first_ill_formed-bytes.true c.if-under.true

pub returns-else-under : goal.returns-else-under
returns-else-under c = ill_shown _ c.first_ill_formed.ensures c.if-first_ill_formed-bytes.true c.if-under.false

pub returns-then-under-2 : goal.returns-then-under-2
returns-then-under-2 c = whole_under _ c.first_ill_formed.ensures c.if-first_ill_formed-bytes.false c.if-under-2.true c.blank_under.ensures

pub returns-then-is_control : goal.returns-then-is_control
returns-then-is_control c = whole_control _ c.first_ill_formed.ensures c.if-first_ill_formed-bytes.false c.if-under-2.false (sym (c.is_control.ensures ∙ control_is _ c.byte_at.ensures c.byte_at-2.ensures) ∙ c.if-is_control.true)

pub returns-else-is_control : goal.returns-else-is_control
returns-else-is_control c = whole_itself _ c.first_ill_formed.ensures c.if-first_ill_formed-bytes.false c.if-under-2.false (sym (c.is_control.ensures ∙ control_is _ c.byte_at.ensures c.byte_at-2.ensures) ∙ c.if-is_control.false)
