-- `blank_under` meets its contract: a tab, a wide character, or any other.
use mathlib.Core.Path.{sym, ◌∙◌}
use Rattle.explain.proofs.ShownLaws.{wide_is, under_tab, under_wide, under_other}
use Rattle.explain.proofs.characters.blank_under.Goals as goal

pub returns-then-first-eq9 : goal.returns-then-first-eq9
returns-then-first-eq9 c = under_tab _ c.byte_at-first.ensures c.if-first-eq9.true

pub returns-then-is_wide : goal.returns-then-is_wide
returns-then-is_wide c = under_wide _ c.byte_at-first.ensures c.if-first-eq9.false (sym (c.is_wide.ensures ∙ wide_is _ c.byte_at-first.ensures c.byte_at.ensures c.byte_at-2.ensures) ∙ c.if-is_wide.true)

pub returns-else-is_wide : goal.returns-else-is_wide
returns-else-is_wide c = under_other _ c.byte_at-first.ensures c.if-first-eq9.false (sym (c.is_wide.ensures ∙ wide_is _ c.byte_at-first.ensures c.byte_at.ensures c.byte_at-2.ensures) ∙ c.if-is_wide.false)
