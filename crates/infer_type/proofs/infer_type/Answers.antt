-- `infer_type::infer_type` meets its contract: a law of `Infer` for each return.
use mathlib.Core.Path.{sym, ◌∙◌}
use Rattle.infer_type.proofs.Infer.{too_long, ill_formed, a_text}
use Rattle.infer_type.proofs.infer_type.Goals as goal

pub returns-then-is_over : goal.returns-then-is_over
returns-then-is_over c = c.refuse.ensures ∙ too_long _ (sym c.is_over.ensures ∙ c.if-is_over.true)

pub returns-then-ill-text : goal.returns-then-ill-text
returns-then-ill-text c =
    c.refuse-then-ill-text.ensures
    ∙ ill_formed _ _ (sym c.is_over.ensures ∙ c.if-is_over.false) c.first_ill_formed-ill.ensures c.if-ill-text.true

pub returns : goal.returns
returns c =
    c.infer_looked.ensures
    ∙ a_text _ (sym c.is_over.ensures ∙ c.if-is_over.false) (sym c.first_ill_formed-ill.ensures ∙ c.if-ill-text.false)
