-- `number::read_exponent` meets its contract.
use borrow.Author.Rules.{rules}
use mathlib.Core.Path.{sym, ◌∙◌}
use Rattle.number.proofs.Text.{exponent_past, exponent_stop, exponent_bad, exponent_e}
use Rattle.number.proofs.read_exponent.Goals as goal

pub returns-then-text-at : goal.returns-then-text-at
returns-then-text-at c = exponent_past _ _ c.if-text-at.true

pub returns-then-is_stop : goal.returns-then-is_stop
returns-then-is_stop c = exponent_stop _ _ (search rules) (sym c.is_stop.ensures ∙ c.if-is_stop.true)

pub returns-then-b : goal.returns-then-b
returns-then-b c =
    exponent_e _ _ (search rules) (sym c.is_stop.ensures ∙ c.if-is_stop.false) _ _ c.if-b.true c.after_sign.ensures c.read_digits.ensures

pub returns : goal.returns
returns c =
    exponent_bad _ _ (search rules) (sym c.is_stop.ensures ∙ c.if-is_stop.false) _ c.if-b.false c.token_end.ensures
