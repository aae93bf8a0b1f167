-- `strict::strict` meets its contract: by whether the rows are good.
use mathlib.Core.Path.{refl, ap, sym, ◌∙◌}
use Rattle.shape.proofs.Checks.{no_walk, the_walk}
use Rattle.strict.specs.Strict.{of_walk, strict_of}
use Rattle.strict.proofs.strict.Goals as goal

pub returns-then-are_rows : goal.returns-then-are_rows
unfolding strict_of
returns-then-are_rows c = c.first_fault.ensures ∙ sym (ap (of_walk _ _) (the_walk _ _ _ refl (sym c.are_rows.ensures ∙ c.if-are_rows.true)))

pub returns : goal.returns
unfolding strict_of
returns c = c.ill_formed.ensures ∙ sym (ap (of_walk _ _) (no_walk _ _ _ (sym c.are_rows.ensures ∙ c.if-are_rows.false)))
