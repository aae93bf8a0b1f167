-- `shown_place` meets its contract.
use borrow.Author.Rules.{rules}
use mathlib.Core.Path.{◌∙◌}
use Rattle.line_places.proofs.Turns.{place_in, place_end}
use Rattle.line_places.proofs.shown_place.Goals as goal

pub returns-then-place-text : goal.returns-then-place-text
returns-then-place-text c = record { value = place_in _ _ (search rules); upper_bound = search rules }

pub returns-else-place-text : goal.returns-else-place-text
returns-else-place-text c = record { value = c.trimmed_end.ensures.value ∙ place_end _ _ (search rules); upper_bound = c.trimmed_end.ensures.upper_bound }
