-- `bounds::close` meets its contract: what stands in the row is what was read of it.
use mathlib.Core.Path.{◌∙◌}
use mir.Syntax.{w64}
use Rattle.std.proofs.lemmas.Int.{to_z-of_z}
use Rattle.bounds.proofs.Closing.{stays_open, closes}
use Rattle.bounds.proofs.close.Goals as goal

pub returns-then-first-lt0 : goal.returns-then-first-lt0
returns-then-first-lt0 c = stays_open _ _ _ (to_z-of_z w64 _ (record { sfits = c.cell_at-first.type_inv }) ∙ c.cell_at-first.ensures) c.if-first-lt0.true

pub returns : goal.returns
returns c = c.settle.ensures ∙ closes _ _ _ (to_z-of_z w64 _ (record { sfits = c.cell_at-first.type_inv }) ∙ c.cell_at-first.ensures) c.if-first-lt0.false _ c.bounds_at-b.ensures
