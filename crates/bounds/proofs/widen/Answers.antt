-- `bounds::widen` meets its contract: the row's box is put again with another around it.
use mathlib.Core.Path.{ap, ap₂, ◌∙◌}
use mir.Syntax.{w64}
use Rattle.std.proofs.lemmas.Int.{to_z-of_z}
use Rattle.bounds.specs.Bounds.{five, merge, put_five, widened}
use Rattle.bounds.proofs.widen.Goals as goal

pub returns : goal.returns
unfolding widened
returns c =
    c.put_five.ensures
    ∙ ap₂ (λ f b. put_five c.args.table.now c.args.row (five f b))
    (to_z-of_z w64 _ (record { sfits = c.cell_at-first.type_inv }) ∙ c.cell_at-first.ensures)
    (c.around-both.ensures ∙ ap (λ a. merge a c.args.b) c.bounds_at.ensures)
