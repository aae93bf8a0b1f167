-- `put_box` meets its contract: by whether the row has a box.
use mathlib.Core.Path.{◌∙◌}
use Rattle.signed_lines.proofs.Sizes.{back}
use Rattle.box_lines.proofs.Pieces.{box_none, box_sides}
use Rattle.box_lines.proofs.put_box.Goals as goal

pub returns-then-size_of-eq0 : goal.returns-then-size_of-eq0
returns-then-size_of-eq0 c = box_none c.args.rows.now (back _ (record { sfits = c.number_at.type_inv }) ∙ c.number_at.ensures) c.size_of.ensures c.if-size_of-eq0.true c.put.ensures

pub returns-else-size_of-eq0 : goal.returns-else-size_of-eq0
returns-else-size_of-eq0 c =
    box_sides c.args.rows.now (back _ (record { sfits = c.number_at.type_inv }) ∙ c.number_at.ensures) c.size_of.ensures c.if-size_of-eq0.false
    (back _ (record { sfits = c.number_at-else-size_of-eq0.type_inv }) ∙ c.number_at-else-size_of-eq0.ensures)
    (back _ (record { sfits = c.number_at-else-size_of-eq0-2.type_inv }) ∙ c.number_at-else-size_of-eq0-2.ensures)
    (back _ (record { sfits = c.number_at-else-size_of-eq0-3.type_inv }) ∙ c.number_at-else-size_of-eq0-3.ensures)
    (back _ (record { sfits = c.number_at-else-size_of-eq0-4.type_inv }) ∙ c.number_at-else-size_of-eq0-4.ensures)
    c.put_pair.ensures c.put_pair-else-size_of-eq0.ensures
