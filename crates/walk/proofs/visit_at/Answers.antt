-- `walk::visit_at` meets its contract: what the row holds.
use Rattle.walk.proofs.visit_at.Goals as goal

pub returns : goal.returns
returns c = rw (c.kind_at.ensures, c.dimension_at.ensures, c.parts_at.ensures)
