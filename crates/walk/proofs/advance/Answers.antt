-- `walk::advance` meets its contract: by whether the row is met.
use Rattle.walk.proofs.Steps.{met_in_place, ill_in_place}
use Rattle.walk.proofs.advance.Goals as goal

pub returns-in-Some : goal.returns-in-Some
returns-in-Some c = met_in_place _ _ _ _ (rw c.in-Some.is at c.after_row.ensures)

pub returns-in-None : goal.returns-in-None
returns-in-None c = ill_in_place _ _ _ _ (rw c.in-None.is at c.after_row.ensures)
