-- `store::places` meets its contract: the places of as many rows, or all of them.
use Rattle.store.proofs.Cells.{places_some, places_all}
use Rattle.store.proofs.places.Goals as goal

pub returns-then-rows-slice-clause-value : goal.returns-then-rows-slice-clause-value
returns-then-rows-slice-clause-value g c = (places_some _ _ _ c.if-rows-slice.true).0

pub returns-else-rows-slice-clause-value : goal.returns-else-rows-slice-clause-value
returns-else-rows-slice-clause-value g c = (places_all _ _ _ c.if-rows-slice.false).0
