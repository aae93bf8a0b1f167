-- `wkt::root` meets its contract: the heading says which of the ways the root goes, from no rows used.
use mathlib.Core.Path.{refl}
use Rattle.std.proofs.lemmas.Result.{err_from_is_err_and}
use Rattle.wkt.proofs.Returns.{root_fits}
use Rattle.wkt.proofs.Bodies.{named_collection, named_simple, named_empty_law, named_wrong, as_root}
use Rattle.wkt.proofs.root.Goals as goal

pub returns-then-kind-eq-KIND_GEOMETRYCOLLECTION : goal.returns-then-kind-eq-KIND_GEOMETRYCOLLECTION
returns-then-kind-eq-KIND_GEOMETRYCOLLECTION c = as_root (named_collection _ c.in_ok-head.ensures c.in-Opens.is refl c.if-kind-eq-KIND_GEOMETRYCOLLECTION.true c.collection.ensures)

pub returns-else-kind-eq-KIND_GEOMETRYCOLLECTION : goal.returns-else-kind-eq-KIND_GEOMETRYCOLLECTION
returns-else-kind-eq-KIND_GEOMETRYCOLLECTION c = as_root (named_simple _ c.in_ok-head.ensures c.in-Opens.is refl c.if-kind-eq-KIND_GEOMETRYCOLLECTION.false c.simple.ensures)

pub returns-in-Empty : goal.returns-in-Empty
returns-in-Empty c =
    let row = c.open_node.ensures in
    as_root (named_empty_law _ c.in_ok-head.ensures (root_fits c.requires) c.in-Empty.is refl row.0 row.1)

pub returns-in_err-head : goal.returns-in_err-head
returns-in_err-head c =
    let p = err_from_is_err_and c.from_residual.result c.from_residual.ensures.1 in
    rw (p.1, p.2) (as_root (named_wrong _ c.in_err-head.ensures))
