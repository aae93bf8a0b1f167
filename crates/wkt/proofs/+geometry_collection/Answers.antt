-- `wkt::geometry` and `wkt::geometrycollection::collection` call each other, and meet their contracts together: the depth falls at each
-- opened collection, and a collection's loop over its children is a list like any other.
use Rattle.std.proofs.Common.{arith, refl}
use Rattle.std.proofs.lemmas.Result.{err_from_is_err_and}
use borrow.Author.Tests.{not-false, not-true}
use Rattle.kinds.specs.Kinds.{kind_geometry_collection}
use Rattle.answers.specs.Reading.{list_of}
use Rattle.answers.proofs.Parts.{part_read, part_lost}
use Rattle.answers.proofs.ByCommas.{list_first, list_few, list_more, list_less, list_last, list_lost}
use Rattle.wkt.specs.Parts.{child_of}
use Rattle.wkt.proofs.Bodies.{body_fits, opened_full, opened_done, named_collection, named_simple, named_empty_law, named_wrong, as_child, collection_deep, as_collection}
use Rattle.wkt.proofs.+geometry_collection.Goals as goal

pub geometry-returns-then-kind-eq-KIND_GEOMETRYCOLLECTION : goal.geometry-returns-then-kind-eq-KIND_GEOMETRYCOLLECTION
geometry-returns-then-kind-eq-KIND_GEOMETRYCOLLECTION t c = as_child _ (named_collection _ c.in_ok-head.ensures c.in-Opens.is c.moved-here.ensures c.if-kind-eq-KIND_GEOMETRYCOLLECTION.true c.collection.ensures)

pub geometry-returns-else-kind-eq-KIND_GEOMETRYCOLLECTION : goal.geometry-returns-else-kind-eq-KIND_GEOMETRYCOLLECTION
geometry-returns-else-kind-eq-KIND_GEOMETRYCOLLECTION t c = as_child _ (named_simple _ c.in_ok-head.ensures c.in-Opens.is c.moved-here.ensures c.if-kind-eq-KIND_GEOMETRYCOLLECTION.false c.simple.ensures)

pub geometry-returns-in-Empty : goal.geometry-returns-in-Empty
geometry-returns-in-Empty t c =
    let row = c.open_node.ensures in
    as_child _ (named_empty_law _ c.in_ok-head.ensures c.requires c.in-Empty.is c.moved.ensures row.0 row.1)

pub geometry-returns-in_err-head : goal.geometry-returns-in_err-head
geometry-returns-in_err-head t c =
    let p = err_from_is_err_and c.from_residual.result c.from_residual.ensures.1 in
    rw (p.1, p.2) (as_child _ (named_wrong _ c.in_err-head.ensures))

pub geometrycollection::collection-returns-then-depth-eq0 : goal.geometrycollection::collection-returns-then-depth-eq0
geometrycollection::collection-returns-then-depth-eq0 t c = collection_deep _ _ _ c.if-depth-eq0.true c.too_deep.ensures

pub geometrycollection::collection-returns-in_err-here : goal.geometrycollection::collection-returns-in_err-here
geometrycollection::collection-returns-in_err-here t c =
    let p = err_from_is_err_and c.from_residual.result c.from_residual.ensures.1 in
    rw (p.1, p.2) (as_collection _ _ _ c.if-depth-eq0.false (opened_full _ c.in_err-here.ensures.0 kind_geometry_collection _ (λ i. list_of i (child_of _)) refl))

pub geometrycollection::collection-loop-end-init : goal.geometrycollection::collection-loop-end-init
geometrycollection::collection-loop-end-init t c =
    let b = body_fits _ c.in_ok-here.ensures.0 refl c.open_node.auto.nodes c.requires in
    list_first b.0 b.1

pub geometrycollection::collection-returns-in_err-end : goal.geometrycollection::collection-returns-in_err-end
geometrycollection::collection-returns-in_err-end t c =
    let row = c.in_ok-here.ensures in
    let e = c.in_err-end.ensures in
    let p = err_from_is_err_and c.from_residual-in_err-end.result c.from_residual-in_err-end.ensures.1 in
    rw (p.1, p.2)
    (as_collection _ _ _ c.if-depth-eq0.false
    (opened_done _ row.0 refl kind_geometry_collection _ (λ i. list_of i (child_of _)) row.1 c.open_node.auto.nodes
    (list_lost c.loop-end.invariant c.geometry.ensures (part_lost _ _ e) e)))

pub geometrycollection::collection-overflow_add-parts : goal.geometrycollection::collection-overflow_add-parts
geometrycollection::collection-overflow_add-parts t c = omega (arith, list_few c.loop-end.invariant)

pub geometrycollection::collection-loop-end-smaller : goal.geometrycollection::collection-loop-end-smaller
geometrycollection::collection-loop-end-smaller t c = list_less c.loop-end.invariant c.geometry.ensures (part_read _ _ c.in_ok-end.ensures) c.after_part-passed.ensures (not-false _ c.if-not-passed.false) c.moved-here.ensures

pub geometrycollection::collection-loop-end-preserved : goal.geometrycollection::collection-loop-end-preserved
geometrycollection::collection-loop-end-preserved t c =
    let got = c.geometry in
    list_more c.loop-end.invariant got.ensures (part_read _ _ c.in_ok-end.ensures) c.after_part-passed.ensures (not-false _ c.if-not-passed.false) c.moved-here.ensures got.auto.nodes got.auto.numbers

pub geometrycollection::collection-returns-then-not-passed : goal.geometrycollection::collection-returns-then-not-passed
geometrycollection::collection-returns-then-not-passed t c =
    let row = c.in_ok-here.ensures in
    let got = c.geometry in
    as_collection _ _ _ c.if-depth-eq0.false
    (opened_done _ row.0 refl kind_geometry_collection _ (λ i. list_of i (child_of _)) row.1 c.open_node.auto.nodes
    (list_last c.loop-end.invariant got.ensures (part_read _ _ c.in_ok-end.ensures) c.after_part-passed.ensures (not-true _ c.if-not-passed.true) c.at_cursor.ensures c.closing.ensures.0 c.closing.ensures.1 got.auto.nodes))
