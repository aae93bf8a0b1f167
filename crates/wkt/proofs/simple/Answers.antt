-- `wkt::simple` meets its contract: behind the row that was opened stands the body of its kind, and without a row the reading has ended.
use mathlib.Core.Path.{refl}
use Rattle.std.proofs.lemmas.Result.{err_from_is_err_and}
use Rattle.wkt.specs.Parts.{body_of}
use Rattle.wkt.proofs.Bodies.{body_fits, opened_full, opened_done, as_simple}
use Rattle.wkt.proofs.simple.Goals as goal

pub returns-in_err-here : goal.returns-in_err-here
returns-in_err-here c =
    let p = err_from_is_err_and c.from_residual.result c.from_residual.ensures.1 in
    rw (p.1, p.2) (as_simple _ _ _ c.simple_kind-named.ensures (opened_full _ c.in_err-here.ensures.0 _ _ (body_of _ _) refl))

pub body-requires : goal.body-requires
body-requires c = body_fits _ c.in_ok-here.ensures.0 refl c.open_node.auto.nodes c.requires

pub returns : goal.returns
returns c = as_simple _ _ _ c.simple_kind-named.ensures (opened_done _ c.in_ok-here.ensures.0 refl _ _ (body_of _ _) c.in_ok-here.ensures.1 c.open_node.auto.nodes c.body.ensures)
