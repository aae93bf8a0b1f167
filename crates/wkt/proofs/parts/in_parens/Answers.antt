-- `wkt::parts::in_parens` meets its contract: behind the row that was opened stands the body, and without a row the reading has ended.
use mathlib.Core.Path.{refl}
use Rattle.std.proofs.lemmas.Result.{err_from_is_err_and}
use Rattle.wkt.proofs.Bodies.{body_fits, opened_full, opened_done}
use Rattle.wkt.proofs.parts.in_parens.Goals as goal

pub returns-in_err-here : goal.returns-in_err-here
returns-in_err-here g c =
    let p = err_from_is_err_and c.from_residual.result c.from_residual.ensures.1 in
    rw (p.1, p.2) (opened_full _ c.in_err-here.ensures.0 _ _ (g.B.InParens.holds _) refl)

pub body-requires : goal.body-requires
body-requires g c = body_fits _ c.in_ok-here.ensures.0 refl c.open_node.auto.nodes c.requires

pub returns : goal.returns
returns g c = opened_done _ c.in_ok-here.ensures.0 refl g.B.InParens.KIND _ (g.B.InParens.holds _) (rw c.KIND.ensures at c.in_ok-here.ensures.1) c.open_node.auto.nodes c.body.ensures
