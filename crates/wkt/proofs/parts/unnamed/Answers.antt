-- `wkt::parts::unnamed` meets its contract: the heading says which of the three ways it goes.
use Rattle.std.proofs.lemmas.Result.{err_from_is_err_and}
use Rattle.wkt.specs.Parts.{with_body}
use Rattle.wkt.proofs.Bodies.{child_opens, child_empty, child_wrong, head_fits}
use Rattle.wkt.proofs.parts.unnamed.Goals as goal

pub in_parens-requires : goal.in_parens-requires
in_parens-requires g c = head_fits c.requires c.moved.ensures

pub returns-in_err-head : goal.returns-in_err-head
returns-in_err-head g c =
    let b = g.B.InParens in
    let p = err_from_is_err_and c.from_residual.result c.from_residual.ensures.1 in
    rw (p.1, p.2) (child_wrong _ _ (λ N M d p. with_body b.KIND d (b.holds d) p N M) (rw c.KIND.ensures at c.in_err-head.ensures))

pub returns-in-Opens : goal.returns-in-Opens
returns-in-Opens g c =
    let b = g.B.InParens in
    child_opens _ _ (λ N M d p. with_body b.KIND d (b.holds d) p N M) (rw c.KIND.ensures at c.in_ok-head.ensures) c.in-Opens.is c.moved.ensures c.in_parens.ensures

pub returns-in-Empty : goal.returns-in-Empty
returns-in-Empty g c =
    let b = g.B.InParens in
    let row = c.open_node.ensures in
    child_empty _ _ (λ N M d p. with_body b.KIND d (b.holds d) p N M) (rw c.KIND.ensures at c.in_ok-head.ensures) c.requires c.in-Empty.is c.moved-in-Empty.ensures row.0 row.1
