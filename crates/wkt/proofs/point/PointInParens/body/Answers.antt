-- The body of a point: its coordinate is read, plainly or by tokens, and the closing token after it.
use native.Mathlib.Omega.{arith}
use mathlib.Core.Path.{refl}
use Rattle.std.proofs.lemmas.Result.{err_from_is_err_and}
use Rattle.kinds.proofs.Widths.{width_few}
use Rattle.answers.proofs.Parts.{part_read, part_lost}
use Rattle.wkt.proofs.Numbers.{plain_coord, kept_ready, token_coord}
use Rattle.wkt.proofs.Bodies.{own, point_read, point_lost}
use Rattle.wkt.proofs.point.PointInParens.body.Goals as goal

pub plain_coord-end-requires : goal.plain_coord-end-requires
plain_coord-end-requires c = (c.requires.1.short, c.requires.1.numbers, rw c.width_of-width.ensures (width_few _))

pub overflow_add-here : goal.overflow_add-here
overflow_add-here c = omega (arith, c.requires.1.numbers, c.width_of-width.ensures, width_few c.args.dimension)

pub returns-then-s-end : goal.returns-then-s-end
returns-then-s-end c =
    let pre = c.requires in
    point_read pre.1 (plain_coord c.width_of-width.ensures (c.plain_coord-end.ensures.numbers c.if-s-end.true)) _ pre.0 refl c.state_of.ensures c.closing.ensures.0 c.closing.ensures.1

pub by_tokens-requires : goal.by_tokens-requires
by_tokens-requires c = rw c.state_of-2.ensures (kept_ready c.plain_coord-end.ensures.kept (own c.requires.1))

pub returns-in_err-end : goal.returns-in_err-end
returns-in_err-end c =
    let p = err_from_is_err_and c.from_residual.result c.from_residual.ensures.1 in
    let e = c.in_err-end.ensures in
    rw (p.1, p.2) (point_lost c.requires.1 (token_coord c.plain_coord-end.ensures.kept (rw c.state_of-2.ensures at c.by_tokens.ensures)) _ (part_lost _ _ e) e)

pub returns : goal.returns
returns c =
    let pre = c.requires in
    point_read pre.1 (token_coord c.plain_coord-end.ensures.kept (rw c.state_of-2.ensures at c.by_tokens.ensures)) _ pre.0 (part_read _ _ c.in_ok-end.ensures) c.state_of-3.ensures c.closing-2.ensures.0 c.closing-2.ensures.1
