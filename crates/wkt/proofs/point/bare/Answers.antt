-- `wkt::point::bare` meets its contract: the row is used first, and then the coordinate is read from the token that is held.
use mathlib.Core.Path.{refl}
use Rattle.std.proofs.lemmas.Result.{err_from_is_err_and}
use Rattle.wkt.proofs.Bodies.{never_refused, bare_full, bare_ready, bare_read, bare_lost}
use Rattle.wkt.proofs.point.bare.Goals as goal

pub by_tokens-requires : goal.by_tokens-requires
by_tokens-requires c = bare_ready _ _ _ _ _ _ c.spot_of.ensures c.in-Ok.ensures.0 refl c.at_cursor.ensures c.requires

pub returns-in_ok-end-in-Ok : goal.returns-in_ok-end-in-Ok
returns-in_ok-end-in-Ok c =
    let row = c.in-Ok.ensures in
    let end = c.ended.ensures in
    bare_read _ _ _ _ _ _ c.spot_of.ensures row.0 refl c.at_cursor.ensures _ row.1 c.in_ok-end-in-Ok.ensures refl end.0 end.1

pub returns-in_err-end-in-Ok : goal.returns-in_err-end-in-Ok
returns-in_err-end-in-Ok c =
    let row = c.in-Ok.ensures in
    let p = err_from_is_err_and c.from_residual.result c.from_residual.ensures.1 in
    rw (p.1, p.2) (bare_lost _ _ _ _ _ _ c.spot_of.ensures row.0 refl c.at_cursor.ensures _ row.1 c.in_err-end-in-Ok.ensures refl)

pub returns-in-Err-Refused : goal.returns-in-Err-Refused
returns-in-Err-Refused c = absurd (never_refused _ _ _ c.open_node.ensures.0 (rw c.in-Err-Refused.field-0-is at c.in-Err-Refused.is))

pub returns-in-Err-Stopped : goal.returns-in-Err-Stopped
returns-in-Err-Stopped c = bare_full _ _ _ _ _ _ c.spot_of.ensures c.open_node.ensures.0 _ (rw c.in-Err-Stopped.field-0-is at c.in-Err-Stopped.is)
