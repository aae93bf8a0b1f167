-- `to_wkt::put_node` meets its contract: comma, head and body, one after the other.
use mathlib.Core.Path.{refl}
use Rattle.pen.proofs.Puts.{emits_then, emits_as}
use Rattle.pieces.proofs.Pieces.{comma_emits, head_emits}
use Rattle.to_wkt.specs.Canonical.{put_node}
use Rattle.to_wkt.proofs.PutByWalk.{emits_full}
use Rattle.to_wkt.proofs.put_node.Goals as goal

pub returns-then-p : goal.returns-then-p
returns-then-p c = emits_full _ c.if-p.true

pub returns : goal.returns
unfolding put_node
returns c = emits_as (emits_then (comma_emits _ c.put_comma-comma.ensures) (emits_then (head_emits _ c.put_head-head.ensures) c.put_body.ensures)) (λ rest. refl)
