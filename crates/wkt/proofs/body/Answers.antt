-- `wkt::body` meets its contract: each kind goes to the body that its grammar names, and any other kind to the lines.
use borrow.Author.Rules.{rules}
use native.Mathlib.Omega.{arith}
use Rattle.wkt.proofs.Bodies.{body_point, body_line, body_points, body_polygons, body_lines}
use Rattle.wkt.proofs.body.Goals as goal

pub returns-in-1 : goal.returns-in-1
returns-in-1 c = rw (← body_point _ _ _ c.in-1.is) c.body.ensures

pub returns-in-2 : goal.returns-in-2
returns-in-2 c = rw (← body_line _ _ _ (λ e. omega (arith, c.in-2.is)) c.in-2.is) c.by_commas.ensures

pub returns-in-4 : goal.returns-in-4
returns-in-4 c = rw (← body_points _ _ _ (λ e. omega (arith, c.in-4.is)) (λ e. omega (arith, c.in-4.is)) c.in-4.is) c.points.ensures

pub returns-in-6 : goal.returns-in-6
returns-in-6 c = rw (← body_polygons _ _ _ (λ e. omega (arith, c.in-6.is)) (λ e. omega (arith, c.in-6.is)) (λ e. omega (arith, c.in-6.is)) c.in-6.is) c.polygons.ensures

pub returns-in_default : goal.returns-in_default
returns-in_default c = rw (← body_lines c.args.kind _ _ (search rules) (search rules) (search rules) (search rules)) c.by_commas-in_default.ensures
