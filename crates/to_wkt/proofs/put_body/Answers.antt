-- `to_wkt::put_body` meets its contract: a test of the definition at a time; the coordinates' numbers are among those that there are.
use native.Mathlib.Omega.{arith}
use borrow.Author.Tests.{eq-eqb, ne_eqb, le-leb, lt-leb}
use Rattle.pen.proofs.Puts.{emits, emits_then, emits_as}
use Rattle.to_wkt.specs.Canonical.{put_body}
use Rattle.to_wkt.proofs.Canonical.{width_wide, numbers_fit}
use Rattle.to_wkt.proofs.PutByWalk.{emits_full}
use Rattle.to_wkt.proofs.put_body.Goals as goal

pub returns-then-p : goal.returns-then-p
returns-then-p c = emits_full _ c.if-p.true

pub returns-then-v-eq0 : goal.returns-then-v-eq0
unfolding put_body
returns-then-v-eq0 c = emits_as (emits c.put.ensures) (λ rest. rw (eq-eqb _ _ c.if-v-eq0.true))

pub returns-then-v-gt-KIND_LINESTRING : goal.returns-then-v-gt-KIND_LINESTRING
unfolding put_body
returns-then-v-gt-KIND_LINESTRING c = emits_as (emits c.put_byte.ensures) (λ rest. rw (ne_eqb _ _ c.if-v-eq0.false, lt-leb _ _ c.if-v-gt-KIND_LINESTRING.true))

pub put_coordinates-q-requires : goal.put_coordinates-q-requires
put_coordinates-q-requires c =
    record { wide = width_wide _ _ c.width_of-width.ensures; some = omega (arith, c.if-v-eq0.false); fits = omega (arith, numbers_fit c.args.numbers.now c.args.v c.width_of-width.result c.width_of-width.ensures c.requires c.if-v-gt-KIND_LINESTRING.false) }

pub returns : goal.returns
unfolding put_body
returns c = emits_as (emits_then c.put_coordinates-q.ensures (emits c.put_byte-2.ensures)) (λ rest. rw (ne_eqb _ _ c.if-v-eq0.false, le-leb _ _ c.if-v-gt-KIND_LINESTRING.false, ← c.width_of-width.ensures))
