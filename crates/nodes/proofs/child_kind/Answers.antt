-- `nodes::child_kind` meets its contract: a test at a time.
use borrow.Author.Tests.{eq-eqb, ne_eqb}
use Rattle.nodes.specs.Nodes.{child_kind}
use Rattle.nodes.proofs.child_kind.Goals as goal

pub returns-then-parent-eq-KIND_MULTIPOINT : goal.returns-then-parent-eq-KIND_MULTIPOINT
unfolding child_kind
returns-then-parent-eq-KIND_MULTIPOINT c = simp (eq-eqb _ _ c.if-parent-eq-KIND_MULTIPOINT.true)

pub returns-then-parent-eq-KIND_MULTIPOLYGON : goal.returns-then-parent-eq-KIND_MULTIPOLYGON
unfolding child_kind
returns-then-parent-eq-KIND_MULTIPOLYGON c = simp (ne_eqb _ _ c.if-parent-eq-KIND_MULTIPOINT.false, eq-eqb _ _ c.if-parent-eq-KIND_MULTIPOLYGON.true)

pub returns : goal.returns
unfolding child_kind
returns c = simp (ne_eqb _ _ c.if-parent-eq-KIND_MULTIPOINT.false, ne_eqb _ _ c.if-parent-eq-KIND_MULTIPOLYGON.false)
