-- `walk::opened` meets its contract: a collection is one deeper.
use native.Mathlib.Omega.{arith}
use borrow.Author.Tests.{eq-eqb, ne_eqb}
use lib.Dec.{eqb}
use Rattle.limits.specs.Limits.{depth_limit}
use Rattle.kinds.specs.Kinds.{kind_geometry_collection}
use Rattle.walk.proofs.Sizes.{below_limit}
use Rattle.walk.proofs.opened.Goals as goal

pub overflow_add-depth : goal.overflow_add-depth
overflow_add-depth c = omega (arith, below_limit (eqb c.args.v.kind kind_geometry_collection) c.args.v.parent.depth depth_limit (eq-eqb _ _ c.if-v-eq-KIND_GEOMETRYCOLLECTION.true) c.requires)

pub returns-then-v-eq-KIND_GEOMETRYCOLLECTION : goal.returns-then-v-eq-KIND_GEOMETRYCOLLECTION
returns-then-v-eq-KIND_GEOMETRYCOLLECTION c = rw (eq-eqb _ _ c.if-v-eq-KIND_GEOMETRYCOLLECTION.true)

pub returns-else-v-eq-KIND_GEOMETRYCOLLECTION : goal.returns-else-v-eq-KIND_GEOMETRYCOLLECTION
returns-else-v-eq-KIND_GEOMETRYCOLLECTION c = rw (ne_eqb _ _ c.if-v-eq-KIND_GEOMETRYCOLLECTION.false)
