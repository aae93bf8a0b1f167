-- `nodes::numbers_of` meets its contract: four times a u32 fits.
use native.Mathlib.Omega.{arith}
use borrow.Author.Tests.{le-leb, lt-leb}
use Rattle.kinds.proofs.Widths.{width_few}
use Rattle.nodes.specs.Nodes.{numbers_of}
use Rattle.nodes.proofs.Sizes.{four_fit}
use Rattle.nodes.proofs.numbers_of.Goals as goal

pub overflow_mul-result : goal.overflow_mul-result
overflow_mul-result c = record { fits = four_fit _ _ (omega arith) (rw c.width_of.ensures (width_few _)) }

pub returns-then-v-le-KIND_LINESTRING : goal.returns-then-v-le-KIND_LINESTRING
unfolding numbers_of
returns-then-v-le-KIND_LINESTRING c = simp (le-leb _ _ c.if-v-le-KIND_LINESTRING.true, c.width_of.ensures)

pub returns : goal.returns
unfolding numbers_of
returns c = simp (lt-leb _ _ c.if-v-le-KIND_LINESTRING.false)
