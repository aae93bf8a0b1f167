-- `wkt::read` meets its contract: the tests of length and of UTF-8 are those of the grammar, and the rest is what `read_root` reads.
use mathlib.Core.Path.{sym, ◌∙◌}
use lib.ListN.{length}
use native.Mathlib.Omega.{arith}
use borrow.Author.Tests.{ltb-false}
use Rattle.limits.specs.Limits.{text_limit}
use Rattle.wkt.proofs.Returns.{read_long, read_ill, read_tokens}
use Rattle.wkt.proofs.read.Goals as goal

pub returns-then-is_over : goal.returns-then-is_over
returns-then-is_over c = read_long c.args.text.now (sym c.is_over.ensures ∙ c.if-is_over.true) c.refuse.ensures

pub returns-then-ill-text : goal.returns-then-ill-text
returns-then-ill-text c = read_ill c.args.text.now (sym c.is_over.ensures ∙ c.if-is_over.false) (rw c.first_ill_formed-ill.ensures at c.if-ill-text.true) (rw c.first_ill_formed-ill.ensures at c.refuse-then-ill-text.ensures)

pub read_root-requires : goal.read_root-requires
read_root-requires c = omega (arith, ltb-false text_limit (length c.args.text.now) (sym c.is_over.ensures ∙ c.if-is_over.false))

pub returns : goal.returns
returns c = read_tokens c.args.text.now (sym c.is_over.ensures ∙ c.if-is_over.false) (rw c.first_ill_formed-ill.ensures at c.if-ill-text.false) c.read_root.ensures
