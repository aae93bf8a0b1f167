-- The loop keeps the answer: `char_width`, if the bytes that aren't looked at yet are as they should be.
use mathlib.Core.Path.{sym, ◌∙◌}
use native.Mathlib.Omega.{arith}
use Rattle.utf8.proofs.Followed.{begins_in, width_rest, more, lacks, done}
use borrow.Author.Rules.{rules}
use Rattle.utf8.proofs.width_at.Goals as goal

pub loop-have-init : goal.loop-have-init
loop-have-init c =
    (omega arith, width_rest _ _ _ _ _ (search rules) c.width_of-width.ensures c.second_low-low.ensures c.second_high-high.ensures)

pub loop-have-preserved : goal.loop-have-preserved
loop-have-preserved c =
    (omega (arith, begins_in _ _ _ (sym c.byte_in.ensures ∙ c.if-not-byte_in.false)), more _ _ _ _ _ _ _ (omega arith) (omega arith) (sym c.byte_in.ensures ∙ c.if-not-byte_in.false) ∙ c.loop-have.invariant.1)

pub returns-then-not-byte_in : goal.returns-then-not-byte_in
returns-then-not-byte_in c = lacks _ _ _ _ _ (omega arith) (sym c.byte_in.ensures ∙ c.if-not-byte_in.true) ∙ c.loop-have.invariant.1

pub returns : goal.returns
returns c = done _ _ _ _ _ (omega arith) ∙ c.loop-have.invariant.1
