-- `token_reader::nth` meets its contract: each turn takes one token, and counts it off.
use Rattle.std.proofs.Common.{suc, ◌∙◌, arith}
use Rattle.token_reader.proofs.Reader.{nth_on, nth_here}
use Rattle.token_reader.proofs.nth.Goals as goal

pub loop-preserved : goal.loop-preserved
loop-preserved c = λ left e. nth_on _ left _ _ c.take_from.ensures ∙ c.loop.invariant (suc left) (omega (arith, e))

pub returns : goal.returns
returns c = nth_here _ _ _ c.take_from-2.ensures ∙ c.loop.invariant 0 (omega (arith, c.loop-test.false, c.loop.auto.counter-end))
