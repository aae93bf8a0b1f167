-- `scan::first_not` meets its contract.
use Rattle.std.proofs.Common.{rules, sym, ◌∙◌}
use Rattle.scan.proofs.Runs.{on, stop, past}
use Rattle.scan.proofs.first_not.Goals as goal

pub loop-i-preserved : goal.loop-i-preserved
loop-i-preserved g c = λ p tells.
    on p _ _ c.loop-i-test.true (sym (tells _ _ (search rules) c.test.ensures) ∙ c.if-not-test.false) ∙ c.loop-i.invariant p tells

pub returns-then-not-test : goal.returns-then-not-test
returns-then-not-test g c = λ p tells.
    sym (stop p _ _ c.loop-i-test.true (sym (tells _ _ (search rules) c.test.ensures) ∙ c.if-not-test.true)) ∙ c.loop-i.invariant p tells

pub returns : goal.returns
returns g c = λ p tells. sym (past p _ _ c.loop-i-test.false) ∙ c.loop-i.invariant p tells
