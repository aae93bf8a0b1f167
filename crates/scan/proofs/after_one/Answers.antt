-- `scan::after_one` meets its contract.
use Rattle.std.proofs.Common.{rules, sym, ◌∙◌}
use Rattle.scan.proofs.Runs.{one_on, one_off, one_end}
use Rattle.scan.proofs.after_one.Goals as goal

pub returns-then-text-at : goal.returns-then-text-at
returns-then-text-at g c = λ p tells nul. one_end p _ _ nul c.if-text-at.true

pub returns-then-test : goal.returns-then-test
returns-then-test g c = λ p tells nul. one_on p _ _ (sym (tells _ _ (search rules) c.test.ensures) ∙ c.if-test.true)

pub returns : goal.returns
returns g c = λ p tells nul. one_off p _ _ (sym (tells _ _ (search rules) c.test.ensures) ∙ c.if-test.false)
