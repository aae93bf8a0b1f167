-- `answers::after_refusal` meets its contract: each way of its match is that of the definition, at the answer it was given.
use mathlib.Core.Path.{◌∙◌}
use Rattle.answers.specs.Reading.{after_refusal}
use Rattle.answers.proofs.Parts.{lost_yes, lost_no}
use Rattle.answers.proofs.after_refusal.Goals as goal

pub returns-in-Ok : goal.returns-in-Ok
unfolding after_refusal
returns-in-Ok c = rw c.in-Ok.is

pub returns-then-token-eq-CLOSE : goal.returns-then-token-eq-CLOSE
returns-then-token-eq-CLOSE c =
    let a = c.in-Err-Refused.is in
    rw (a, rw a at c.in-Err-Refused.field-0-is, c.new.ensures, c.take-token.ensures) (lost_yes _ _ _ (rw c.take-token.ensures at c.if-token-eq-CLOSE.true))

pub returns-else-token-eq-CLOSE : goal.returns-else-token-eq-CLOSE
returns-else-token-eq-CLOSE c =
    let a = c.in-Err-Refused.is in
    rw (a, rw a at c.in-Err-Refused.field-0-is) (rw c.take-token.ensures at c.not_closed.ensures ∙ lost_no _ _ _ (rw c.take-token.ensures at c.if-token-eq-CLOSE.false))

pub returns-in-Err-Stopped : goal.returns-in-Err-Stopped
unfolding after_refusal
returns-in-Err-Stopped c =
    let a = c.in-Err-Stopped.is in
    rw (a, rw a at c.in-Err-Stopped.field-0-is)
