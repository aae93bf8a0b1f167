-- `answers::closing` meets its contract: the node ends behind the `)` that is held or stands right there, or else behind the one that was taken.
use Rattle.std.proofs.Common.{sym, ap, ◌∙◌}
use Rattle.sorts.specs.declared.Taken.{Taken}
use Rattle.sorts.proofs.Tokens.{closes_sort, closes_at_law}
use Rattle.answers.proofs.Parts.{close_yes, close_no}
use Rattle.answers.proofs.closing.Goals as goal
use Rattle.answers.proofs.closing.Goals.{in-Some, in-None+else-token-ne-CLOSE}

pub returns-then-token-ne-CLOSE : goal.returns-then-token-ne-CLOSE
returns-then-token-ne-CLOSE c =
    let e = c.take-token.ensures in
    close_no _ _ _ _ _ (rw e at c.if-token-ne-CLOSE.true) (rw e at c.not_closed.ensures)

pub returns : goal.returns
returns c =
    let a = c.ended.ensures in
    elim c.match-closes.branch [
      | in-Some w ↦ (let e = sym w.in-Some.ensures in close_yes _ _ _ _ _ (closes_sort _ _ _ e) (w.at-is ∙ sym (closes_at_law _ _ _ e)) a.0 a.1)
      | in-None+else-token-ne-CLOSE w ↦ close_yes _ _ _ _ _ (rw w.take-token.ensures at w.if-token-ne-CLOSE.false) (w.at-is ∙ ap (λ (t : Taken). t.at) w.take-token.ensures) a.0 a.1
    ]
