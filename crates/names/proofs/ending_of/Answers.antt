-- `names::ending_of` meets its contract. The loop's invariant: the endings from `row` on decide.
use mathlib.Core.Path.{sym, ◌∙◌}
use Rattle.names.proofs.Rows.{endings_start, endings_none, ending_sized, ending_passed, ending_found}
use Rattle.names.proofs.ending_of.Goals as goal
use Rattle.names.proofs.ending_of.Goals.{then-w-row+else-has_both, else-w-row}

pub loop-row-init : goal.loop-row-init
loop-row-init c = endings_start _

pub returns-then-has_both : goal.returns-then-has_both
returns-then-has_both c =
    ending_found _ c.loop-row.row c.loop-row-test.true c.if-w-row.true
    (rw (← c.letter_at-first.ensures, ← c.letter_at-second.ensures) (sym c.has_both.ensures ∙ c.if-has_both.true))
    ∙ c.loop-row.invariant

pub loop-row-preserved : goal.loop-row-preserved
loop-row-preserved c =
    (elim c.if-w-row.branch [
      | then-w-row+else-has_both w ↦ ending_passed _ c.loop-row.row c.loop-row-test.true w.if-w-row.true (rw (← c.letter_at-first.ensures, ← c.letter_at-second.ensures) (sym w.has_both.ensures ∙ w.if-has_both.false))
      | else-w-row w ↦ ending_sized _ c.loop-row.row c.loop-row-test.true w.if-w-row.false
    ])
    ∙ c.loop-row.invariant

pub returns : goal.returns
returns c = endings_none _ _ c.loop-row-test.false ∙ c.loop-row.invariant
