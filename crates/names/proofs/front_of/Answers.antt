-- `names::front_of` meets its contract. The loop's invariant: the names from `row` on decide.
use native.Mathlib.Omega.{arith}
use mathlib.Core.Path.{sym, ◌∙◌}
use Rattle.names.proofs.Rows.{name_row, names_start, names_none, no_front, name_passed, name_found, other_first}
use Rattle.names.proofs.front_of.Goals as goal
use Rattle.names.proofs.front_of.Goals.{then-first_of-first+else-has_letters, else-first_of-first}

pub returns-then-w-eq0 : goal.returns-then-w-eq0
returns-then-w-eq0 c = no_front _ c.if-w-eq0.true

pub loop-row-init : goal.loop-row-init
loop-row-init c = names_start _

pub has_letters-requires : goal.has_letters-requires
has_letters-requires c = let row = name_row _ c.loop-row-test.true in (row.inside, row.capital)

pub returns-then-has_letters : goal.returns-then-has_letters
returns-then-has_letters c = name_found _ _ c.loop-row-test.true (sym c.has_letters.ensures ∙ c.if-has_letters.true) ∙ c.loop-row.invariant

pub loop-row-preserved : goal.loop-row-preserved
loop-row-preserved c =
    let h = c.loop-row-test.true in
    (elim c.if-first_of-first.branch [
      | then-first_of-first+else-has_letters w ↦ name_passed _ c.loop-row.row h (sym w.has_letters.ensures ∙ w.if-has_letters.false)
      | else-first_of-first w ↦ name_passed _ c.loop-row.row h (other_first _ c.loop-row.row h (omega (arith, c.if-w-eq0.false)) (c.type_inv.w 0).fits (λ e. w.if-first_of-first.false (c.first_of.ensures ∙ e)))
    ])
    ∙ c.loop-row.invariant

pub returns : goal.returns
returns c = names_none _ _ c.loop-row-test.false ∙ c.loop-row.invariant
