-- `number::is_plain` meets its contract.
use Rattle.std.proofs.Common.{◌∙◌, sym, arith}
use borrow.Author.Tests.{ltb-true, ltb-false, eqb-true}
use Rattle.number.proofs.Plain.{alone, whole_behind, digits_only, then_other, then_point, then_nothing}
use Rattle.number.proofs.is_plain.Goals as goal
use Rattle.number.proofs.is_plain.Goals.{then-w-whole-eq46, else-w-whole-eq46}

pub returns-then-w-eq1 : goal.returns-then-w-eq1
returns-then-w-eq1 c = c.is_digit.ensures ∙ alone _ c.if-w-eq1.true

pub returns-then-w-whole : goal.returns-then-w-whole
returns-then-w-whole c = digits_only _ _ _ c.after_sign-first.ensures c.digits_end-whole.ensures c.if-w-whole.true

pub overflow_add-first : goal.overflow_add-first
overflow_add-first c =
    let behind = whole_behind _ _ _ c.after_sign-first.ensures c.digits_end-whole.ensures in
    omega (arith, behind, c.if-w-whole.false, c.digits_end-whole.ensures)

pub returns-then-first-w : goal.returns-then-first-w
returns-then-first-w c =
    elim c.if-w-whole-eq46.branch [
      | then-w-whole-eq46 w ↦ then_point _ _ _ c.after_sign-first.ensures c.digits_end-whole.ensures c.if-w-whole.false _ w.if-w-whole-eq46.true ((c.digits_end.ensures ∙ c.past_fours.ensures)) (ltb-true _ _ (sym w.value-is ∙ c.if-first-w.true))
      | else-w-whole-eq46 w ↦ absurd (w.if-w-whole-eq46.false (eqb-true _ _ (sym w.value-is ∙ c.if-first-w.true)))
    ]

pub returns-else-first-w : goal.returns-else-first-w
returns-else-first-w c =
    elim c.if-w-whole-eq46.branch [
      | then-w-whole-eq46 w ↦ c.if-first-w.false ∙ then_nothing _ _ _ c.after_sign-first.ensures c.digits_end-whole.ensures c.if-w-whole.false w.if-w-whole-eq46.true (ltb-false _ _ (sym w.value-is ∙ c.if-first-w.false))
      | else-w-whole-eq46 w ↦ c.if-first-w.false ∙ then_other _ _ _ c.after_sign-first.ensures c.digits_end-whole.ensures c.if-w-whole.false w.if-w-whole-eq46.false
    ]
