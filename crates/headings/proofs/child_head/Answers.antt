-- `headings::child_head` meets its contract.
use native.Mathlib.Omega.{arith}
use Rattle.names.specs.Names.{meaning}
use Rattle.headings.proofs.Heads.{told, told_word, child_word, child_no}
use Rattle.headings.proofs.child_head.Goals as goal

pub overflow_add-end : goal.overflow_add-end
overflow_add-end c = omega (arith, (told _ _ c.take_at-token.ensures).fits)

pub slice_bounds-name_of-end : goal.slice_bounds-name_of-end
slice_bounds-name_of-end c = omega (arith, (told _ _ c.take_at-token.ensures).fits)

pub returns-then-token-eq-WORD : goal.returns-then-token-eq-WORD
returns-then-token-eq-WORD c =
    let u = c.take_at-token.ensures in
    child_word u c.if-token-eq-WORD.true (told_word meaning (told _ _ u) c.name_of-name.ensures) c.by_name.ensures

pub returns : goal.returns
returns c = child_no c.take_at-token.ensures c.if-token-eq-WORD.false c.refusal_at.ensures c.new.ensures
