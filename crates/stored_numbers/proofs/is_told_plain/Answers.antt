-- `stored_numbers::is_told_plain` meets its contract.
use native.Mathlib.Omega.{arith}
use lib.ListN.{get_or}
use borrow.Author.Tests.{leb-true, ltb-true}
use Rattle.lists.proofs.Cases.{and_both}
use Rattle.stored_numbers.proofs.Light.{not_told, told_digit, told_plain, narrow, some}
use Rattle.stored_numbers.proofs.is_told_plain.Goals as goal

pub returns-then-text-le-WINDOW : goal.returns-then-text-le-WINDOW
returns-then-text-le-WINDOW c = not_told

pub returns-then-len-eq1 : goal.returns-then-len-eq1
returns-then-len-eq1 c = rw c.if-len-eq1.true (told_digit c.args.text.now _ c.if-text-le-WINDOW.false c.is_digit.ensures)

pub returns-then-len-eq0 : goal.returns-then-len-eq0
returns-then-len-eq0 c = not_told

pub overflow_sub-left : goal.overflow_sub-left
overflow_sub-left c = omega (arith, narrow (get_or c.args.text.now 0 0) c.sign_width-from.ensures, some c.if-len-eq0.false)

pub returns-then-left-gt-WINDOW : goal.returns-then-left-gt-WINDOW
returns-then-left-gt-WINDOW c = not_told

pub weight_in-weight-requires : goal.weight_in-weight-requires
weight_in-weight-requires c = (omega (arith, c.if-left-gt-WINDOW.false), omega (arith, narrow (get_or c.args.text.now 0 0) c.sign_width-from.ensures, c.if-text-le-WINDOW.false), c.requires)

pub returns : goal.returns
returns c =
    let thin = narrow (get_or c.args.text.now 0 0) c.sign_width-from.ensures in
    let long = c.if-text-le-WINDOW.false in
    λ t. let both = and_both _ _ t in
    told_plain _ _ _ _ (some c.if-len-eq0.false) (omega (arith, thin, c.if-left-gt-WINDOW.false, long)) c.sign_width-from.ensures c.weight_in-weight.ensures (leb-true _ _ both.0) (ltb-true _ _ both.1)
