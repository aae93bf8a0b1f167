-- `bad_numbers::wrong_at` meets its contract.
use borrow.Author.Rules.{rules}
use mathlib.Core.Path.{sym, ◌∙◌}
use Rattle.scan.proofs.Bytes.{or_none}
use Rattle.bad_numbers.proofs.Scans.{wrong_past, wrong_decimal, wrong_word}
use Rattle.bad_numbers.proofs.wrong_at.Goals as goal

pub returns-then-w-at : goal.returns-then-w-at
returns-then-w-at c = wrong_past _ _ c.after_sign-at.ensures c.if-w-at.true

pub returns-then-is_digit-b : goal.returns-then-is_digit-b
returns-then-is_digit-b c =
    wrong_decimal _ _ c.after_sign-at.ensures (search rules) _ _ c.is_digit.ensures c.if-is_digit-b.true c.decimal_end.ensures

pub returns : goal.returns
returns c =
    let none = or_none _ _ c.if-is_digit-b.false in
    wrong_word _ _ c.after_sign-at.ensures (search rules) _ (sym c.is_digit.ensures ∙ none.0) none.1 c.word_end.ensures
