-- `number::read_lexeme` meets its contract.
use borrow.Author.Rules.{rules}
use mathlib.Core.Path.{sym, ◌∙◌}
use native.Mathlib.Omega.{arith}
use Rattle.scan.specs.Bytes.{is_inner}
use Rattle.scan.proofs.Bytes.{or_none}
use Rattle.scan.proofs.Runs.{not_before, not_past}
use Rattle.number.proofs.Text.{lexeme_past, lexeme_decimal, lexeme_named}
use Rattle.number.proofs.read_lexeme.Goals as goal

pub returns-then-text-at : goal.returns-then-text-at
returns-then-text-at c = lexeme_past _ _ _ c.after_sign-at.ensures c.if-text-at.true

pub returns-then-is_digit-b : goal.returns-then-is_digit-b
returns-then-is_digit-b c =
    lexeme_decimal _ _ _ c.after_sign-at.ensures (search rules) _ _ c.is_digit.ensures c.if-is_digit-b.true c.read_decimal.ensures

pub slice_bounds-is_named-count : goal.slice_bounds-is_named-count
slice_bounds-is_named-count c = rw c.token_end-end.ensures (not_before is_inner _ _ (omega arith))

pub slice_bounds-is_named-start : goal.slice_bounds-is_named-start
slice_bounds-is_named-start c = rw c.token_end-end.ensures (not_before is_inner _ _ (omega arith))

pub slice_bounds-is_named-end : goal.slice_bounds-is_named-end
slice_bounds-is_named-end c = rw c.token_end-end.ensures (not_past is_inner _ _)

pub returns : goal.returns
returns c =
    let none = or_none _ _ c.if-is_digit-b.false in
    lexeme_named _ _ _ c.after_sign-at.ensures (search rules) _ _ (sym c.is_digit.ensures ∙ none.0) none.1 c.token_end-end.ensures c.is_named.ensures
