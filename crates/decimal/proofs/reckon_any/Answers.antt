-- `decimal::reckon_any` meets its contract: by its first byte behind the sign, whether it is a word or a decimal, and its size.
use mathlib.Core.Path.{sym, ◌∙◌}
use Rattle.std.proofs.lemmas.Result.{err_from_is_err_and}
use Rattle.decimal.proofs.Lexemes.{no_lexeme, only_sign, is_word, refused, is_sized_law}
use Rattle.decimal.proofs.reckon_any.Goals as goal

pub returns-then-w-from : goal.returns-then-w-from
returns-then-w-from c = only_sign _ _ c.after_sign-from.ensures c.if-w-from.true

pub returns-then-is_lexeme : goal.returns-then-is_lexeme
returns-then-is_lexeme c = is_word _ _ c.after_sign-from.ensures c.if-w-from.false _ c.is_digit.ensures (sym c.is_lexeme.ensures ∙ c.if-is_lexeme.true) (c.if-not-is_digit-b.true)

pub returns-else-is_lexeme : goal.returns-else-is_lexeme
returns-else-is_lexeme c = no_lexeme _ (sym c.is_lexeme.ensures ∙ c.if-is_lexeme.false)

pub returns-in_err-size : goal.returns-in_err-size
returns-in_err-size c =
    let p = err_from_is_err_and c.from_residual.result c.from_residual.ensures.1 in
    rw (p.1, p.2) (refused _ _ c.after_sign-from.ensures c.if-w-from.false _ c.is_digit.ensures c.if-not-is_digit-b.false _ c.in_err-size.ensures)

pub returns : goal.returns
returns c =
    let told = c.in_ok-size.ensures in
    c.round.ensures ∙ is_sized_law _ _ c.after_sign-from.ensures c.if-w-from.false _ c.is_digit.ensures c.if-not-is_digit-b.false told.0 _ _ told.1
