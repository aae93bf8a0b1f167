-- `expected::expected_after` meets its contract: an answer for each case of the definition.
use mathlib.Core.Path.{sym, ◌∙◌}
use borrow.Author.Rules.{rules}
use Rattle.expected.proofs.Laws.{is_whole, is_sign_law, is_word, is_e_law, is_other}
use Rattle.expected.proofs.expected_after.Goals as goal

pub returns-then-is_lexeme : goal.returns-then-is_lexeme
returns-then-is_lexeme c = is_whole _ (sym c.is_lexeme.ensures ∙ c.if-is_lexeme.true)

pub returns-then-x-at : goal.returns-then-x-at
returns-then-x-at c = is_sign_law _ (sym c.is_lexeme.ensures ∙ c.if-is_lexeme.false) _ c.after_sign-at.ensures (search rules)

pub returns-then-opens_word : goal.returns-then-opens_word
returns-then-opens_word c = is_word _ (sym c.is_lexeme.ensures ∙ c.if-is_lexeme.false) _ c.after_sign-at.ensures (search rules) (sym c.opens_word.ensures ∙ c.if-opens_word.true)

pub returns-then-last : goal.returns-then-last
returns-then-last c = is_e_law _ (sym c.is_lexeme.ensures ∙ c.if-is_lexeme.false) _ c.after_sign-at.ensures (search rules) (sym c.opens_word.ensures ∙ c.if-opens_word.false) c.if-last.true

pub returns-else-last : goal.returns-else-last
returns-else-last c = is_other _ (sym c.is_lexeme.ensures ∙ c.if-is_lexeme.false) _ c.after_sign-at.ensures (search rules) (sym c.opens_word.ensures ∙ c.if-opens_word.false) c.if-last.false
