-- `headings::empty` meets its contract.
use Rattle.headings.proofs.Heads.{empty_no, empty_yes, empty_word_law}
use Rattle.headings.proofs.empty.Goals as goal

pub returns-then-token-ne-WORD : goal.returns-then-token-ne-WORD
returns-then-token-ne-WORD c = empty_no _ _ _ _ c.if-token-ne-WORD.true c.refusal_at.ensures c.new.ensures

pub returns-then-is_empty_word : goal.returns-then-is_empty_word
returns-then-is_empty_word c = empty_yes _ _ _ _ c.if-token-ne-WORD.false _ c.is_empty_word.ensures c.if-is_empty_word.true

pub returns-else-is_empty_word : goal.returns-else-is_empty_word
returns-else-is_empty_word c = empty_word_law _ _ _ _ c.if-token-ne-WORD.false _ c.is_empty_word.ensures c.if-is_empty_word.false c.new-else-is_empty_word.ensures
