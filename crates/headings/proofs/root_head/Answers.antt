-- `headings::root_head` meets its contract.
use mathlib.Core.Path.{sym, ◌∙◌}
use native.Mathlib.Omega.{arith}
use Rattle.scan.specs.Bytes.{is_ascii}
use Rattle.lists.specs.Lists.{every}
use Rattle.names.specs.Names.{meaning}
use Rattle.headings.proofs.Ascii.{all_every}
use Rattle.headings.proofs.Heads.{told, told_word, root_no, root_word, root_wide}
use Rattle.headings.proofs.root_head.Goals as goal

pub returns-then-token-ne-WORD : goal.returns-then-token-ne-WORD
returns-then-token-ne-WORD c = root_no c.take_at-token.ensures c.if-token-ne-WORD.true c.refusal_at.ensures c.new.ensures

pub overflow_add-end : goal.overflow_add-end
overflow_add-end c = omega (arith, (told _ _ c.take_at-token.ensures).fits)

pub slice_bounds-word-end : goal.slice_bounds-word-end
slice_bounds-word-end c = omega (arith, (told _ _ c.take_at-token.ensures).fits)

pub returns-then-is_ascii : goal.returns-then-is_ascii
returns-then-is_ascii c =
    let u = c.take_at-token.ensures in
    root_word u c.if-token-ne-WORD.false (sym (told_word (every is_ascii) (told _ _ u) (c.is_ascii.ensures ∙ all_every _ _)) ∙ c.if-is_ascii.true) (told_word meaning (told _ _ u) c.name_of.ensures) c.by_name.ensures

pub returns-else-is_ascii : goal.returns-else-is_ascii
returns-else-is_ascii c =
    let u = c.take_at-token.ensures in
    root_wide u c.if-token-ne-WORD.false (sym (told_word (every is_ascii) (told _ _ u) (c.is_ascii.ensures ∙ all_every _ _)) ∙ c.if-is_ascii.false) c.new-else-is_ascii.ensures
