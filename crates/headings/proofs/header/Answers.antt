-- `headings::header` meets its contract.
use mathlib.Core.Path.{sym, ◌∙◌}
use native.Mathlib.Omega.{arith}
use Rattle.names.specs.Names.{ending, is_empty_word}
use Rattle.headings.proofs.Heads.{told, told_word, held_tells, header_open, header_none, header_other, header_dimension, header_empty, header_word}
use Rattle.headings.proofs.header.Goals as goal

pub returns-then-opened : goal.returns-then-opened
returns-then-opened c = header_open _ (rw c.new-cursor.ensures at c.pass_open-opened.ensures) c.if-opened.true

pub returns-then-token-lt-OPEN : goal.returns-then-token-lt-OPEN
returns-then-token-lt-OPEN c = header_none _ (rw c.new-cursor.ensures at c.pass_open-opened.ensures) c.if-opened.false c.take-token.ensures c.if-token-lt-OPEN.true

pub empty-requires : goal.empty-requires
empty-requires c = (told _ _ c.take-token.ensures).fits

pub returns-then-token-ne-WORD : goal.returns-then-token-ne-WORD
returns-then-token-ne-WORD c = header_other _ (rw c.new-cursor.ensures at c.pass_open-opened.ensures) c.if-opened.false c.take-token.ensures c.if-token-lt-OPEN.false c.if-token-ne-WORD.true c.empty.ensures

pub overflow_add-end : goal.overflow_add-end
overflow_add-end c = omega (arith, (told _ _ c.take-token.ensures).fits)

pub slice_bounds-word-end : goal.slice_bounds-word-end
slice_bounds-word-end c = omega (arith, (told _ _ c.take-token.ensures).fits)

pub returns-in-Some : goal.returns-in-Some
returns-in-Some c =
    let e = rw c.new-cursor.ensures at c.pass_open-opened.ensures in
    let n = c.if-opened.false in
    let u = c.take-token.ensures in
    header_dimension _ e n u c.if-token-lt-OPEN.false c.if-token-ne-WORD.false (sym (told_word ending (held_tells _ _ e n u) c.in-Some.ensures)) c.opener.ensures

pub returns-then-is_empty_word : goal.returns-then-is_empty_word
returns-then-is_empty_word c =
    let e = rw c.new-cursor.ensures at c.pass_open-opened.ensures in
    let n = c.if-opened.false in
    let u = c.take-token.ensures in
    let x = held_tells _ _ e n u in
    header_empty _ e n u c.if-token-lt-OPEN.false c.if-token-ne-WORD.false (sym (told_word ending x c.in-None.ensures)) (sym (told_word is_empty_word x c.is_empty_word.ensures) ∙ c.if-is_empty_word.true)

pub returns-else-is_empty_word : goal.returns-else-is_empty_word
returns-else-is_empty_word c =
    let e = rw c.new-cursor.ensures at c.pass_open-opened.ensures in
    let n = c.if-opened.false in
    let u = c.take-token.ensures in
    let x = held_tells _ _ e n u in
    header_word _ e n u c.if-token-lt-OPEN.false c.if-token-ne-WORD.false (sym (told_word ending x c.in-None.ensures)) (sym (told_word is_empty_word x c.is_empty_word.ensures) ∙ c.if-is_empty_word.false)
