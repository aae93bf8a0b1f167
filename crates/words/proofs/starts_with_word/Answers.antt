-- `words::starts_with_word` meets its contract. The loop's invariant: what is left of both words from `i` on decides.
use borrow.Author.Rules.{rules}
use mathlib.Core.Path.{refl, sym, ◌∙◌}
use Rattle.words.proofs.Words.{too_short, starts_on, starts_off, starts_end}
use Rattle.words.proofs.starts_with_word.Goals as goal

pub returns-then-w-name : goal.returns-then-w-name
returns-then-w-name c = too_short _ _ c.if-w-name.true

pub loop-i-init : goal.loop-i-init
loop-i-init c = (c.if-w-name.false, refl)

pub loop-i-preserved : goal.loop-i-preserved
loop-i-preserved c =
    let at = c.loop-i in
    (at.invariant.0, starts_on _ _ at.i (search rules) (search rules) (sym c.same_byte.ensures ∙ c.if-not-same_byte.false) ∙ at.invariant.1)

pub returns-then-not-same_byte : goal.returns-then-not-same_byte
returns-then-not-same_byte c =
    let at = c.loop-i in
    starts_off _ _ at.i (search rules) (search rules) (sym c.same_byte.ensures ∙ c.if-not-same_byte.true) ∙ at.invariant.1

pub returns : goal.returns
returns c = starts_end _ _ c.loop-i.i (search rules) ∙ c.loop-i.invariant.1
