-- `names::has_letters` meets its contract. Both loops' invariant: what is left of the word and the name from `i` on decides.
use mathlib.Core.Path.{sym, ap, ◌∙◌}
use Rattle.names.proofs.Capitals.{no_cases, left_start, letters_short, letters_within, letters_end, letters_on, letters_off, letters_four, letters_four_off}
use Rattle.names.proofs.has_letters.Goals as goal

pub returns-then-w-length : goal.returns-then-w-length
returns-then-w-length c = letters_short _ _ _ c.requires.0 c.if-w-length.true

pub loop-i-init : goal.loop-i-init
loop-i-init c = (c.if-w-length.false, left_start _ _)

pub overflow_sub-length : goal.overflow_sub-length
overflow_sub-length c = letters_within _ _ _ c.requires.0 _ c.loop-i.invariant.1

pub returns-then-four_at : goal.returns-then-four_at
returns-then-four_at c =
    let at = c.loop-i in
    letters_four_off _ _ _ c.requires.0 at.i at.invariant.1 at.invariant.0 c.requires.1 (λ j. (c.type_inv.w j).fits) c.loop-i-test.true (λ e. c.if-four_at.true (ap no_cases c.four_at.ensures ∙ e ∙ sym c.four_at-in-loop-i.ensures))

pub loop-i-preserved : goal.loop-i-preserved
loop-i-preserved c =
    let at = c.loop-i in
    (at.invariant.0, letters_four _ _ _ c.requires.0 at.i at.invariant.1 at.invariant.0 c.requires.1 (λ j. (c.type_inv.w j).fits) c.loop-i-test.true (ap no_cases (sym c.four_at.ensures) ∙ c.if-four_at.false ∙ c.four_at-in-loop-i.ensures))

pub returns-then-w-place : goal.returns-then-w-place
returns-then-w-place c =
    let at = c.loop-place in
    letters_off _ _ _ c.requires.0 at.place at.invariant.1 at.invariant.0 c.requires.1 (λ j. (c.type_inv.w j).fits) c.loop-place-test.true c.if-w-place.true

pub loop-place-preserved : goal.loop-place-preserved
loop-place-preserved c =
    let at = c.loop-place in
    (at.invariant.0, letters_on _ _ _ c.requires.0 at.place at.invariant.1 at.invariant.0 c.requires.1 (λ j. (c.type_inv.w j).fits) c.loop-place-test.true c.if-w-place.false)

pub returns : goal.returns
returns c = letters_end _ _ _ c.requires.0 _ c.loop-place.invariant.1 c.loop-place-test.false
