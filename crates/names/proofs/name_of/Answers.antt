-- `names::name_of` meets its contract: `by_front` gives the meaning by the name at the word's front, and `front_fits` that it lies within the word.
use native.Mathlib.Omega.{arith}
use mathlib.Core.Path.{sym, ◌∙◌}
use Rattle.scan.proofs.Front.{tail_part}
use Rattle.names.proofs.Fronts.{by_front_law, front_fits}
use Rattle.names.proofs.name_of.Goals as goal

pub slice_bounds-after_name-count : goal.slice_bounds-after_name-count
slice_bounds-after_name-count c = omega (arith, front_fits _ _ (sym c.front_of.ensures ∙ c.in-Some.is))

pub slice_bounds-after_name-start : goal.slice_bounds-after_name-start
slice_bounds-after_name-start c = omega (arith, front_fits _ _ (sym c.front_of.ensures ∙ c.in-Some.is))

pub returns-in-Some : goal.returns-in-Some
returns-in-Some c =
    let w = c.args.word.now in
    c.after_name.ensures
    ∙ rw (by_front_law w, ← c.front_of.ensures, c.in-Some.is, tail_part)

pub returns-then-same_word : goal.returns-then-same_word
returns-then-same_word c =
    let w = c.args.word.now in
    rw (by_front_law w, ← c.front_of.ensures, c.in-None.is, ← c.same_word.ensures, c.if-same_word.true)

pub returns-else-same_word : goal.returns-else-same_word
returns-else-same_word c =
    let w = c.args.word.now in
    rw (by_front_law w, ← c.front_of.ensures, c.in-None.is, ← c.same_word.ensures, c.if-same_word.false)
