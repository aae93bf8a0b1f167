-- `expected::expected_at` meets its contract: nothing stands of the number yet, or what does is a part of the text.
use mathlib.Core.Path.{ap, ◌∙◌}
use borrow.Author.Rules.{rules}
use Rattle.scan.specs.Bytes.{is_plus}
use Rattle.scan.specs.Runs.{after_one_at}
use Rattle.expected.proofs.Laws.{at_start, at_behind, at_within}
use Rattle.expected.proofs.expected_at.Goals as goal

pub returns-then-place-start : goal.returns-then-place-start
returns-then-place-start c = at_start _ _ _ (c.after_plus-start.ensures ∙ ap (after_one_at is_plus _) c.run_start.ensures) (search rules)

pub slice_bounds-expected_after-end : goal.slice_bounds-expected_after-end
slice_bounds-expected_after-end c = at_within _ _ _ (c.after_plus-start.ensures ∙ ap (after_one_at is_plus _) c.run_start.ensures) (search rules)

pub returns : goal.returns
returns c = c.expected_after.ensures ∙ at_behind _ _ _ (c.after_plus-start.ensures ∙ ap (after_one_at is_plus _) c.run_start.ensures)
