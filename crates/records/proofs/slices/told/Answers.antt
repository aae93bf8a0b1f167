-- `told` meets its contract: all fit, or something does not.
use borrow.Author.Rules.{rules}
use Rattle.records.proofs.Records.{told_fits, told_lacks, told_within}
use Rattle.records.proofs.slices.told.Goals as goal

pub returns-then-nodes-numbers : goal.returns-then-nodes-numbers
returns-then-nodes-numbers c = record { value = told_fits _ _ c.field-nodes.ensures.value c.field-numbers.ensures.value c.has_text.ensures c.if-nodes-numbers.true; within = told_within _ _ c.field-nodes.ensures.value c.field-numbers.ensures.value c.has_text.ensures c.if-nodes-numbers.true }

pub returns-else-nodes-numbers : goal.returns-else-nodes-numbers
returns-else-nodes-numbers c = record { value = told_lacks _ _ c.field-nodes.ensures.value c.field-numbers.ensures.value c.has_text.ensures c.if-nodes-numbers.false; within = search rules }
