-- `fields::field_at` meets its contract.
use mathlib.Core.Path.{◌∙◌}
use native.Mathlib.Omega.{arith}
use Rattle.fields.proofs.Looks.{cut_faulty, length_read, found_faulty, found_whole}
use Rattle.fields.proofs.field_at.Goals as goal

pub returns-then-len-lt-HEAD : goal.returns-then-len-lt-HEAD
returns-then-len-lt-HEAD c = cut_faulty _ _ _ (omega arith)

pub returns-then-len-at : goal.returns-then-len-at
returns-then-len-at c = cut_faulty _ _ _ (omega arith)

pub returns-then-bytes-at : goal.returns-then-bytes-at
returns-then-bytes-at c = found_faulty _ _ _ (omega arith) _ (c.count_in-length.ensures ∙ length_read _ _ (λ i. (c.type_inv.bytes i).fits)) c.if-bytes-at.true

pub returns : goal.returns
returns c = found_whole _ _ _ (omega arith) _ (c.count_in-length.ensures ∙ length_read _ _ (λ i. (c.type_inv.bytes i).fits)) c.if-bytes-at.false
