-- `token::bad_number_at` meets its contract.
use native.Mathlib.Omega.{arith}
use Rattle.scan.specs.Bytes.{is_inner}
use Rattle.scan.proofs.Runs.{not_past}
use Rattle.token.proofs.BadNumbers.{nothing_is, gone_is, gone_within}
use Rattle.token.proofs.bad_number_at.Goals as goal

pub returns-then-end-start : goal.returns-then-end-start
returns-then-end-start c = nothing_is _ _ _ _ c.after_plus-start.ensures c.token_end-end.ensures c.if-end-start.true

pub slice_bounds-wrong_at-end : goal.slice_bounds-wrong_at-end
slice_bounds-wrong_at-end c = rw c.token_end-end.ensures (not_past is_inner _ _)

pub overflow_add-result : goal.overflow_add-result
overflow_add-result c =
    omega (arith, gone_within _ _ _ _ c.after_plus-start.ensures c.token_end-end.ensures c.if-end-start.false _ c.wrong_at.ensures)

pub returns : goal.returns
returns c = gone_is _ _ _ _ c.after_plus-start.ensures c.token_end-end.ensures c.if-end-start.false _ c.wrong_at.ensures
