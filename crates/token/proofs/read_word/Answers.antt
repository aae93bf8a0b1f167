-- `token::read_word` meets its contract.
use native.Mathlib.Omega.{arith}
use Rattle.scan.specs.Bytes.{is_inner}
use Rattle.scan.proofs.Runs.{not_before}
use Rattle.token.proofs.Tokens.{word_is}
use Rattle.token.proofs.read_word.Goals as goal

pub overflow_sub-result : goal.overflow_sub-result
overflow_sub-result c = rw c.token_end-end.ensures (not_before is_inner _ _ (omega arith))

pub returns : goal.returns
returns c = word_is _ _ _ _ c.token_end-end.ensures c.after_blank.ensures
