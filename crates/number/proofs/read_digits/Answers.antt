-- `number::read_digits` meets its contract.
use Rattle.number.proofs.Text.{digits_is}
use Rattle.number.proofs.read_digits.Goals as goal

pub returns : goal.returns
returns c = digits_is _ _ _ _ c.digits_end-digits.ensures c.token_end-end.ensures
