-- `number::read_decimal` meets its contract.
use Rattle.number.proofs.Text.{decimal_is}
use Rattle.number.proofs.read_decimal.Goals as goal

pub returns : goal.returns
returns c =
    decimal_is _ _ _ _ _ _ c.digits_end-whole.ensures c.after_point-point.ensures c.digits_end-fraction.ensures c.read_exponent-rest.ensures
