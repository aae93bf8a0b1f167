-- `scan::is_numberlike` meets its contract.
use Rattle.scan.proofs.is_numberlike.Goals as goal

pub returns : goal.returns
returns c = rw (c.is_digit.ensures, c.is_sign.ensures)
