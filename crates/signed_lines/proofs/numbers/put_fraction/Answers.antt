-- `put_fraction` meets its contract: the digits are those that the divisions leave.
use Rattle.signed_lines.proofs.Pieces.{digits_are}
use Rattle.signed_lines.proofs.numbers.put_fraction.Goals as goal

pub returns : goal.returns
returns c =
    let e = digits_are c.args.size c.digit.ensures c.digit-2.ensures c.digit-3.ensures c.digit-4.ensures c.digit-5.ensures c.digit-6.ensures c.digit-7.ensures in
    rw e at c.put.ensures
