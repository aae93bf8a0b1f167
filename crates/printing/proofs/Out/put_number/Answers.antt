-- `Out::put_number` meets its contract: what `io::decimal` makes are the number's digits.
use Rattle.std.proofs.Common.{◌∙◌}
use Rattle.printing.proofs.Digits.{digits_are}
use Rattle.printing.proofs.Out.put_number.Goals as goal

pub returns : goal.returns
returns c =
    let e = c.decimal-count.ensures.digits ∙ digits_are _ _ c.decimal-count.ensures.len in
    rw e at c.put.ensures
