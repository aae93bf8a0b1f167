-- Each way through the `match` is a range of bytes over which `width_of` is one number: the range's first byte, and how many there are.
use mathlib.Core.Path.{refl}
use native.Mathlib.Omega.{arith}
use Rattle.utf8.specs.Utf8.{table}
use Rattle.utf8.specs.Leads.{row_of, width_of}
use Rattle.lists.proofs.Ranges.{all_from}
use Rattle.utf8.proofs.Leads.{over}
use Rattle.utf8.proofs.width_of.Goals as goal

pub returns-in-0-to-127 : goal.returns-in-0-to-127
unfolding all_from width_of row_of table
returns-in-0-to-127 c = over width_of _ 0x00 128 c.args.b refl (omega arith) (omega arith)

pub returns-in-194-to-223 : goal.returns-in-194-to-223
unfolding all_from width_of row_of table
returns-in-194-to-223 c = over width_of _ 0xC2 30 c.args.b refl (omega arith) (omega arith)

pub returns-in-224-to-239 : goal.returns-in-224-to-239
unfolding all_from width_of row_of table
returns-in-224-to-239 c = over width_of _ 0xE0 16 c.args.b refl (omega arith) (omega arith)

pub returns-in-240-to-244 : goal.returns-in-240-to-244
unfolding all_from width_of row_of table
returns-in-240-to-244 c = over width_of _ 0xF0 5 c.args.b refl (omega arith) (omega arith)

pub returns-in_default : goal.returns-in_default
unfolding all_from width_of row_of table
returns-in_default c = over width_of _ 0x80 66 c.args.b refl (omega arith) (omega arith)

pub returns-in_default-2 : goal.returns-in_default-2
unfolding all_from width_of row_of table
returns-in_default-2 c = over width_of _ 0xF5 11 c.args.b refl (omega arith) (omega arith)
