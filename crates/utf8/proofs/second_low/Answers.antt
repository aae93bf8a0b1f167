-- Two bytes have a range of their own; all others the same end.
use mathlib.Core.Path.{refl}
use Prim.Native.Nat.{ℕ}
use native.Mathlib.Omega.{arith}
use Rattle.utf8.specs.Utf8.{table}
use Rattle.utf8.specs.Leads.{row_of, second_of}
use Rattle.lists.proofs.Ranges.{all_from}
use Rattle.utf8.proofs.Leads.{but_two}
use Rattle.utf8.proofs.second_low.Goals as goal

pub returns-in-224 : goal.returns-in-224
unfolding second_of row_of table
returns-in-224 c = rw c.in-224.is

pub returns-in-240 : goal.returns-in-240
unfolding second_of row_of table
returns-in-240 c = rw c.in-240.is

pub returns-in_default : goal.returns-in_default
unfolding all_from second_of row_of table
returns-in_default c = but_two (λ (k : ℕ). (second_of k).low) _ 0xE0 0xF0 c.args.b refl (omega arith) (omega arith) (omega arith)
