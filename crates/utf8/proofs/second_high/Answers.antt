-- Two bytes have a range of their own; all others the same end.
use mathlib.Core.Path.{refl}
use Prim.Native.Nat.{ℕ}
use native.Mathlib.Omega.{arith}
use Rattle.utf8.specs.Utf8.{table}
use Rattle.utf8.specs.Leads.{row_of, second_of}
use Rattle.lists.proofs.Ranges.{all_from}
use Rattle.utf8.proofs.Leads.{but_two}
use Rattle.utf8.proofs.second_high.Goals as goal

pub returns-in-237 : goal.returns-in-237
unfolding second_of row_of table
returns-in-237 c = rw c.in-237.is

pub returns-in-244 : goal.returns-in-244
unfolding second_of row_of table
returns-in-244 c = rw c.in-244.is

pub returns-in_default : goal.returns-in_default
unfolding all_from second_of row_of table
returns-in_default c = but_two (λ (k : ℕ). (second_of k).high) _ 0xED 0xF4 c.args.b refl (omega arith) (omega arith) (omega arith)
