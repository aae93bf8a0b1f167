-- What `number::are_digits` keeps true in its loop.
use mathlib.Core.Path.{◌≡◌}
use lib.ListN.{take}
use Rattle.lists.specs.Lists.{every}
use Rattle.scan.specs.Bytes.{is_digit}
use Rattle.number.proofs.are_digits.Given as goal

abbrev pub invariant-loop-b : goal.invariant-loop-b
invariant-loop-b l = l.all ≡ every is_digit (take l.b-index l.few)
