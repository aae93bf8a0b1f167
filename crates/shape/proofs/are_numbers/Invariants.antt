-- What `shape::are_numbers` keeps true in its loop.
use mathlib.Core.Path.{◌≡◌}
use mathlib.Core.Bool.{true}
use Rattle.lists.specs.Lists.{every}
use Rattle.store.specs.Rows.{spans_in}
use Rattle.shape.specs.Numbers.{is_number}
use Rattle.shape.proofs.are_numbers.Given as goal

abbrev pub invariant-loop-i : goal.invariant-loop-i
invariant-loop-i l = every (is_number l.text) (spans_in l.text l.numbers l.i) ≡ true
