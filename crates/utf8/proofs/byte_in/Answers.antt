-- Past the end no byte stands; before it, the byte that is read is tested.
use Rattle.scan.proofs.Front.{begins_at, begins_past}
use Rattle.utf8.specs.Utf8.{holds, ◌‥◌}
use borrow.Author.Rules.{rules}
use Rattle.utf8.proofs.byte_in.Goals as goal

pub returns-then-text-i : goal.returns-then-text-i
returns-then-text-i c = begins_past _ _ _ c.if-text-i.true

pub returns : goal.returns
returns c = let a = c.args in begins_at (holds (a.low ‥ a.high)) a.text.now a.i (search rules)
