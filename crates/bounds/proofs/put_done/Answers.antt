-- `bounds::put_done` meets its contract: by whether it is around nothing.
use mir.Syntax.{w64}
use mir.Val.{SFits}
use borrow.Author.Rules.{rules}
use Rattle.std.proofs.lemmas.Int.{to_z-of_z}
use Rattle.bounds.specs.Bounds.{done_row}
use Rattle.bounds.proofs.put_done.Goals as goal

pub returns-then-b : goal.returns-then-b
unfolding done_row
returns-then-b c =
    let right : SFits w64 c.args.b.right = search rules in
    let left : SFits w64 c.args.b.left = search rules in
    rw (simp to_z-of_z at c.if-b.true) c.put_five.ensures

pub returns-else-b : goal.returns-else-b
unfolding done_row
returns-else-b c =
    let right : SFits w64 c.args.b.right = search rules in
    let left : SFits w64 c.args.b.left = search rules in
    rw (simp to_z-of_z at c.if-b.false) c.put_five-else-b.ensures
