-- `bounds::put_five` meets its contract: with room its five stores are those of the row, and without it nothing changes.
use Prim.Native.Nat.{◌*◌}
use mir.Syntax.{w64}
use mir.Val.{SFits}
use borrow.Author.Rules.{rules}
use borrow.Author.Tests.{lt-ltb, le-ltb}
use Rattle.bounds.specs.Bounds.{put_five}
use Rattle.bounds.proofs.Boxes.{five_stores}
use Rattle.bounds.proofs.put_five.Goals as goal

pub returns-then-row-table : goal.returns-then-row-table
unfolding put_five
returns-then-row-table c =
    let b = c.args.b in
    let left : SFits w64 b.left = search rules in
    let right : SFits w64 b.right = search rules in
    let bottom : SFits w64 b.bottom = search rules in
    let top : SFits w64 b.top = search rules in
    rw (lt-ltb _ _ c.if-row-table.true) (five_stores c.args.table.now (c.args.row * 5) c.args.first b c.ranges.first left right bottom top)

pub returns-else-row-table : goal.returns-else-row-table
unfolding put_five
returns-else-row-table c = rw (le-ltb _ _ c.if-row-table.false)
