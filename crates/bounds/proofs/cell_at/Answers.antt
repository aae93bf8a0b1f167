-- `bounds::cell_at` meets its contract: by whether there is such a row.
use Prim.Native.Nat.{◌+◌, ◌*◌}
use lib.IntN.{pos}
use lib.ListN.{get_or}
use mir.Syntax.{w64}
use mir.Val.{SFits}
use borrow.Author.Rules.{rules}
use borrow.Author.Tests.{lt-ltb, le-ltb}
use Rattle.std.proofs.lemmas.Int.{to_z-of_z}
use Rattle.bounds.specs.Bounds.{box_cell}
use Rattle.bounds.proofs.cell_at.Goals as goal

pub returns-then-row-table : goal.returns-then-row-table
unfolding box_cell
returns-then-row-table c =
    let fits : SFits w64 (get_or c.args.table.now (c.args.row * 5 + c.args.column) (pos 0)) = search rules in
    rw (lt-ltb _ _ c.if-row-table.true) (to_z-of_z w64 _ fits)

pub returns : goal.returns
unfolding box_cell
returns c = rw (le-ltb _ _ c.if-row-table.false)
