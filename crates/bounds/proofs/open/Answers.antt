-- `bounds::open` meets its contract: a row below the parent, if the table has that.
use mathlib.Core.Path.{ap, ◌∙◌}
use native.Mathlib.Omega.{arith}
use lib.IntN.{ℤ}
use borrow.Author.Tests.{lt-ltb, le-ltb}
use mir.Syntax.{w64}
use mir.ValLaws.{to_z_pos}
use Rattle.bounds.specs.Bounds.{nothing, five, put_five, opened}
use Rattle.bounds.proofs.open.Goals as goal

pub returns-then-parent-table : goal.returns-then-parent-table
unfolding opened
returns-then-parent-table c = rw (lt-ltb _ _ c.if-parent-table.true) (c.put_five.ensures ∙ ap (λ (p : ℤ). put_five c.args.table.now c.args.row (five p nothing)) (to_z_pos w64 c.args.parent (omega arith)))

pub returns-else-parent-table : goal.returns-else-parent-table
unfolding opened
returns-else-parent-table c = rw (le-ltb _ _ c.if-parent-table.false)
