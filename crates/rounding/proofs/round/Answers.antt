-- `rounding::round` meets its contract: a size within the limit has its sides.
use mathlib.Core.Path.{sym, ap, ◌∙◌}
use Rattle.std.specs.Prelude.{Ok}
use Rattle.rounding.specs.Rounding.{rounded}
use Rattle.rounding.proofs.Limits.{within}
use Rattle.rounding.proofs.round.Goals as goal

pub returns-then-is_over : goal.returns-then-is_over
unfolding rounded
returns-then-is_over c = rw (sym c.is_over.ensures ∙ c.if-is_over.true)

pub sides_of-requires : goal.sides_of-requires
sides_of-requires c = within c.args.whole c.args.left (sym c.is_over.ensures ∙ c.if-is_over.false)

pub returns : goal.returns
unfolding rounded
returns c = rw (sym c.is_over.ensures ∙ c.if-is_over.false) (ap Ok c.sides_of.ensures)
