-- `wkt::coord::coord` meets its contract: plain numbers are what the tokens would have given, and where there are none the tokens are read.
use native.Mathlib.Omega.{arith}
use Rattle.kinds.proofs.Widths.{width_few}
use Rattle.wkt.proofs.Numbers.{plain_coord, kept_ready, token_coord}
use Rattle.wkt.proofs.coord.coord.Goals as goal

pub plain_coord-end-requires : goal.plain_coord-end-requires
plain_coord-end-requires c = (c.requires.short, c.requires.numbers, rw c.width_of-width.ensures (width_few _))

pub overflow_add-result : goal.overflow_add-result
overflow_add-result c = omega (arith, c.requires.numbers, c.width_of-width.ensures, width_few c.args.dimension)

pub returns-then-s-end : goal.returns-then-s-end
returns-then-s-end c = plain_coord c.width_of-width.ensures (c.plain_coord-end.ensures.numbers c.if-s-end.true)

pub by_tokens-requires : goal.by_tokens-requires
by_tokens-requires c = rw c.state_of.ensures (kept_ready c.plain_coord-end.ensures.kept c.requires)

pub returns : goal.returns
returns c = token_coord c.plain_coord-end.ensures.kept (rw c.state_of.ensures at c.by_tokens.ensures)
