-- `pieces::put_comma` meets its contract: by which child it is.
use borrow.Author.Tests.{eq-eqb, ne_eqb}
use Rattle.pieces.specs.Pieces.{comma_pieces}
use Rattle.pieces.proofs.Pieces.{puts_none, puts_one, puts_as}
use Rattle.pieces.proofs.put_comma.Goals as goal

pub returns-then-v-eq0 : goal.returns-then-v-eq0
unfolding comma_pieces
returns-then-v-eq0 c = puts_as (puts_none _ _) (rw (eq-eqb _ _ c.if-v-eq0.true))

pub returns : goal.returns
unfolding comma_pieces
returns c = puts_as (puts_one c.put_byte.ensures) (rw (ne_eqb _ _ c.if-v-eq0.false))
