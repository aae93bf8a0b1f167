-- `pieces::put_head` meets its contract: name, dimension and blank, one after the other.
use mathlib.Core.Path.{sym, ◌∙◌}
use borrow.Author.Tests.{eq-eqb, ne_eqb}
use Rattle.pieces.specs.Pieces.{head_pieces}
use Rattle.pieces.proofs.Pieces.{puts_none, puts_one, puts_then, puts_as}
use Rattle.pieces.proofs.put_head.Goals as goal

pub returns-then-not-is_free : goal.returns-then-not-is_free
unfolding head_pieces
returns-then-not-is_free c = puts_as (puts_none _ _) (rw (sym c.is_free.ensures ∙ c.if-not-is_free.true))

pub returns-then-v-eq0 : goal.returns-then-v-eq0
unfolding head_pieces
returns-then-v-eq0 c = puts_as (puts_then c.put_name-name.ensures (puts_then c.put_dimension-head.ensures (puts_one c.put_byte.ensures))) (rw (sym c.is_free.ensures ∙ c.if-not-is_free.false, eq-eqb _ _ c.if-v-eq0.true))

pub returns : goal.returns
unfolding head_pieces
returns c = puts_as (puts_then c.put_name-name.ensures (puts_then c.put_dimension-head.ensures (puts_none _ _))) (rw (sym c.is_free.ensures ∙ c.if-not-is_free.false, ne_eqb _ _ c.if-v-eq0.false))
