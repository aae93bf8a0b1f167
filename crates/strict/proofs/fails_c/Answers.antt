-- `strict::fails_c` meets its contract: a ring is a line string, whose numbers are there.
use mathlib.Core.Path.{sym, ◌∙◌}
use Rattle.strict.specs.Rules.{fails_c}
use Rattle.strict.proofs.Rules.{ring_kind}
use Rattle.strict.proofs.fails_c.Goals as goal

pub is_closed-requires : goal.is_closed-requires
is_closed-requires c = c.requires (ring_kind c.args.v (sym c.is_ring.ensures ∙ c.if-is_ring.true))

pub returns-then-is_ring : goal.returns-then-is_ring
unfolding fails_c
returns-then-is_ring c = rw (sym c.is_ring.ensures ∙ c.if-is_ring.true, c.is_closed.ensures)

pub returns : goal.returns
unfolding fails_c
returns c = rw (sym c.is_ring.ensures ∙ c.if-is_ring.false)
