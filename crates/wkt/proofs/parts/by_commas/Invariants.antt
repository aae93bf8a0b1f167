-- What `wkt::parts::by_commas` keeps true in its loop, and what falls.
use Rattle.tokenizer.specs.Tokens.{cursor_at}
use Rattle.token_stream.specs.Stream.{size, stream}
use Rattle.answers.proofs.ByCommas.{ListInv}
use Rattle.wkt.proofs.parts.by_commas.Given as goal

abbrev pub invariant-loop-end : goal.invariant-loop-end
invariant-loop-end g l = ListInv l.text l.row (g.P.ByCommas.means l.dimension) l.initial.nodes l.initial.numbers l.initial.here l.nodes l.numbers l.parts l.here

abbrev pub decreases-loop-end : goal.decreases-loop-end
decreases-loop-end g l = size (stream l.text (cursor_at l.here.at))
