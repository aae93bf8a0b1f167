-- `wkt::simple_kind` meets its contract: the two tests are those of the definition.
use Rattle.wkt.proofs.Bodies.{kind_in, kind_out}
use Rattle.wkt.proofs.simple_kind.Goals as goal

pub returns-then-kind : goal.returns-then-kind
returns-then-kind c = kind_in _ c.if-kind.true

pub returns-else-kind : goal.returns-else-kind
returns-else-kind c = kind_out _ c.if-kind.false
