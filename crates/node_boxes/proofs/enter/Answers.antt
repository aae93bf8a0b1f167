-- `node_boxes::enter` meets its contract: by whether the node has coordinates itself.
use borrow.Author.Tests.{le-leb, lt-leb}
use Rattle.node_boxes.specs.Turns.{own, entered}
use Rattle.node_boxes.proofs.Loops.{entered_other}
use Rattle.node_boxes.proofs.enter.Goals as goal

pub look_at_all-requires : goal.look_at_all-requires
look_at_all-requires c = c.requires c.if-v-le-KIND_LINESTRING.true

pub returns-then-v-le-KIND_LINESTRING : goal.returns-then-v-le-KIND_LINESTRING
unfolding own entered
returns-then-v-le-KIND_LINESTRING c =
    let h = c.if-v-le-KIND_LINESTRING.true in
    record { seen = rw (le-leb _ _ h) c.look_at_all.ensures.seen; table = rw (le-leb _ _ h) c.look_at_all.ensures.table }

pub returns : goal.returns
unfolding own
returns c =
    let h = c.if-v-le-KIND_LINESTRING.false in
    record { seen = rw (lt-leb _ _ h) c.nothing_seen.ensures; table = entered_other _ _ c.args.v _ h c.«open».ensures c.end_leaf.ensures }
