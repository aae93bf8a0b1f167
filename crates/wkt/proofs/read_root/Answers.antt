-- `wkt::read_root` meets its contract: the root that was read keeps the rooms, and the end leaves what it came to.
use Rattle.wkt.proofs.Returns.{root_within, root_left}
use Rattle.wkt.proofs.read_root.Goals as goal

pub finish-requires : goal.finish-requires
finish-requires c =
    let root = c.root-got in
    root_within root.ensures root.auto.nodes root.auto.numbers

pub returns : goal.returns
returns c =
    let root = c.root-got in
    root_left root.ensures root.auto.nodes root.auto.numbers c.finish.ensures
