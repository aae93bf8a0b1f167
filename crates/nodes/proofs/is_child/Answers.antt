-- `nodes::is_child` meets its contract: by the kind that `child_kind` tells.
use Rattle.nodes.proofs.is_child.Goals as goal

pub returns : goal.returns
returns c = rw c.child_kind.ensures
