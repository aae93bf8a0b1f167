-- `bounds::Bounds::around` meets its contract: each side by itself.
use borrow.Author.Rules.{rules}
use Rattle.bounds.specs.Bounds.{merge}
use Rattle.bounds.proofs.Boxes.{same_box, lower_is, higher_is}
use Rattle.bounds.proofs.Bounds.around.Goals as goal

pub returns : goal.returns
unfolding merge
returns c =
    let a = c.args.self in
    let b = c.args.other in
    same_box
    (lower_is a.left b.left (search rules) (search rules) (record { sfits = c.min.type_inv }) c.min.ensures.value)
    (higher_is a.right b.right (search rules) (search rules) (record { sfits = c.max.type_inv }) c.max.ensures.value)
    (lower_is a.bottom b.bottom (search rules) (search rules) (record { sfits = c.min-2.type_inv }) c.min-2.ensures.value)
    (higher_is a.top b.top (search rules) (search rules) (record { sfits = c.max-2.type_inv }) c.max-2.ensures.value)
