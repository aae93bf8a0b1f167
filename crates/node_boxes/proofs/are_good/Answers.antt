-- `node_boxes::are_good` meets its contract: the chain tells whether there is a number that is none.
use mathlib.Core.Path.{◌≡◌, refl}
use Prim.Native.Nat.{◌-◌}
use Rattle.std.specs.Prelude.{Some}
use Rattle.std.proofs.Common.{rules}
use Rattle.std.proofs.iter.runs.Sources.{ranges}
use Rattle.node_boxes.proofs.Numbers.{good_told}
use Rattle.node_boxes.proofs.are_good.Goals as goal

pub returns : goal.returns
returns c =
    good_told c.args.text.now c.args.numbers.now c.args.first c.args.count _ c.all.result refl
    (λ t i h l. let a : c.all.ensures.runs.0.at (i - c.args.first) ≡ Some i = search (rules, ranges) in search (rules, ranges))
    (search (rules, ranges))
