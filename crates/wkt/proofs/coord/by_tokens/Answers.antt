-- `wkt::coord::by_tokens` meets its contract: the coordinate is its numbers one after the other, each from where the one before ended.
use Rattle.wkt.proofs.Numbers.{ready_x, ready_y, ready_z, coord_is}
use Rattle.wkt.proofs.coord.by_tokens.Goals as goal

pub number-x-requires : goal.number-x-requires
number-x-requires c = c.requires

pub then_number-y-requires : goal.then_number-y-requires
then_number-y-requires c =
    let x = c.number-x in
    ready_x x.ensures x.auto.numbers c.requires.short

pub then_number-z-requires : goal.then_number-z-requires
then_number-z-requires c =
    let x = c.number-x in
    let y = c.then_number-y in
    ready_y x.ensures x.auto.numbers y.ensures y.auto.numbers c.requires.short

pub then_number-requires : goal.then_number-requires
then_number-requires c =
    let x = c.number-x in
    let y = c.then_number-y in
    let z = c.then_number-z in
    ready_z x.ensures x.auto.numbers y.ensures y.auto.numbers c.args.dimension (rw c.has_z.ensures at z.ensures) z.auto.numbers c.requires.short

pub returns : goal.returns
returns c =
    let x = c.number-x in
    let y = c.then_number-y in
    let z = c.then_number-z in
    coord_is x.ensures x.auto.numbers y.ensures y.auto.numbers c.args.dimension (rw c.has_z.ensures at z.ensures) z.auto.numbers (rw c.has_m.ensures at c.then_number.ensures)
