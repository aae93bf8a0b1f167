-- `decimal::read_fraction` meets its contract: by how many bytes are left, and whether the digits reach the end.
use native.Mathlib.Omega.{arith}
use Rattle.decimal.proofs.Texts.{short_other, short_place, short_small, short_is}
use Rattle.decimal.proofs.read_fraction.Goals as goal

pub returns-then-few-len : goal.returns-then-few-len
returns-then-few-len c = short_other _ _ c.requires _ _ c.read_few-few.ensures.value c.read_few-few.ensures.end c.if-few-len.true

pub to_unit-requires : goal.to_unit-requires
to_unit-requires c = let few = c.read_few-few in
    let place = short_place c.args.w.now c.args.first c.requires few.result.value few.result.end few.ensures.value few.ensures.end in
    (omega (arith, place.1, c.if-len-first-ge-UNIT_PLACES.false), short_small c.args.w.now c.args.first c.requires few.result.value few.result.end few.ensures.value few.ensures.end)

pub returns : goal.returns
returns c = short_is _ _ c.requires _ _ c.read_few-few.ensures.value c.read_few-few.ensures.end (omega (arith, c.if-len-first-ge-UNIT_PLACES.false)) c.if-few-len.false _ c.to_unit.ensures.0
