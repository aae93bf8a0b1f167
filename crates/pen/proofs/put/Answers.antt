-- `pen::put` meets its contract: the piece is stored where there is room.
use mathlib.Core.Path.{refl}
use native.Mathlib.Omega.{arith}
use Rattle.pen.proofs.Puts.{ends_in, puts_in, puts_out}
use Rattle.pen.proofs.put.Goals as goal

pub store_piece-requires : goal.store_piece-requires
store_piece-requires c =
    let r = ends_in c.args.p c.args.out.now _ _ c.in-Some.ensures in
    omega (arith, r.1, r.2)

pub returns-in-Some : goal.returns-in-Some
returns-in-Some c = puts_in c.args.piece.now _ _ refl _ _ c.in-Some.ensures c.store_piece.ensures

pub returns-in-None : goal.returns-in-None
returns-in-None c = puts_out c.args.piece.now _ _ refl c.in-None.ensures
