-- `pen::put_led` meets its contract: the byte, and the piece stored after it, where there is room.
use mathlib.Core.Path.{◌∙◌}
use mathlib.Core.List.{◌∷◌}
use native.Mathlib.Numerals.{add-one}
use native.Mathlib.Omega.{arith}
use lib.ListN.{length-set}
use Rattle.pen.proofs.Puts.{ends_in, puts_in, puts_out, led_all, led_one}
use Rattle.pen.proofs.put_led.Goals as goal

pub store_piece-requires : goal.store_piece-requires
store_piece-requires c =
    let r = ends_in c.args.p c.args.out.now _ _ c.in-Some.ensures in
    simp length-set (omega (arith, r.1, r.2))

pub returns-in-len1 : goal.returns-in-len1
returns-in-len1 c = puts_in (c.args.lead ∷ c.args.piece.now) _ _ (add-one _) _ _ c.in-Some.ensures (led_one c.args.out.now c.args.piece.now c.args.p.at c.args.lead (omega arith))

pub returns-in_default : goal.returns-in_default
returns-in_default c = puts_in (c.args.lead ∷ c.args.piece.now) _ _ (add-one _) _ _ c.in-Some.ensures (c.store_piece.ensures ∙ led_all c.args.out.now c.args.piece.now c.args.p.at c.args.lead)

pub returns-in-None : goal.returns-in-None
returns-in-None c = puts_out (c.args.lead ∷ c.args.piece.now) _ _ (add-one _) c.in-None.ensures
