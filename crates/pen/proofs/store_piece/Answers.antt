-- `pen::store_piece` meets its contract: storing what is left of the piece gives what storing all of it gives.
use mathlib.Core.Path.{refl, sym, ◌∙◌}
use lib.ListN.{length-set}
use Rattle.pen.proofs.Puts.{sets_on, sets_end, sets_start}
use Rattle.pen.proofs.store_piece.Goals as goal

pub loop-i-init : goal.loop-i-init
loop-i-init c = (refl, sets_start c.args.out.now c.args.piece.now c.args.at)

pub loop-i-preserved : goal.loop-i-preserved
loop-i-preserved c = let v = c.loop-i.invariant in (simp length-set v.0, sets_on _ _ _ _ c.loop-i-test.true ∙ v.1)

pub returns : goal.returns
returns c = sym (sets_end _ c.args.piece.now _ _ c.loop-i-test.false) ∙ c.loop-i.invariant.1
