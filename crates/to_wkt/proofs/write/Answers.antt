-- `to_wkt::write` meets its contract: by the rows, by the walk over them, and by whether the pen has turned full.
use mathlib.Core.Path.{refl, sym, ◌∙◌}
use Rattle.shape.proofs.Checks.{no_walk}
use Rattle.to_wkt.proofs.PutByWalk.{said_ill, treeless, stands, said_full, said_all}
use Rattle.to_wkt.proofs.write.Goals as goal

pub returns-then-not-are_rows : goal.returns-then-not-are_rows
returns-then-not-are_rows c = said_ill _ _ _ refl (no_walk _ _ _ (sym c.are_rows.ensures ∙ c.if-not-are_rows.true)) c.refuse.ensures

pub returns-in_default : goal.returns-in_default
returns-in_default c = said_ill _ _ _ c.put_rows.auto.out (treeless _ _ _ (sym c.are_rows.ensures ∙ c.if-not-are_rows.false) _ _ c.put_rows.ensures c.in_default.is) c.refuse-in_default.ensures

pub returns-then-p : goal.returns-then-p
returns-then-p c = said_full (stands _ _ _ (sym c.are_rows.ensures ∙ c.if-not-are_rows.false) _ _ c.put_rows.ensures _ c.in-Some.is) c.put_rows.auto.out c.if-p.true c.refuse-then-p.ensures

pub returns : goal.returns
returns c = said_all (stands _ _ _ (sym c.are_rows.ensures ∙ c.if-not-are_rows.false) _ _ c.put_rows.ensures _ c.in-Some.is) c.put_rows.auto.out c.if-p.false c.clear_any.ensures
