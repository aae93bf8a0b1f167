-- `wkt::parts::by_commas` meets its contract: parts by commas are a list, whatever a part is.
use mathlib.Core.Path.{refl}
use borrow.Author.Tests.{not-false, not-true}
use native.Mathlib.Omega.{arith}
use Rattle.answers.proofs.ByCommas.{list_first, list_few, list_more, list_less, list_last, list_lost}
use Rattle.wkt.proofs.parts.by_commas.Goals as goal

pub loop-end-init : goal.loop-end-init
loop-end-init g c = list_first c.requires.0 c.requires.1

pub read-requires : goal.read-requires
read-requires g c = c.loop-end.invariant.fits

pub returns-in-Err : goal.returns-in-Err
returns-in-Err g c = list_lost c.loop-end.invariant c.in-Err.ensures refl c.after_refusal.ensures

pub overflow_add-parts : goal.overflow_add-parts
overflow_add-parts g c = omega (arith, list_few c.loop-end.invariant)

pub loop-end-smaller : goal.loop-end-smaller
loop-end-smaller g c = list_less c.loop-end.invariant c.read.ensures c.in-Ok.is c.after_part-passed.ensures (not-false _ c.if-not-passed.false) c.moved-here.ensures

pub loop-end-preserved : goal.loop-end-preserved
loop-end-preserved g c = list_more c.loop-end.invariant c.read.ensures c.in-Ok.is c.after_part-passed.ensures (not-false _ c.if-not-passed.false) c.moved-here.ensures c.read.auto.nodes c.read.auto.numbers

pub returns-then-not-passed : goal.returns-then-not-passed
returns-then-not-passed g c = list_last c.loop-end.invariant c.read.ensures c.in-Ok.is c.after_part-passed.ensures (not-true _ c.if-not-passed.true) c.at_cursor.ensures c.closing.ensures.0 c.closing.ensures.1 c.read.auto.nodes
