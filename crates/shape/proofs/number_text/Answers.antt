-- `shape::number_text` meets its contract: all of the span's text lies in the text, or some of it, or none.
use native.Mathlib.Omega.{arith}
use Rattle.shape.proofs.Numbers.{text_all, text_some, text_none}
use Rattle.shape.proofs.number_text.Goals as goal

pub returns-then-end-text : goal.returns-then-end-text
returns-then-end-text c = text_all _ _ _ _ _ c.start_at-start.ensures c.length_at.ensures

pub returns-then-start-text : goal.returns-then-start-text
returns-then-start-text c = text_some _ _ _ _ _ c.start_at-start.ensures c.length_at.ensures (omega arith)

pub returns : goal.returns
returns c = text_none _ _ _ _ _ c.start_at-start.ensures c.length_at.ensures (omega arith)
