-- `has_text` meets its contract: the place lies past the end, or in the bytes.
use Rattle.records.proofs.Records.{text_cut, text_whole}
use Rattle.records.proofs.parts.has_text.Goals as goal

pub returns-then-bytes-at : goal.returns-then-bytes-at
returns-then-bytes-at c = text_cut _ _ c.if-bytes-at.true

pub returns : goal.returns
returns c = text_whole _ _ c.if-bytes-at.false
