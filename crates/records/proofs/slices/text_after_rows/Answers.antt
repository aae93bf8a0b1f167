-- `text_after_rows` meets its contract: both lengths are those told.
use Rattle.records.proofs.Records.{after_rows}
use Rattle.records.proofs.slices.text_after_rows.Goals as goal

pub returns : goal.returns
returns c = after_rows _ c.field.ensures.value c.field-2.ensures.value
