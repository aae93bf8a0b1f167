-- `front_in` meets its contract: too few bytes for a count, a record that the buffer lacks room for, one that is cut, a whole one.
use borrow.Author.Rules.{rules}
use Rattle.records.proofs.Fronts.{front_short, front_large, front_cut, front_whole}
use Rattle.records.proofs.input.front_in.Goals as goal

pub returns-then-to-from-lt-U32_BYTES : goal.returns-then-to-from-lt-U32_BYTES
returns-then-to-from-lt-U32_BYTES c = record { value = front_short _ _ _ c.if-to-from-lt-U32_BYTES.true; in_buffer = tt }

pub returns-then-input-count : goal.returns-then-input-count
returns-then-input-count c = record { value = front_large _ _ _ c.field-count.ensures.value c.if-to-from-lt-U32_BYTES.false c.if-input-count.true; in_buffer = tt }

pub returns-then-to-start : goal.returns-then-to-start
returns-then-to-start c = record { value = front_cut _ _ _ c.field-count.ensures.value c.if-to-from-lt-U32_BYTES.false c.if-input-count.false c.if-to-start.true; in_buffer = tt }

pub returns : goal.returns
returns c = record { value = front_whole _ _ _ c.field-count.ensures.value c.if-to-from-lt-U32_BYTES.false c.if-input-count.false c.if-to-start.false; in_buffer = search rules }
