-- `bad_numbers::word_end` meets its contract. The loop's invariant: up to `end` stands the beginning of a word.
use Rattle.std.proofs.Common.{sym, ◌∙◌}
use Rattle.bad_numbers.proofs.Scans.{word_begins, word_stops, word_past}
use Rattle.bad_numbers.proofs.word_end.Goals as goal

pub loop-end-init : goal.loop-end-init
loop-end-init c = word_begins _ _ c.requires

pub returns-then-not-opens_word : goal.returns-then-not-opens_word
returns-then-not-opens_word c = word_stops _ _ _ c.loop-end.invariant (sym c.opens_word.ensures ∙ c.if-not-opens_word.true)

pub returns : goal.returns
returns c = word_past _ _ _ c.loop-end.invariant c.loop-end-test.false
