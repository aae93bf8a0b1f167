-- `bad_numbers::opens_word` meets its contract.
use Rattle.bad_numbers.specs.Openings.{opens_word}
use Rattle.bad_numbers.proofs.opens_word.Goals as goal

pub returns : goal.returns
unfolding opens_word
returns c = rw (c.starts_with_word.ensures, c.starts_with_word-2.ensures, c.starts_with_word-3.ensures)
