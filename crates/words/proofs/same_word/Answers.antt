-- `words::same_word` meets its contract: words of different lengths are never the same, and one of two of one length begins with the other where it is the same.
use Rattle.std.proofs.Common.{◌∙◌, arith}
use Rattle.words.proofs.Words.{starts_same, not_same}
use Rattle.words.proofs.same_word.Goals as goal

pub returns-then-w-name : goal.returns-then-w-name
returns-then-w-name c = c.starts_with_word.ensures ∙ starts_same _ _ c.if-w-name.true

pub returns-else-w-name : goal.returns-else-w-name
returns-else-w-name c = grind (arith, not_same)
