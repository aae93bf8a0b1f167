-- `decimal::reckon` meets its contract: a plain text's size comes to what the text does, and any other text is told by itself.
use mathlib.Core.Path.{◌∙◌}
use Rattle.decimal.proofs.Lexemes.{plain_reckoned}
use Rattle.decimal.proofs.reckon.Goals as goal

pub returns-in-Some : goal.returns-in-Some
returns-in-Some c = c.round.ensures ∙ plain_reckoned _ _ _ _ c.in-Some.ensures
