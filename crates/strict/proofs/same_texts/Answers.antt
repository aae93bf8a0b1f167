-- `strict::same_texts` meets its contract: the chain tells whether there is a number whose text differs.
use mathlib.Core.Path.{◌≡◌}
use Rattle.std.specs.Prelude.{Some}
use Rattle.std.proofs.Common.{rules}
use Rattle.std.proofs.iter.runs.Sources.{ranges}
use Rattle.strict.proofs.Rules.{texts_told}
use Rattle.strict.proofs.same_texts.Goals as goal

pub returns : goal.returns
returns c =
    texts_told c.args.text.now c.args.numbers.now c.args.first c.args.last c.args.width c.all.result
    (λ t i h. let a : c.all.ensures.runs.0.at i ≡ Some i = search (rules, ranges) in search (rules, ranges))
    (search (rules, ranges))
