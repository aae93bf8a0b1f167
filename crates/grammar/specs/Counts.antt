-- The count down of the comma loops (`enough`), computed: where it ran out, a list would be refused with 0 at 0.
-- That it never runs out, whatever the text, is a law (`grammar_laws/proofs/Fuel`).
use Rattle.std.specs.Prelude.{◌≡◌, refl, true, [], ◌∷◌}
use Rattle.scan.specs.Text.{bytes}
use Rattle.kinds.specs.Kinds.{kind_line_string, dim_xy}
use Rattle.limits.specs.Limits.{over_limit}
use Rattle.store.specs.Rows.{fresh_row}
use Rattle.token_stream.specs.Lex.{lex}
use Rattle.grammar.specs.Asks.{P, ret, run, answer_in}
use Rattle.grammar.specs.Grammar.{Out, out, Got, ok, items}
use Rattle.grammar.specs.Reading.{enough}
use Rattle.grammar.specs.Edges.{repeated, leaf, nodes, all}

-- a part that takes no token and uses no row
abbrev nothing : Out → P Got
nothing o = ret (ok o)

-- "by commas": a thousand commas stand between 1,001 parts, and all of them are counted
pub thousand_commas :
    answer_in (run (items nothing enough 0 0 (out (fresh_row kind_line_string dim_xy ∷ []) [])) (lex 0 (repeated 1000 (bytes ",")))) ≡ nodes (leaf kind_line_string dim_xy 1001) []
unfolding all
thousand_commas = refl

-- "text over 4,194,304 bytes": a text with as many bytes as the count is over the limit, so no text that is read has as many tokens
pub over_the_limit : over_limit enough ≡ true
over_the_limit = refl
