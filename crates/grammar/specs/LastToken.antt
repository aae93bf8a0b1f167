-- How far a reading looks into a text.
use Rattle.std.specs.Prelude.{ℕ, List, [], ◌∷◌}
use Rattle.limits.specs.Limits.{depth_limit}
use Rattle.token_stream.specs.Stream.{Tok, tok, none_tk, Str, hd, tl}
use Rattle.token_stream.specs.Lex.{lex}
use Rattle.grammar.specs.Asks.{P, ret, ask, look}
use Rattle.grammar.specs.Grammar.{Out, out, root}
use Rattle.grammar.specs.Reading.{enough}

-- the last token of a stream that a reader takes or looks at (z, if there is none)
unfoldable pub last_of : {A : Type 0} → P A → Str → Tok → Tok
last_of (ret a) s z = z
last_of (ask k) s z = last_of (k (hd s)) (tl s) (hd s)
last_of (look k) s z = last_of (k (hd s)) s (hd s)

-- the last token that the reading of a text takes or looks at
abbrev pub last_token : ℕ → ℕ → List ℕ → Tok
last_token N M text = last_of (root N M enough depth_limit) (lex 0 text) (tok 0 none_tk)

-- the parts of the root, whose row is the first: 0 if the root is EMPTY
abbrev pub root_parts : Out → ℕ
root_parts (out [] ss) = 0
root_parts (out (r ∷ rs) ss) = r.parts
