-- What a call of `read` answers and leaves in both slices: one function of the text and the slices' lengths.
use Rattle.std.specs.Prelude.{List, ℕ}
use Rattle.limits.specs.Limits.{depth_limit}
use Rattle.token_stream.specs.Stream.{toks}
use Rattle.store.specs.Rows.{rows_in, spans_in}
use Rattle.grammar.specs.Asks.{run, answer_in}
use Rattle.grammar.specs.Grammar.{out, Got, ok, refused, halt, root}
use Rattle.grammar.specs.Reading.{enough}
use Rattle.answers.specs.Reading.{Answer, got_of}
use Rattle.store.specs.declared.ReadAnswer.{ReadAnswer}
use Rattle.store.specs.Answers as answers
use Rattle.store.specs.Answers.{Outcome, filled, read_answer}

-- the rows, or the refusal; whether a refusal is a halt is the grammar's own matter
abbrev pub outcome_of : Got → Outcome
outcome_of (ok (out rs ss)) = filled rs ss
outcome_of (refused r) = answers.refused r.number r.place
outcome_of (halt r) = answers.refused r.number r.place

abbrev pub answer_of : Got → ReadAnswer
answer_of g = read_answer (outcome_of g)

abbrev pub Leaves : Got → List ℕ → List ℕ → ReadAnswer → List ℕ → List ℕ → Type 0
Leaves g ns ms a ns' ms' = answers.Leaves (outcome_of g) ns ms a ns' ms'

-- what the tokens of a text are read to
unfoldable pub root_in : ℕ → ℕ → List ℕ → Got
root_in N M text = answer_in (run (root N M enough depth_limit) (toks text 0))

-- the slices as they were read into are left with the rows used, whatever the text
pub record Finishes (got : Answer) (ns ms : List ℕ) (a : ReadAnswer) (ns' ms' : List ℕ) : Type 0 where
  pub met : (text : List ℕ) → Leaves (got_of (rows_in ns) (spans_in text ms) got) ns ms a ns' ms'
