-- What a way to come by the next token answers: the step that the token reader's definition has, whatever the way.
use Rattle.std.specs.Prelude.{ℕ, List, ◌≡◌}
use Rattle.tokenizer.specs.declared.Cursor.{Cursor}
use Rattle.tokenizer.specs.declared.Step.{Step}
use Rattle.tokenizer.specs.Tokens.{step, take_at, cursor_at}
use Rattle.token_reader.specs.Reader.{nth_from}
use Rattle.tokens.specs.declared.ways.Look.{Look}
use Rattle.tokens.specs.declared.ways.Way.{Way}

-- a step in the code, known by what its calls answer, answers at each cursor what the definition does
abbrev pub Steps : (Cursor → Step → Type 0) → (Cursor → Step) → Type 0
Steps answers known = (c : Cursor) (r : Step) → answers c r → r ≡ known c

-- what one of three steps found, with the cursor of the last
unfoldable pub shown_of : Look → Step → Step → Step → Step
shown_of Look.First first second taken = step first.found taken.next
shown_of Look.Second first second taken = step second.found taken.next
shown_of Look.Taken first second taken = step taken.found taken.next

-- the token at the cursor and the cursor after it; counted off, the cursor stays
abbrev pub step_of : Way → List ℕ → Cursor → ℕ → ℕ → Step
step_of Way.Next text c place i = take_at text c
step_of (Way.Peek look) text c place i = take_at text c
step_of Way.Take text c place i = take_at text c
step_of (Way.Look look) text c place i = take_at text c
step_of Way.Nth text c place i = step (nth_from text i (cursor_at place)) c
