-- Calls of the entries, by their contracts.
use Rattle.std.specs.Prelude.{◌≡◌, List, ℕ, ◌*◌, take}
use Rattle.tokenizer.specs.declared.Cursor.{Cursor}
use Rattle.tokenizer.specs.declared.Step.{Step}
use Rattle.tokenizer.specs.Tokens.{take_at, look_at}
use Rattle.store.specs.Rows.{node_width, number_width, node_room, number_room}
use Rattle.infer_type.specs.declared.Inferred.{Inferred}
use Rattle.infer_type.specs.Infer.{infer_type}
use Rattle.grammar.specs.Reading.{reading}
use Rattle.store.specs.declared.ReadAnswer.{ReadAnswer}
use Rattle.wkt.specs.Leaves.{Leaves}
use Rattle.strict.specs.declared.StrictAnswer.{StrictAnswer}
use Rattle.strict.specs.Strict.{strict_of}

-- what a call of `read` may leave, by its contract
abbrev pub Read : List ℕ → List ℕ → List ℕ → ReadAnswer → List ℕ → List ℕ → Type 0
Read text ns ms a ns' ms' = Leaves (reading (node_room ns) (number_room ms) text) ns ms a ns' ms'

-- "Writer and strict check are lent the used rows only"
abbrev pub used_nodes : ReadAnswer → List ℕ → List ℕ
used_nodes a ns = take (a.nodes * node_width) ns

abbrev pub used_numbers : ReadAnswer → List ℕ → List ℕ
used_numbers a ms = take (a.numbers * number_width) ms

-- what calls of `strict`, of `infer_type` and of a cursor's `take` and `look` may answer: these are lent nothing that they can change
abbrev pub Checked : List ℕ → List ℕ → List ℕ → StrictAnswer → Type 0
Checked text nodes numbers r = r ≡ strict_of text nodes numbers

abbrev pub Inferring : List ℕ → Inferred → Type 0
Inferring text r = r ≡ infer_type text

abbrev pub Taken : List ℕ → Cursor → Step → Type 0
Taken text c r = r ≡ take_at text c

abbrev pub LookedAt : List ℕ → Cursor → Step → Type 0
LookedAt text c r = r ≡ look_at text c
