-- Request 2026-05, "Longer coastlines", over calls of `read` and `infer_type`: "The text limit goes from 65,535 to 4,194,304 bytes in refusal 1, its place and demands 1
-- to 3." Demands 1 to 3 are over `text_limit`, so they say this already; here stands what it comes to, and that "Nothing but the numbers may change for
-- shorter texts". The theorems that give these are in proofs/LongerTexts.
use Rattle.std.specs.Prelude.{◌≡◌, cond, not, ◌↔◌, List, ℕ, ◌≤◌, ◌<◌, ltb, length}
use Rattle.limits.specs.Limits.{text_limit, depth_limit}
use Rattle.refusals.specs.Refusals.{text_too_long, ill_formed_utf8}
use Rattle.utf8.specs.Utf8.{is_utf8, first_ill}
use Rattle.store.specs.Rows.{node_room, number_room, zeros}
use Rattle.store.specs.declared.ReadAnswer.{ReadAnswer}
use Rattle.token_stream.specs.Lex.{lex}
use Rattle.grammar.specs.Asks.{run, answer_in}
use Rattle.grammar.specs.Grammar.{Got, refused, refusal, root}
use Rattle.grammar.specs.Reading.{enough}
use Rattle.wkt.specs.Leaves.{Leaves}
use Rattle.infer_type.specs.declared.Inferred.{Inferred}
use Rattle.infer_type.specs.Infer as infer
use Rattle.infer_type.specs.Infer.{infer_looked}
use Rattle.demands.specs.Calls.{Read, Inferring}

-- "from 65,535"
abbrev pub former_limit : ℕ
former_limit = 65535

-- what a text comes to under any limit, and what infer_type answers: the limit stands in 1 and in its place, and nowhere else
unfoldable pub reading_within : ℕ → ℕ → ℕ → List ℕ → Got
reading_within limit N M text =
    cond (ltb limit (length text)) (refused (refusal text_too_long limit))
    (cond (is_utf8 text) (answer_in (run (root N M enough depth_limit) (lex 0 text))) (refused (refusal ill_formed_utf8 (first_ill text))))

unfoldable pub infer_within : ℕ → List ℕ → Inferred
infer_within limit text =
    cond (ltb limit (length text)) (infer.refused text_too_long limit)
    (cond (not (is_utf8 text)) (infer.refused ill_formed_utf8 (first_ill text))
    (infer_looked text))

-- "Nothing but the numbers may change for shorter texts": a call on a text within the former limit may leave just what it might under that limit
abbrev pub ReadStays : Type 0
ReadStays =
    (text ns ms : List ℕ) (a : ReadAnswer) (ns' ms' : List ℕ) → length text ≤ former_limit →
    Read text ns ms a ns' ms' ↔ Leaves (reading_within former_limit (node_room ns) (number_room ms) text) ns ms a ns' ms'

abbrev pub InferStays : Type 0
InferStays = (text : List ℕ) (r : Inferred) → length text ≤ former_limit → Inferring text r ↔ (r ≡ infer_within former_limit text)

-- "4,194,304 bytes in refusal 1, its place": 1 is told of exactly the longer texts, at 4,194,304, and both slices are all zero then
pub record LongRefused (text ns ms : List ℕ) (a : ReadAnswer) (ns' ms' : List ℕ) : Type 0 where
  pub exactly : (a.number ≡ 1) ↔ (text_limit < length text)
  pub place : text_limit < length text → a.place ≡ text_limit
  pub nodes_zero : text_limit < length text → ns' ≡ zeros (length ns)
  pub numbers_zero : text_limit < length text → ms' ≡ zeros (length ms)

abbrev pub ReadLong : Type 0
ReadLong = (text ns ms : List ℕ) (a : ReadAnswer) (ns' ms' : List ℕ) → Read text ns ms a ns' ms' → LongRefused text ns ms a ns' ms'

-- "infer_type's limit moves too"
abbrev pub InferLong : Type 0
InferLong = (text : List ℕ) (r : Inferred) → Inferring text r → text_limit < length text → r ≡ infer.refused 1 text_limit
