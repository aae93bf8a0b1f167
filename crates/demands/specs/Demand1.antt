-- Demand 1: one outcome for all input, refused or not, over the u32 slices as the entries see them. The theorems that give these are in proofs/Demand1.
use Rattle.std.specs.Prelude.{◌≡◌, Bool, true, false, ◌||◌, ◌&&◌, ◌⊎◌, ◌↔◌, List, [], ◌∷◌, ◌++◌, ℕ, ◌≤◌, ◌<◌, eqb, leb, length}
use Rattle.std.proofs.Math.Option.{some}
use Rattle.limits.specs.Limits.{over_limit}
use Rattle.utf8.specs.Utf8.{is_utf8}
use Rattle.tokenizer.specs.declared.Cursor.{Cursor}
use Rattle.tokenizer.specs.declared.Step.{Step}
use Rattle.token_stream.specs.Stream.{Str, hd, tl, tok_in, toks, stream}
use Rattle.store.specs.Rows.{Row, Span, node_room, number_room, flat_rows, flat_spans, zeros, padded}
use Rattle.infer_type.specs.declared.Inferred.{Inferred}
use Rattle.refusals.specs.Refusals.{text_too_long, ill_formed_utf8, unsupported_name, neither_paren_nor_empty, non_ascii}
use Rattle.infer_type.specs.Infer as infer
use Rattle.infer_type.specs.Answers.{Answer}
use Rattle.grammar.specs.Answers.{is_refusal, is_halt}
use Rattle.grammar.specs.Grammar.{out}
use Rattle.store.specs.declared.ReadAnswer.{ReadAnswer}
use Rattle.lists.specs.Lists.{All}
use Rattle.nodes.specs.declared.Visit.{Visit}
use Rattle.nodes.specs.declared.Met.{Met}
use Rattle.nodes.specs.declared.Met.TheVariants.{Node}
use Rattle.shape.specs.Store.{well_formed, walk_of}
use Rattle.refusals.specs.Refusals.{ill_formed_store, no_room}
use Rattle.strict.specs.declared.StrictAnswer.{StrictAnswer}
use Rattle.strict.specs.Rules.{no_letter}
use Rattle.strict.specs.Strict.{answer}
use Rattle.strict.specs.Outcome.{RulesHoldAt, Lowest}
use Rattle.store.specs.declared.WriteAnswer.{WriteAnswer}
use Rattle.store.specs.Answers.{wrote, not_written}
use Rattle.to_wkt.specs.Canonical.{written_text}
use Rattle.to_wkt.specs.Write.{Written}
use Rattle.demands.specs.Calls.{Read, used_nodes, used_numbers, Checked, Inferring, Taken, LookedAt}
use Rattle.demands.specs.Steps.{Came, read_whole}
use Rattle.demands.specs.Faults.{PlaceOf}

-- ---- the reader and the writer
-- "prove that two outcomes allowed by it coincide", lent slices included
abbrev pub OneReading : Type 0
OneReading =
    (text ns ms : List ℕ) (a : ReadAnswer) (ns' ms' : List ℕ) (c : ReadAnswer) (ns'' ms'' : List ℕ) → Read text ns ms a ns' ms' → Read text ns ms c ns'' ms'' → (a ≡ c) × (ns' ≡ ns'') × (ms' ≡ ms'')

abbrev pub OneWritten : Type 0
OneWritten = (text nodes numbers : List ℕ) (room : ℕ) (r r' : WriteAnswer) (bytes bytes' : List ℕ) → Written text nodes numbers room r bytes → Written text nodes numbers room r' bytes' → (r ≡ r') × (bytes ≡ bytes')

-- a refusal of `read`: a number of the table, a place in the text or at its end, "all after the place 0", "Unused places are zero after every call."
pub record RefusedReading (text ns ms : List ℕ) (a : ReadAnswer) (ns' ms' : List ℕ) : Type 0 where
  pub number : (is_refusal a.number || is_halt a.number) ≡ true
  pub place : a.place ≤ length text
  pub no_nodes : a.nodes ≡ 0
  pub no_numbers : a.numbers ≡ 0
  pub nodes_zero : ns' ≡ zeros (length ns)
  pub numbers_zero : ms' ≡ zeros (length ms)

abbrev pub ReadRefuses : Type 0
ReadRefuses = (text ns ms : List ℕ) (a : ReadAnswer) (ns' ms' : List ℕ) → Read text ns ms a ns' ms' → (a.number ≡ 0 → ⊥) → RefusedReading text ns ms a ns' ms'

-- and the place by number: `PlaceOf` is the table, with what token can be at fault for what number, and the step that gives it
abbrev pub ReadPlaces : Type 0
ReadPlaces = (text ns ms : List ℕ) (a : ReadAnswer) (ns' ms' : List ℕ) → Read text ns ms a ns' ms' → (a.number ≡ 0 → ⊥) → PlaceOf (node_room ns) (number_room ms) text a.number a.place

-- an accepted reading takes the same steps (`Came`), until no node is open and the root is read; its rows are those of the steps
abbrev pub ReadsBySteps : Type 0
ReadsBySteps =
    (text ns ms : List ℕ) (a : ReadAnswer) (ns' ms' : List ℕ) → Read text ns ms a ns' ms' → a.number ≡ 0 →
    (rs : List Row) × (ss : List Span) × (s : Str) × Came (node_room ns) (number_room ms) (toks text 0) [] read_whole (out rs ss) s × (used_nodes a ns' ≡ flat_rows rs) × (used_numbers a ms' ≡ flat_spans ss)

-- "1 | text over 4,194,304 bytes", "2 | ill-formed UTF-8": exactly then
abbrev pub ReadTooLong : Type 0
ReadTooLong = (text ns ms : List ℕ) (a : ReadAnswer) (ns' ms' : List ℕ) → Read text ns ms a ns' ms' → a.number ≡ text_too_long ↔ over_limit (length text) ≡ true

abbrev pub ReadIllFormed : Type 0
ReadIllFormed = (text ns ms : List ℕ) (a : ReadAnswer) (ns' ms' : List ℕ) → Read text ns ms a ns' ms' → a.number ≡ ill_formed_utf8 ↔ (over_limit (length text) ≡ false) × (is_utf8 text ≡ false)

-- an accepted reading: "Number and place are 0 when accepted", no more rows than there is room for, and zeros after those that are used
pub record AcceptedReading (ns ms : List ℕ) (a : ReadAnswer) (ns' ms' : List ℕ) : Type 0 where
  pub place : a.place ≡ 0
  pub nodes : a.nodes ≤ node_room ns
  pub numbers : a.numbers ≤ number_room ms
  pub nodes_padded : ns' ≡ padded (used_nodes a ns') (length ns)
  pub numbers_padded : ms' ≡ padded (used_numbers a ms') (length ms)

abbrev pub ReadAccepts : Type 0
ReadAccepts = (text ns ms : List ℕ) (a : ReadAnswer) (ns' ms' : List ℕ) → Read text ns ms a ns' ms' → a.number ≡ 0 → AcceptedReading ns ms a ns' ms'

-- a refusal of `write`: 22 or 23 at place 0, and "A refusing writer zeroes its output"
abbrev pub WriteRefuses : Type 0
WriteRefuses = (text nodes numbers : List ℕ) (room : ℕ) (r : WriteAnswer) (bytes : List ℕ) → Written text nodes numbers room r bytes → (r.number ≡ 0 → ⊥) → ((r ≡ not_written ill_formed_store) ⊎ (r ≡ not_written no_room)) × (bytes ≡ zeros room)

-- when each is answered: "The writer tests 22, then 23." "an accepting one zeroes what lies after the text"
pub data Writing (text nodes numbers : List ℕ) (room : ℕ) : WriteAnswer → List ℕ → Type 0 where
  no_store : well_formed text nodes numbers ≡ false → Writing text nodes numbers room (not_written ill_formed_store) (zeros room)
  too_long : well_formed text nodes numbers ≡ true → room < length (written_text text nodes numbers) → Writing text nodes numbers room (not_written no_room) (zeros room)
  fits : well_formed text nodes numbers ≡ true → length (written_text text nodes numbers) ≤ room → Writing text nodes numbers room (wrote (length (written_text text nodes numbers))) (padded (written_text text nodes numbers) room)

abbrev pub WriteAnswers : Type 0
WriteAnswers = (text nodes numbers : List ℕ) (room : ℕ) (r : WriteAnswer) (bytes : List ℕ) → Written text nodes numbers room r bytes → Writing text nodes numbers room r bytes

-- ---- the strict check
abbrev pub OneChecked : Type 0
OneChecked = (text nodes numbers : List ℕ) (r r' : StrictAnswer) → Checked text nodes numbers r → Checked text nodes numbers r' → r ≡ r'

-- "22 [..] store ill formed [..] (strict check: letter and row 0)"; "First failing rule [..] with number 0": a letter and a node row, or none and 0
pub data Verdict (text nodes numbers : List ℕ) : StrictAnswer → Type 0 where
  ill_store : well_formed text nodes numbers ≡ false → Verdict text nodes numbers (answer ill_formed_store no_letter 0)
  -- all rules hold at every node
  passes : {ms : List Met} → well_formed text nodes numbers ≡ true → walk_of text nodes numbers ≡ some ms → All (RulesHoldAt text numbers) ms → Verdict text nodes numbers (answer 0 no_letter 0)
  -- the rule fails at the node of that row, none with a lower letter does, and before that node none fails
  fails : {letter : ℕ} (before : List Met) (v : Visit) (after : List Met) → well_formed text nodes numbers ≡ true → walk_of text nodes numbers ≡ some (before ++ Node v ∷ after) →
      All (RulesHoldAt text numbers) before → Lowest text numbers v letter → v.row < node_room nodes → Verdict text nodes numbers (answer 0 letter v.row)

abbrev pub StrictAnswers : Type 0
StrictAnswers = (text nodes numbers : List ℕ) (r : StrictAnswer) → Checked text nodes numbers r → Verdict text nodes numbers r

-- ---- infer_type
abbrev pub OneInferred : Type 0
OneInferred = (text : List ℕ) (r r' : Inferred) → Inferring text r → Inferring text r' → r ≡ r'

-- each answer with its whole reason, so that the order is told too: 1, 2, 24, then 21, 20, 19. "Place": 1 at the limit, 2 where no whole character starts, 24
-- at the first such byte, 19 to 21 at the first byte after trimming
abbrev pub TypeAnswers : Type 0
TypeAnswers = (text : List ℕ) (r : Inferred) → Inferring text r → Answer text r

abbrev pub is_type_refusal : ℕ → Bool
is_type_refusal e = eqb e text_too_long || eqb e ill_formed_utf8 || leb unsupported_name e && leb e neither_paren_nor_empty || eqb e non_ascii

-- "all after the place 0 when refused"
abbrev pub TypeRefuses : Type 0
TypeRefuses = (text : List ℕ) (r : Inferred) → Inferring text r → (r.number ≡ 0 → ⊥) → (is_type_refusal r.number ≡ true) × (r ≡ infer.refused r.number r.place)

-- ---- the token reader's steps, which refuse nothing
abbrev pub OneTaken : Type 0
OneTaken = (text : List ℕ) (c : Cursor) (r r' : Step) → Taken text c r → Taken text c r' → r ≡ r'

abbrev pub OneLooked : Type 0
OneLooked = (text : List ℕ) (c : Cursor) (r r' : Step) → LookedAt text c r → LookedAt text c r' → r ≡ r'

-- `take` gives the first of the tokens still to come, and leaves the others
abbrev pub TakesFirst : Type 0
TakesFirst = (text : List ℕ) (c : Cursor) (r : Step) → Taken text c r → (tok_in text r.found ≡ hd (stream text c)) × (stream text r.next ≡ tl (stream text c))

-- `look` gives it too, and changes nothing
abbrev pub LooksOnly : Type 0
LooksOnly = (text : List ℕ) (c : Cursor) (r : Step) → LookedAt text c r → (tok_in text r.found ≡ hd (stream text c)) × (stream text r.next ≡ stream text c)

-- "a token looked at and not yet taken is held [..] and comes out once": it is taken as if it had not been looked at
abbrev pub ComesOut : Type 0
ComesOut = (text : List ℕ) (c : Cursor) (r r' : Step) → LookedAt text c r → Taken text r.next r' → Taken text c r'
