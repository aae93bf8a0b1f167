-- Demand 3, over the u32 slices as `read` and `write` see them: one tree, one writing. The theorems that give these are in proofs/Demand3.
use Rattle.std.specs.Prelude.{◌≡◌, true, ◌↔◌, List, ℕ, ◌≤◌, length, take}
use Rattle.limits.specs.Limits.{text_limit, depth_limit}
use Rattle.refusals.specs.Refusals.{ill_formed_store}
use Rattle.store.specs.Rows.{node_room, number_room, zeros}
use Rattle.tree.specs.Tree.{Tree, GoodTree}
use Rattle.canonical_text.specs.Canonical.{canonical_text}
use Rattle.grammar.specs.Reading.{reading, tree_read}
use Rattle.store.specs.declared.ReadAnswer.{ReadAnswer}
use Rattle.shape.specs.Store.{all_texts, well_formed}
use Rattle.form.specs.Form.{Form, TreesEqual, TreesAgain, Entries, Back, OneTreeOneWriting}
use Rattle.store.specs.declared.WriteAnswer.{WriteAnswer}
use Rattle.store.specs.Answers.{wrote}
use Rattle.to_wkt.specs.Canonical.{written_text}
use Rattle.to_wkt.specs.Write.{Written}
use Rattle.demands.specs.Calls.{Read, used_nodes, used_numbers}

-- ---- canonical text as a form
-- of at most 4,194,304 bytes (document 02, 2026-05): longer ones are refused 1
pub record FitsText (t : Tree depth_limit) : Type 0 where
  pub good : GoodTree depth_limit t
  pub short : length (canonical_text t) ≤ text_limit

abbrev pub canonical_form : Form
canonical_form = record { bytes = canonical_text; Fits = FitsText; back = λ N M text. tree_read (reading N M text) }

-- `write` and `read`
abbrev pub text_entries : Entries WriteAnswer ReadAnswer
text_entries =
    record {
      wrote = wrote;
      length_in = λ r. r.length;
      filled = λ n m. record { number = 0; place = 0; nodes = n; numbers = m };
      nodes_in = λ a. a.nodes;
      numbers_in = λ a. a.numbers;
      Writes = Written;
      Reads = Read;
    }

-- over trees
abbrev pub OneWritingOfTrees : Type 0
OneWritingOfTrees = TreesEqual canonical_form × TreesAgain canonical_form

-- over calls of `write` and `read`: accepted, equal exactly when the rows and the number texts are, read back, and written again
abbrev pub OneWritingByCalls : Type 0
OneWritingByCalls = OneTreeOneWriting canonical_form text_entries

-- ---- the same of the canonical text itself
-- a well-formed store with a canonical text of at most 4,194,304 bytes
pub record Short (text nodes numbers : List ℕ) : Type 0 where
  pub well : well_formed text nodes numbers ≡ true
  pub short : length (written_text text nodes numbers) ≤ text_limit

-- "the canonical texts are equal exactly when node rows are equal and number texts are equal, row by row"
abbrev pub OneWriting : Type 0
OneWriting =
    (text nodes numbers text' nodes' numbers' : List ℕ) → Short text nodes numbers → Short text' nodes' numbers' →
    (written_text text nodes numbers ≡ written_text text' nodes' numbers') ↔ ((nodes ≡ nodes') × (all_texts text numbers ≡ all_texts text' numbers'))

-- "such a text, read with store room for the tree, is accepted, gives those node rows and number texts back, and is written again as the same bytes"
abbrev pub ReadsBack : Type 0
ReadsBack =
    (text nodes numbers ns ms : List ℕ) (a : ReadAnswer) (ns' ms' : List ℕ) → Short text nodes numbers → node_room nodes ≤ node_room ns → number_room numbers ≤ number_room ms →
    Read (written_text text nodes numbers) ns ms a ns' ms' → Back canonical_form text_entries text nodes numbers (written_text text nodes numbers) a ns' ms'

-- "every accepted reading's store is well formed"
abbrev pub ReadWell : Type 0
ReadWell = (text ns ms : List ℕ) (a : ReadAnswer) (ns' ms' : List ℕ) → Read text ns ms a ns' ms' → a.number ≡ 0 → well_formed text (used_nodes a ns') (used_numbers a ms') ≡ true

-- "so that write never answers 22 on it"
abbrev pub NeverIll : Type 0
NeverIll =
    (text ns ms : List ℕ) (a : ReadAnswer) (ns' ms' : List ℕ) → Read text ns ms a ns' ms' → a.number ≡ 0 →
    (room : ℕ) (r : WriteAnswer) (out : List ℕ) → Written text (used_nodes a ns') (used_numbers a ms') room r out → r.number ≡ ill_formed_store → ⊥

-- "and reading, writing and reading again gives the same tree": the text is read and written, and what is written is read with room for the tree
abbrev pub ReadsAgain : Type 0
ReadsAgain =
    (text ns ms : List ℕ) (a : ReadAnswer) (ns' ms' : List ℕ) → Read text ns ms a ns' ms' → a.number ≡ 0 → length (written_text text (used_nodes a ns') (used_numbers a ms')) ≤ text_limit →
    (ps qs : List ℕ) (c : ReadAnswer) (ps' qs' : List ℕ) → node_room (used_nodes a ns') ≤ node_room ps → number_room (used_numbers a ms') ≤ number_room qs →
    Read (written_text text (used_nodes a ns') (used_numbers a ms')) ps qs c ps' qs' →
    (used_nodes c ps' ≡ used_nodes a ns') × (all_texts (written_text text (used_nodes a ns') (used_numbers a ms')) (used_numbers c qs') ≡ all_texts text (used_numbers a ms'))

-- ---- what is shut out, "by demand 3's reading back"
-- what a call leaves, and the bytes that it says it wrote; a writer, as a function of the text, the rows and the room
pub record Put : Type 0 where
  pub answer : WriteAnswer
  pub bytes : List ℕ

abbrev pub said_by : Put → List ℕ
said_by p = take p.answer.length p.bytes

abbrev pub Writer : Type 0
Writer = List ℕ → List ℕ → List ℕ → ℕ → Put

-- one that meets the contract of `write`
abbrev pub MeetsWrite : Writer → Type 0
MeetsWrite f = (text nodes numbers : List ℕ) (room : ℕ) → Written text nodes numbers room (f text nodes numbers room).answer (f text nodes numbers room).bytes

-- all that is assumed of a writer here, which is less (`meets_back`): it accepts a store whose canonical text is within the limit, in a room for as much, and what it
-- says it wrote, whatever that is, is read back to the store's node rows and number texts
pub record WritesBack (f : Writer) : Type 0 where
  pub accepts : (text nodes numbers : List ℕ) (room : ℕ) → Short text nodes numbers → text_limit ≤ room → (f text nodes numbers room).answer.number ≡ 0
  pub back : (text nodes numbers : List ℕ) (room : ℕ) → Short text nodes numbers → (f text nodes numbers room).answer.number ≡ 0 →
      (ns ms : List ℕ) (a : ReadAnswer) (ns' ms' : List ℕ) → node_room nodes ≤ node_room ns → number_room numbers ≤ number_room ms → Read (said_by (f text nodes numbers room)) ns ms a ns' ms' →
      (a.number ≡ 0) × (used_nodes a ns' ≡ nodes) × (all_texts (said_by (f text nodes numbers room)) (used_numbers a ms') ≡ all_texts text numbers)

-- "a writer that copies one fixed text" (as an edit of the code: to_wkt/fixed_text)
abbrev pub FixedText : Writer → Type 0
FixedText f =
    (text nodes numbers text' nodes' numbers' : List ℕ) (room : ℕ) → (f text nodes numbers room).answer.number ≡ 0 → (f text' nodes' numbers' room).answer.number ≡ 0 →
    said_by (f text nodes numbers room) ≡ said_by (f text' nodes' numbers' room)

-- "or writes nothing" (c_answers/says_nothing)
abbrev pub WritesNothing : Writer → Type 0
WritesNothing f = (text nodes numbers : List ℕ) (room : ℕ) → (f text nodes numbers room).answer.number ≡ 0 → (f text nodes numbers room).bytes ≡ zeros room

abbrev pub MeetsBack : Type 0
MeetsBack = (f : Writer) → MeetsWrite f → WritesBack f

abbrev pub NoWriter : (Writer → Type 0) → Type 0
NoWriter Bad = (f : Writer) → WritesBack f → Bad f → ⊥
