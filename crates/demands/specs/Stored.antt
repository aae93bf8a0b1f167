-- Requests 2026-01, "Keep a read tree", and 2026-05, stored version 2, over the slices as a version's entries see them (`stored::write_1` and `read_1`, `write_2` and `read_2`). All is said
-- once, of any version. The theorems that give these are in proofs/Stored, and those of the two versions in proofs/Versions.
use Rattle.std.specs.Prelude.{◌≡◌, Bool, true, false, ◌↔◌, List, ℕ, ◌≤◌, ◌<◌, length, take}
use Rattle.std.proofs.Math.Option.{Option, none}
use Rattle.lists.specs.Lists.{All}
use Rattle.limits.specs.Limits.{depth_limit}
use Rattle.refusals.specs.Refusals.{no_room, ill_formed_store, does_not_fit}
use Rattle.store.specs.declared.ReadAnswer.{ReadAnswer}
use Rattle.store.specs.declared.WriteAnswer.{WriteAnswer}
use Rattle.store.specs.Rows.{node_room, number_room, flat_rows, flat_spans, zeros, padded}
use Rattle.store.specs.Answers.{Outcome, filled, refused, Leaves, wrote, not_written, Writes}
use Rattle.tree.specs.Tree.{Tree, GoodTree}
use Rattle.tree.specs.TreeIn.{SpanIn}
use Rattle.shape.specs.Store.{all_rows, all_spans, all_texts, tree_of, well_formed}
use Rattle.form.specs.Form.{Form, TreesEqual, TreesAgain, Entries, Back, OneTreeOneWriting}
use Rattle.fields.specs.Counts.{IsByte}
use Rattle.stored_form.specs.declared.Version.{Version}
use Rattle.stored_form.specs.Form.{stored_rows, fits_rows, stored_bytes, fits_tree, stored_of}
use Rattle.stored_form.specs.Reading.{reading_of}
use Rattle.stored.specs.Faults.{Fault}
use Rattle.strict.specs.declared.StrictAnswer.{StrictAnswer}
use Rattle.to_wkt.specs.Canonical.{written_text}
use Rattle.to_wkt.specs.Write.{Written}
use Rattle.demands.specs.Calls.{Read, used_nodes, used_numbers, Checked}
use Rattle.demands.specs.Demand1.{AcceptedReading}

-- the bytes that a call of a writer says it wrote
abbrev pub stored_in : WriteAnswer → List ℕ → List ℕ
stored_in r out = take r.length out

-- the tree that a reading of bytes comes to
abbrev pub tree_stored : List ℕ → Outcome → Option (Tree depth_limit)
tree_stored bytes (filled rs ss) = tree_of bytes (flat_rows rs) (flat_spans ss)
tree_stored bytes (refused number place) = none

-- what is left has the canonical text of the first store: the canonical writer answers and leaves the same
pub record SameWriting (text nodes numbers bytes : List ℕ) (c : ReadAnswer) (ps qs : List ℕ) : Type 0 where
  pub accepted : c.number ≡ 0
  pub canonical : written_text bytes (used_nodes c ps) (used_numbers c qs) ≡ written_text text nodes numbers
  pub writes : (room : ℕ) (r : WriteAnswer) (out : List ℕ) → Written bytes (used_nodes c ps) (used_numbers c qs) room r out ↔ Written text nodes numbers room r out

module _ (v : Version) where
  -- ---- calls
  -- what a call of the version's writer may answer and leave in its room
  abbrev pub StoredWrite : List ℕ → List ℕ → List ℕ → ℕ → WriteAnswer → List ℕ → Type 0
  StoredWrite text nodes numbers room r out = Writes (stored_of v text nodes numbers) room r out

  -- what a call of its reader may answer and leave
  abbrev pub StoredRead : List ℕ → List ℕ → List ℕ → ReadAnswer → List ℕ → List ℕ → Type 0
  StoredRead bytes ns ms a ns' ms' = Leaves (reading_of v (node_room ns) (number_room ms) bytes) ns ms a ns' ms'

  -- "prove that two outcomes allowed by it coincide"
  abbrev pub OneStoredWrite : Type 0
  OneStoredWrite = (text nodes numbers : List ℕ) (room : ℕ) (r : WriteAnswer) (out : List ℕ) (r' : WriteAnswer) (out' : List ℕ) → StoredWrite text nodes numbers room r out → StoredWrite text nodes numbers room r' out' → (r ≡ r') × (out ≡ out')

  abbrev pub OneStoredRead : Type 0
  OneStoredRead =
      (bytes ns ms : List ℕ) (a : ReadAnswer) (ns' ms' : List ℕ) (c : ReadAnswer) (ns'' ms'' : List ℕ) → StoredRead bytes ns ms a ns' ms' → StoredRead bytes ns ms c ns'' ms'' → (a ≡ c) × (ns' ≡ ns'') × (ms' ≡ ms'')

  -- ---- stored bytes as a form
  pub record FitsStored (t : Tree depth_limit) : Type 0 where
    pub good : GoodTree depth_limit t
    pub fits : fits_tree v t ≡ true

  abbrev pub stored_form : Form
  stored_form = record { bytes = stored_bytes v; Fits = FitsStored; back = λ N M bytes. tree_stored bytes (reading_of v N M bytes) }

  abbrev pub stored_entries : Entries WriteAnswer ReadAnswer
  stored_entries =
      record {
        wrote = wrote;
        length_in = λ r. r.length;
        filled = λ n m. record { number = 0; place = 0; nodes = n; numbers = m };
        nodes_in = λ a. a.nodes;
        numbers_in = λ a. a.numbers;
        Writes = StoredWrite;
        Reads = StoredRead;
      }

  -- demand 3 of stored bytes: over trees, and over calls of the version's entries
  abbrev pub StoredOneWritingOfTrees : Type 0
  StoredOneWritingOfTrees = TreesEqual stored_form × TreesAgain stored_form

  abbrev pub StoredOneWriting : Type 0
  StoredOneWriting = OneTreeOneWriting stored_form stored_entries

  -- ---- "Demand 3's equality holds for stored bytes too, wherever both are written and not refused"
  abbrev pub StoredEqual : Type 0
  StoredEqual =
      (text nodes numbers : List ℕ) (room : ℕ) (r : WriteAnswer) (out text' nodes' numbers' : List ℕ) (room' : ℕ) (r' : WriteAnswer) (out' : List ℕ) →
      StoredWrite text nodes numbers room r out → r.number ≡ 0 → StoredWrite text' nodes' numbers' room' r' out' → r'.number ≡ 0 →
      (stored_in r out ≡ stored_in r' out') ↔ ((nodes ≡ nodes') × (all_texts text numbers ≡ all_texts text' numbers'))

  -- ---- "and reading them back with room gives the tree": accepted, with the counts, the node rows and the number texts, and written again as the same bytes; "Spans
  -- read back point into the stored bytes"
  pub record StoredBack (text nodes numbers bytes : List ℕ) (a : ReadAnswer) (ns ms : List ℕ) : Type 0 where
    pub back : Back stored_form stored_entries text nodes numbers bytes a ns ms
    pub inside : All (SpanIn bytes) (all_spans bytes (used_numbers a ms))

  abbrev pub StoredReadsBack : Type 0
  StoredReadsBack =
      (text nodes numbers : List ℕ) (room : ℕ) (r : WriteAnswer) (out ns ms : List ℕ) (a : ReadAnswer) (ns' ms' : List ℕ) → StoredWrite text nodes numbers room r out → r.number ≡ 0 →
      node_room nodes ≤ node_room ns → number_room numbers ≤ number_room ms → StoredRead (stored_in r out) ns ms a ns' ms' → StoredBack text nodes numbers (stored_in r out) a ns' ms'

  -- ---- what the reader accepts, of a slice of bytes, is written again as the same bytes
  abbrev pub StoredAgain : Type 0
  StoredAgain =
      (bytes ns ms : List ℕ) (a : ReadAnswer) (ns' ms' : List ℕ) → All IsByte bytes → StoredRead bytes ns ms a ns' ms' → a.number ≡ 0 →
      (room : ℕ) (r : WriteAnswer) (out : List ℕ) → length bytes ≤ room → StoredWrite bytes (used_nodes a ns') (used_numbers a ms') room r out → (r ≡ wrote (length bytes)) × (out ≡ padded bytes room)

  -- ---- the store that is left is well formed over the stored bytes, so that no entry that takes one answers 22
  pub record StoreTaken (bytes nodes numbers : List ℕ) : Type 0 where
    pub well : well_formed bytes nodes numbers ≡ true
    pub writes : (room : ℕ) (r : WriteAnswer) (out : List ℕ) → Written bytes nodes numbers room r out → r.number ≡ ill_formed_store → ⊥
    pub checks : (r : StrictAnswer) → Checked bytes nodes numbers r → r.number ≡ ill_formed_store → ⊥
    pub stores : (room : ℕ) (r : WriteAnswer) (out : List ℕ) → StoredWrite bytes nodes numbers room r out → r.number ≡ ill_formed_store → ⊥

  abbrev pub StoredTaken : Type 0
  StoredTaken = (bytes ns ms : List ℕ) (a : ReadAnswer) (ns' ms' : List ℕ) → StoredRead bytes ns ms a ns' ms' → a.number ≡ 0 → StoreTaken bytes (used_nodes a ns') (used_numbers a ms')

  -- ---- a text is read, its tree is stored, the stored bytes are read with room for the tree, and what is left has the canonical text of the first store
  abbrev pub StoredRound : Type 0
  StoredRound =
      (text ns ms : List ℕ) (a : ReadAnswer) (ns' ms' : List ℕ) → Read text ns ms a ns' ms' → a.number ≡ 0 →
      (room : ℕ) (r : WriteAnswer) (out : List ℕ) → StoredWrite text (used_nodes a ns') (used_numbers a ms') room r out → r.number ≡ 0 →
      (ps qs : List ℕ) (c : ReadAnswer) (ps' qs' : List ℕ) → node_room (used_nodes a ns') ≤ node_room ps → number_room (used_numbers a ms') ≤ number_room qs → StoredRead (stored_in r out) ps qs c ps' qs' →
      SameWriting text (used_nodes a ns') (used_numbers a ms') (stored_in r out) c ps' qs'

  -- ---- an accepted reading: "Number and place are 0 when accepted", no more rows than there is room for, and zeros after those that are used
  abbrev pub StoredReadAccepts : Type 0
  StoredReadAccepts = (bytes ns ms : List ℕ) (a : ReadAnswer) (ns' ms' : List ℕ) → StoredRead bytes ns ms a ns' ms' → a.number ≡ 0 → AcceptedReading ns ms a ns' ms'

  -- ---- "Refusals": of the reader, each exactly when (`Fault`) and at its place, with zeros; and it accepts whatever else there is
  pub record StoredRefusal (bytes ns ms : List ℕ) (a : ReadAnswer) (ns' ms' : List ℕ) : Type 0 where
    pub fault : Fault v bytes (node_room ns) (number_room ms) a.number a.place
    pub no_nodes : a.nodes ≡ 0
    pub no_numbers : a.numbers ≡ 0
    pub nodes_zero : ns' ≡ zeros (length ns)
    pub numbers_zero : ms' ≡ zeros (length ms)

  abbrev pub StoredReadRefuses : Type 0
  StoredReadRefuses = (bytes ns ms : List ℕ) (a : ReadAnswer) (ns' ms' : List ℕ) → StoredRead bytes ns ms a ns' ms' → (a.number ≡ 0 → ⊥) → StoredRefusal bytes ns ms a ns' ms'

  abbrev pub StoredReadExactly : Type 0
  StoredReadExactly =
      (bytes ns ms : List ℕ) (a : ReadAnswer) (ns' ms' : List ℕ) → StoredRead bytes ns ms a ns' ms' → (number place : ℕ) → (number ≡ 0 → ⊥) →
      ((a.number ≡ number) × (a.place ≡ place)) ↔ Fault v bytes (node_room ns) (number_room ms) number place

  -- of the writer: "22, then 27 where a count, a text or the whole doesn't fit the form, then 23", all at place 0 and with zeros
  abbrev pub store_fits : List ℕ → List ℕ → List ℕ → Bool
  store_fits text nodes numbers = fits_rows v (all_rows nodes) (all_texts text numbers)

  abbrev pub store_bytes : List ℕ → List ℕ → List ℕ → List ℕ
  store_bytes text nodes numbers = stored_rows v (all_rows nodes) (all_texts text numbers)

  pub data Storing (text nodes numbers : List ℕ) (room : ℕ) : WriteAnswer → List ℕ → Type 0 where
    no_store : well_formed text nodes numbers ≡ false → Storing text nodes numbers room (not_written ill_formed_store) (zeros room)
    unfit : well_formed text nodes numbers ≡ true → store_fits text nodes numbers ≡ false → Storing text nodes numbers room (not_written does_not_fit) (zeros room)
    too_long : well_formed text nodes numbers ≡ true → store_fits text nodes numbers ≡ true → room < length (store_bytes text nodes numbers) → Storing text nodes numbers room (not_written no_room) (zeros room)
    kept : well_formed text nodes numbers ≡ true → store_fits text nodes numbers ≡ true → length (store_bytes text nodes numbers) ≤ room →
        Storing text nodes numbers room (wrote (length (store_bytes text nodes numbers))) (padded (store_bytes text nodes numbers) room)

  abbrev pub StoredWriteAnswers : Type 0
  StoredWriteAnswers = (text nodes numbers : List ℕ) (room : ℕ) (r : WriteAnswer) (out : List ℕ) → StoredWrite text nodes numbers room r out → Storing text nodes numbers room r out

  -- each exactly when
  pub record StoredWriteExactly (text nodes numbers : List ℕ) (room : ℕ) (r : WriteAnswer) : Type 0 where
    pub ill : (r.number ≡ ill_formed_store) ↔ (well_formed text nodes numbers ≡ false)
    pub fit : (r.number ≡ does_not_fit) ↔ ((well_formed text nodes numbers ≡ true) × (store_fits text nodes numbers ≡ false))
    pub roomless : (r.number ≡ no_room) ↔ ((well_formed text nodes numbers ≡ true) × (store_fits text nodes numbers ≡ true) × (room < length (store_bytes text nodes numbers)))
    pub accepted : (r.number ≡ 0) ↔ ((well_formed text nodes numbers ≡ true) × (store_fits text nodes numbers ≡ true) × (length (store_bytes text nodes numbers) ≤ room))

  abbrev pub StoredWriteRefuses : Type 0
  StoredWriteRefuses = (text nodes numbers : List ℕ) (room : ℕ) (r : WriteAnswer) (out : List ℕ) → StoredWrite text nodes numbers room r out → StoredWriteExactly text nodes numbers room r
