-- Request 2026-05, "Longer coastlines", over calls of the entries of two versions of the stored form. The theorems that give these are in proofs/Versions.
use Rattle.std.specs.Prelude.{◌≡◌, true, List, ◌∷◌, ◌++◌, ℕ, ◌≤◌, ◌<◌, length}
use Rattle.refusals.specs.Refusals.{text_too_long, does_not_fit, unknown_version}
use Rattle.store.specs.declared.ReadAnswer.{ReadAnswer}
use Rattle.store.specs.declared.WriteAnswer.{WriteAnswer}
use Rattle.store.specs.Rows.{zeros}
use Rattle.shape.specs.Store.{all_texts, well_formed}
use Rattle.fields.specs.Fields.{longest}
use Rattle.stored_form.specs.declared.Version.{Version}
use Rattle.stored_form.specs.Reading.{version_at}
use Rattle.demands.specs.Stored.{StoredWrite, stored_in, StoredRead, OneStoredWrite, OneStoredRead, StoredOneWritingOfTrees, StoredOneWriting, StoredEqual, StoredReadsBack, StoredAgain, StoredTaken, StoredRound, StoredReadAccepts, StoredReadRefuses, StoredReadExactly, StoredWriteAnswers, StoredWriteRefuses}

-- ---- all that request 2026-01 asks of the entries of a version: "Demand 3's equality holds for stored bytes of one version" is `equal`, and `one_writing` is demand 3 of any
-- form (`form/specs/Form`) at the form that the version is
pub record VersionKeeps (v : Version) : Type 0 where
  pub one_write : OneStoredWrite v
  pub one_read : OneStoredRead v
  pub one_writing_of_trees : StoredOneWritingOfTrees v
  pub one_writing : StoredOneWriting v
  pub equal : StoredEqual v
  pub reads_back : StoredReadsBack v
  pub again : StoredAgain v
  pub taken : StoredTaken v
  pub round : StoredRound v
  pub read_accepts : StoredReadAccepts v
  pub read_refuses : StoredReadRefuses v
  pub read_exactly : StoredReadExactly v
  pub write_answers : StoredWriteAnswers v
  pub write_refuses : StoredWriteRefuses v

-- ---- "that of version 1 must answer 26 on version 2 (1 still comes first), and the other way round": what the one version's writer wrote, the other's reader is lent
module _ (v w : Version) where
  pub record OtherRefused (bytes ns ms : List ℕ) (a : ReadAnswer) (ns' ms' : List ℕ) : Type 0 where
    pub first : w.limit < length bytes → (a.number ≡ text_too_long) × (a.place ≡ w.limit)
    pub else : length bytes ≤ w.limit → (a.number ≡ unknown_version) × (a.place ≡ version_at)
    pub nodes_zero : ns' ≡ zeros (length ns)
    pub numbers_zero : ms' ≡ zeros (length ms)

  abbrev pub EachItsOwn : Type 0
  EachItsOwn =
      (text nodes numbers : List ℕ) (room : ℕ) (r : WriteAnswer) (out ns ms : List ℕ) (a : ReadAnswer) (ns' ms' : List ℕ) →
      StoredWrite v text nodes numbers room r out → r.number ≡ 0 → StoredRead w (stored_in r out) ns ms a ns' ms' → OtherRefused (stored_in r out) ns ms a ns' ms'

-- ---- "the field length remains two bytes, so a number text over 65,535 bytes fits neither version": 27, whatever the version and the room
abbrev pub LongTextUnfit : Version → Type 0
LongTextUnfit v =
    (text nodes numbers : List ℕ) (room : ℕ) (r : WriteAnswer) (out : List ℕ) → StoredWrite v text nodes numbers room r out → well_formed text nodes numbers ≡ true →
    (before : List (List ℕ)) (x : List ℕ) (after : List (List ℕ)) → all_texts text numbers ≡ before ++ (x ∷ after) → longest < length x → r.number ≡ does_not_fit
