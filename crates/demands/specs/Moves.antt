-- Request 2026-06, "Move the shelf, and move it back", over calls of the moves (`stored::move_1_to_2` and `move_2_to_1`). All is said once, of a move from any version v to any
-- version w. The theorems that give these are in proofs/Moves.
use Rattle.std.specs.Prelude.{◌≡◌, true, false, ◌↔◌, List, ◌∷◌, ◌++◌, ℕ, ◌+◌, ◌*◌, ◌≤◌, ◌<◌, length, take}
use Rattle.lists.specs.Lists.{All}
use Rattle.refusals.specs.Refusals.{no_room, does_not_fit}
use Rattle.store.specs.declared.ReadAnswer.{ReadAnswer}
use Rattle.store.specs.Rows.{Row, node_room, number_room, zeros, padded}
use Rattle.store.specs.Answers.{wrote}
use Rattle.shape.specs.Store.{all_rows, all_texts}
use Rattle.fields.specs.Counts.{IsByte}
use Rattle.fields.specs.Fields.{longest}
use Rattle.stored_form.specs.declared.Version.{Version}
use Rattle.stored_form.specs.Form.{version1, version2, node_place}
use Rattle.stored_moves.specs.declared.MoveAnswer.{MoveAnswer}
use Rattle.stored_moves.specs.Moving.{moving_of, Moves}
use Rattle.demands.specs.Calls.{used_nodes, used_numbers}
use Rattle.demands.specs.Stored.{StoredRead, StoredWrite, store_fits, store_bytes, SameWriting}

-- the bytes that a call says it wrote, and what it says of the lent store, as the reader of the source would
abbrev pub moved_in : MoveAnswer → List ℕ → List ℕ
moved_in a out = take a.length out

abbrev pub as_read : MoveAnswer → ReadAnswer
as_read a = record { number = a.number; place = a.place; nodes = a.nodes; numbers = a.numbers }

-- where something of a store doesn't fit a version: its node count, its number count, a node's parts, or the whole. There is none for a text
pub data Unfit (w : Version) (text nodes numbers : List ℕ) : Type 0 where
  many_nodes : w.largest < node_room nodes → Unfit w text nodes numbers
  many_numbers : w.largest < number_room numbers → Unfit w text nodes numbers
  many_parts : (before : List Row) (r : Row) (after : List Row) → all_rows nodes ≡ before ++ (r ∷ after) → w.largest < r.parts → Unfit w text nodes numbers
  too_long : w.limit < length (store_bytes w text nodes numbers) → Unfit w text nodes numbers

-- every count that v has fits w, and so does every whole, with w's counts in the place of v's
pub record Wider (v w : Version) : Type 0 where
  pub counts : v.largest ≤ w.largest
  pub whole : v.limit + node_place w.width v.largest ≤ w.limit

module _ (v w : Version) where
  -- ---- calls: what one may answer and leave
  abbrev pub Move : List ℕ → List ℕ → List ℕ → ℕ → MoveAnswer → List ℕ → List ℕ → List ℕ → Type 0
  Move source ns ms room a ns' ms' out = Moves (moving_of v w (node_room ns) (number_room ms) room source) ns ms room a ns' ms' out

  -- "prove that two outcomes allowed by it coincide"
  abbrev pub OneMove : Type 0
  OneMove =
      (source ns ms : List ℕ) (room : ℕ) (a : MoveAnswer) (ns' ms' out : List ℕ) (a' : MoveAnswer) (ns'' ms'' out' : List ℕ) → Move source ns ms room a ns' ms' out → Move source ns ms room a' ns'' ms'' out' →
      (a ≡ a') × (ns' ≡ ns'') × (ms' ≡ ms'') × (out ≡ out')

  -- ---- "a move [..] with no text at hand, through a lent store left as the reader leaves it": what is left is what a call of the reader leaves, and what is written is what a call of
  -- the other version's writer writes from it, with the source as its text
  pub record ReadAndWritten (source ns ms : List ℕ) (room : ℕ) (a : MoveAnswer) (ns' ms' out : List ℕ) : Type 0 where
    pub place : a.place ≡ 0
    pub read : StoredRead v source ns ms (as_read a) ns' ms'
    pub write : StoredWrite w source (used_nodes (as_read a) ns') (used_numbers (as_read a) ms') room (wrote a.length) out

  abbrev pub LeftAsRead : Type 0
  LeftAsRead = (source ns ms : List ℕ) (room : ℕ) (a : MoveAnswer) (ns' ms' out : List ℕ) → Move source ns ms room a ns' ms' out → a.number ≡ 0 → ReadAndWritten source ns ms room a ns' ms' out

  -- ---- "all zero on any refusal"
  pub record AllZero (ns ms : List ℕ) (room : ℕ) (a : MoveAnswer) (ns' ms' out : List ℕ) : Type 0 where
    pub no_length : a.length ≡ 0
    pub no_nodes : a.nodes ≡ 0
    pub no_numbers : a.numbers ≡ 0
    pub nodes_zero : ns' ≡ zeros (length ns)
    pub numbers_zero : ms' ≡ zeros (length ms)
    pub output_zero : out ≡ zeros room

  abbrev pub RefusedAllZero : Type 0
  RefusedAllZero = (source ns ms : List ℕ) (room : ℕ) (a : MoveAnswer) (ns' ms' out : List ℕ) → Move source ns ms room a ns' ms' out → (a.number ≡ 0 → ⊥) → AllZero ns ms room a ns' ms' out

  -- ---- "Refusals: the reading side's first, then 27, then 23": beside a call c of the reader on the same source and slices, each exactly when, and at its place
  pub record MoveExactly (source : List ℕ) (room : ℕ) (a : MoveAnswer) (c : ReadAnswer) (ns'' ms'' : List ℕ) : Type 0 where
    pub reading_first : (c.number ≡ 0 → ⊥) → (a.number ≡ c.number) × (a.place ≡ c.place)
    pub unfit : (a.number ≡ does_not_fit) ↔ ((c.number ≡ 0) × (store_fits w source (used_nodes c ns'') (used_numbers c ms'') ≡ false))
    pub roomless : (a.number ≡ no_room) ↔ ((c.number ≡ 0) × (store_fits w source (used_nodes c ns'') (used_numbers c ms'') ≡ true) × (room < length (store_bytes w source (used_nodes c ns'') (used_numbers c ms''))))
    pub accepted : (a.number ≡ 0) ↔ ((c.number ≡ 0) × (store_fits w source (used_nodes c ns'') (used_numbers c ms'') ≡ true) × (length (store_bytes w source (used_nodes c ns'') (used_numbers c ms'')) ≤ room))
    pub no_place : c.number ≡ 0 → a.place ≡ 0

  abbrev pub MoveRefuses : Type 0
  MoveRefuses =
      (source ns ms : List ℕ) (room : ℕ) (a : MoveAnswer) (ns' ms' out : List ℕ) (c : ReadAnswer) (ns'' ms'' : List ℕ) → Move source ns ms room a ns' ms' out → StoredRead v source ns ms c ns'' ms'' → MoveExactly source room a c ns'' ms''

  -- "back gives 27 exactly where something doesn't fit version 1": a count, parts or the whole, and no text, since none of a source of bytes is too long for either version
  abbrev pub UnfitExactly : Type 0
  UnfitExactly =
      (source ns ms : List ℕ) (room : ℕ) (a : MoveAnswer) (ns' ms' out : List ℕ) (c : ReadAnswer) (ns'' ms'' : List ℕ) → All IsByte source → Move source ns ms room a ns' ms' out → StoredRead v source ns ms c ns'' ms'' → c.number ≡ 0 →
      (a.number ≡ does_not_fit) ↔ Unfit w source (used_nodes c ns'') (used_numbers c ms'')

  abbrev pub ShortTexts : Type 0
  ShortTexts = (source ns ms : List ℕ) (c : ReadAnswer) (ns'' ms'' : List ℕ) → All IsByte source → StoredRead v source ns ms c ns'' ms'' → c.number ≡ 0 → All (λ (x : List ℕ). length x ≤ longest) (all_texts source (used_numbers c ms''))

  -- ---- how long the bytes are that are written: those of the source with w's head and nodes in the place of v's
  abbrev pub MovedLength : Type 0
  MovedLength =
      (source ns ms : List ℕ) (room : ℕ) (a : MoveAnswer) (ns' ms' out : List ℕ) → All IsByte source → Move source ns ms room a ns' ms' out → a.number ≡ 0 → a.length + node_place v.width a.nodes ≡ length source + node_place w.width a.nodes

  -- ---- "With room, going up accepts all that version 1's reader accepts": where w is wider than v
  abbrev pub AcceptsAllRead : Type 0
  AcceptsAllRead =
      (source ns ms : List ℕ) (room : ℕ) (a : MoveAnswer) (ns' ms' out : List ℕ) (c : ReadAnswer) (ns'' ms'' : List ℕ) → All IsByte source → Move source ns ms room a ns' ms' out → StoredRead v source ns ms c ns'' ms'' → c.number ≡ 0 →
      length source + node_place w.width c.nodes ≤ room + node_place v.width c.nodes → a.number ≡ 0

  -- ---- "Up and back gives the first bytes; back and up, where allowed, likewise": what was moved is moved back, with room for the store and for the first bytes
  pub record FirstBytes (source : List ℕ) (a : MoveAnswer) (room : ℕ) (c : MoveAnswer) (out : List ℕ) : Type 0 where
    pub answer : c ≡ record { number = 0; place = 0; length = length source; nodes = a.nodes; numbers = a.numbers }
    pub bytes : moved_in c out ≡ source
    pub rest : out ≡ padded source room

module _ (v w : Version) where
  abbrev pub ThereAndBack : Type 0
  ThereAndBack =
      (source ns ms : List ℕ) (room : ℕ) (a : MoveAnswer) (ns' ms' out : List ℕ) → All IsByte source → Move v w source ns ms room a ns' ms' out → a.number ≡ 0 →
      (ps qs : List ℕ) (room₂ : ℕ) (c : MoveAnswer) (ps' qs' out₂ : List ℕ) → a.nodes ≤ node_room ps → a.numbers ≤ number_room qs → length source ≤ room₂ → Move w v (moved_in a out) ps qs room₂ c ps' qs' out₂ →
      FirstBytes v w source a room₂ c out₂

  -- ---- what is moved reads to the same tree: accepted with room for it, with the same node rows and the same number texts, and the same canonical text
  pub record SameTree (source : List ℕ) (a : MoveAnswer) (ns ms bytes : List ℕ) (c : ReadAnswer) (ps qs : List ℕ) : Type 0 where
    pub same_nodes : used_nodes c ps ≡ used_nodes (as_read a) ns
    pub same_texts_law : all_texts bytes (used_numbers c qs) ≡ all_texts source (used_numbers (as_read a) ms)
    pub same_writing : SameWriting source (used_nodes (as_read a) ns) (used_numbers (as_read a) ms) bytes c ps qs

  abbrev pub ReadsTheSame : Type 0
  ReadsTheSame =
      (source ns ms : List ℕ) (room : ℕ) (a : MoveAnswer) (ns' ms' out : List ℕ) → Move v w source ns ms room a ns' ms' out → a.number ≡ 0 →
      (ps qs : List ℕ) (c : ReadAnswer) (ps' qs' : List ℕ) → a.nodes ≤ node_room ps → a.numbers ≤ number_room qs → StoredRead w (moved_in a out) ps qs c ps' qs' → SameTree source a ns' ms' (moved_in a out) c ps' qs'

  -- ---- all that the request asks of a move
  pub record MovesWell : Type 0 where
    pub one_move : OneMove v w
    pub left_as_read : LeftAsRead v w
    pub all_zero : RefusedAllZero v w
    pub refuses : MoveRefuses v w
    pub unfit_exactly : UnfitExactly v w
    pub short_texts : ShortTexts v w
    pub moved_length : MovedLength v w
    pub there_and_back : ThereAndBack
    pub reads_the_same : ReadsTheSame

-- ---- of the two moves that there are, in their numbers
-- "With room, going up accepts all that version 1's reader accepts": 4 bytes more for the head, and 2 for each node
abbrev pub UpAcceptsAllRead : Type 0
UpAcceptsAllRead =
    (source ns ms : List ℕ) (room : ℕ) (a : MoveAnswer) (ns' ms' out : List ℕ) (c : ReadAnswer) (ns'' ms'' : List ℕ) → All IsByte source → Move version1 version2 source ns ms room a ns' ms' out → StoredRead version1 source ns ms c ns'' ms'' → c.number ≡ 0 →
    length source + 4 + 2 * c.nodes ≤ room → a.number ≡ 0

abbrev pub UpIsLonger : Type 0
UpIsLonger =
    (source ns ms : List ℕ) (room : ℕ) (a : MoveAnswer) (ns' ms' out : List ℕ) → All IsByte source → Move version1 version2 source ns ms room a ns' ms' out → a.number ≡ 0 → a.length ≡ length source + 4 + 2 * a.nodes

-- and back, as many fewer
abbrev pub BackIsShorter : Type 0
BackIsShorter =
    (source ns ms : List ℕ) (room : ℕ) (a : MoveAnswer) (ns' ms' out : List ℕ) → All IsByte source → Move version2 version1 source ns ms room a ns' ms' out → a.number ≡ 0 → a.length + 4 + 2 * a.nodes ≡ length source
