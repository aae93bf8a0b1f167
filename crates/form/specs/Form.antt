-- A form: bytes for trees, an entry that writes them from a store and one that reads them into a store (document 01, demand 3). What is promised of a form's trees,
-- and of calls of its entries, is stated here once, and proved once in `proofs/Form`.
use Rattle.std.specs.Prelude.{◌≡◌, ◌↔◌, List, ℕ, ◌*◌, ◌≤◌, length, take}
use Rattle.std.proofs.Math.Option.{Option, some, map}
use Rattle.limits.specs.Limits.{depth_limit}
use Rattle.store.specs.Rows.{node_width, number_width, node_room, number_room, padded}
use Rattle.tree.specs.Tree.{Tree, Shape, rows, texts}
use Rattle.shape.specs.Store.{all_texts, tree_of}

-- the bytes of a tree; the trees that have them, with what may not fit; and the tree that bytes are read back to, with room for N node rows and M number rows
pub record Form : Type 1 where
  pub bytes : Tree depth_limit → List ℕ
  pub Fits : Tree depth_limit → Type 0
  pub back : ℕ → ℕ → List ℕ → Option (Tree depth_limit)

-- "store room for the tree"
pub record RoomFor (t : Tree depth_limit) (N M : ℕ) : Type 0 where
  pub nodes : length (rows depth_limit t) ≤ N
  pub numbers : length (texts depth_limit t) ≤ M

-- what makes a form one: a tree that fits is read back from its bytes
abbrev pub KeepsTrees : Form → Type 0
KeepsTrees F = (t : Tree depth_limit) (N M : ℕ) → F.Fits t → RoomFor t N M → F.back N M (F.bytes t) ≡ some t

-- ---- of trees: equal exactly when the rows and the number texts are; and what is read back has the same bytes again
abbrev pub TreesEqual : Form → Type 0
TreesEqual F =
    (t t' : Tree depth_limit) → F.Fits t → F.Fits t' → Shape depth_limit t → Shape depth_limit t' →
    (F.bytes t ≡ F.bytes t') ↔ ((rows depth_limit t ≡ rows depth_limit t') × (texts depth_limit t ≡ texts depth_limit t'))

abbrev pub TreesAgain : Form → Type 0
TreesAgain F = (t : Tree depth_limit) (N M : ℕ) → F.Fits t → RoomFor t N M → map F.bytes (F.back N M (F.bytes t)) ≡ some (F.bytes t)

-- ---- the entries of a form; W and R are what the writer and the reader answer
pub record Entries (W R : Type 0) : Type 1 where
  -- the answer of a writer that wrote n bytes, and how many bytes an answer tells of
  pub wrote : ℕ → W
  pub length_in : W → ℕ
  -- the answer of a reader that filled n node rows and m number rows, and how many rows an answer tells of
  pub filled : ℕ → ℕ → R
  pub nodes_in : R → ℕ
  pub numbers_in : R → ℕ
  -- what a call of the writer may answer and leave in its room: by the text, the node rows and the number rows of a store, and the room's length
  pub Writes : List ℕ → List ℕ → List ℕ → ℕ → W → List ℕ → Type 0
  -- what a call of the reader may answer and leave in its slices: by the bytes and the two slices
  pub Reads : List ℕ → List ℕ → List ℕ → R → List ℕ → List ℕ → Type 0

module _ {W R : Type 0} (F : Form) (E : Entries W R) where
  -- the bytes that a call of the writer says it wrote; the rows that a call of the reader says it filled
  abbrev pub written_in : W → List ℕ → List ℕ
  written_in r out = take (E.length_in r) out

  abbrev pub read_nodes : R → List ℕ → List ℕ
  read_nodes a ns = take (E.nodes_in a * node_width) ns

  abbrev pub read_numbers : R → List ℕ → List ℕ
  read_numbers a ms = take (E.numbers_in a * number_width) ms

  -- the slices hold a store of the tree t in their first rows, and its number texts lie in the bytes b
  pub record Filled (t : Tree depth_limit) (b : List ℕ) (a : R) (ns ms : List ℕ) : Type 0 where
    pub answer : a ≡ E.filled (length (rows depth_limit t)) (length (texts depth_limit t))
    pub tree : tree_of b (read_nodes a ns) (read_numbers a ms) ≡ some t

  -- the form keeps trees, and the two entries do what it says
  pub record Lawful : Type 0 where
    pub keeps : KeepsTrees F
    pub told : (n : ℕ) → E.length_in (E.wrote n) ≡ n
    pub writes : (text nodes numbers : List ℕ) (t : Tree depth_limit) (room : ℕ) (r : W) (out : List ℕ) → tree_of text nodes numbers ≡ some t → F.Fits t → length (F.bytes t) ≤ room →
        E.Writes text nodes numbers room r out → (r ≡ E.wrote (length (F.bytes t))) × (out ≡ padded (F.bytes t) room)
    pub reads : (t : Tree depth_limit) (b ns ms : List ℕ) (a : R) (ns' ms' : List ℕ) → F.back (node_room ns) (number_room ms) b ≡ some t → E.Reads b ns ms a ns' ms' → Filled t b a ns' ms'

  -- ---- what is promised of calls
  -- a well-formed store whose tree the form can hold
  pub record Stored (text nodes numbers : List ℕ) : Type 0 where
    pub tree : Tree depth_limit
    pub is : tree_of text nodes numbers ≡ some tree
    pub fits : F.Fits tree

  -- a call of the writer on such a store, with room for the bytes
  pub record WriteCall (text nodes numbers : List ℕ) (r : W) (out : List ℕ) : Type 0 where
    pub stored : Stored text nodes numbers
    pub room : ℕ
    pub enough : length (F.bytes stored.tree) ≤ room
    pub call : E.Writes text nodes numbers room r out

  -- the call is accepted, and what lies after the bytes is zero
  abbrev pub Accepted : Type 0
  Accepted = (text nodes numbers : List ℕ) (r : W) (out : List ℕ) (c : WriteCall text nodes numbers r out) → (r ≡ E.wrote (length (written_in r out))) × (out ≡ padded (written_in r out) c.room)

  -- "the canonical texts are equal exactly when node rows are equal and number texts are equal, row by row": over two calls of the writer
  abbrev pub EqualExactlyWhen : Type 0
  EqualExactlyWhen =
      (text nodes numbers : List ℕ) (r : W) (out text' nodes' numbers' : List ℕ) (r' : W) (out' : List ℕ) → WriteCall text nodes numbers r out → WriteCall text' nodes' numbers' r' out' →
      (written_in r out ≡ written_in r' out') ↔ ((nodes ≡ nodes') × (all_texts text numbers ≡ all_texts text' numbers'))

  -- "such a text, read with store room for the tree, is accepted, gives those node rows and number texts back, and is written again as the same bytes": over a call
  -- of the writer, one of the reader on what was written, and one more of the writer on what was read
  pub record Back (text nodes numbers b : List ℕ) (a : R) (ns ms : List ℕ) : Type 0 where
    pub answer : a ≡ E.filled (node_room nodes) (number_room numbers)
    pub same_nodes : read_nodes a ns ≡ nodes
    pub same_texts_law : all_texts b (read_numbers a ms) ≡ all_texts text numbers
    pub again : (room : ℕ) (r : W) (out : List ℕ) → length b ≤ room → E.Writes b (read_nodes a ns) (read_numbers a ms) room r out → (r ≡ E.wrote (length b)) × (out ≡ padded b room)

  abbrev pub GivesBack : Type 0
  GivesBack =
      (text nodes numbers : List ℕ) (r : W) (out ns ms : List ℕ) (a : R) (ns' ms' : List ℕ) → WriteCall text nodes numbers r out → node_room nodes ≤ node_room ns → number_room numbers ≤ number_room ms →
      E.Reads (written_in r out) ns ms a ns' ms' → Back text nodes numbers (written_in r out) a ns' ms'

  -- demand 3, of any form
  pub record OneTreeOneWriting : Type 0 where
    pub accepted : Accepted
    pub equal : EqualExactlyWhen
    pub back : GivesBack
