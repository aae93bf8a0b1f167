-- Demand 2, over the u32 slices as `read` sees them: a text is read to the tree that it is, within the limits, and else refused.
-- The theorems that give these are in proofs/Demand2.
use Rattle.std.specs.Prelude.{◌≡◌, ◌⊎◌, ◌↔◌, List, ℕ, ◌≤◌, length}
use Rattle.limits.specs.Limits.{depth_limit}
use Rattle.number.specs.Grammar.{Float}
use Rattle.kinds.specs.Kinds.{kind_multi_point, dim_xy}
use Rattle.store.specs.Rows.{kind_at, dimension_at, parts_at, span_start_at, node_room, number_room, flat_rows, padded}
use Rattle.lists.specs.Lists.{All}
use Rattle.grammar.specs.Answers.{Passes}
use Rattle.grammar.specs.Edges.{Edge, reads, writes, edges}
use Rattle.tree.specs.Tree.{Tree, Shape, rows, texts}
use Rattle.store.specs.declared.ReadAnswer.{ReadAnswer}
use Rattle.wkt.specs.Leaves.{Leaves, root_in}
use Rattle.store.specs.declared.WriteAnswer.{WriteAnswer}
use Rattle.store.specs.Answers.{wrote}
use Rattle.to_wkt.specs.Write.{Written}
use Rattle.shape.specs.Store.{all_texts}
use Rattle.demands.specs.Calls.{Read, used_nodes, used_numbers}

-- the reader is the grammar: what it answers and leaves is what the grammar's root reads the text's tokens to, if the text passes 1 and 2
abbrev pub ReadsAsGrammar : Type 0
ReadsAsGrammar = (text ns ms : List ℕ) (a : ReadAnswer) (ns' ms' : List ℕ) → Passes text → Read text ns ms a ns' ms' ↔ Leaves (root_in (node_room ns) (number_room ms) text) ns ms a ns' ms'

-- the store of an accepted reading is one tree's: its rows, its number texts, and as many as it has
pub record IsTheTree (text : List ℕ) (a : ReadAnswer) (ns' ms' : List ℕ) : Type 0 where
  pub tree : Tree depth_limit
  pub shape : Shape depth_limit tree
  pub nodes : a.nodes ≡ length (rows depth_limit tree)
  pub numbers : a.numbers ≡ length (texts depth_limit tree)
  pub its_rows : used_nodes a ns' ≡ flat_rows (rows depth_limit tree)
  pub its_texts : all_texts text (used_numbers a ms') ≡ texts depth_limit tree

-- "made-up node or number counts, by demand 2's tree" (as an edit of the code: c_answers/made_up_count)
abbrev pub Counted : Type 0
Counted = (text ns ms : List ℕ) (a : ReadAnswer) (ns' ms' : List ℕ) → Read text ns ms a ns' ms' → a.number ≡ 0 → IsTheTree text a ns' ms'

-- "Number texts follow Rust's documented grammar for `f64`'s `FromStr`": each kept text is of that grammar. (A token that isn't is a bad number: `TokensStart`.)
abbrev pub NumberTexts : Type 0
NumberTexts = (text ns ms : List ℕ) (a : ReadAnswer) (ns' ms' : List ℕ) → Read text ns ms a ns' ms' → a.number ≡ 0 → All Float (all_texts text (used_numbers a ms'))

-- ---- the inputs at the edges, each read into any slices with the edge's rooms, whatever they hold; and written again into any room for the text
abbrev pub ReadsEdge : Edge → Type 0
ReadsEdge (reads N M text g) = (ns ms : List ℕ) (a : ReadAnswer) (ns' ms' : List ℕ) → node_room ns ≡ N → number_room ms ≡ M → Read text ns ms a ns' ms' → Leaves g ns ms a ns' ms'
ReadsEdge (writes N M text b) =
    (ns ms : List ℕ) (a : ReadAnswer) (ns' ms' : List ℕ) → node_room ns ≡ N → number_room ms ≡ M → Read text ns ms a ns' ms' →
    (room : ℕ) (r : WriteAnswer) (out : List ℕ) → length b ≤ room → Written text (used_nodes a ns') (used_numbers a ms') room r out → (r ≡ wrote (length b)) × (out ≡ padded b room)

abbrev pub EveryEdge : Type 0
EveryEdge = All ReadsEdge edges

-- ---- what is shut out
-- what a call leaves; a reader, as a function of the text and the two slices lent; one that meets the contract of `read`
pub record Left : Type 0 where
  pub answer : ReadAnswer
  pub nodes : List ℕ
  pub numbers : List ℕ

abbrev pub Reader : Type 0
Reader = List ℕ → List ℕ → List ℕ → Left

abbrev pub Meets : Reader → Type 0
Meets f = (text ns ms : List ℕ) → Read text ns ms (f text ns ms).answer (f text ns ms).nodes (f text ns ms).numbers

-- there is one, and only one
abbrev pub OneReader : Type 0
OneReader = ((f : Reader) × Meets f) × ((f g : Reader) → Meets f → Meets g → (text ns ms : List ℕ) → f text ns ms ≡ g text ns ms)

-- "A reader that refuses everything" (as an edit of the code: wkt/refuses_all)
abbrev pub RefusesAll : Reader → Type 0
RefusesAll f = (text ns ms : List ℕ) → (f text ns ms).answer.number ≡ 0 → ⊥

-- "or returns one fixed tree": the same node rows whenever it accepts
abbrev pub FixedTree : Reader → Type 0
FixedTree f =
    (text ns ms text' ns' ms' : List ℕ) → (f text ns ms).answer.number ≡ 0 → (f text' ns' ms').answer.number ≡ 0 →
    used_nodes (f text ns ms).answer (f text ns ms).nodes ≡ used_nodes (f text' ns' ms').answer (f text' ns' ms').nodes

-- "a reader that fills only the first child and repeats it" (grammar/first_child_again): an accepted multipoint's second point is left without parts,
-- or has the first one's X
abbrev pub FirstChildOnly : Reader → Type 0
FirstChildOnly f =
    (text ns ms : List ℕ) → (f text ns ms).answer.number ≡ 0 → kind_at (f text ns ms).nodes 0 ≡ kind_multi_point → dimension_at (f text ns ms).nodes 0 ≡ dim_xy → parts_at (f text ns ms).nodes 0 ≡ 2 →
    (parts_at (f text ns ms).nodes 2 ≡ 0) ⊎ (span_start_at (f text ns ms).numbers 2 ≡ span_start_at (f text ns ms).numbers 0)

-- "is shut out by demand 2"
abbrev pub ShutsOut : (Reader → Type 0) → Type 0
ShutsOut Bad = (f : Reader) → Meets f → Bad f → ⊥
