-- What is promised of every form, from its laws.
-- Assumes nothing.
use mathlib.Core.Path.{◌≡◌, refl, ap, sym, ◌∙◌}
use mathlib.Core.Option.{some, map}
use mathlib.Core.List.{List}
use Prim.Native.Nat.{ℕ, ◌+◌, ◌≤◌}
use native.Mathlib.Omega.{arith}
use lib.ListN.{length, take}
use Rattle.limits.specs.Limits.{depth_limit}
use Rattle.store.specs.Rows.{node_room, number_room, padded}
use Rattle.tree.specs.Tree.{Tree, rows, texts}
use Rattle.tree.proofs.TreeIn.{same_tree}
use Rattle.shape.specs.Store.{tree_of}
use Rattle.shape.proofs.Slices.{front_of, node_count_law, text_count, same_store}
use Rattle.form.specs.Form.{Form, KeepsTrees, TreesEqual, TreesAgain, Entries, written_in, read_nodes, read_numbers, Filled, Lawful, WriteCall, Accepted, EqualExactlyWhen, Back, GivesBack, OneTreeOneWriting}

-- ---- of trees
module _ (F : Form) (K : KeepsTrees F) where
  -- two trees with the same bytes are one
  pub one_tree : (t t' : Tree depth_limit) → F.Fits t → F.Fits t' → F.bytes t ≡ F.bytes t' → t ≡ t'
  one_tree t t' f f' e =
      let N : ℕ = length (rows depth_limit t) + length (rows depth_limit t') in
      let M : ℕ = length (texts depth_limit t) + length (texts depth_limit t') in
      let u = K t N M f (record { nodes = omega arith; numbers = omega arith }) in
      let v = K t' N M f' (record { nodes = omega arith; numbers = omega arith }) in
      same (sym u ∙ ap (F.back N M) e ∙ v)
    where
      same : some t ≡ some t' → t ≡ t'
      same e = cc

  pub trees_equal : TreesEqual F
  trees_equal t t' f f' g g' = let s = same_tree depth_limit t t' g g' in ((λ e. s.0 (one_tree t t' f f' e)), λ e. ap F.bytes (s.1 e))

  pub trees_again : TreesAgain F
  trees_again t N M f h = ap (map F.bytes) (K t N M f h)

-- ---- of calls
module _ {W R : Type 0} (F : Form) (E : Entries W R) (L : Lawful F E) where
  module _ (text nodes numbers : List ℕ) (r : W) (out : List ℕ) (c : WriteCall F E text nodes numbers r out) where
    abbrev b : List ℕ
    b = F.bytes c.stored.tree

    its_call : (r ≡ E.wrote (length b)) × (out ≡ padded b c.room)
    its_call = L.writes text nodes numbers c.stored.tree c.room r out c.stored.is c.stored.fits c.enough c.call

    -- what a call of the writer says it wrote is the tree's bytes
    tree_written : written_in F E r out ≡ b
    tree_written =
        let w = its_call in
        let n : E.length_in r ≡ length b = ap E.length_in w.0 ∙ L.told (length b) in
        ap (λ m. take m out) n ∙ ap (take (length b)) w.1 ∙ front_of b (length b) c.room refl

  accepted : Accepted F E
  accepted text nodes numbers r out c =
      let w = its_call text nodes numbers r out c in
      let e = sym (tree_written text nodes numbers r out c) in
      (w.0 ∙ ap (λ (x : List ℕ). E.wrote (length x)) e, w.1 ∙ ap (λ (x : List ℕ). padded x c.room) e)

  equal_exactly_when : EqualExactlyWhen F E
  equal_exactly_when text nodes numbers r out text' nodes' numbers' r' out' c c' =
      let w = tree_written text nodes numbers r out c in
      let w' = tree_written text' nodes' numbers' r' out' c' in
      let s = same_store text nodes numbers text' nodes' numbers' c.stored.tree c'.stored.tree c.stored.is c'.stored.is in
      ((λ e. s.0 (one_tree F L.keeps c.stored.tree c'.stored.tree c.stored.fits c'.stored.fits (sym w ∙ e ∙ w'))), λ e. w ∙ ap F.bytes (s.1 e) ∙ sym w')

  -- a tree's bytes, read with room for it
  pub tree_back : (text nodes numbers : List ℕ) (t : Tree depth_limit) → tree_of text nodes numbers ≡ some t → F.Fits t → (b ns ms : List ℕ) (a : R) (ns' ms' : List ℕ) → b ≡ F.bytes t → node_room nodes ≤ node_room ns → number_room numbers ≤ number_room ms →
      E.Reads b ns ms a ns' ms' → Back F E text nodes numbers b a ns' ms'
  tree_back text nodes numbers t is fits b ns ms a ns' ms' e hn hm call =
      let n : length (rows depth_limit t) ≡ node_room nodes = node_count_law text nodes numbers t is in
      let m : length (texts depth_limit t) ≡ number_room numbers = text_count text nodes numbers t is in
      let k : Filled F E t b a ns' ms' = L.reads t b ns ms a ns' ms' (ap (F.back (node_room ns) (number_room ms)) e ∙ L.keeps t (node_room ns) (number_room ms) fits (record { nodes = omega arith; numbers = omega arith })) call in
      let s = (same_store b (read_nodes F E a ns') (read_numbers F E a ms') text nodes numbers t t k.tree is).0 refl in
      record {
        answer = k.answer ∙ ap (λ (x : ℕ). E.filled x (length (texts depth_limit t))) n ∙ ap (E.filled (node_room nodes)) m;
        same_nodes = s.0;
        same_texts_law = s.1;
        again = λ room r out h c. rw e (L.writes b (read_nodes F E a ns') (read_numbers F E a ms') t room r out k.tree fits (rw e at h) c);
      }

  gives_back : GivesBack F E
  gives_back text nodes numbers r out ns ms a ns' ms' c hn hm call =
      tree_back text nodes numbers c.stored.tree c.stored.is c.stored.fits (written_in F E r out) ns ms a ns' ms' (tree_written text nodes numbers r out c) hn hm call

  pub one_tree_one_writing : OneTreeOneWriting F E
  one_tree_one_writing = record { accepted = accepted; equal = equal_exactly_when; back = gives_back }
