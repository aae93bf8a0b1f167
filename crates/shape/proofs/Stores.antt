-- Whole stores: one is well formed exactly when its rows and number texts are a tree's, and the walk over its rows meets what that tree's walk meets.
-- Assumes nothing.
use mathlib.Core.Path.{◌≡◌, refl, ap, sym, ◌∙◌}
use mathlib.Core.Bool.{Bool, true, false, false≢true, cond, ◌&&◌}
use mathlib.Core.Logic.{◌↔◌}
use mathlib.Core.Option.{Option, none, some}
use mathlib.Core.List.{List, [], ◌∷◌, ◌++◌, map}
use Prim.Native.Nat.{ℕ, zero, suc, ◌+◌}
use native.Mathlib.Omega.{arith}
use lib.Dec.{leb}
use lib.ListN.{length, take, drop}
use borrow.Author.Tests.{le-leb, leb-true}
use Rattle.limits.specs.Limits.{depth_limit}
use Rattle.lists.specs.Lists.{every, All}
use Rattle.lists.proofs.Cases.{and_both}
use Rattle.number.specs.Lexeme.{is_lexeme}
use Rattle.store.specs.Rows.{Span, span, span_start_at, span_length_at, span_at, number_room, firsts, spans_in}
use Rattle.store.proofs.Rows.{spans_length}
use Rattle.tree.specs.Tree.{Tree, Lexeme, rows, texts, GoodTree}
use Rattle.tree.specs.TreeIn.{SpanIn, span_text, tree_in}
use Rattle.tree.proofs.TreeIn.{TreesOwn, trees_own, span_lexemes}
use Rattle.lists.specs.Options.{is_some, map_o}
use Rattle.nodes.specs.Nodes.{above, meets}
use Rattle.shape.specs.Numbers.{is_number, are_numbers}
use Rattle.shape.specs.Store.{all_rows, all_spans, all_texts, are_whole, tree_of, well_formed, walk_root, walk_of}
use Rattle.shape.specs.IsTree.{IsTree}
use Rattle.shape.proofs.Trees.{walk_is_tree}

-- ---- the walk
map_length : {X Y : Type 0} (g : X → Y) (l : List X) → length (map g l) ≡ length l
map_length g [] = refl
map_length g (x ∷ l) = ap suc (map_length g l)

pub texts_count : (text numbers : List ℕ) → length (all_texts text numbers) ≡ number_room numbers
texts_count text numbers = map_length span_text (all_spans text numbers) ∙ spans_length text numbers (number_room numbers)

module _ (text nodes numbers : List ℕ) where
  pub rows_walk : meets (number_room numbers) (above ∷ []) 0 0 (all_rows nodes) ≡ map_o walk_root (tree_in depth_limit (all_rows nodes) (all_texts text numbers))
  rows_walk = ap (λ n. meets n (above ∷ []) 0 0 (all_rows nodes)) (sym (texts_count text numbers)) ∙ walk_is_tree (all_rows nodes) (all_texts text numbers)

  -- what the walk through a store meets is what is met on the way through its rows, where the lengths and the number rows are good
  pub walk_of_law : walk_of text nodes numbers ≡ cond (are_whole nodes numbers && are_numbers text numbers) (meets (number_room numbers) (above ∷ []) 0 0 (all_rows nodes)) none
  unfolding walk_of tree_of
  walk_of_law = rw rows_walk (go (are_whole nodes numbers && are_numbers text numbers))
    where
      go : (b : Bool) → map_o walk_root (cond b (tree_in depth_limit (all_rows nodes) (all_texts text numbers)) none) ≡ cond b (map_o walk_root (tree_in depth_limit (all_rows nodes) (all_texts text numbers))) none
      go true = refl
      go false = refl

  some_walk : (o : Option (Tree depth_limit)) → is_some (map_o walk_root o) ≡ is_some o
  some_walk none = refl
  some_walk (some t) = refl

  -- a store is well formed exactly when the walk gets through
  pub well_by_walk : well_formed text nodes numbers ≡ is_some (walk_of text nodes numbers)
  unfolding well_formed walk_of
  well_by_walk = sym (some_walk (tree_of text nodes numbers))

-- ---- the number rows
every_snoc : {A : Type 0} (p : A → Bool) (l : List A) (a : A) → every p (l ++ (a ∷ [])) ≡ true → (every p l ≡ true) × (p a ≡ true)
unfolding every
every_snoc p [] a e = (refl, (and_both (p a) true e).0)
every_snoc p (x ∷ l) a e =
    let u = and_both (p x) (every p (l ++ (a ∷ []))) e in
    let v = every_snoc p l a u.1 in
    (rw (u.0, v.0), v.1)

pub all_snoc : {A : Type 0} (Q : A → Type 0) (l : List A) (a : A) → All Q l → Q a → All Q (l ++ (a ∷ []))
unfolding All
all_snoc Q [] a h q = (q, tt)
all_snoc Q (x ∷ l) a h q = (h.0, all_snoc Q l a h.1 q)

module _ (text numbers : List ℕ) where
  number_is : (i : ℕ) → is_number text (span_at text numbers i) ≡ true → SpanIn text (span_at text numbers i)
  number_is i e =
      let u = and_both (leb (span_start_at numbers i + span_length_at numbers i) (length text)) (is_lexeme (take (span_length_at numbers i) (drop (span_start_at numbers i) text))) e in
      record { inside = leb-true (span_start_at numbers i + span_length_at numbers i) (length text) u.0; bytes = refl; lexeme = u.1 }

  numbers_are : (n : ℕ) → every (is_number text) (spans_in text numbers n) ≡ true → All (SpanIn text) (spans_in text numbers n)
  unfolding spans_in firsts All
  numbers_are zero e = tt
  numbers_are (suc n) e =
      let u = every_snoc (is_number text) (firsts (span_at text numbers) n) (span_at text numbers n) e in
      all_snoc (SpanIn text) (firsts (span_at text numbers) n) (span_at text numbers n) (numbers_are n u.0) (number_is n u.1)

  are_numbers_law : (ss : List Span) → All (SpanIn text) ss → every (is_number text) ss ≡ true
  unfolding every All
  are_numbers_law [] a = refl
  are_numbers_law (span start len x ∷ ss) a = rw (le-leb (start + len) (length text) a.0.inside, a.0.lexeme, are_numbers_law ss a.1)

-- ---- whole stores
-- a store that is well formed is a tree, whose rows and number texts are its own
pub record StoreTree (text nodes numbers : List ℕ) (t : Tree depth_limit) : Type 0 where
  pub its_rows : all_rows nodes ≡ rows depth_limit t
  pub its_texts : all_texts text numbers ≡ texts depth_limit t
  pub good : GoodTree depth_limit t

module _ (text nodes numbers : List ℕ) where
  pub record Grown : Type 0 where
    pub tree : Tree depth_limit
    pub is : tree_of text nodes numbers ≡ some tree

  pub grown : well_formed text nodes numbers ≡ true → Grown
  unfolding well_formed
  grown e = go (tree_of text nodes numbers) refl e
    where
      go : (o : Option (Tree depth_limit)) → tree_of text nodes numbers ≡ o → is_some o ≡ true → Grown
      go none e h = absurd (false≢true h)
      go (some t) e h = record { tree = t; is = e }

  pub is_well_formed : (t : Tree depth_limit) → tree_of text nodes numbers ≡ some t → well_formed text nodes numbers ≡ true
  unfolding well_formed
  is_well_formed t e = rw e

  -- clause by clause
  clauses : (t : Tree depth_limit) → tree_of text nodes numbers ≡ some t → (are_whole nodes numbers ≡ true) × (are_numbers text numbers ≡ true) × (tree_in depth_limit (all_rows nodes) (all_texts text numbers) ≡ some t)
  unfolding tree_of
  clauses t e = go (are_whole nodes numbers) refl (are_numbers text numbers) refl e
    where
      go : (a : Bool) → are_whole nodes numbers ≡ a → (b : Bool) → are_numbers text numbers ≡ b → cond (a && b) (tree_in depth_limit (all_rows nodes) (all_texts text numbers)) none ≡ some t → (are_whole nodes numbers ≡ true) × (are_numbers text numbers ≡ true) × (tree_in depth_limit (all_rows nodes) (all_texts text numbers) ≡ some t)
      go true ea true eb h = (ea, eb, h)
      go true ea false eb h = let z : ◌≡◌ {A = ℕ} 0 1 = cc in absurd (omega arith)
      go false ea b eb h = let z : ◌≡◌ {A = ℕ} 0 1 = cc in absurd (omega arith)

  pub is_tree : (t : Tree depth_limit) → tree_of text nodes numbers ≡ some t → IsTree text nodes numbers
  unfolding are_numbers
  is_tree t e =
      let c = clauses t e in
      record { lengths = c.0; well = record { tree = t; is = c.2; numbers = numbers_are text numbers (number_room numbers) c.1 } }

  pub tree_of_law : (w : IsTree text nodes numbers) → tree_of text nodes numbers ≡ some w.well.tree
  unfolding tree_of are_numbers
  tree_of_law w = rw (w.lengths, are_numbers_law text numbers (all_spans text numbers) w.well.numbers) w.well.is

  -- "A store is well formed if [..]"
  pub well_formed_is : (well_formed text nodes numbers ≡ true) ↔ IsTree text nodes numbers
  well_formed_is = (λ e. is_tree (grown e).tree (grown e).is, λ w. is_well_formed w.well.tree (tree_of_law w))

  pub store_tree : (t : Tree depth_limit) → tree_of text nodes numbers ≡ some t → StoreTree text nodes numbers t
  store_tree t e =
      let w = is_tree t e in
      let own : TreesOwn depth_limit (all_rows nodes) (all_texts text numbers) t = trees_own depth_limit (all_rows nodes) (all_texts text numbers) t (clauses t e).2 in
      let l : All Lexeme (all_texts text numbers) = span_lexemes text (all_spans text numbers) w.well.numbers in
      record { its_rows = own.its_rows; its_texts = own.its_texts; good = record { shape = own.shape; lexemes = rw own.its_texts at l } }
