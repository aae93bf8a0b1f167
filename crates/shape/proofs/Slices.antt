-- Rows as numbers and back: a slice of whole rows is its rows, and rows are those of their numbers. So two stores are one tree exactly when their node rows
-- and their number texts are the same.
-- Assumes nothing.
use mathlib.Core.Path.{◌≡◌, refl, ap, sym, ◌∙◌}
use mathlib.Core.Bool.{Bool, true, false, cond, ◌&&◌}
use mathlib.Core.Logic.{◌↔◌}
use mathlib.Core.Option.{Option, none, some}
use mathlib.Core.List.{List, [], ◌∷◌, flat_map}
use Prim.Native.Nat.{ℕ, zero, suc, ◌*◌, ◌%◌}
use native.Mathlib.Omega.{arith}
use lib.Dec.{eqb}
use lib.ListN.{length, take, drop}
use lib.Seq.{take_all, take-append_seam}
use borrow.Author.Tests.{eqb-true, eq-eqb}
use Rattle.store.specs.Rows.{Row, Span, span, node_width, number_width, node_room, number_room, span_at, firsts, spans_in, flat_rows, flat_spans, padded}
use Rattle.store.proofs.Rows.{rows_length, rows_flat, rows_wide, rows_one, spans_length, spans_flat}
use Rattle.limits.specs.Limits.{depth_limit}
use Rattle.tree.specs.Tree.{Tree, rows, texts}
use Rattle.tree.proofs.TreeIn.{same_tree}
use Rattle.lists.specs.Lists.{every, All}
use Rattle.tree.specs.TreeIn.{SpanIn}
use Rattle.lists.proofs.Cases.{and_both}
use Rattle.lists.specs.Options.{is_some}
use Rattle.nodes.specs.declared.Met.{Met}
use Rattle.nodes.specs.Nodes.{above, meets}
use Rattle.shape.specs.Numbers.{is_number, are_numbers}
use Rattle.shape.specs.Store.{all_rows, all_spans, all_texts, are_whole, tree_of, well_formed}
use Rattle.shape.proofs.Stores.{walk_of_law, well_by_walk, all_snoc, texts_count, StoreTree, store_tree, is_tree}

pub spans_wide : (ss : List Span) → length (flat_spans ss) ≡ length ss * number_width
unfolding flat_spans flat_map
spans_wide [] = refl
spans_wide (span start len x ∷ ss) = let z : length (flat_spans ss) ≡ length ss * number_width = spans_wide ss in omega (arith, z)

-- what is left of padded numbers
pub front_of : (l : List ℕ) (n m : ℕ) → length l ≡ n → take n (padded l m) ≡ l
front_of l n m e = rw (← e) (take-append_seam l _)

-- ---- slices of whole rows
pub nodes_flat : (nodes : List ℕ) → length nodes % node_width ≡ 0 → flat_rows (all_rows nodes) ≡ nodes
nodes_flat nodes e = rows_flat nodes (node_room nodes) (omega arith) ∙ take_all (node_room nodes * node_width) nodes (omega arith)

pub numbers_flat : (text numbers : List ℕ) → length numbers % number_width ≡ 0 → flat_spans (all_spans text numbers) ≡ numbers
numbers_flat text numbers e = spans_flat text numbers (number_room numbers) (omega arith) ∙ take_all (number_room numbers * number_width) numbers (omega arith)

-- ---- rows of their numbers
pub flat_rows_law : (rs : List Row) → all_rows (flat_rows rs) ≡ rs
flat_rows_law rs = rows_one (all_rows (flat_rows rs)) rs (nodes_flat (flat_rows rs) (omega (arith, rows_wide rs)))

-- a number row that holds the bytes that it tells of
abbrev pub Own : List ℕ → Span → Type 0
Own text (span start len x) = take len (drop start text) ≡ x

own_in : (text : List ℕ) (ss : List Span) → All (SpanIn text) ss → All (Own text) ss
unfolding All
own_in text [] a = tt
own_in text (span start len x ∷ ss) a = (a.0.bytes, own_in text ss a.1)

own_all : (text ms : List ℕ) (n : ℕ) → All (Own text) (spans_in text ms n)
unfolding All spans_in firsts
own_all text ms zero = tt
own_all text ms (suc n) = all_snoc (Own text) (firsts (span_at text ms) n) (span_at text ms n) (own_all text ms n) refl

two : (a b a' b' : ℕ) (l l' : List ℕ) → ◌≡◌ {A = List ℕ} (a ∷ b ∷ l) (a' ∷ b' ∷ l') → (a ≡ a') × (b ≡ b') × (l ≡ l')
two a b a' b' l l' e = (cc, cc, cc)

spans_one : (text : List ℕ) (a b : List Span) → All (Own text) a → All (Own text) b → flat_spans a ≡ flat_spans b → a ≡ b
unfolding flat_spans flat_map All
spans_one text [] [] u v e = refl
spans_one text [] (span s l x ∷ b) u v e = let z : ◌≡◌ {A = ℕ} 0 1 = cc in absurd (omega arith)
spans_one text (span s l x ∷ a) [] u v e = let z : ◌≡◌ {A = ℕ} 0 1 = cc in absurd (omega arith)
spans_one text (span s l x ∷ a) (span s' l' x' ∷ b) u v e =
    let w = two s l s' l' (flat_spans a) (flat_spans b) e in
    let q : a ≡ b = spans_one text a b u.1 v.1 w.2 in
    let y : x ≡ x' = sym u.0 ∙ rw (w.0, w.1) v.0 in
    rw (w.0, w.1, y, q)

pub own_spans : (text : List ℕ) (ss : List Span) → All (Own text) ss → all_spans text (flat_spans ss) ≡ ss
own_spans text ss a = spans_one text (all_spans text (flat_spans ss)) ss (own_all text (flat_spans ss) (number_room (flat_spans ss))) a (numbers_flat text (flat_spans ss) (omega (arith, spans_wide ss)))

pub flat_spans_law : (text : List ℕ) (ss : List Span) → All (SpanIn text) ss → all_spans text (flat_spans ss) ≡ ss
flat_spans_law text ss a = own_spans text ss (own_in text ss a)

-- ---- lengths
pub flat_whole : (rs : List Row) (ss : List Span) → are_whole (flat_rows rs) (flat_spans ss) ≡ true
unfolding are_whole
flat_whole rs ss = rw (eq-eqb (length (flat_rows rs) % node_width) 0 (omega (arith, rows_wide rs)), eq-eqb (length (flat_spans ss) % number_width) 0 (omega (arith, spans_wide ss)))

pub whole_lengths : (nodes numbers : List ℕ) → are_whole nodes numbers ≡ true → (length nodes % node_width ≡ 0) × (length numbers % number_width ≡ 0)
unfolding are_whole
whole_lengths nodes numbers e =
    let u = and_both (eqb (length nodes % node_width) 0) (eqb (length numbers % number_width) 0) e in
    (eqb-true (length nodes % node_width) 0 u.0, eqb-true (length numbers % number_width) 0 u.1)

-- ---- a store of given rows is well formed exactly when each number is one and the rows, by themselves, are a tree
pub well_by_rows : (text : List ℕ) (rs : List Row) (ss : List Span) → All (Own text) ss → well_formed text (flat_rows rs) (flat_spans ss) ≡ (every (is_number text) ss && is_some (meets (length ss) (above ∷ []) 0 0 rs))
unfolding are_numbers
well_by_rows text rs ss a =
    let its = own_spans text ss a in
    let room : number_room (flat_spans ss) ≡ length ss = sym (spans_length text (flat_spans ss) (number_room (flat_spans ss))) ∙ ap length its in
    well_by_walk text (flat_rows rs) (flat_spans ss) ∙ ap is_some (walk_of_law text (flat_rows rs) (flat_spans ss)) ∙ rw (flat_whole rs ss, its, room, flat_rows_law rs) (go (every (is_number text) ss) (meets (length ss) (above ∷ []) 0 0 rs))
  where
    go : (b : Bool) (o : Option (List Met)) → is_some (cond b o none) ≡ (b && is_some o)
    go true o = refl
    go false o = refl

-- ---- the used rows of slices that are left with zeros after them
pub used_rows_law : (rs : List Row) (m : ℕ) → take (length rs * node_width) (padded (flat_rows rs) m) ≡ flat_rows rs
used_rows_law rs m = front_of (flat_rows rs) (length rs * node_width) m (rows_wide rs)

pub used_spans_law : (ss : List Span) (m : ℕ) → take (length ss * number_width) (padded (flat_spans ss) m) ≡ flat_spans ss
used_spans_law ss m = front_of (flat_spans ss) (length ss * number_width) m (spans_wide ss)

-- ---- two stores are one tree exactly when their node rows and their number texts are the same
module _ (text nodes numbers : List ℕ) (t : Tree depth_limit) (e : tree_of text nodes numbers ≡ some t) where
  own_nodes : flat_rows (rows depth_limit t) ≡ nodes
  own_nodes = ap flat_rows (sym (store_tree text nodes numbers t e).its_rows) ∙ nodes_flat nodes (whole_lengths nodes numbers (is_tree text nodes numbers t e).lengths).0

  pub node_count_law : length (rows depth_limit t) ≡ node_room nodes
  node_count_law = ap length (sym (store_tree text nodes numbers t e).its_rows) ∙ rows_length nodes (node_room nodes)

  pub text_count : length (texts depth_limit t) ≡ number_room numbers
  text_count = ap length (sym (store_tree text nodes numbers t e).its_texts) ∙ texts_count text numbers

pub same_store : (text nodes numbers text' nodes' numbers' : List ℕ) (t t' : Tree depth_limit) → tree_of text nodes numbers ≡ some t → tree_of text' nodes' numbers' ≡ some t'
    → (t ≡ t') ↔ ((nodes ≡ nodes') × (all_texts text numbers ≡ all_texts text' numbers'))
same_store text nodes numbers text' nodes' numbers' t t' e e' = (forth, back)
  where
    its : StoreTree text nodes numbers t
    its = store_tree text nodes numbers t e

    its' : StoreTree text' nodes' numbers' t'
    its' = store_tree text' nodes' numbers' t' e'

    forth : t ≡ t' → (nodes ≡ nodes') × (all_texts text numbers ≡ all_texts text' numbers')
    forth z = (
      sym (own_nodes text nodes numbers t e) ∙ ap (λ x. flat_rows (rows depth_limit x)) z ∙ own_nodes text' nodes' numbers' t' e',
      its.its_texts ∙ ap (texts depth_limit) z ∙ sym its'.its_texts,
    )

    back : (nodes ≡ nodes') × (all_texts text numbers ≡ all_texts text' numbers') → t ≡ t'
    back z = (same_tree depth_limit t t' its.good.shape its'.good.shape).1 (sym its.its_rows ∙ ap all_rows z.0 ∙ its'.its_rows, sym its.its_texts ∙ z.1 ∙ its'.its_texts)
