-- What `boxes` answers and leaves, from what filling the table on the way through the rows comes to.
-- Assumes nothing.
use mathlib.Core.Path.{◌≡◌, refl, ap, ap₂, sym, ◌∙◌, subst}
use mathlib.Core.Bool.{Bool, true, false, false≢true, cond, ◌&&◌, and-true}
use mathlib.Core.Option.{Option, none, some}
use mathlib.Core.List.{List, [], ◌∷◌, ◌++◌, map, flat_map}
use Prim.Native.Nat.{ℕ, zero, suc, ◌+◌, ◌-◌, ◌*◌, ◌≤◌, ◌<◌}
use native.Mathlib.Omega.{arith}
use borrow.Author.Tests.{lt-ltb, le-ltb, eq-eqb, ne_eqb}
use lib.Dec.{leb}
use lib.IntN.{ℤ}
use native.Mathlib.Decide.{dec_lt}
use lib.Seq.{get_or-append_seam}
use lib.ListN.{length, take, drop, get_or, length-drop, get_or-append}
use Rattle.limits.specs.Limits.{depth_limit}
use Rattle.lists.specs.Lists.{every, All}
use Rattle.lists.proofs.Cases.{and_both}
use Rattle.store.proofs.Cells.{firsts_length}
use Rattle.store.proofs.Rows.{rows_length}
use Rattle.shape.proofs.Numbers.{every_snoc, every_at}
use Rattle.lists.specs.Options.{is_some, map_o}
use Rattle.refusals.specs.Refusals.{ill_formed_store, no_room}
use Rattle.store.specs.Rows.{node_room, number_room, span_start_at, span_length_at, span_at, spans_in, firsts}
use Rattle.number.specs.Lexeme.{is_lexeme}
use Rattle.decimal.specs.Reckon.{reckoned}
use Rattle.tree.specs.Tree.{Tree, rows, texts}
use Rattle.tree.specs.TreeIn.{span_text, tree_in}
use Rattle.tree.proofs.TreeIn.{TreesOwn, trees_own}
use Rattle.shape.specs.Numbers.{text_at, is_number, is_number_at, are_numbers}
use Rattle.shape.specs.Store.{all_rows, all_texts, are_whole, tree_of, well_formed, walk_root}
use Rattle.shape.specs.Walk.{whole_walk}
use Rattle.shape.proofs.Stores.{grown, rows_walk, texts_count, store_tree}
use Rattle.shape.proofs.Slices.{node_count_law}
use Rattle.store.specs.Rows.{cleared_to}
use Rattle.bounds.specs.declared.BoxAnswer.{BoxAnswer}
use Rattle.bounds.specs.Bounds.{BoxRow, box_width, box_room, five_of, zeros, padded, cleared, box_answer, Refuses}
use Rattle.tree.specs.Tree.{Coord}
use Rattle.node_boxes.specs.Boxes.{x_text, y_text, offence_of, offence_at, or_first, first_offence, fine, coords, boxes, boxed, refused, unless_offence, boxes_if, boxes_of, FillsTable}
use Rattle.node_boxes.specs.Turns.{reckoned_at, are_good, good_by, offence_by, verdict, FilledBy}
use Rattle.node_boxes.specs.Holds.{Placed}
use Rattle.node_boxes.proofs.Rows.{over, length_over}
use Rattle.node_boxes.proofs.Trees.{Reads, as_many, root_fills}
use Rattle.node_boxes.proofs.Tallies.{good_append, first_assoc, root_good, root_offence}
use Rattle.node_boxes.proofs.Faults.{Numeric, tree_numeric, Says, no_fault, a_fault, says}

-- ---- refusals
refuses_table : (number place : ℕ) (t t' : List ℤ) (a : BoxAnswer) → Refuses number place t a t' → FillsTable (refused number place) t a t'
refuses_table number place t t' a r = let z : length t - 0 ≡ length t = omega arith in record { answer = r.answer; table = r.table ∙ ap zeros (sym z) }

module _ (text nodes numbers : List ℕ) (t t' : List ℤ) (a : BoxAnswer) where
  pub ill_refused : well_formed text nodes numbers ≡ false → Refuses ill_formed_store 0 t a t' → FillsTable (boxes_of text nodes numbers (box_room t)) t a t'
  unfolding well_formed boxes_of
  ill_refused e r = go (tree_of text nodes numbers) e
    where
      go : (o : Option (Tree depth_limit)) → is_some o ≡ false → FillsTable (boxes_if numbers (box_room t) o) t a t'
      go none e = refuses_table ill_formed_store 0 t t' a r
      go (some x) e = absurd (false≢true (sym e))

  pub small_refused : well_formed text nodes numbers ≡ true → box_room t < node_room nodes → Refuses no_room 0 t a t' → FillsTable (boxes_of text nodes numbers (box_room t)) t a t'
  unfolding boxes_of
  small_refused e h r =
      let g = grown text nodes numbers e in
      let n = node_count_law text nodes numbers g.tree g.is in
      rw (g.is, lt-ltb (box_room t) (length (rows depth_limit g.tree)) (omega (arith, n, h))) (refuses_table no_room 0 t t' a r)

pub not_whole : (text nodes numbers : List ℕ) → are_whole nodes numbers ≡ false → well_formed text nodes numbers ≡ false
unfolding well_formed tree_of
not_whole text nodes numbers e = rw e

-- ---- number texts
map_length : {A : Type 0} (g : A → List ℕ) (l : List A) → length (map g l) ≡ length l
map_length g [] = refl
map_length g (x ∷ l) = ap suc (map_length g l)

map_snoc : {A : Type 0} (g : A → List ℕ) (l : List A) (a : A) → map g (l ++ (a ∷ [])) ≡ map g l ++ (g a ∷ [])
map_snoc g [] a = refl
map_snoc g (x ∷ l) a = ap (λ r. g x ∷ r) (map_snoc g l a)

at_first : {A : Type 0} (g : A → List ℕ) (f : ℕ → A) (n k : ℕ) → k < n → get_or (map g (firsts f n)) k [] ≡ g (f k)
unfolding firsts
at_first g f zero k h = absurd (omega arith)
at_first g f (suc n) k h = ap (λ l. get_or l k []) (map_snoc g (firsts f n) (f n)) ∙ go (dec_lt k n) (λ l. at_first g f n k l)
  where
    long : length (map g (firsts f n)) ≡ n
    long = map_length g (firsts f n) ∙ firsts_length f n

    go : Dec (k < n) → (k < n → get_or (map g (firsts f n)) k [] ≡ g (f k)) → get_or (map g (firsts f n) ++ (g (f n) ∷ [])) k [] ≡ g (f k)
    go (yes l) ih = get_or-append (map g (firsts f n)) (g (f n) ∷ []) [] k (omega (arith, long, l)) ∙ ih l
    go (no l) ih =
        let z : k ≡ length (map g (firsts f n)) = omega (arith, long, l) in
        let y : n ≡ k = omega (arith, l) in
        ap (λ m. get_or (map g (firsts f n) ++ (g (f n) ∷ [])) m []) z ∙ get_or-append_seam (map g (firsts f n)) (g (f n)) [] [] ∙ ap (λ m. g (f m)) y

module _ (text numbers : List ℕ) where
  -- all numbers are some: one after the other, and by the check of the store
  good_numbers : (n : ℕ) → are_good text numbers 0 n ≡ every (is_number text) (spans_in text numbers n)
  unfolding are_good spans_in firsts every is_number_at
  good_numbers zero = refl
  good_numbers (suc n) =
      let z : suc n ≡ n + 1 = omega arith in
      let one : are_good text numbers n 1 ≡ is_number text (span_at text numbers n) = and-true (is_number text (span_at text numbers n)) in
      let y : 0 + n ≡ n = omega arith in
      ap (are_good text numbers 0) z
      ∙ good_append text numbers n 1 0
      ∙ ap₂ (λ a b. a && b) (good_numbers n) (ap (λ m. are_good text numbers m 1) y ∙ one)
      ∙ sym (every_snoc (is_number text) (firsts (span_at text numbers) n) (span_at text numbers n))

  -- then each comes to what its text comes to
  reads_all : are_numbers text numbers ≡ true → Reads text numbers 0 (all_texts text numbers)
  unfolding Reads are_numbers spans_in reckoned_at text_at
  reads_all e k h =
      let z : 0 + k ≡ k = omega arith in
      let room : length (all_texts text numbers) ≡ number_room numbers = texts_count text numbers in
      let l : k < number_room numbers = omega (arith, room, h) in
      let number = every_at (is_number text) (span_at text numbers) (number_room numbers) k e l in
      let inside = (and_both (leb (span_start_at numbers k + span_length_at numbers k) (length text)) (is_lexeme (take (span_length_at numbers k) (drop (span_start_at numbers k) text))) number).0 in
      rw (z, inside) (ap reckoned (sym (at_first span_text (span_at text numbers) (number_room numbers) k l)))

-- ---- the first offence, where there is none
no_offence : (numbers : List ℕ) (j : ℕ) (cs : List Coord) → or_first (first_offence numbers j cs) fine ≡ first_offence numbers j cs
unfolding first_offence
no_offence numbers j [] = refl
no_offence numbers j (c ∷ cs) =
    let x : BoxAnswer = offence_at numbers j (offence_of (reckoned (x_text c))) in
    let y : BoxAnswer = offence_at numbers (j + 1) (offence_of (reckoned (y_text c))) in
    let r : BoxAnswer = first_offence numbers (j + length c) cs in
    first_assoc x (or_first y r) fine ∙ ap (or_first x) (first_assoc y r fine ∙ ap (or_first y) (no_offence numbers (j + length c) cs))

is_fine : (a : BoxAnswer) → or_first a fine ≡ a → a.number ≡ 0 → a ≡ fine
is_fine a c e = sym c ∙ rw (eq-eqb a.number 0 e)

-- then each X and Y has its sides
placed_if : (numbers : List ℕ) (cs : List Coord) → All Numeric cs → (first_offence numbers 0 cs).number ≡ 0 → All Placed cs
placed_if numbers cs h e = go (first_offence numbers 0 cs) (says numbers cs h) e
  where
    go : (a : BoxAnswer) → Says numbers cs a → a.number ≡ 0 → All Placed cs
    go _ (no_fault k p) e = p
    go _ (a_fault f n) e = absurd (n e)

-- ---- rows of a table
taken : (rs : List BoxRow) (t : List ℤ) → take (length rs * box_width) (over rs t) ≡ flat_map five_of rs
unfolding flat_map
taken [] t = refl
taken (r ∷ rs) t = let z : suc (length rs) * box_width ≡ suc (suc (suc (suc (suc (length rs * box_width))))) = omega arith in rw (z, taken rs t)

flat_length : (rs : List BoxRow) → length (flat_map five_of rs) ≡ length rs * box_width
unfolding flat_map
flat_length [] = refl
flat_length (r ∷ rs) = let ih = flat_length rs in omega (arith, ih)

-- the table behind the rows cleared
cleared_rows : (rs : List BoxRow) (t : List ℤ) (n m : ℕ) → length rs ≡ n → length (over rs t) ≡ m → cleared (over rs t) (n * box_width) ≡ padded (flat_map five_of rs) m
unfolding cleared_to
cleared_rows rs t n m e l = rw (← e, ← l, flat_length rs, taken rs t)

-- ---- the whole: what the way through the rows comes to
data Came (text nodes numbers : List ℕ) (t : List ℤ) (a : BoxAnswer) (t₁ : List ℤ) : Type 0 where
  ill : boxes_of text nodes numbers (box_room t) ≡ refused ill_formed_store 0 → a ≡ box_answer ill_formed_store 0 → Came text nodes numbers t a t₁
  good : (x : Tree depth_limit) → boxes_of text nodes numbers (box_room t) ≡ unless_offence (first_offence numbers 0 (coords depth_limit x)) (boxes depth_limit x) → a ≡ first_offence numbers 0 (coords depth_limit x)
      → ((first_offence numbers 0 (coords depth_limit x)).number ≡ 0 → t₁ ≡ over (boxes depth_limit x) (drop (node_room nodes * box_width) t)) → length (rows depth_limit x) ≡ node_room nodes → Came text nodes numbers t a t₁

module _ (text nodes numbers : List ℕ) (t : List ℤ) (whole : are_whole nodes numbers ≡ true) (room : node_room nodes ≤ box_room t) (a : BoxAnswer) (t₁ : List ℤ) where
  abbrev found : Option (Tree depth_limit)
  found = tree_in depth_limit (all_rows nodes) (all_texts text numbers)

  no_tree : tree_of text nodes numbers ≡ none → boxes_of text nodes numbers (box_room t) ≡ refused ill_formed_store 0
  unfolding boxes_of
  no_tree e = rw e

  -- the store is the tree that its rows are, if its numbers are some
  tree_is : (b : Bool) (o : Option (Tree depth_limit)) → are_numbers text numbers ≡ b → found ≡ o → tree_of text nodes numbers ≡ cond b o none
  unfolding tree_of
  tree_is b o e f = rw (whole, e, f)

  both_none : (b : Bool) → cond {A = Option (Tree depth_limit)} b none none ≡ none
  both_none true = refl
  both_none false = refl

  module _ (x : Tree depth_limit) (f : found ≡ some x) where
    its : TreesOwn depth_limit (all_rows nodes) (all_texts text numbers) x
    its = trees_own depth_limit (all_rows nodes) (all_texts text numbers) x f

    row_count : length (rows depth_limit x) ≡ node_room nodes
    row_count = ap length (sym its.its_rows) ∙ rows_length nodes (node_room nodes)

    -- all numbers are some, as the walk tells it
    told_good : good_by text numbers true (walk_root x) ≡ are_numbers text numbers
    unfolding are_numbers
    told_good =
        root_good text numbers depth_limit x its.shape
        ∙ ap (are_good text numbers 0) (ap length (sym its.its_texts) ∙ texts_count text numbers)
        ∙ good_numbers text numbers (number_room numbers)

    tree_boxes : tree_of text nodes numbers ≡ some x → boxes_of text nodes numbers (box_room t) ≡ unless_offence (first_offence numbers 0 (coords depth_limit x)) (boxes depth_limit x)
    unfolding boxes_of
    tree_boxes h =
        ap (boxes_if numbers (box_room t)) h
        ∙ ap (λ b. cond b (refused no_room 0) (unless_offence (first_offence numbers 0 (coords depth_limit x)) (boxes depth_limit x))) (le-ltb (box_room t) (length (rows depth_limit x)) (let n = row_count in omega (arith, n, room)))

    by_numbers : (b : Bool) → are_numbers text numbers ≡ b → FilledBy text numbers t a t₁ (some (walk_root x)) → Came text nodes numbers t a t₁
    by_numbers false e filled = ill (no_tree (tree_is false (some x) e f)) (filled.0 ∙ ap (λ g. verdict g (offence_by text numbers fine (walk_root x))) (told_good ∙ e))
    by_numbers true e filled =
        let reads : Reads text numbers 0 (texts depth_limit x) = subst (Reads text numbers 0) its.its_texts (reads_all text numbers e) in
        let numeric : All Numeric (coords depth_limit x) = tree_numeric depth_limit x (store_tree text nodes numbers x (tree_is true (some x) e f)).good in
        let fits : length (rows depth_limit x) * box_width ≤ length t = let n = row_count in omega (arith, n, room) in
        good x
        (tree_boxes (tree_is true (some x) e f))
        (filled.0 ∙ ap₂ verdict (told_good ∙ e) (root_offence text numbers depth_limit x its.shape reads))
        (λ z. filled.1 ∙ root_fills text numbers depth_limit x its.shape (placed_if numbers (coords depth_limit x) numeric z) reads t fits ∙ ap (λ n. over (boxes depth_limit x) (drop (n * box_width) t)) row_count)
        row_count

  came : FilledBy text numbers t a t₁ (whole_walk nodes (number_room numbers)) → Came text nodes numbers t a t₁
  came filled = go found refl (subst (FilledBy text numbers t a t₁) (rows_walk text nodes numbers) filled)
    where
      go : (o : Option (Tree depth_limit)) → found ≡ o → FilledBy text numbers t a t₁ (map_o walk_root o) → Came text nodes numbers t a t₁
      go none f filled = ill (no_tree (tree_is (are_numbers text numbers) none refl f ∙ both_none (are_numbers text numbers))) filled
      go (some x) f filled = by_numbers x f (are_numbers text numbers) refl filled

  -- a refusal
  refused_by : (t' : List ℤ) (r : BoxAnswer) → FilledBy text numbers t a t₁ (whole_walk nodes (number_room numbers)) → (a.number ≡ 0 → ⊥) → length t₁ ≡ length t → Refuses a.number a.place t₁ r t' → FillsTable (boxes_of text nodes numbers (box_room t)) t r t'
  refused_by t' r filled offends same refuses =
      subst (λ o. FillsTable o t r t') (sym (is (came filled))) (refuses_table a.number a.place t t' r (record { answer = refuses.answer; table = refuses.table ∙ ap zeros same }))
    where
      is : Came text nodes numbers t a t₁ → boxes_of text nodes numbers (box_room t) ≡ refused a.number a.place
      is (ill o e) = o ∙ ap (λ (b : BoxAnswer). refused b.number b.place) (sym e)
      is (good x o e table n) = o ∙ ap (λ b. unless_offence b (boxes depth_limit x)) (sym e) ∙ ap (λ b. cond b (boxed (boxes depth_limit x)) (refused a.number a.place)) (ne_eqb a.number 0 offends)

  -- the boxes
  boxed_by : (t' : List ℤ) → FilledBy text numbers t a t₁ (whole_walk nodes (number_room numbers)) → a.number ≡ 0 → t' ≡ cleared t₁ (node_room nodes * 5) → FillsTable (boxes_of text nodes numbers (box_room t)) t a t'
  boxed_by t' filled fine? clears = go (came filled)
    where
      go : Came text nodes numbers t a t₁ → FillsTable (boxes_of text nodes numbers (box_room t)) t a t'
      go (ill o e) = let z : ◌≡◌ {A = ℕ} 22 0 = sym (ap (λ (b : BoxAnswer). b.number) e) ∙ fine? in absurd (omega arith)
      go (good x o e table n) =
          let is : boxes_of text nodes numbers (box_room t) ≡ boxed (boxes depth_limit x) = o ∙ ap (λ b. unless_offence b (boxes depth_limit x)) (sym e) ∙ ap (λ b. cond b (boxed (boxes depth_limit x)) (refused a.number a.place)) (eq-eqb a.number 0 fine?) in
          let many : length (boxes depth_limit x) ≡ node_room nodes = as_many depth_limit x ∙ n in
          let rest : length (drop (node_room nodes * box_width) t) ≡ length t - node_room nodes * box_width = length-drop (node_room nodes * box_width) t in
          let long : length (over (boxes depth_limit x) (drop (node_room nodes * box_width) t)) ≡ length t = let l = length_over (boxes depth_limit x) (drop (node_room nodes * box_width) t) in omega (arith, l, many, rest, room) in
          subst (λ o. FillsTable o t a t') (sym is)
          (record {
            answer = is_fine a (rw e (no_offence numbers 0 (coords depth_limit x))) fine?;
            table = clears ∙ ap (λ u. cleared u (node_room nodes * box_width)) (table (sym (ap (λ (b : BoxAnswer). b.number) e) ∙ fine?)) ∙ cleared_rows (boxes depth_limit x) (drop (node_room nodes * box_width) t) (node_room nodes) (length t) many long;
          })

-- ---- as the code asks for it
pub filled_refused : (text nodes numbers : List ℕ) (t t₁ t' : List ℤ) (a r : BoxAnswer) → are_whole nodes numbers ≡ true → node_room nodes ≤ box_room t → FilledBy text numbers t a t₁ (whole_walk nodes (number_room numbers)) → (a.number ≡ 0 → ⊥) → length t₁ ≡ length t
    → Refuses a.number a.place t₁ r t' → FillsTable (boxes_of text nodes numbers (box_room t)) t r t'
filled_refused text nodes numbers t t₁ t' a r whole room filled offends same refuses = refused_by text nodes numbers t whole room a t₁ t' r filled offends same refuses

pub filled_boxed : (text nodes numbers : List ℕ) (t t₁ t' : List ℤ) (a : BoxAnswer) → are_whole nodes numbers ≡ true → node_room nodes ≤ box_room t → FilledBy text numbers t a t₁ (whole_walk nodes (number_room numbers)) → a.number ≡ 0 → t' ≡ cleared t₁ (node_room nodes * 5)
    → FillsTable (boxes_of text nodes numbers (box_room t)) t a t'
filled_boxed text nodes numbers t t₁ t' a whole room filled fines clears = boxed_by text nodes numbers t whole room a t₁ t' filled fines clears
