-- Laws of putting the fields of a store: what is still to be put, a node or a number at a time, and the content of a field in an array.
-- Assumes nothing.
use mathlib.Core.Path.{◌≡◌, refl, ap, sym, ◌∙◌}
use mathlib.Core.List.{List, [], ◌∷◌, ◌++◌, flat_map, append_assoc}
use Prim.Native.Nat.{ℕ, zero, suc, ◌+◌, ◌-◌, ◌≤◌, ◌<◌}
use native.Mathlib.Omega.{arith}
use native.Mathlib.Decide.{dec_lt}
use lib.ListN.{length, take, drop, set, length-append, length-set}
use lib.Seq.{take_at, length-take-le}
use borrow.Rule.Slice.PartMut.{mid_of, put_mid, mid_len, same_len_mid}
use Rattle.lists.specs.Lists.{All}
use Rattle.store.specs.Rows.{node_room, number_room, kind_at, dimension_at, parts_at, row_at, span_at, firsts, rows_in, spans_in}
use Rattle.tree.specs.TreeIn.{span_texts}
use Rattle.walk.proofs.Firsts.{firsts_cut, firsts_past}
use Rattle.shape.specs.Numbers.{text_at}
use Rattle.shape.specs.Store.{all_rows, all_spans}
use Rattle.fields.specs.Counts.{count_bytes}
use Rattle.fields.specs.Fields.{field}
use Rattle.fields.proofs.Counts.{bytes_length}
use Rattle.stored_form.specs.declared.Version.{Version}
use Rattle.stored_form.specs.Form.{head_tag, node_tag, number_tag, head_field, node_field, number_field}
use Rattle.stored_writing.specs.Writing.{SmallRow}

-- ---- a number at a time
module _ (text numbers : List ℕ) (i : ℕ) where
  abbrev pub numbers_left : List ℕ → List ℕ
  numbers_left rest = flat_map number_field (span_texts (drop i (all_spans text numbers))) ++ rest

module _ (text numbers : List ℕ) (i : ℕ) where
  pub numbers_on : i < number_room numbers → {x : List ℕ} → x ≡ text_at text numbers i → (rest : List ℕ) → numbers_left text numbers i rest ≡ field number_tag x ++ numbers_left text numbers (i + 1) rest
  unfolding spans_in flat_map number_field text_at
  numbers_on h is rest = rw (is, firsts_cut (span_at text numbers) (number_room numbers) i h, append_assoc)

  pub numbers_end : number_room numbers ≤ i → (rest : List ℕ) → numbers_left text numbers i rest ≡ rest
  unfolding spans_in flat_map
  numbers_end h rest = rw (firsts_past (span_at text numbers) (number_room numbers) i h)

-- ---- a node at a time
pub all_last : {A : Type 0} (Q : A → Type 0) (l : List A) (x : A) → All Q (l ++ (x ∷ [])) → All Q l × Q x
unfolding All
all_last Q [] x a = (tt, a.0)
all_last Q (y ∷ l) x a = let u = all_last Q l x a.1 in ((a.0, u.0), u.1)

all_firsts : {A : Type 0} (f : ℕ → A) (Q : A → Type 0) (n i : ℕ) → All Q (firsts f n) → i < n → Q (f i)
unfolding firsts
all_firsts f Q zero i a h = absurd (omega arith)
all_firsts f Q (suc n) i a h = go (dec_lt i n) (all_firsts f Q n i)
  where
    go : Dec (i < n) → (All Q (firsts f n) → i < n → Q (f i)) → Q (f i)
    go (yes l) ih = ih (all_last Q (firsts f n) (f n) a).0 l
    go (no l) ih = let z : i ≡ n = omega (arith, l) in rw z (all_last Q (firsts f n) (f n) a).1

module _ (w : ℕ) (nodes : List ℕ) (i : ℕ) where
  abbrev pub nodes_left : List ℕ → List ℕ
  nodes_left rest = flat_map (node_field w) (drop i (all_rows nodes)) ++ rest

module _ (w : ℕ) (nodes : List ℕ) (i : ℕ) where
  pub nodes_on_law : i < node_room nodes → {x : List ℕ} → x ≡ kind_at nodes i ∷ dimension_at nodes i ∷ count_bytes w (parts_at nodes i) → (rest : List ℕ) → nodes_left w nodes i rest ≡ field node_tag x ++ nodes_left w nodes (i + 1) rest
  unfolding rows_in flat_map node_field
  nodes_on_law h is rest = rw (is, firsts_cut (row_at nodes) (node_room nodes) i h, append_assoc)

  pub nodes_end : node_room nodes ≤ i → (rest : List ℕ) → nodes_left w nodes i rest ≡ rest
  unfolding rows_in flat_map
  nodes_end h rest = rw (firsts_past (row_at nodes) (node_room nodes) i h)

-- ---- a field's content in an array
-- what is put back as a part ends what stands before it
front_put : (xs ys : List ℕ) (a e : ℕ) → a ≤ e → e ≤ length xs → length ys ≡ e - a → take e (put_mid a (e - a) xs ys) ≡ take a xs ++ ys
front_put xs ys a e h g n =
    let l : length (take a xs ++ ys) ≡ e = length-append (take a xs) ys ∙ omega (arith, length-take-le a xs (omega arith)) in
    ap (take e) (sym (append_assoc (take a xs) ys (drop (e - a) (drop a xs)))) ∙ take_at (take a xs ++ ys) (drop (e - a) (drop a xs)) e l

-- a part that is filled with a count has as many bytes as the part
part_count : (xs : List ℕ) (a e w n : ℕ) → e ≤ length xs → e - a ≡ w → {ys : List ℕ} → ys ≡ count_bytes (length (mid_of a (e - a) xs)) n → ys ≡ count_bytes w n
part_count xs a e w n g z is = is ∙ ap (λ (k : ℕ). count_bytes k n) (mid_len a e xs g ∙ z)

-- a count is put into a part: the array keeps its length, and its front is what stood before the part and the count
module _ (xs : List ℕ) (a e w n : ℕ) (up : a ≤ e) (in_it : e ≤ length xs) (wide : e - a ≡ w) {ys : List ℕ} (is : ys ≡ count_bytes (length (mid_of a (e - a) xs)) n) where
  pub counted_length : length (put_mid a (e - a) xs ys) ≡ length xs
  counted_length = same_len_mid a (e - a) xs ys (ap length is ∙ bytes_length (length (mid_of a (e - a) xs)) n)

  pub counted_front : take e (put_mid a (e - a) xs ys) ≡ take a xs ++ count_bytes w n
  counted_front =
      let c : ys ≡ count_bytes w n = part_count xs a e w n in_it wide is in
      front_put xs ys a e up in_it (ap length c ∙ bytes_length w n ∙ sym wide) ∙ ap (λ (l : List ℕ). take a xs ++ l) c

-- the content of a head
module _ (tail : List ℕ) (number w n m : ℕ) (long : length tail ≡ 8) (narrow : w ≤ 4) {first : List ℕ} (is : first ≡ count_bytes (length (mid_of 1 (1 + w - 1) (number ∷ tail))) n) where
  abbrev pub one_count : List ℕ
  one_count = put_mid 1 (1 + w - 1) (number ∷ tail) first

  pub one_count_length : length one_count ≡ 9
  one_count_length = counted_length (number ∷ tail) 1 (1 + w) w n (omega arith) (omega arith) (omega arith) is ∙ ap suc long

  module _ {second : List ℕ} (too : second ≡ count_bytes (length (mid_of (1 + w) (1 + w + w - (1 + w)) one_count)) m) where
    abbrev pub two_counts : List ℕ
    two_counts = put_mid (1 + w) (1 + w + w - (1 + w)) one_count second

    pub two_counts_length : length two_counts ≡ 9
    two_counts_length = counted_length one_count (1 + w) (1 + w + w) w m (omega arith) (omega (arith, one_count_length)) (omega arith) too ∙ one_count_length

    pub head_content_law : take (1 + w + w) two_counts ≡ number ∷ (count_bytes w n ++ count_bytes w m)
    head_content_law =
        counted_front one_count (1 + w) (1 + w + w) w m (omega arith) (omega (arith, one_count_length)) (omega arith) too
        ∙ ap (λ (l : List ℕ). l ++ count_bytes w m) (counted_front (number ∷ tail) 1 (1 + w) w n (omega arith) (omega arith) (omega arith) is)

-- a head's bytes, by its content
pub head_is : (v : Version) (n m : ℕ) {x : List ℕ} → x ≡ v.number ∷ (count_bytes v.width n ++ count_bytes v.width m) → (rest : List ℕ) → head_field v n m ++ rest ≡ field head_tag x ++ rest
unfolding head_field
head_is v n m is rest = rw is

-- the content of a node
two_cells : (cells : List ℕ) (k d : ℕ) → 2 ≤ length cells → take 2 (set (set cells 0 k) 1 d) ≡ k ∷ d ∷ []
two_cells [] k d h = absurd (omega arith)
two_cells (x ∷ []) k d h = absurd (omega arith)
two_cells (x ∷ y ∷ cells) k d h = refl

module _ (cells : List ℕ) (k d w n : ℕ) (long : length cells ≡ 6) (narrow : w ≤ 4) {counted : List ℕ} (is : counted ≡ count_bytes (length (mid_of 2 (2 + w - 2) (set (set cells 0 k) 1 d))) n) where
  abbrev pub node_cells : List ℕ
  node_cells = put_mid 2 (2 + w - 2) (set (set cells 0 k) 1 d) counted

  set_long : length (set (set cells 0 k) 1 d) ≡ 6
  set_long = length-set (set cells 0 k) 1 d ∙ length-set cells 0 k ∙ long

  pub node_cells_length : length node_cells ≡ 6
  node_cells_length = counted_length (set (set cells 0 k) 1 d) 2 (2 + w) w n (omega arith) (omega (arith, set_long)) (omega arith) is ∙ set_long

  pub node_content_law : take (2 + w) node_cells ≡ k ∷ d ∷ count_bytes w n
  node_content_law =
      counted_front (set (set cells 0 k) 1 d) 2 (2 + w) w n (omega arith) (omega (arith, set_long)) (omega arith) is
      ∙ ap (λ (l : List ℕ). l ++ count_bytes w n) (two_cells cells k d (omega arith))

-- one byte says the kind of each row, and one its dimension
pub small_at : (nodes : List ℕ) (i : ℕ) → All SmallRow (all_rows nodes) → i < node_room nodes → SmallRow (row_at nodes i)
unfolding rows_in
small_at nodes i a h = all_firsts (row_at nodes) SmallRow (node_room nodes) i a h
