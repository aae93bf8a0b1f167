-- Bytes are refused exactly when a field, or what all fields tell, gives a reason, with its number and its place.
-- Assumes nothing.
use mathlib.Core.Path.{◌≡◌, refl, ap, sym, ◌∙◌}
use mathlib.Core.Bool.{Bool, true, false, false≢true, not, ◌&&◌}
use mathlib.Core.Logic.{◌↔◌}
use mathlib.Core.List.{List}
use Prim.Native.Nat.{ℕ, zero, suc, ◌+◌, ◌*◌, ◌≤◌, ◌<◌}
use native.Mathlib.Omega.{arith}
use native.Mathlib.Numerals.{add-one}
use native.Mathlib.Nat.{zero-mul, suc-mul}
use native.Mathlib.Decide.{dec_lt}
use lib.Dec.{eqb, ltb}
use lib.ListN.{length, get_or, drop}
use borrow.Author.Tests.{eqb-true, eqb-false, eq-eqb, ne_eqb, lt-ltb, le-ltb, ltb-true, not-true}
use Rattle.lists.proofs.Cases.{and_both}
use Rattle.store.specs.Rows.{flat_rows, flat_spans, firsts}
use Rattle.store.specs.Answers.{Outcome, filled, refused}
use Rattle.store.proofs.Cells.{firsts_length}
use Rattle.walk.proofs.Firsts.{firsts_cut, firsts_past}
use Rattle.shape.specs.Store.{well_formed}
use Rattle.fields.specs.Fields.{head_length, content_end, is_field, is_sized}
use Rattle.stored_form.specs.declared.Version.{Version}
use Rattle.stored_form.specs.Form.{head_tag, node_tag, number_tag, head_size, node_size, first_node, node_place}
use Rattle.stored_form.specs.Reading.{version_at, is_other_version, head_in, faulty, whole, before, fields_from, row_told, node_after, nodes_from, span_told, numbers_from, place_after, roomed, checked, after_nodes, after_numbers, reading_of}
use Rattle.stored.specs.Faults.{OtherVersion, node_count, number_count, number_place, rows_told, spans_told, Ours, HasHead, HasNodes, HasNumbers, HasFields, HasTree, Fault, too_long, other_version, bad_head, bad_node, bad_number_law, extra, no_tree, no_node_row_law, no_number_row_law, Reads, accepts, refuses}
use Rattle.stored_form.proofs.Runs.{field_on, field_off, no_field}

-- ---- fields at places that follow each other
module _ {X : Type 0} (right : ℕ → Bool) (told : ℕ → X) (next : ℕ → ℕ) (at : ℕ → ℕ) (on : (i : ℕ) → at (i + 1) ≡ next (at i)) where
  -- the fields from i on, up to m, are right
  run_right : (m n i : ℕ) → i + n ≡ m → ((j : ℕ) → j < m → right (at j) ≡ true) → fields_from right told next (at i) n ≡ whole (drop i (firsts (λ j. told (at j)) m)) (at m)
  run_right m zero i e r = let z : i ≡ m = omega arith in no_field right told next (at i) ∙ rw (z, firsts_past (λ j. told (at j)) m m (omega arith))
  run_right m (suc n) i e r =
      let l : i < m = omega arith in
      field_on right told next (at i) n (r i l) ∙ ap (λ (k : ℕ). before (told (at i)) (fields_from right told next k n)) (sym (on i)) ∙ ap (before (told (at i))) (run_right m n (i + 1) (omega arith) r) ∙ rw (firsts_cut (λ j. told (at j)) m i l)

  -- the field k is the first that isn't
  run_faulty : (k n i : ℕ) → i ≤ k → k < i + n → ((j : ℕ) → j < k → right (at j) ≡ true) → right (at k) ≡ false → fields_from right told next (at i) n ≡ faulty (at k)
  run_faulty k zero i h l r f = absurd (omega arith)
  run_faulty k (suc n) i h l r f = go (dec_lt i k) (run_faulty k n (i + 1))
    where
      go : Dec (i < k) → (i + 1 ≤ k → k < i + 1 + n → ((j : ℕ) → j < k → right (at j) ≡ true) → right (at k) ≡ false → fields_from right told next (at (i + 1)) n ≡ faulty (at k)) → fields_from right told next (at i) (suc n) ≡ faulty (at k)
      go (yes m) ih = field_on right told next (at i) n (r i m) ∙ ap (λ (j : ℕ). before (told (at i)) (fields_from right told next j n)) (sym (on i)) ∙ ap (before (told (at i))) (ih (omega arith) (omega arith) r f)
      go (no m) ih = let z : i ≡ k = omega (arith, m) in rw z (field_off right told next (at k) n f)

-- the first n places are right, or one of them is the first that isn't
data Scan (right : ℕ → Bool) (at : ℕ → ℕ) (n : ℕ) : Type 0 where
  all_right : ((i : ℕ) → i < n → right (at i) ≡ true) → Scan right at n
  first_bad : (i : ℕ) → i < n → ((j : ℕ) → j < i → right (at j) ≡ true) → right (at i) ≡ false → Scan right at n

scan : (right : ℕ → Bool) (at : ℕ → ℕ) (n : ℕ) → Scan right at n
scan right at zero = all_right λ i h. absurd (omega arith)
scan right at (suc n) = go (scan right at n) (right (at n)) refl
  where
    go : Scan right at n → (b : Bool) → right (at n) ≡ b → Scan right at (suc n)
    go (first_bad i h r f) b e = first_bad i (omega arith) r f
    go (all_right r) true e = all_right λ i h. more i h (dec_lt i n)
      where
        more : (i : ℕ) → i < suc n → Dec (i < n) → right (at i) ≡ true
        more i h (yes l) = r i l
        more i h (no l) = let z : i ≡ n = omega (arith, l) in rw z e
    go (all_right r) false e = first_bad n (omega arith) r e

-- ---- the places of fields
node_first : (w : ℕ) → node_place w 0 ≡ first_node w
node_first w = let z : 0 * (head_length + node_size w) ≡ 0 = zero-mul (head_length + node_size w) in omega (arith, z)

node_next : (w i : ℕ) → node_place w (i + 1) ≡ node_after w (node_place w i)
node_next w i = let z : (i + 1) * (head_length + node_size w) ≡ i * (head_length + node_size w) + (head_length + node_size w) = rw (add-one i) (suc-mul i (head_length + node_size w)) in omega (arith, z)

number_next : (bytes : List ℕ) (i at : ℕ) → place_after bytes at (i + 1) ≡ content_end bytes (place_after bytes at i)
unfolding place_after
number_next bytes zero at = refl
number_next bytes (suc i) at = let z : suc i + 1 ≡ suc (i + 1) = omega arith in rw z (number_next bytes i (content_end bytes at))

number_first : (bytes : List ℕ) (at : ℕ) → place_after bytes at 0 ≡ at
unfolding place_after
number_first bytes at = refl

module _ (v : Version) (bytes : List ℕ) where
  -- ---- versions
  is_other : OtherVersion v bytes → is_other_version v bytes ≡ true
  unfolding is_other_version
  is_other o = rw (lt-ltb version_at (length bytes) o.there, eq-eqb (get_or bytes 0 0) head_tag o.first, ne_eqb (get_or bytes version_at 0) v.number o.other)

  other_is : is_other_version v bytes ≡ true → OtherVersion v bytes
  unfolding is_other_version
  other_is e =
      let a = and_both (ltb version_at (length bytes) && eqb (get_or bytes 0 0) head_tag) (not (eqb (get_or bytes version_at 0) v.number)) e in
      let b = and_both (ltb version_at (length bytes)) (eqb (get_or bytes 0 0) head_tag) a.0 in
      record { first = eqb-true (get_or bytes 0 0) head_tag b.1; there = ltb-true version_at (length bytes) b.0; other = eqb-false (get_or bytes version_at 0) v.number (not-true (eqb (get_or bytes version_at 0) v.number) a.1) }

  this_version : (OtherVersion v bytes → ⊥) → is_other_version v bytes ≡ false
  this_version n = go (is_other_version v bytes) refl
    where
      go : (b : Bool) → is_other_version v bytes ≡ b → is_other_version v bytes ≡ false
      go true e = absurd (n (other_is e))
      go false e = e

  module _ (N M : ℕ) where
    -- ---- how far the reading comes
    abbrev middle : ℕ
    middle = node_place v.width (node_count v bytes)

    after_head_law : HasHead v bytes → reading_of v N M bytes ≡ after_nodes v.width N M (number_count v bytes) bytes (nodes_from v.width bytes (first_node v.width) (node_count v bytes))
    unfolding reading_of head_in
    after_head_law h = rw (le-ltb v.limit (length bytes) h.ours.short, this_version h.ours.this, h.head)

    after_nodes_law : HasNodes v bytes → reading_of v N M bytes ≡ after_numbers v.width N M bytes (rows_told v bytes) middle (numbers_from bytes middle (number_count v bytes))
    after_nodes_law h =
        let w = v.width in
        let r = run_right (is_sized node_tag (node_size w) bytes) (row_told w bytes) (node_after w) (node_place w) (node_next w) (node_count v bytes) (node_count v bytes) 0 (omega arith) h.nodes in
        after_head_law h.has_head ∙ ap (after_nodes w N M (number_count v bytes) bytes) (ap (λ (k : ℕ). nodes_from w bytes k (node_count v bytes)) (sym (node_first w)) ∙ r)

    after_numbers_law : HasNumbers v bytes → reading_of v N M bytes ≡ after_numbers v.width N M bytes (rows_told v bytes) middle (whole (spans_told v bytes) (number_place v bytes (number_count v bytes)))
    after_numbers_law h =
        let r = run_right (is_field number_tag bytes) (span_told bytes) (content_end bytes) (number_place v bytes) (λ i. number_next bytes i middle) (number_count v bytes) (number_count v bytes) 0 (omega arith) h.numbers in
        after_nodes_law h.has_nodes ∙ ap (after_numbers v.width N M bytes (rows_told v bytes) middle) (ap (λ (k : ℕ). numbers_from bytes k (number_count v bytes)) (sym (number_first bytes middle)) ∙ r)

    after_fields : HasFields v bytes → reading_of v N M bytes ≡ checked v.width N M bytes (rows_told v bytes) middle (spans_told v bytes)
    after_fields h = after_numbers_law h.has_numbers ∙ rw (le-ltb (number_place v bytes (number_count v bytes)) (length bytes) h.last)

    after_tree : HasTree v bytes → reading_of v N M bytes ≡ roomed v.width N M bytes (rows_told v bytes) middle (spans_told v bytes)
    unfolding checked
    after_tree h = after_fields h.has_fields ∙ rw h.tree

    rows_count : length (rows_told v bytes) ≡ node_count v bytes
    rows_count = firsts_length (λ i. row_told v.width bytes (node_place v.width i)) (node_count v bytes)

    spans_count : length (spans_told v bytes) ≡ number_count v bytes
    spans_count = firsts_length (λ i. span_told bytes (number_place v bytes i)) (number_count v bytes)

    -- ---- each reason gives its refusal
    pub fault_refused : {number place : ℕ} → Fault v bytes N M number place → reading_of v N M bytes ≡ refused number place
    unfolding reading_of head_in checked roomed
    fault_refused (too_long h) = rw (lt-ltb v.limit (length bytes) h)
    fault_refused (other_version h o) = rw (le-ltb v.limit (length bytes) h, is_other o)
    fault_refused (bad_head o h) = rw (le-ltb v.limit (length bytes) o.short, this_version o.this, h)
    fault_refused (bad_node i h l r f) =
        let w = v.width in
        after_head_law h ∙ ap (after_nodes w N M (number_count v bytes) bytes) (ap (λ (k : ℕ). nodes_from w bytes k (node_count v bytes)) (sym (node_first w)) ∙ run_faulty (is_sized node_tag (node_size w) bytes) (row_told w bytes) (node_after w) (node_place w) (node_next w) i (node_count v bytes) 0 (omega arith) (omega arith) r f)
    fault_refused (bad_number_law i h l r f) =
        after_nodes_law h ∙ ap (after_numbers v.width N M bytes (rows_told v bytes) middle) (ap (λ (k : ℕ). numbers_from bytes k (number_count v bytes)) (sym (number_first bytes middle)) ∙ run_faulty (is_field number_tag bytes) (span_told bytes) (content_end bytes) (number_place v bytes) (λ i. number_next bytes i middle) i (number_count v bytes) 0 (omega arith) (omega arith) r f)
    fault_refused (extra h l) = after_numbers_law h ∙ rw (lt-ltb (number_place v bytes (number_count v bytes)) (length bytes) l)
    fault_refused (no_tree h f) = after_fields h ∙ rw f
    fault_refused (no_node_row_law h l) = after_tree h ∙ rw (rows_count, lt-ltb N (node_count v bytes) l)
    fault_refused (no_number_row_law h g l) = after_tree h ∙ rw (rows_count, le-ltb N (node_count v bytes) g, spans_count, lt-ltb M (number_count v bytes) l)

    tree_accepted : HasTree v bytes → node_count v bytes ≤ N → number_count v bytes ≤ M → reading_of v N M bytes ≡ filled (rows_told v bytes) (spans_told v bytes)
    unfolding roomed
    tree_accepted h g l = after_tree h ∙ rw (rows_count, le-ltb N (node_count v bytes) g, spans_count, le-ltb M (number_count v bytes) l)

    -- ---- and there are no others
    Told : Type 0
    Told = Reads v bytes N M (reading_of v N M bytes)

    told : {number place : ℕ} → Fault v bytes N M number place → Told
    unfolding Told
    told f = rw (fault_refused f) (refuses f)

    told_tree : HasTree v bytes → Told
    unfolding Told
    told_tree h = go (dec_lt N (node_count v bytes)) (dec_lt M (number_count v bytes))
      where
        go : Dec (N < node_count v bytes) → Dec (M < number_count v bytes) → Told
        go (yes l) m = told (no_node_row_law h l)
        go (no l) (yes m) = told (no_number_row_law h (omega (arith, l)) m)
        go (no l) (no m) = rw (tree_accepted h (omega (arith, l)) (omega (arith, m))) (accepts h (omega (arith, l)) (omega (arith, m)))

    told_fields : HasFields v bytes → Told
    told_fields h = go (well_formed bytes (flat_rows (rows_told v bytes)) (flat_spans (spans_told v bytes))) refl
      where
        go : (b : Bool) → well_formed bytes (flat_rows (rows_told v bytes)) (flat_spans (spans_told v bytes)) ≡ b → Told
        go true e = told_tree (record { has_fields = h; tree = e })
        go false e = told (no_tree h e)

    told_numbers : HasNumbers v bytes → Told
    told_numbers h = go (dec_lt (number_place v bytes (number_count v bytes)) (length bytes))
      where
        go : Dec (number_place v bytes (number_count v bytes) < length bytes) → Told
        go (yes l) = told (extra h l)
        go (no l) = told_fields (record { has_numbers = h; last = omega (arith, l) })

    told_nodes : HasNodes v bytes → Told
    told_nodes h = go (scan (is_field number_tag bytes) (number_place v bytes) (number_count v bytes))
      where
        go : Scan (is_field number_tag bytes) (number_place v bytes) (number_count v bytes) → Told
        go (all_right r) = told_numbers (record { has_nodes = h; numbers = r })
        go (first_bad i l r f) = told (bad_number_law i h l r f)

    told_head : HasHead v bytes → Told
    told_head h = go (scan (is_sized node_tag (node_size v.width) bytes) (node_place v.width) (node_count v bytes))
      where
        go : Scan (is_sized node_tag (node_size v.width) bytes) (node_place v.width) (node_count v bytes) → Told
        go (all_right r) = told_nodes (record { has_head = h; nodes = r })
        go (first_bad i l r f) = told (bad_node i h l r f)

    told_ours : Ours v bytes → Told
    told_ours o = go (is_sized head_tag (head_size v.width) bytes 0) refl
      where
        go : (b : Bool) → is_sized head_tag (head_size v.width) bytes 0 ≡ b → Told
        go true e = told_head (record { ours = o; head = e })
        go false e = told (bad_head o e)

    pub reading_told : Reads v bytes N M (reading_of v N M bytes)
    unfolding Told
    reading_told = go (dec_lt v.limit (length bytes)) (is_other_version v bytes) refl
      where
        go : Dec (v.limit < length bytes) → (b : Bool) → is_other_version v bytes ≡ b → Told
        go (yes l) b e = told (too_long l)
        go (no l) true e = told (other_version (omega (arith, l)) (other_is e))
        go (no l) false e = told_ours (record { short = omega (arith, l); this = λ o. false≢true (sym e ∙ is_other o) })

    -- "exactly when"
    pub refused_exactly : (number place : ℕ) → (reading_of v N M bytes ≡ refused number place) ↔ Fault v bytes N M number place
    refused_exactly number place = (λ e. go (reading_of v N M bytes) reading_told e, fault_refused)
      where
        go : (o : Outcome) → Reads v bytes N M o → o ≡ refused number place → Fault v bytes N M number place
        go _ (accepts h g l) e = let z : ◌≡◌ {A = ℕ} 0 1 = cc in absurd (omega arith)
        go _ (refuses {number = i} {place = p} f) e = let x : i ≡ number = cc in let y : p ≡ place = cc in rw (x, y) at f
