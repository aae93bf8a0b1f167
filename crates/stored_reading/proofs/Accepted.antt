-- Bytes that are accepted are the stored bytes of the tree that they are read to.
-- Assumes nothing.
use mathlib.Core.Path.{◌≡◌, refl, ap, ap₂, sym, subst, ◌∙◌}
use mathlib.Core.Bool.{Bool, true, false, cond}
use mathlib.Core.Option.{some}
use mathlib.Core.List.{List, ◌∷◌, ◌++◌, flat_map, append_assoc, append-nil}
use Prim.Native.Nat.{ℕ, zero, suc, ◌+◌, ◌*◌, ◌^◌, ◌≤◌, ◌<◌}
use native.Mathlib.Omega.{arith}
use native.Mathlib.Numerals.{add-one}
use lib.Dec.{leb, ltb, eqb}
use lib.ListN.{length, get_or, take, drop, length-drop, length-map, drop_of_length-le}
use lib.Seq.{drop-drop, drop-cons, take-add, length-take-le}
use borrow.Author.Tests.{eqb-true, eq-eqb, le-leb, lt-ltb, ltb-false, not-false}
use Rattle.limits.specs.Limits.{depth_limit}
use Rattle.lists.specs.Lists.{every, All}
use Rattle.store.specs.Rows.{Row, Span, flat_rows, flat_spans}
use Rattle.store.specs.Answers.{filled}
use Rattle.tree.specs.Tree.{Tree, rows, texts}
use Rattle.tree.specs.TreeIn.{span_text, span_texts}
use Rattle.tree.proofs.Parts.{parts_fit}
use Rattle.shape.specs.Store.{tree_of}
use Rattle.shape.proofs.Stores.{grown, store_tree}
use Rattle.shape.proofs.Slices.{Own, own_spans, flat_rows_law}
use Rattle.fields.specs.Counts.{byte, IsByte, count_in, count_bytes}
use Rattle.fields.specs.Fields.{head_length, longest, field, length_in, content_end, content_in, is_field, is_sized}
use Rattle.fields.proofs.Counts.{all_take, all_drop, count_bound, bytes_of_count}
use Rattle.fields.proofs.Fields.{is_there, has_tag, has_room, sized_field}
use Rattle.stored_form.specs.declared.Version.{Version}
use Rattle.stored_form.specs.declared.Counts.{Counts}
use Rattle.std.specs.Prelude.{Ok}
use Rattle.stored_form.specs.Form.{Known, head_tag, node_tag, number_tag, head_size, node_size, head_field, node_field, number_field, stored_rows, first_node, stored_bytes, fits_tree}
use Rattle.stored_form.specs.Reading.{refusal_at, version_at, is_other_version, nodes_told, numbers_told, counts_read, head_in, whole, row_told, node_after, nodes_from, span_told, numbers_from, reading_of}
use Rattle.stored_form.proofs.Runs.{whole_one, no_field, first, fields_count}
use Rattle.stored_form.proofs.Fits.{FitsEach, each_fits}
use Rattle.stored_reading.proofs.Accepts.{accepts}

-- the bytes of a count that lies in bytes
count_here : (bytes : List ℕ) → All IsByte bytes → (w at : ℕ) → at + w ≤ length bytes → count_bytes w (count_in (take w (drop at bytes))) ≡ take w (drop at bytes)
count_here bytes all w at h =
    let n : length (take w (drop at bytes)) ≡ w = length-take-le w (drop at bytes) (omega (arith, length-drop at bytes)) in
    ap (λ (k : ℕ). count_bytes k (count_in (take w (drop at bytes)))) (sym n) ∙ bytes_of_count (take w (drop at bytes)) (all_take w (drop at bytes) (all_drop at bytes all))

count_few : (bytes : List ℕ) → All IsByte bytes → (w at : ℕ) → at + w ≤ length bytes → count_in (take w (drop at bytes)) < byte ^ w
count_few bytes all w at h =
    let n : length (take w (drop at bytes)) ≡ w = length-take-le w (drop at bytes) (omega (arith, length-drop at bytes)) in
    subst (λ (k : ℕ). count_in (take w (drop at bytes)) < byte ^ k) n (count_bound (take w (drop at bytes)) (all_take w (drop at bytes) (all_drop at bytes all)))

one_more : (bytes : List ℕ) (at n : ℕ) → at < length bytes → take (1 + n) (drop at bytes) ≡ get_or bytes at 0 ∷ take n (drop (at + 1) bytes)
one_more bytes at n h = let z : 1 + n ≡ suc n = omega arith in rw (z, drop-cons bytes at 0 h, add-one at)

-- ---- nodes
module _ (w : ℕ) (bytes : List ℕ) (all : All IsByte bytes) where
  node_here : (at : ℕ) → is_sized node_tag (node_size w) bytes at ≡ true → drop at bytes ≡ node_field w (row_told w bytes at) ++ drop (node_after w at) bytes
  unfolding node_field
  node_here at s =
      let h = sized_field node_tag (node_size w) bytes at s in
      let q = is_there node_tag bytes at h.0 all in
      let l : at + head_length + node_size w ≤ length bytes = rw h.1 at (has_room node_tag bytes at h.0) in
      let z : 2 + w ≡ 1 + (1 + w) = omega arith in
      let y : at + head_length + 1 + 1 ≡ at + head_length + 2 = omega arith in
      let c : content_in bytes at ≡ get_or bytes (at + head_length) 0 ∷ get_or bytes (at + head_length + 1) 0 ∷ count_bytes w (count_in (take w (drop (at + head_length + 2) bytes)))
      = ap (λ (n : ℕ). take n (drop (at + head_length) bytes)) (h.1 ∙ z) ∙ one_more bytes (at + head_length) (1 + w) (omega arith)
      ∙ ap (λ (r : List ℕ). get_or bytes (at + head_length) 0 ∷ r) (one_more bytes (at + head_length + 1) w (omega arith) ∙ ap (λ (n : ℕ). get_or bytes (at + head_length + 1) 0 ∷ take w (drop n bytes)) y)
      ∙ ap (λ (r : List ℕ). get_or bytes (at + head_length) 0 ∷ get_or bytes (at + head_length + 1) 0 ∷ r) (sym (count_here bytes all w (at + head_length + 2) (omega arith))) in
      q.put ∙ ap₂ (λ (x y : List ℕ). field node_tag x ++ y) c (ap (λ (n : ℕ). drop (at + head_length + n) bytes) h.1)

  nodes_stored : (n at : ℕ) (rs : List Row) (end : ℕ) → nodes_from w bytes at n ≡ whole rs end → drop at bytes ≡ flat_map (node_field w) rs ++ drop end bytes
  unfolding flat_map
  nodes_stored zero at rs end e = let b = whole_one (sym (no_field (is_sized node_tag (node_size w) bytes) (row_told w bytes) (node_after w) at) ∙ e) in rw (← b.0, b.1)
  nodes_stored (suc n) at rs end e =
      let f = first (is_sized node_tag (node_size w) bytes) (row_told w bytes) (node_after w) at n e in
      let t = nodes_stored n (node_after w at) f.tail end f.rest in
      node_here at f.is_right ∙ ap (λ (l : List ℕ). node_field w (row_told w bytes at) ++ l) t ∙ sym (append_assoc (node_field w (row_told w bytes at)) (flat_map (node_field w) f.tail) (drop end bytes)) ∙ ap (λ (l : List Row). flat_map (node_field w) l ++ drop end bytes) (sym f.all)

-- ---- numbers
-- each span has the bytes that it tells of
numbers_own : (bytes : List ℕ) (n at : ℕ) (ss : List Span) (end : ℕ) → numbers_from bytes at n ≡ whole ss end → All (Own bytes) ss
unfolding All
numbers_own bytes zero at ss end e = let b = whole_one (sym (no_field (is_field number_tag bytes) (span_told bytes) (content_end bytes) at) ∙ e) in rw (← b.0) tt
numbers_own bytes (suc n) at ss end e = let f = first (is_field number_tag bytes) (span_told bytes) (content_end bytes) at n e in rw f.all (refl, numbers_own bytes n (content_end bytes at) f.tail end f.rest)

module _ (bytes : List ℕ) (all : All IsByte bytes) where
  record NumbersStored (at : ℕ) (ss : List Span) (end : ℕ) : Type 0 where
    stored : drop at bytes ≡ flat_map number_field (span_texts ss) ++ drop end bytes
    short : every (λ (x : List ℕ). leb (length x) longest) (span_texts ss) ≡ true

  numbers_stored : (n at : ℕ) (ss : List Span) (end : ℕ) → numbers_from bytes at n ≡ whole ss end → NumbersStored at ss end
  unfolding flat_map number_field every
  numbers_stored zero at ss end e =
      let b = whole_one (sym (no_field (is_field number_tag bytes) (span_told bytes) (content_end bytes) at) ∙ e) in
      rw (← b.0, ← b.1) (record { stored = refl; short = refl })
  numbers_stored (suc n) at ss end e =
      let f = first (is_field number_tag bytes) (span_told bytes) (content_end bytes) at n e in
      let t = numbers_stored n (content_end bytes at) f.tail end f.rest in
      let q = is_there number_tag bytes at f.is_right all in
      rw f.all (record {
        stored = q.put ∙ ap (λ (l : List ℕ). field number_tag (content_in bytes at) ++ l) t.stored ∙ sym (append_assoc (field number_tag (content_in bytes at)) (flat_map number_field (span_texts f.tail)) (drop end bytes));
        short = rw (le-leb (length (content_in bytes at)) longest (omega (arith, q.length, q.short))) t.short;
      })

-- ---- the head
module _ (v : Version) (known : Known v) (bytes : List ℕ) (all : All IsByte bytes) where
  record HeadStored (c : Counts) : Type 0 where
    limited : length bytes ≤ v.limit
    stored : bytes ≡ head_field v c.nodes c.numbers ++ drop (first_node v.width) bytes
    few_nodes : c.nodes ≤ v.largest
    few_numbers : c.numbers ≤ v.largest

  module _ (limited : length bytes ≤ v.limit) (this : is_other_version v bytes ≡ false) (s : is_sized head_tag (head_size v.width) bytes 0 ≡ true) where
    sized : (is_field head_tag bytes 0 ≡ true) × (length_in bytes 0 ≡ head_size v.width)
    sized = sized_field head_tag (head_size v.width) bytes 0 s

    long : first_node v.width ≤ length bytes
    long = rw sized.1 at (has_room head_tag bytes 0 sized.0)

    its_version : get_or bytes version_at 0 ≡ v.number
    unfolding is_other_version
    its_version =
        let t = eq-eqb (get_or bytes 0 0) head_tag (has_tag head_tag bytes 0 sized.0) in
        let l = lt-ltb version_at (length bytes) (omega (arith, long)) in
        eqb-true (get_or bytes version_at 0) v.number (not-false (eqb (get_or bytes version_at 0) v.number) (rw (l, t) at this))

    its_content : content_in bytes 0 ≡ v.number ∷ (count_bytes v.width (nodes_told v.width bytes) ++ count_bytes v.width (numbers_told v.width bytes))
    its_content =
        let w : ℕ = v.width in
        let z : 2 * w ≡ w + w = omega arith in
        ap (λ (n : ℕ). take n (drop 3 bytes)) sized.1 ∙ one_more bytes 3 (2 * w) (omega (arith, long)) ∙ ap₂ (λ (x : ℕ) (l : List ℕ). x ∷ l) its_version
        (ap (λ (n : ℕ). take n (drop 4 bytes)) z ∙ take-add w w (drop 4 bytes) ∙ ap₂ (λ (a b : List ℕ). a ++ b) (sym (count_here bytes all w 4 (omega (arith, long)))) (ap (take w) (drop-drop w 4 bytes) ∙ sym (count_here bytes all w (4 + w) (omega (arith, long)))))

    head_stored : HeadStored (counts_read v.width bytes)
    unfolding head_field
    head_stored =
        let q = is_there head_tag bytes 0 sized.0 all in
        let a = count_few bytes all v.width 4 (omega (arith, long)) in
        let b = count_few bytes all v.width (4 + v.width) (omega (arith, long)) in
        record {
          limited = limited;
          stored = q.put ∙ ap₂ (λ (x y : List ℕ). field head_tag x ++ y) its_content (ap (λ (n : ℕ). drop (head_length + n) bytes) sized.1);
          few_nodes = omega (arith, a, known.counts);
          few_numbers = omega (arith, b, known.counts);
        }

  head_told : (c : Counts) → head_in v bytes ≡ Ok c → HeadStored c
  unfolding head_in
  head_told c e = go (ltb v.limit (length bytes)) refl (is_other_version v bytes) refl (is_sized head_tag (head_size v.width) bytes 0) refl e
    where
      go : (a : Bool) → ltb v.limit (length bytes) ≡ a → (b : Bool) → is_other_version v bytes ≡ b → (s : Bool) → is_sized head_tag (head_size v.width) bytes 0 ≡ s
          → cond a (refusal_at 1 v.limit) (cond b (refusal_at 26 version_at) (cond s (Ok (counts_read v.width bytes)) (refusal_at 25 0))) ≡ Ok c → HeadStored c
      go true ea b eb s es e = let z : ◌≡◌ {A = ℕ} 0 1 = cc in absurd (omega arith)
      go false ea true eb s es e = let z : ◌≡◌ {A = ℕ} 0 1 = cc in absurd (omega arith)
      go false ea false eb false es e = let z : ◌≡◌ {A = ℕ} 0 1 = cc in absurd (omega arith)
      go false ea false eb true es e = let z : counts_read v.width bytes ≡ c = cc in rw z at (head_stored (ltb-false v.limit (length bytes) ea) eb es)

-- ---- the whole
-- the tree that accepted bytes are read to
pub record ReadTree (bytes : List ℕ) (rs : List Row) (ss : List Span) : Type 0 where
  pub tree : Tree depth_limit
  pub is : tree_of bytes (flat_rows rs) (flat_spans ss) ≡ some tree
  pub its_rows : rs ≡ rows depth_limit tree
  pub its_texts : span_texts ss ≡ texts depth_limit tree

pub accepted_tree : (v : Version) (N M : ℕ) (bytes : List ℕ) (rs : List Row) (ss : List Span) → reading_of v N M bytes ≡ filled rs ss → ReadTree bytes rs ss
accepted_tree v N M bytes rs ss e =
    let a = accepts v N M bytes rs ss e in
    let t = grown bytes (flat_rows rs) (flat_spans ss) a.well in
    let its = store_tree bytes (flat_rows rs) (flat_spans ss) t.tree t.is in
    let own = numbers_own bytes a.counts.numbers a.middle ss a.end a.numbers in
    record { tree = t.tree; is = t.is; its_rows = sym (flat_rows_law rs) ∙ its.its_rows; its_texts = ap span_texts (sym (own_spans bytes ss own)) ∙ its.its_texts }

-- the bytes are its stored bytes, and it fits
pub record StoredTree (v : Version) (bytes : List ℕ) (t : Tree depth_limit) : Type 0 where
  pub stored : bytes ≡ stored_bytes v t
  pub fits : fits_tree v t ≡ true

pub accepted_stored : (v : Version) → Known v → (N M : ℕ) (bytes : List ℕ) → All IsByte bytes → (rs : List Row) (ss : List Span) (e : reading_of v N M bytes ≡ filled rs ss) → StoredTree v bytes (accepted_tree v N M bytes rs ss e).tree
unfolding stored_rows
accepted_stored v known N M bytes all rs ss e =
    let a = accepts v N M bytes rs ss e in
    let h = head_told v known bytes all a.counts a.told in
    let u = numbers_stored bytes all a.counts.numbers a.middle ss a.end a.numbers in
    let t = accepted_tree v N M bytes rs ss e in
    let n : length rs ≡ a.counts.nodes = fields_count (is_sized node_tag (node_size v.width) bytes) (row_told v.width bytes) (node_after v.width) a.counts.nodes (first_node v.width) rs a.middle a.nodes in
    let m : length (span_texts ss) ≡ a.counts.numbers = length-map ss span_text ∙ fields_count (is_field number_tag bytes) (span_told bytes) (content_end bytes) a.counts.numbers a.middle ss a.end a.numbers in
    let all_fields : bytes ≡ stored_rows v rs (span_texts ss) =
    h.stored ∙ ap₂ (λ (i j : ℕ). head_field v i j ++ drop (first_node v.width) bytes) (sym n) (sym m)
    ∙ ap (λ (l : List ℕ). head_field v (length rs) (length (span_texts ss)) ++ l) (nodes_stored v.width bytes all a.counts.nodes (first_node v.width) rs a.middle a.nodes ∙ ap (λ (l : List ℕ). flat_map (node_field v.width) rs ++ l) (u.stored ∙ rw (drop_of_length-le bytes {i = a.end} a.last, append-nil))) in
    let is : bytes ≡ stored_bytes v t.tree = all_fields ∙ ap₂ (stored_rows v) t.its_rows t.its_texts in
    let few_rows : length (rows depth_limit t.tree) ≤ v.largest = omega (arith, ap length t.its_rows, n, h.few_nodes) in
    let few_texts : length (texts depth_limit t.tree) ≤ v.largest = omega (arith, ap length t.its_texts, m, h.few_numbers) in
    let shape = (store_tree bytes (flat_rows rs) (flat_spans ss) t.tree t.is).good.shape in
    let fits : FitsEach v (rows depth_limit t.tree) (texts depth_limit t.tree) =
    record { nodes = few_rows; numbers = few_texts; parts = parts_fit depth_limit t.tree v.largest shape few_rows few_texts; texts = rw t.its_texts at u.short; all = omega (arith, ap length is, h.limited) } in
    record { stored = is; fits = each_fits v (rows depth_limit t.tree) (texts depth_limit t.tree) fits }
