-- A tree that fits is read back from its stored bytes.
-- Assumes nothing.
use mathlib.Core.Path.{◌≡◌, refl, ap, ap₂, sym, ◌∙◌}
use mathlib.Core.Bool.{Bool, true, false, ◌&&◌}
use mathlib.Core.Option.{some}
use mathlib.Core.List.{List, [], ◌∷◌, ◌++◌, flat_map, append_assoc, append-nil}
use Prim.Native.Nat.{ℕ, suc, ◌+◌, ◌^◌, ◌≤◌, ◌<◌}
use native.Mathlib.Omega.{arith}
use native.Mathlib.Nat.{add-zero}
use lib.Dec.{leb, ltb, eqb}
use lib.ListN.{length, get_or, take, drop, length-append, length-drop, length-map, take-append-drop}
use lib.Seq.{drop-drop, get_or-drop, take_at, drop_at}
use borrow.Author.Tests.{eq-eqb, leb-true, le-ltb}
use Rattle.limits.specs.Limits.{depth_limit}
use Rattle.lists.specs.Lists.{every, All}
use Rattle.lists.proofs.Lists.{every_head, every_tail}
use Rattle.number.specs.Lexeme.{is_lexeme}
use Rattle.store.specs.Rows.{Row, Span, flat_rows, flat_spans}
use Rattle.store.specs.Answers.{filled}
use Rattle.tree.specs.Tree.{Tree, Lexeme, rows, texts, GoodTree}
use Rattle.tree.specs.TreeIn.{SpanIn, span_text, span_texts, tree_in}
use Rattle.tree.proofs.TreeIn.{tree_in_law}
use Rattle.shape.specs.Store.{all_rows, all_spans, all_texts, tree_of}
use Rattle.shape.proofs.Stores.{tree_of_law, is_well_formed}
use Rattle.shape.proofs.Slices.{flat_rows_law, flat_spans_law, flat_whole}
use Rattle.fields.specs.Counts.{byte, count_in, count_bytes}
use Rattle.fields.specs.Fields.{head_length, longest, field, length_in, content_end, is_field, is_sized}
use Rattle.fields.proofs.Counts.{bytes_length, count_of_bytes}
use Rattle.fields.proofs.Fields.{There, there_is, has_room, field_sized}
use Rattle.stored_form.specs.declared.Version.{Version}
use Rattle.std.specs.Prelude.{Ok}
use Rattle.stored_form.specs.Form.{Known, head_tag, node_tag, number_tag, head_size, node_size, head_field, node_field, number_field, stored_rows, first_node, stored_bytes, fits_tree}
use Rattle.stored_form.specs.Reading.{version_at, is_other_version, head_in, whole, before, row_told, node_after, nodes_from, span_told, numbers_from, roomed, checked, reading_of}
use Rattle.stored_form.proofs.Fits.{FitsEach, fits_each}
use Rattle.stored_form.proofs.Runs.{field_on, no_field}

-- ---- what stands at a place
module _ (bytes : List ℕ) (at : ℕ) where
  first_at_law : {x : ℕ} {rest : List ℕ} → drop at bytes ≡ x ∷ rest → get_or bytes at 0 ≡ x
  first_at_law e = ap (λ (n : ℕ). get_or bytes n 0) (sym (add-zero at)) ∙ sym (get_or-drop at bytes 0 0) ∙ ap (λ (l : List ℕ). get_or l 0 0) e

  past_one : {x : ℕ} {rest : List ℕ} → drop at bytes ≡ x ∷ rest → drop (at + 1) bytes ≡ rest
  past_one e = sym (drop-drop 1 at bytes) ∙ ap (drop 1) e

  past_count : (w n : ℕ) {rest : List ℕ} → drop at bytes ≡ count_bytes w n ++ rest → drop (at + w) bytes ≡ rest
  past_count w n {rest} e = sym (drop-drop w at bytes) ∙ ap (drop w) e ∙ drop_at (count_bytes w n) rest w (bytes_length w n)

  count_at : (w n : ℕ) (rest : List ℕ) → drop at bytes ≡ count_bytes w n ++ rest → n < byte ^ w → count_in (take w (drop at bytes)) ≡ n
  count_at w n rest e h = ap (λ (l : List ℕ). count_in (take w l)) e ∙ ap count_in (take_at (count_bytes w n) rest w (bytes_length w n)) ∙ count_of_bytes w n h

-- the content of a field, and what follows it
stands : {tag : ℕ} {bytes : List ℕ} {at : ℕ} {c rest : List ℕ} → There tag bytes at c rest → drop (at + head_length) bytes ≡ c ++ rest
stands {bytes = bytes} {at = at} h = sym (take-append-drop (length_in bytes at) (drop (at + head_length) bytes)) ∙ ap₂ (λ (a b : List ℕ). a ++ b) h.content (drop-drop (length_in bytes at) (at + head_length) bytes ∙ h.after)

-- ---- nodes
module _ (w : ℕ) (narrow : w ≤ 4) (bytes : List ℕ) where
  pub record NodesBack (at : ℕ) (rs : List Row) (rest : List ℕ) : Type 0 where
    pub end : ℕ
    pub are : nodes_from w bytes at (length rs) ≡ whole rs end
    pub after : drop end bytes ≡ rest

  -- a node field's content
  abbrev node_content : Row → List ℕ
  node_content r = r.kind ∷ r.dimension ∷ count_bytes w r.parts

  node_size_law : (r : Row) → length (node_content r) ≡ node_size w
  node_size_law r = omega (arith, bytes_length w r.parts)

  module _ (r : Row) (at : ℕ) (rest : List ℕ) (fits : r.parts < byte ^ w) (e : drop at bytes ≡ field node_tag (node_content r) ++ rest) where
    node_there : There node_tag bytes at (node_content r) rest
    node_there = there_is node_tag bytes at (node_content r) rest e (omega (arith, node_size_law r))

    node_row : row_told w bytes at ≡ r
    node_row =
        let d : drop (at + head_length) bytes ≡ r.kind ∷ (r.dimension ∷ (count_bytes w r.parts ++ rest)) = stands node_there in
        let d1 = past_one bytes (at + head_length) d in
        let z : at + head_length + 1 + 1 ≡ at + head_length + 2 = omega arith in
        let d2 : drop (at + head_length + 2) bytes ≡ count_bytes w r.parts ++ rest = rw z at (past_one bytes (at + head_length + 1) d1) in
        rw (first_at_law bytes (at + head_length) d, first_at_law bytes (at + head_length + 1) d1, count_at bytes (at + head_length + 2) w r.parts rest d2 fits)

    node_next : drop (node_after w at) bytes ≡ rest
    node_next = ap (λ (n : ℕ). drop (at + head_length + n) bytes) (sym (node_there.length ∙ node_size_law r)) ∙ node_there.after

    node_on : (n : ℕ) → nodes_from w bytes at (suc n) ≡ before r (nodes_from w bytes (node_after w at) n)
    node_on n =
        let s = field_sized node_tag (node_size w) bytes at node_there.field (node_there.length ∙ node_size_law r) in
        field_on (is_sized node_tag (node_size w) bytes) (row_told w bytes) (node_after w) at n s ∙ ap (λ (x : Row). before x (nodes_from w bytes (node_after w at) n)) node_row

  nodes_back : (largest : ℕ) → largest + 1 ≡ byte ^ w → (rs : List Row) (at : ℕ) (rest : List ℕ) → every (λ (r : Row). leb r.parts largest) rs ≡ true → drop at bytes ≡ flat_map (node_field w) rs ++ rest → NodesBack at rs rest
  unfolding flat_map node_field
  nodes_back largest c [] at rest p e = record { end = at; are = no_field (is_sized node_tag (node_size w) bytes) (row_told w bytes) (node_after w) at; after = e }
  nodes_back largest c (r ∷ rs) at rest p e =
      let f : drop at bytes ≡ field node_tag (node_content r) ++ (flat_map (node_field w) rs ++ rest) = e ∙ append_assoc (field node_tag (node_content r)) (flat_map (node_field w) rs) rest in
      let l : r.parts < byte ^ w = omega (arith, c, leb-true r.parts largest (every_head (λ (r : Row). leb r.parts largest) r rs p)) in
      let b = nodes_back largest c rs (node_after w at) rest (every_tail (λ (r : Row). leb r.parts largest) r rs p) (node_next r at (flat_map (node_field w) rs ++ rest) l f) in
      record { end = b.end; are = node_on r at (flat_map (node_field w) rs ++ rest) l f (length rs) ∙ ap (before r) b.are; after = b.after }

-- ---- numbers
module _ (bytes : List ℕ) where
  pub record NumbersBack (at : ℕ) (ns : List (List ℕ)) (rest : List ℕ) : Type 0 where
    pub spans : List Span
    pub end : ℕ
    pub are : numbers_from bytes at (length ns) ≡ whole spans end
    pub its_texts : span_texts spans ≡ ns
    pub inside : All (SpanIn bytes) spans
    pub after : drop end bytes ≡ rest

  numbers_back : (ns : List (List ℕ)) (at : ℕ) (rest : List ℕ) → every (λ (x : List ℕ). leb (length x) longest) ns ≡ true → All Lexeme ns → drop at bytes ≡ flat_map number_field ns ++ rest → NumbersBack at ns rest
  unfolding flat_map number_field All
  numbers_back [] at rest p a e = record { spans = []; end = at; are = no_field (is_field number_tag bytes) (span_told bytes) (content_end bytes) at; its_texts = refl; inside = tt; after = e }
  numbers_back (x ∷ ns) at rest p a e =
      let f : drop at bytes ≡ field number_tag x ++ (flat_map number_field ns ++ rest) = e ∙ append_assoc (field number_tag x) (flat_map number_field ns) rest in
      let h = there_is number_tag bytes at x (flat_map number_field ns ++ rest) f (leb-true (length x) longest (every_head (λ (x : List ℕ). leb (length x) longest) x ns p)) in
      let b = numbers_back ns (content_end bytes at) rest (every_tail (λ (x : List ℕ). leb (length x) longest) x ns p) a.1 h.after in
      record {
        spans = span_told bytes at ∷ b.spans;
        end = b.end;
        are = field_on (is_field number_tag bytes) (span_told bytes) (content_end bytes) at (length ns) h.field ∙ ap (before (span_told bytes at)) b.are;
        its_texts = ap₂ (λ (y : List ℕ) (l : List (List ℕ)). y ∷ l) h.content b.its_texts;
        inside = (record { inside = has_room number_tag bytes at h.field; bytes = refl; lexeme = ap is_lexeme h.content ∙ a.0 }, b.inside);
        after = b.after;
      }

-- ---- the head
none_of : (a b : Bool) → (a && b && false) ≡ false
none_of true true = refl
none_of true false = refl
none_of false b = refl

module _ (v : Version) (known : Known v) (n m : ℕ) (bytes rest : List ℕ) (e : bytes ≡ head_field v n m ++ rest) where
  abbrev head_content : List ℕ
  head_content = v.number ∷ (count_bytes v.width n ++ count_bytes v.width m)

  head_size_law : length head_content ≡ head_size v.width
  head_size_law = omega (arith, length-append (count_bytes v.width n) (count_bytes v.width m), bytes_length v.width n, bytes_length v.width m)

  head_there : There head_tag bytes 0 head_content rest
  unfolding head_field
  head_there = there_is head_tag bytes 0 head_content rest e (omega (arith, head_size_law, known.narrow))

  after_version : drop 4 bytes ≡ count_bytes v.width n ++ (count_bytes v.width m ++ rest)
  after_version = past_one bytes 3 (stands head_there) ∙ append_assoc (count_bytes v.width n) (count_bytes v.width m) rest

  this_version : is_other_version v bytes ≡ false
  unfolding is_other_version
  this_version = rw (eq-eqb (get_or bytes version_at 0) v.number (first_at_law bytes 3 (stands head_there))) (none_of (ltb version_at (length bytes)) (eqb (get_or bytes 0 0) head_tag))

  pub head_back : n ≤ v.largest → m ≤ v.largest → length bytes ≤ v.limit → head_in v bytes ≡ Ok (record { nodes = n; numbers = m })
  unfolding head_in
  head_back hn hm l =
      let s = field_sized head_tag (head_size v.width) bytes 0 head_there.field (head_there.length ∙ head_size_law) in
      let a : count_in (take v.width (drop 4 bytes)) ≡ n = count_at bytes 4 v.width n (count_bytes v.width m ++ rest) after_version (omega (arith, known.counts)) in
      let b : count_in (take v.width (drop (4 + v.width) bytes)) ≡ m = count_at bytes (4 + v.width) v.width m rest (past_count bytes 4 v.width n after_version) (omega (arith, known.counts)) in
      rw (le-ltb v.limit (length bytes) l, this_version, s, a, b)

  pub after_head_law : drop (first_node v.width) bytes ≡ rest
  after_head_law = ap (λ (k : ℕ). drop (head_length + k) bytes) (sym (head_there.length ∙ head_size_law)) ∙ head_there.after

-- ---- the whole
-- what a tree's stored bytes are read to: its rows, and spans of its number texts
pub record ReadBack (v : Version) (t : Tree depth_limit) (N M : ℕ) : Type 0 where
  pub spans : List Span
  pub reads : reading_of v N M (stored_bytes v t) ≡ filled (rows depth_limit t) spans
  pub its_texts : span_texts spans ≡ texts depth_limit t
  pub inside : All (SpanIn (stored_bytes v t)) spans
  pub tree : tree_of (stored_bytes v t) (flat_rows (rows depth_limit t)) (flat_spans spans) ≡ some t

-- rows, and spans that lie in bytes, are the tree whose rows and texts they are
pub spans_tree : (bytes : List ℕ) (t : Tree depth_limit) → GoodTree depth_limit t → (ss : List Span) → All (SpanIn bytes) ss → span_texts ss ≡ texts depth_limit t → tree_of bytes (flat_rows (rows depth_limit t)) (flat_spans ss) ≡ some t
spans_tree bytes t g ss a e =
    let rs : List Row = rows depth_limit t in
    let i : all_spans bytes (flat_spans ss) ≡ ss = flat_spans_law bytes ss a in
    let is : tree_in depth_limit (all_rows (flat_rows rs)) (all_texts bytes (flat_spans ss)) ≡ some t = ap (λ (l : List Row). tree_in depth_limit l (all_texts bytes (flat_spans ss))) (flat_rows_law rs) ∙ ap (λ (l : List Span). tree_in depth_limit rs (span_texts l)) i ∙ ap (tree_in depth_limit rs) e ∙ tree_in_law depth_limit t g.shape in
    tree_of_law bytes (flat_rows rs) (flat_spans ss) (record { lengths = flat_whole rs ss; well = record { tree = t; is = is; numbers = rw i a } })

module _ (v : Version) (known : Known v) (t : Tree depth_limit) (g : GoodTree depth_limit t) (f : fits_tree v t ≡ true) where
  abbrev its : List ℕ
  its = stored_bytes v t

  fits : FitsEach v (rows depth_limit t) (texts depth_limit t)
  fits = fits_each v (rows depth_limit t) (texts depth_limit t) f

  abbrev after_nodes_law : List ℕ
  after_nodes_law = flat_map number_field (texts depth_limit t)

  is_headed : its ≡ head_field v (length (rows depth_limit t)) (length (texts depth_limit t)) ++ (flat_map (node_field v.width) (rows depth_limit t) ++ after_nodes_law)
  unfolding stored_rows
  is_headed = refl

  its_nodes : NodesBack v.width known.narrow its (first_node v.width) (rows depth_limit t) after_nodes_law
  its_nodes = nodes_back v.width known.narrow its v.largest known.counts (rows depth_limit t) (first_node v.width) after_nodes_law fits.parts (after_head_law v known (length (rows depth_limit t)) (length (texts depth_limit t)) its _ is_headed)

  its_numbers : NumbersBack its its_nodes.end (texts depth_limit t) []
  its_numbers = numbers_back its (texts depth_limit t) its_nodes.end [] fits.texts g.lexemes (its_nodes.after ∙ sym (append-nil after_nodes_law))

  at_end_law : length its ≤ its_numbers.end
  at_end_law = omega (arith, length-drop its_numbers.end its, ap length its_numbers.after)

  its_tree : tree_of its (flat_rows (rows depth_limit t)) (flat_spans its_numbers.spans) ≡ some t
  its_tree = spans_tree its t g its_numbers.spans its_numbers.inside its_numbers.its_texts

  pub stored_back : (N M : ℕ) → length (rows depth_limit t) ≤ N → length (texts depth_limit t) ≤ M → ReadBack v t N M
  unfolding reading_of checked roomed
  stored_back N M hn hm =
      let h = head_back v known (length (rows depth_limit t)) (length (texts depth_limit t)) its _ is_headed fits.nodes fits.numbers fits.all in
      let w = is_well_formed its (flat_rows (rows depth_limit t)) (flat_spans its_numbers.spans) t its_tree in
      let k : length its_numbers.spans ≡ length (texts depth_limit t) = sym (length-map its_numbers.spans span_text) ∙ ap length its_numbers.its_texts in
      record {
        spans = its_numbers.spans;
        reads = rw (h, its_nodes.are, its_numbers.are, le-ltb its_numbers.end (length its) at_end_law, w, le-ltb N (length (rows depth_limit t)) hn, le-ltb M (length its_numbers.spans) (omega (arith, k)));
        its_texts = its_numbers.its_texts;
        inside = its_numbers.inside;
        tree = its_tree;
      }
