-- When bytes are refused, with what number and at what place (document 02, 2026-01): field by field, in their order. `proofs/Faults` shows that `reading_of` says the same.
use Rattle.std.specs.Prelude.{◌≡◌, true, false, List, ℕ, ◌≤◌, ◌<◌, length, get_or}
use Rattle.refusals.specs.Refusals.{text_too_long, no_node_row, no_number_row, ill_formed_store, faulty_field, unknown_version}
use Rattle.store.specs.Rows.{Row, Span, flat_rows, flat_spans, firsts}
use Rattle.store.specs.Answers.{Outcome, filled, refused}
use Rattle.shape.specs.Store.{well_formed}
use Rattle.fields.specs.Fields.{is_field, is_sized}
use Rattle.stored_form.specs.declared.Version.{Version}
use Rattle.stored_form.specs.Form.{head_tag, node_tag, number_tag, head_size, node_size, node_place}
use Rattle.stored_form.specs.Reading.{version_at, nodes_told, numbers_told, row_told, span_told, place_after}

module _ (v : Version) (bytes : List ℕ) where
  -- "if the first byte is 1 and byte 3 exists and is no known version"
  pub record OtherVersion : Type 0 where
    pub first : get_or bytes 0 0 ≡ head_tag
    pub there : version_at < length bytes
    pub other : get_or bytes version_at 0 ≡ v.number → ⊥

  -- ---- the fields that the head tells of
  abbrev pub node_count : ℕ
  node_count = nodes_told v.width bytes

  abbrev pub number_count : ℕ
  number_count = numbers_told v.width bytes

  -- the place of the number field after i others
  abbrev pub number_place : ℕ → ℕ
  number_place i = place_after bytes (node_place v.width node_count) i

  -- the first n of them are right
  abbrev pub NodesRight : ℕ → Type 0
  NodesRight n = (i : ℕ) → i < n → is_sized node_tag (node_size v.width) bytes (node_place v.width i) ≡ true

  abbrev pub NumbersRight : ℕ → Type 0
  NumbersRight n = (i : ℕ) → i < n → is_field number_tag bytes (number_place i) ≡ true

  -- the rows and the spans that they tell
  abbrev pub rows_told : List Row
  rows_told = firsts (λ i. row_told v.width bytes (node_place v.width i)) node_count

  abbrev pub spans_told : List Span
  spans_told = firsts (λ i. span_told bytes (number_place i)) number_count

  -- ---- how far bytes are right
  -- neither too long nor of another version
  pub record Ours : Type 0 where
    pub short : length bytes ≤ v.limit
    pub this : OtherVersion → ⊥

  -- and their head is right, and their node fields, and their number fields, with nothing after them, and what they tell is a tree
  pub record HasHead : Type 0 where
    pub ours : Ours
    pub head : is_sized head_tag (head_size v.width) bytes 0 ≡ true

  pub record HasNodes : Type 0 where
    pub has_head : HasHead
    pub nodes : NodesRight node_count

  pub record HasNumbers : Type 0 where
    pub has_nodes : HasNodes
    pub numbers : NumbersRight number_count

  pub record HasFields : Type 0 where
    pub has_numbers : HasNumbers
    pub last : length bytes ≤ number_place number_count

  pub record HasTree : Type 0 where
    pub has_fields : HasFields
    pub tree : well_formed bytes (flat_rows rows_told) (flat_spans spans_told) ≡ true

  -- ---- "Refusals", with room for N node rows and M number rows
  pub data Fault (N M : ℕ) : ℕ → ℕ → Type 0 where
    -- "1 over 1,048,576 bytes (place 1,048,576)"
    too_long : v.limit < length bytes → Fault N M text_too_long v.limit
    -- "26 at byte 3 [..], its length unlooked at"
    other_version : length bytes ≤ v.limit → OtherVersion → Fault N M unknown_version version_at
    -- "25 a field cut, missing, extra or of wrong tag or length, at its tag": the head, the first such node field, the first such number field, what follows the last
    bad_head : Ours → is_sized head_tag (head_size v.width) bytes 0 ≡ false → Fault N M faulty_field 0
    bad_node : (i : ℕ) → HasHead → i < node_count → NodesRight i → is_sized node_tag (node_size v.width) bytes (node_place v.width i) ≡ false → Fault N M faulty_field (node_place v.width i)
    bad_number_law : (i : ℕ) → HasNodes → i < number_count → NumbersRight i → is_field number_tag bytes (number_place i) ≡ false → Fault N M faulty_field (number_place i)
    extra : HasNumbers → number_place number_count < length bytes → Fault N M faulty_field (number_place number_count)
    -- "22"
    no_tree : HasFields → well_formed bytes (flat_rows rows_told) (flat_spans spans_told) ≡ false → Fault N M ill_formed_store 0
    -- "then 3 or 4 at the tag": of the first field without a row
    no_node_row_law : HasTree → N < node_count → Fault N M no_node_row (node_place v.width N)
    no_number_row_law : HasTree → node_count ≤ N → M < number_count → Fault N M no_number_row (number_place M)

  -- what reading comes to, in all
  pub data Reads (N M : ℕ) : Outcome → Type 0 where
    accepts : HasTree → node_count ≤ N → number_count ≤ M → Reads N M (filled rows_told spans_told)
    refuses : {number place : ℕ} → Fault N M number place → Reads N M (refused number place)
