-- What reading any bytes as a stored tree comes to (document 02, 2026-01), over any version of the form.
use Rattle.std.specs.Prelude.{◌≡◌, Bool, cond, not, ◌&&◌, Result, Ok, Err, List, [], ◌∷◌, ℕ, zero, suc, ◌+◌, eqb, ltb, length, get_or, take, drop}
use Rattle.refusals.specs.Refusals.{text_too_long, no_node_row, no_number_row, ill_formed_store, faulty_field, unknown_version}
use Rattle.store.specs.Rows.{Row, row, Span, span_of, flat_rows, flat_spans}
use Rattle.store.specs.Answers.{Outcome, filled, refused}
use Rattle.shape.specs.Store.{well_formed}
use Rattle.fields.specs.Counts.{count_in}
use Rattle.fields.specs.Fields.{head_length, length_in, content_end, is_field, is_sized}
use Rattle.stored_form.specs.declared.Version.{Version}
use Rattle.stored_form.specs.declared.Counts.{Counts}
use Rattle.stored_form.specs.declared.Refusal.{Refusal}
use Rattle.stored_form.specs.declared.Seen.{Seen}
use Rattle.stored_form.specs.Form.{head_tag, node_tag, number_tag, head_size, node_size, first_node, node_place}

-- ---- refusals, and what a run of whole fields comes to
abbrev pub refusal_at : {X : Type 0} → ℕ → ℕ → Result X Refusal
refusal_at number place = Err (record { number = number; place = place })

abbrev pub seen : Bool → ℕ → Result Seen Refusal
seen well end = Ok (record { well = well; end = end })

-- ---- the head
abbrev pub version_at : ℕ
version_at = 3

abbrev pub counts_at : ℕ
counts_at = 4

-- "26 at byte 3 if the first byte is 1 and byte 3 exists and is no known version, its length unlooked at"
unfoldable pub is_other_version : Version → List ℕ → Bool
is_other_version v bytes = ltb version_at (length bytes) && eqb (get_or bytes 0 0) head_tag && not (eqb (get_or bytes version_at 0) v.number)

abbrev pub nodes_told : ℕ → List ℕ → ℕ
nodes_told w bytes = count_in (take w (drop counts_at bytes))

abbrev pub numbers_told : ℕ → List ℕ → ℕ
numbers_told w bytes = count_in (take w (drop (counts_at + w) bytes))

abbrev pub counts_read : ℕ → List ℕ → Counts
counts_read w bytes = record { nodes = nodes_told w bytes; numbers = numbers_told w bytes }

-- "1 over 1,048,576 bytes (place 1,048,576); 26 [..]; 25 a field cut, missing, extra or of wrong tag or length, at its tag"
unfoldable pub head_in : Version → List ℕ → Result Counts Refusal
head_in v bytes =
    cond (ltb v.limit (length bytes)) (refusal_at text_too_long v.limit)
    (cond (is_other_version v bytes) (refusal_at unknown_version version_at)
    (cond (is_sized head_tag (head_size v.width) bytes 0) (Ok (counts_read v.width bytes))
    (refusal_at faulty_field 0)))

-- ---- fields one after the other: the place of the first that is faulty, or what they hold and the place after them
pub data Run (X : Type 0) : Type 0 where
  faulty : ℕ → Run X
  whole : List X → ℕ → Run X

abbrev pub before : {X : Type 0} → X → Run X → Run X
before x (faulty at) = faulty at
before x (whole xs at) = whole (x ∷ xs) at

-- n fields from `at` on, by what is right at a place, what a field there tells, and where the one after it stands
unfoldable pub fields_from : {X : Type 0} → (ℕ → Bool) → (ℕ → X) → (ℕ → ℕ) → ℕ → ℕ → Run X
fields_from right told next at zero = whole [] at
fields_from right told next at (suc n) = cond (right at) (before (told at) (fields_from right told next (next at) n)) (faulty at)

-- the fields of a run are right
pub record Right {X : Type 0} (r : Run X) : Type 0 where
  pub items : List X
  pub end : ℕ
  pub are : r ≡ whole items end

-- the row that a node field tells
abbrev pub row_told : ℕ → List ℕ → ℕ → Row
row_told w bytes at = row (get_or bytes (at + head_length) 0) (get_or bytes (at + head_length + 1) 0) (count_in (take w (drop (at + head_length + 2) bytes)))

abbrev pub node_after : ℕ → ℕ → ℕ
node_after w at = at + head_length + node_size w

abbrev pub nodes_from : ℕ → List ℕ → ℕ → ℕ → Run Row
nodes_from w bytes = fields_from (is_sized node_tag (node_size w) bytes) (row_told w bytes) (node_after w)

-- "Spans read back point into the stored bytes."
abbrev pub span_told : List ℕ → ℕ → Span
span_told bytes at = span_of bytes (at + head_length) (length_in bytes at)

abbrev pub numbers_from : List ℕ → ℕ → ℕ → Run Span
numbers_from bytes = fields_from (is_field number_tag bytes) (span_told bytes) (content_end bytes)

-- the place of the number field after n others
unfoldable pub place_after : List ℕ → ℕ → ℕ → ℕ
place_after bytes at zero = at
place_after bytes at (suc n) = place_after bytes (content_end bytes at) n

-- ---- what the fields after the head come to, with room for N node rows and M number rows
-- "then 3 or 4 at the tag": of the first field without a row
unfoldable pub roomed : ℕ → ℕ → ℕ → List ℕ → List Row → ℕ → List Span → Outcome
roomed w N M bytes rs middle ss =
    cond (ltb N (length rs)) (refused no_node_row (node_place w N))
    (cond (ltb M (length ss)) (refused no_number_row (place_after bytes middle M))
    (filled rs ss))

-- "22", before any row is asked for: the rows that the fields tell, with the bytes as their text
unfoldable pub checked : ℕ → ℕ → ℕ → List ℕ → List Row → ℕ → List Span → Outcome
checked w N M bytes rs middle ss = cond (well_formed bytes (flat_rows rs) (flat_spans ss)) (roomed w N M bytes rs middle ss) (refused ill_formed_store 0)

-- "Nothing follows."
abbrev pub after_numbers : ℕ → ℕ → ℕ → List ℕ → List Row → ℕ → Run Span → Outcome
after_numbers w N M bytes rs middle (faulty at) = refused faulty_field at
after_numbers w N M bytes rs middle (whole ss end) = cond (ltb end (length bytes)) (refused faulty_field end) (checked w N M bytes rs middle ss)

abbrev pub after_nodes : ℕ → ℕ → ℕ → ℕ → List ℕ → Run Row → Outcome
after_nodes w N M m bytes (faulty at) = refused faulty_field at
after_nodes w N M m bytes (whole rs middle) = after_numbers w N M bytes rs middle (numbers_from bytes middle m)

-- ---- reading
abbrev pub after_head : ℕ → ℕ → ℕ → List ℕ → Result Counts Refusal → Outcome
after_head w N M bytes (Err r) = refused r.number r.place
after_head w N M bytes (Ok c) = after_nodes w N M c.numbers bytes (nodes_from w bytes (first_node w) c.nodes)

unfoldable pub reading_of : Version → ℕ → ℕ → List ℕ → Outcome
reading_of v N M bytes = after_head v.width N M bytes (head_in v bytes)
