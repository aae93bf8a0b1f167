-- Laws of loops over fields that are right: the place of a number field, and rows that are filled with what the fields tell.
-- Assumes nothing.
use mathlib.Core.Path.{◌≡◌, refl, ap, sym, ◌∙◌}
use mathlib.Core.Bool.{true}
use mathlib.Core.List.{List, [], ◌∷◌, ◌++◌}
use Prim.Native.Nat.{ℕ, suc, ◌+◌, ◌-◌, ◌%◌, ◌^◌, ◌≤◌, ◌<◌}
use native.Mathlib.Omega.{arith}
use native.Mathlib.Nat.{sub-zero}
use lib.ListN.{length, get_or, take, drop}
use Rattle.store.specs.Rows.{node_width, number_width, node_room, number_room, places_of, firsts, rows_in, spans_in, put_row, put_span, flat_rows, flat_spans, cleared}
use Rattle.store.proofs.Cells.{places_some}
use Rattle.store.proofs.Rows.{rows_cleared, rows_put, put_row_length, spans_cleared, spans_put, put_span_length}
use Rattle.fields.specs.Counts.{byte, count_in}
use Rattle.fields.specs.Fields.{head_length, length_in, content_end, is_field, is_sized}
use Rattle.fields.proofs.Counts.{count_read}
use Rattle.fields.proofs.Fields.{has_room, sized_field}
use Rattle.stored_form.specs.Form.{node_tag, number_tag, node_size}
use Rattle.stored_form.specs.Reading.{whole, row_told, node_after, nodes_from, span_told, numbers_from, place_after, Right}
use Rattle.stored_reading.specs.Looks.{Filled}
use Rattle.stored_form.proofs.Runs.{whole_one, Telling, telling_begins, telling_right, telling_on, telling_ends, first}

-- ---- the place of a number field
pub record Placing (bytes : List ℕ) (start count at i : ℕ) : Type 0 where
  pub within : i ≤ count
  pub right : Right (numbers_from bytes at (count - i))
  pub same : place_after bytes at (count - i) ≡ place_after bytes start count

pub placing_begins : (bytes : List ℕ) (start count : ℕ) → Right (numbers_from bytes start count) → Placing bytes start count start 0
placing_begins bytes start count r = record { within = omega arith; right = rw sub-zero r; same = rw sub-zero }

module _ {bytes : List ℕ} {start count at i : ℕ} (p : Placing bytes start count at i) where
  module _ (h : i < count) where
    one_left : count - i ≡ suc (count - (i + 1))
    one_left = omega arith

    pub placing_field : is_field number_tag bytes at ≡ true
    placing_field = (first (is_field number_tag bytes) (span_told bytes) (content_end bytes) at (count - (i + 1)) (rw one_left at p.right.are)).is_right

    pub placing_room : content_end bytes at ≤ length bytes
    placing_room = has_room number_tag bytes at placing_field

    pub placing_on : {next : ℕ} → next ≡ content_end bytes at → Placing bytes start count next (i + 1)
    unfolding place_after
    placing_on e =
        let f = first (is_field number_tag bytes) (span_told bytes) (content_end bytes) at (count - (i + 1)) (rw one_left at p.right.are) in
        record {
          within = omega arith;
          right = rw e (record { items = f.tail; end = p.right.end; are = f.rest });
          same = rw e (rw one_left at p.same);
        }

  pub placing_ends : count ≤ i → at ≡ place_after bytes start count
  unfolding place_after
  placing_ends h = let z : count - i ≡ 0 = omega arith in rw z at p.same

-- ---- node rows
pub record FillingNodes (w : ℕ) (bytes : List ℕ) (start count : ℕ) (ns₀ ns : List ℕ) (at i : ℕ) : Type 0 where
  pub within : i ≤ count
  pub same : length ns ≡ length ns₀
  pub telling : Telling (nodes_from w bytes start count) (rows_in ns i) (nodes_from w bytes at (count - i))

pub nodes_begin : (w : ℕ) (bytes : List ℕ) (start count : ℕ) (ns : List ℕ) → Right (nodes_from w bytes start count) → FillingNodes w bytes start count ns ns start 0
unfolding rows_in firsts
nodes_begin w bytes start count ns r = record { within = omega arith; same = refl; telling = rw sub-zero (telling_begins r) }

module _ {w : ℕ} {bytes : List ℕ} {start count : ℕ} {ns₀ ns : List ℕ} {at i : ℕ} (f : FillingNodes w bytes start count ns₀ ns at i) where
  module _ (h : i < count) where
    pub nodes_room : node_after w at ≤ length bytes
    nodes_room =
        let b = sized_field node_tag (node_size w) bytes at (telling_right (is_sized node_tag (node_size w) bytes) (row_told w bytes) (node_after w) count i at f.telling h) in
        omega (arith, has_room node_tag bytes at b.0, b.1)

    pub nodes_on_law : count ≤ node_room ns₀ → w ≤ 4 → ((i : ℕ) → get_or bytes i 0 < byte) → {n : ℕ} {ns' : List ℕ}
        → n ≡ count_in (take (at + head_length + 2 + w - (at + head_length + 2)) (drop (at + head_length + 2) bytes)) % 2 ^ 32
        → ns' ≡ put_row ns i (get_or bytes (at + head_length) 0) (get_or bytes (at + head_length + 1) 0) n
        → FillingNodes w bytes start count ns₀ ns' (at + head_length + 2 + w) (i + 1)
    nodes_on_law room narrow all {n} {ns'} e put =
        let n' : ℕ = count_in (take w (drop (at + head_length + 2) bytes)) in
        let told : n ≡ n' = e ∙ count_read bytes all (at + head_length + 2) (at + head_length + 2 + w) w (omega arith) narrow in
        let here : i < node_room ns = rw f.same (omega arith) in
        let rows : rows_in ns' (i + 1) ≡ rows_in ns i ++ (row_told w bytes at ∷ []) = rw (put, told) (rows_put ns i (get_or bytes (at + head_length) 0) (get_or bytes (at + head_length + 1) 0) n' here) in
        let next : at + head_length + 2 + w ≡ node_after w at = omega arith in
        record {
          within = omega arith;
          same = ap length put ∙ put_row_length ns i (get_or bytes (at + head_length) 0) (get_or bytes (at + head_length + 1) 0) n ∙ f.same;
          telling = rw (rows, next) (telling_on (is_sized node_tag (node_size w) bytes) (row_told w bytes) (node_after w) count i at f.telling h);
        }

  pub nodes_filled : count ≤ i → count ≤ node_room ns₀ → {ns' : List ℕ} → ns' ≡ cleared ns (places_of node_width ns count) → Filled flat_rows (nodes_from w bytes start count) ns₀ ns'
  nodes_filled h room {ns'} e =
      let z : i ≡ count = omega (arith, f.within) in
      let here : count ≤ node_room ns = rw f.same room in
      let all : nodes_from w bytes start count ≡ whole (rows_in ns count) at = rw z at (telling_ends (is_sized node_tag (node_size w) bytes) (row_told w bytes) (node_after w) count i at f.telling h) in
      record { put = λ rs end are. e ∙ rw (← (places_some node_width ns count here).0, (whole_one (sym are ∙ all)).0, ← f.same) (rows_cleared ns count here) }

-- ---- number rows
pub record FillingNumbers (bytes : List ℕ) (start count : ℕ) (ms₀ ms : List ℕ) (at i : ℕ) : Type 0 where
  pub within : i ≤ count
  pub same : length ms ≡ length ms₀
  pub telling : Telling (numbers_from bytes start count) (spans_in bytes ms i) (numbers_from bytes at (count - i))

pub numbers_begin : (bytes : List ℕ) (start count : ℕ) (ms : List ℕ) → Right (numbers_from bytes start count) → FillingNumbers bytes start count ms ms start 0
unfolding spans_in firsts
numbers_begin bytes start count ms r = record { within = omega arith; same = refl; telling = rw sub-zero (telling_begins r) }

module _ {bytes : List ℕ} {start count : ℕ} {ms₀ ms : List ℕ} {at i : ℕ} (f : FillingNumbers bytes start count ms₀ ms at i) where
  module _ (h : i < count) where
    pub numbers_room : content_end bytes at ≤ length bytes
    numbers_room = has_room number_tag bytes at (telling_right (is_field number_tag bytes) (span_told bytes) (content_end bytes) count i at f.telling h)

    pub numbers_on : count ≤ number_room ms₀ → {len : ℕ} {ms' : List ℕ} → len ≡ length_in bytes at → ms' ≡ put_span ms i (at + head_length) len → FillingNumbers bytes start count ms₀ ms' (at + head_length + len) (i + 1)
    numbers_on room {len} {ms'} e put =
        let here : i < number_room ms = rw f.same (omega arith) in
        let spans : spans_in bytes ms' (i + 1) ≡ spans_in bytes ms i ++ (span_told bytes at ∷ []) = rw (put, e) (spans_put ms i (at + head_length) (length_in bytes at) bytes here) in
        record {
          within = omega arith;
          same = ap length put ∙ put_span_length ms i (at + head_length) len ∙ f.same;
          telling = rw (spans, e) (telling_on (is_field number_tag bytes) (span_told bytes) (content_end bytes) count i at f.telling h);
        }

  pub numbers_filled : count ≤ i → count ≤ number_room ms₀ → {ms' : List ℕ} → ms' ≡ cleared ms (places_of number_width ms count) → Filled flat_spans (numbers_from bytes start count) ms₀ ms'
  numbers_filled h room {ms'} e =
      let z : i ≡ count = omega (arith, f.within) in
      let here : count ≤ number_room ms = rw f.same room in
      let all : numbers_from bytes start count ≡ whole (spans_in bytes ms count) at = rw z at (telling_ends (is_field number_tag bytes) (span_told bytes) (content_end bytes) count i at f.telling h) in
      record { put = λ ss end are. e ∙ rw (← (places_some number_width ms count here).0, (whole_one (sym are ∙ all)).0, ← f.same) (spans_cleared bytes ms count here) }
