-- What writing comes to for a tree that was read from stored bytes: its number fields are those of the source, and whether it fits is told by its counts and by the source's length.
-- Assumes nothing.
use mathlib.Core.Path.{◌≡◌, refl, ap, sym, ◌∙◌}
use mathlib.Core.Bool.{Bool, true, false, false≢true, ◌||◌}
use mathlib.Core.List.{List, ◌++◌, flat_map, append_assoc}
use Prim.Native.Nat.{ℕ, ◌+◌, ◌-◌, ◌*◌, ◌^◌, ◌≤◌, ◌<◌}
use native.Mathlib.Omega.{arith}
use lib.Dec.{leb, ltb}
use lib.ListN.{length, take, drop, length-append, length-drop}
use lib.Seq.{take_all, drop_at}
use borrow.Author.Tests.{le-ltb}
use Rattle.limits.specs.Limits.{depth_limit}
use Rattle.lists.specs.Lists.{every}
use Rattle.refusals.specs.Refusals.{does_not_fit}
use Rattle.store.specs.Rows.{Row, node_room, number_room}
use Rattle.store.specs.Answers.{bytes, refusal}
use Rattle.store.proofs.Rows.{rows_length}
use Rattle.tree.proofs.Parts.{parts_fit}
use Rattle.shape.specs.Store.{all_rows, all_texts}
use Rattle.shape.proofs.Stores.{texts_count, grown, store_tree}
use Rattle.pen.specs.declared.Pen.{Pen}
use Rattle.pen.specs.Pen.{Puts, Emits}
use Rattle.pen.proofs.Puts.{emits}
use Rattle.fields.specs.Fields.{head_length}
use Rattle.stored_form.specs.declared.Version.{Version}
use Rattle.stored_form.specs.Form.{Known, node_size, head_field, node_field, number_field, stored_rows, fits_rows, node_place, stored_of}
use Rattle.stored_form.proofs.Known.{largest_fits}
use Rattle.stored_form.proofs.Fits.{FitsEach, fits_each, each_fits}
use Rattle.stored_form.proofs.Stores.{stored_is}
use Rattle.stored_writing.specs.Writing.{RowsFit, StoredIn, NumbersFrom}
use Rattle.stored_writing.proofs.Measures.{both_fit, head_length_law, nodes_length, stored_length}
use Rattle.stored_writing.proofs.Written.{its_bytes, small_rows}

module _ (v w : Version) (source nodes numbers : List ℕ) (s : StoredIn v source nodes numbers) (known : Known v) where
  abbrev rs : List Row
  rs = all_rows nodes

  abbrev ts : List (List ℕ)
  ts = all_texts source numbers

  rows_are : length rs ≡ node_room nodes
  rows_are = rows_length nodes (node_room nodes)

  texts_are : length ts ≡ number_room numbers
  texts_are = texts_count source numbers

  each : FitsEach v rs ts
  each = fits_each v rs ts s.fits

  pub few_nodes : node_room nodes < 2 ^ 32
  few_nodes = omega (arith, each.nodes, rows_are, largest_fits known)

  -- ---- the number fields
  abbrev middle : ℕ
  middle = node_place v.width (node_room nodes)

  head_and_nodes : length (head_field v (length rs) (length ts) ++ flat_map (node_field v.width) rs) ≡ middle
  head_and_nodes =
      let n : length (flat_map (node_field v.width) rs) ≡ node_room nodes * (head_length + node_size v.width) = nodes_length v.width rs ∙ ap (λ (k : ℕ). k * (head_length + node_size v.width)) rows_are in
      length-append (head_field v (length rs) (length ts)) (flat_map (node_field v.width) rs) ∙ omega (arith, head_length_law v (length rs) (length ts), n)

  whole_is : source ≡ (head_field v (length rs) (length ts) ++ flat_map (node_field v.width) rs) ++ flat_map number_field ts
  unfolding stored_rows
  whole_is = s.stored ∙ sym (append_assoc (head_field v (length rs) (length ts)) (flat_map (node_field v.width) rs) (flat_map number_field ts))

  pub numbers_from_law : NumbersFrom middle source numbers
  numbers_from_law = record {
    within = omega (arith, ap length whole_is, length-append (head_field v (length rs) (length ts) ++ flat_map (node_field v.width) rs) (flat_map number_field ts), head_and_nodes);
    fields = ap (drop middle) whole_is ∙ drop_at (head_field v (length rs) (length ts) ++ flat_map (node_field v.width) rs) (flat_map number_field ts) middle head_and_nodes;
  }

  -- ---- the length in w
  pub other_length : length (stored_rows w rs ts) ≡ node_place w.width (node_room nodes) + (length source - middle)
  other_length =
      let a = stored_length w rs ts in
      let b = ap length s.stored ∙ stored_length v rs ts in
      let e : node_place w.width (length rs) ≡ node_place w.width (node_room nodes) = ap (node_place w.width) rows_are in
      let f : node_place v.width (length rs) ≡ middle = ap (node_place v.width) rows_are in
      omega (arith, a, b, e, f)

  -- ---- whether it fits
  parts : length rs ≤ w.largest → length ts ≤ w.largest → every (λ (r : Row). leb r.parts w.largest) rs ≡ true
  parts h g =
      let its = grown source nodes numbers s.well in
      let is_its = store_tree source nodes numbers its.tree its.is in
      rw is_its.its_rows (parts_fit depth_limit its.tree w.largest is_its.good.shape (rw is_its.its_rows at h) (rw is_its.its_texts at g))

  unfit : (fits_rows w rs ts ≡ true → ⊥) → stored_of w source nodes numbers ≡ refusal does_not_fit
  unfit h = go (fits_rows w rs ts) refl
    where
      go : (f : Bool) → fits_rows w rs ts ≡ f → stored_of w source nodes numbers ≡ refusal does_not_fit
      go true e = absurd (h e)
      go false e = stored_is w source nodes numbers s.well ∙ rw e

  module _ {n m : ℕ} (en : n ≡ node_room nodes) (em : m ≡ number_room numbers) where
    -- a count doesn't
    pub counts_over : (ltb w.largest n || ltb w.largest m) ≡ true → stored_of w source nodes numbers ≡ refusal does_not_fit
    counts_over e = unfit (λ f. go (fits_each w rs ts f))
      where
        go : FitsEach w rs ts → ⊥
        go x = let a : n ≤ w.largest = omega (arith, en, rows_are, x.nodes) in let b : m ≤ w.largest = omega (arith, em, texts_are, x.numbers) in false≢true (sym (rw (le-ltb w.largest n a, le-ltb w.largest m b)) ∙ e)

    module _ (few : (ltb w.largest n || ltb w.largest m) ≡ false) where
      counts_fit : (n ≤ w.largest) × (m ≤ w.largest)
      counts_fit = both_fit w nodes numbers en em few

      pub whole_over : w.limit < node_place w.width (node_room nodes) + (length source - middle) → stored_of w source nodes numbers ≡ refusal does_not_fit
      whole_over l = unfit (λ f. omega (arith, l, other_length, (fits_each w rs ts f).all))

      module _ (l : node_place w.width (node_room nodes) + (length source - middle) ≤ w.limit) where
        all_fit : fits_rows w rs ts ≡ true
        all_fit =
            let a : length rs ≤ w.largest = omega (arith, counts_fit.0, en, rows_are) in
            let b : length ts ≤ w.largest = omega (arith, counts_fit.1, em, texts_are) in
            each_fits w rs ts (record { nodes = a; numbers = b; parts = parts a b; texts = each.texts; all = omega (arith, l, other_length) })

        pub does_fit : stored_of w source nodes numbers ≡ bytes (its_bytes w source nodes numbers)
        does_fit = stored_is w source nodes numbers s.well ∙ rw all_fit

        pub rows_fit : RowsFit w nodes numbers
        rows_fit = record { node_count_law = omega (arith, counts_fit.0, en); number_count_law = omega (arith, counts_fit.1, em); small = small_rows w source nodes numbers s.well }

-- ---- the number fields are copied
emits_piece : {piece piece' : List ℕ} {p : Pen} {out : List ℕ} {r : Pen} {out' : List ℕ} → piece ≡ piece' → Puts piece p out r out' → Emits (λ rest. piece' ++ rest) p out r out'
emits_piece e h = rw e at (emits h)

pub emits_numbers : (middle : ℕ) (source numbers : List ℕ) → NumbersFrom middle source numbers → {p : Pen} {out : List ℕ} {r : Pen} {out' : List ℕ} → Puts (take (length source - middle) (drop middle source)) p out r out' → Emits (λ rest. flat_map number_field (all_texts source numbers) ++ rest) p out r out'
emits_numbers middle source numbers f h = emits_piece (take_all (length source - middle) (drop middle source) (omega (arith, length-drop middle source)) ∙ f.fields) h
