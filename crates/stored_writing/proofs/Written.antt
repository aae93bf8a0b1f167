-- What writing a store comes to, by whether it is well formed, what it measures, and the room.
-- Assumes nothing.
use mathlib.Core.Path.{◌≡◌, refl, ap, sym, subst, ◌∙◌}
use mathlib.Core.Bool.{Bool, true, false}
use mathlib.Core.List.{List, [], ◌∷◌, ◌++◌, map, flat_map, append-nil}
use Prim.Native.Nat.{ℕ, zero, suc, ◌≤◌, ◌<◌}
use native.Mathlib.Omega.{arith}
use lib.Dec.{leb}
use lib.ListN.{length, drop, length-drop}
use lib.Seq.{length-take-le}
use borrow.Author.Tests.{le-leb, lt-leb}
use Rattle.limits.specs.Limits.{depth_limit}
use Rattle.lists.specs.Lists.{every, All}
use Rattle.refusals.specs.Refusals.{no_room, does_not_fit}
use Rattle.store.specs.declared.WriteAnswer.{WriteAnswer}
use Rattle.store.specs.Rows.{Row, node_room, number_room, span_start_at, span_length_at, span_at, firsts, spans_in, cleared}
use Rattle.store.specs.Answers.{bytes, refusal, wrote, Writes}
use Rattle.store.proofs.Cells.{snoc}
use Rattle.store.proofs.Rows.{rows_length}
use Rattle.tree.specs.TreeIn.{SpanIn, span_text, span_texts}
use Rattle.tree.proofs.Parts.{parts_fit}
use Rattle.tree.proofs.KnownRows.{KnownRow, known_rows}
use Rattle.shape.specs.Store.{all_rows, all_texts, well_formed}
use Rattle.shape.proofs.Stores.{texts_count, StoreTree, Grown, grown, is_tree, store_tree}
use Rattle.pen.specs.declared.Pen.{Pen}
use Rattle.pen.specs.Pen.{pen, HasPut, ToPut, Emits}
use Rattle.pen.proofs.Puts.{emits_then}
use Rattle.pen.proofs.Written.{writes_all}
use Rattle.stored_form.specs.declared.Version.{Version}
use Rattle.stored_form.specs.Form.{head_field, node_field, number_field, stored_rows, stored_of}
use Rattle.stored_form.proofs.Stores.{stored_is}
use Rattle.stored_writing.specs.Writing.{lengths_in, measure_of, SmallRow, RowsFit, rows_before}
use Rattle.stored_writing.proofs.Measures.{Measured, measured, counts_small}
use Rattle.stored_writing.proofs.Putting.{all_last}

-- ---- the fields are put one after the other, and have room
not_full : {goal rest : List ℕ} {p : Pen} {out : List ℕ} → ToPut goal rest p out → length goal ≤ length out → p.full ≡ false
not_full {goal} {rest} {p} {out} h l = go p.full refl
  where
    go : (b : Bool) → p.full ≡ b → p.full ≡ false
    go true e = let o : length out < length goal = subst (λ (b : Bool). HasPut b goal rest p.at out) e h.held in absurd (omega arith)
    go false e = e

module _ (v : Version) (text nodes numbers : List ℕ) where
  abbrev pub its_bytes : List ℕ
  its_bytes = stored_rows v (all_rows nodes) (all_texts text numbers)

  put_are : {n m : ℕ} → n ≡ length (all_rows nodes) → m ≡ length (all_texts text numbers) → head_field v n m ++ (flat_map (node_field v.width) (all_rows nodes) ++ (flat_map number_field (all_texts text numbers) ++ [])) ≡ its_bytes
  unfolding stored_rows
  put_are i j = rw (i, j, append-nil)

  pub tree_put : {out out₁ out₂ left : List ℕ} {p q : Pen} {a : WriteAnswer} → Emits (rows_before v nodes numbers) (pen 0 false) out p out₁ → Emits (λ rest. flat_map number_field (all_texts text numbers) ++ rest) p out₁ q out₂
      → length its_bytes ≤ length out → a ≡ wrote q.at → left ≡ cleared out₂ q.at → Writes (bytes its_bytes) (length out) a left
  tree_put {out} {q = q} rows texts room answer e =
      let all : Emits (λ rest. rows_before v nodes numbers (flat_map number_field (all_texts text numbers) ++ rest)) (pen 0 false) out q _ = emits_then rows texts in
      let put : ToPut its_bytes [] q _ = all.to its_bytes [] (record { within = omega arith; held = put_are (sym (rows_length nodes (node_room nodes))) (sym (texts_count text numbers)) }) in
      rw answer (writes_all put all.same (not_full put (rw all.same room)) e)

-- ---- a well-formed store
map_both : {A B : Type 0} (f : A → B) (a b : List A) → map f (a ++ b) ≡ map f a ++ map f b
map_both f [] b = refl
map_both f (x ∷ a) b = ap (λ (l : List _). f x ∷ l) (map_both f a b)

-- a number row that lies in the text says its text's length
span_length : (text numbers : List ℕ) (i : ℕ) → SpanIn text (span_at text numbers i) → length (span_text (span_at text numbers i)) ≡ span_length_at numbers i
span_length text numbers i h = length-take-le (span_length_at numbers i) (drop (span_start_at numbers i) text) (omega (arith, h.inside, length-drop (span_start_at numbers i) text))

lengths_are : (text numbers : List ℕ) (n : ℕ) → All (SpanIn text) (spans_in text numbers n) → firsts (span_length_at numbers) n ≡ map length (span_texts (spans_in text numbers n))
unfolding spans_in firsts
lengths_are text numbers zero a = refl
lengths_are text numbers (suc n) a =
    let u = all_last (SpanIn text) (firsts (span_at text numbers) n) (span_at text numbers n) a in
    snoc (lengths_are text numbers n u.0) (sym (span_length text numbers n u.1))
    ∙ sym (ap (map length) (map_both span_text (firsts (span_at text numbers) n) (span_at text numbers n ∷ [])) ∙ map_both length (map span_text (firsts (span_at text numbers) n)) (span_text (span_at text numbers n) ∷ []))

all_smaller : {A : Type 0} (Q R : A → Type 0) → ((x : A) → Q x → R x) → (l : List A) → All Q l → All R l
unfolding All
all_smaller Q R f [] a = tt
all_smaller Q R f (x ∷ l) a = (f x a.0, all_smaller Q R f l a.1)

module _ (v : Version) (text nodes numbers : List ℕ) where
  module _ (well : well_formed text nodes numbers ≡ true) where
    its : Grown text nodes numbers
    its = grown text nodes numbers well

    is_its : StoreTree text nodes numbers its.tree
    is_its = store_tree text nodes numbers its.tree its.is

    pub small_rows : All SmallRow (all_rows nodes)
    small_rows = all_smaller KnownRow SmallRow (λ r k. (omega (arith, k.0), omega (arith, k.1))) (all_rows nodes) (rw is_its.its_rows (known_rows depth_limit its.tree is_its.good.shape))

    -- what is measured is of the tree's rows and texts
    is_measured : Measured v (all_rows nodes) (all_texts text numbers) (measure_of v (node_room nodes) (lengths_in numbers))
    is_measured =
        let i : length (all_rows nodes) ≡ node_room nodes = rows_length nodes (node_room nodes) in
        let j : lengths_in numbers ≡ map length (all_texts text numbers) = lengths_are text numbers (number_room numbers) (is_tree text nodes numbers its.tree its.is).well.numbers in
        let parts : length (all_rows nodes) ≤ v.largest → length (all_texts text numbers) ≤ v.largest → every (λ (r : Row). leb r.parts v.largest) (all_rows nodes) ≡ true = λ h g. rw is_its.its_rows (parts_fit depth_limit its.tree v.largest is_its.good.shape (rw is_its.its_rows at h) (rw is_its.its_texts at g)) in
        subst (λ (n : ℕ). Measured v (all_rows nodes) (all_texts text numbers) (measure_of v n (lengths_in numbers))) i (rw j (measured v (all_rows nodes) (all_texts text numbers) parts))

    -- "then 27 where a count, a text or the whole doesn't fit the form"
    pub does_not_fit_law : v.limit < measure_of v (node_room nodes) (lengths_in numbers) → stored_of v text nodes numbers ≡ refusal does_not_fit
    does_not_fit_law h = stored_is v text nodes numbers well ∙ rw (is_measured.fits ∙ lt-leb _ v.limit h)

    -- it fits, and is as long as was measured
    module _ (h : measure_of v (node_room nodes) (lengths_in numbers) ≤ v.limit) where
      pub does_fit : stored_of v text nodes numbers ≡ bytes (its_bytes v text nodes numbers)
      does_fit = stored_is v text nodes numbers well ∙ rw (is_measured.fits ∙ le-leb _ v.limit h)

      pub its_length : measure_of v (node_room nodes) (lengths_in numbers) ≡ length (its_bytes v text nodes numbers)
      its_length = is_measured.length (le-leb _ v.limit h)

-- ---- the room: "then 23"
pub no_room_law : {goal : List ℕ} {room : ℕ} {r : WriteAnswer} {out : List ℕ} → room < length goal → Writes (refusal no_room) room r out → Writes (bytes goal) room r out
no_room_law {goal} {room} h w = let t = lt-leb (length goal) room h in record { answer = rw t w.answer; bytes = rw t w.bytes }

pub rows_fit : (v : Version) (text nodes numbers : List ℕ) → well_formed text nodes numbers ≡ true → measure_of v (node_room nodes) (lengths_in numbers) ≤ v.limit → RowsFit v nodes numbers
rows_fit v text nodes numbers well h =
    let c = counts_small v nodes numbers h in
    record { node_count_law = c.0; number_count_law = c.1; small = small_rows v text nodes numbers well }
