-- What any reading comes to: how bytes come to be read to rows and spans; and a refusal's number, which is none of an accepted reading.
-- Assumes nothing.
use mathlib.Core.Path.{◌≡◌, refl, subst}
use mathlib.Core.Bool.{Bool, true, false, cond}
use mathlib.Core.List.{List}
use Prim.Native.Nat.{ℕ, ◌≤◌}
use native.Mathlib.Omega.{arith}
use lib.Dec.{ltb}
use lib.ListN.{length}
use borrow.Author.Tests.{ltb-false}
use Rattle.store.specs.Rows.{Row, Span, flat_rows, flat_spans}
use Rattle.store.specs.Answers.{Outcome, filled, refused}
use Rattle.shape.specs.Store.{well_formed}
use Rattle.fields.specs.Fields.{is_sized}
use Rattle.stored_form.specs.declared.Version.{Version}
use Rattle.stored_form.specs.declared.Counts.{Counts}
use Rattle.std.specs.Prelude.{Result, Ok, Err}
use Rattle.stored_form.specs.declared.Refusal.{Refusal}
use Rattle.stored_form.specs.Form.{head_tag, head_size, first_node, node_place}
use Rattle.stored_form.specs.Reading.{refusal_at, version_at, is_other_version, counts_read, head_in, Run, faulty, whole, nodes_from, numbers_from, place_after, roomed, checked, after_nodes, after_numbers, after_head, reading_of}

-- how bytes come to be read to rows and spans
pub record Accepts (v : Version) (N M : ℕ) (bytes : List ℕ) (rs : List Row) (ss : List Span) : Type 0 where
  pub counts : Counts
  pub told : head_in v bytes ≡ Ok counts
  pub middle : ℕ
  pub nodes : nodes_from v.width bytes (first_node v.width) counts.nodes ≡ whole rs middle
  pub end : ℕ
  pub numbers : numbers_from bytes middle counts.numbers ≡ whole ss end
  pub last : length bytes ≤ end
  pub well : well_formed bytes (flat_rows rs) (flat_spans ss) ≡ true
  pub node_room_law : length rs ≤ N
  pub number_room_law : length ss ≤ M

module _ (v : Version) (N M : ℕ) (bytes : List ℕ) where
  abbrev ComesTo : Outcome → Type 0
  ComesTo (filled rs ss) = Accepts v N M bytes rs ss
  ComesTo (refused number place) = 1 ≤ number

  module _ (c : Counts) (told : head_in v bytes ≡ Ok c) where
    in_room : (rs : List Row) (middle : ℕ) → nodes_from v.width bytes (first_node v.width) c.nodes ≡ whole rs middle → (ss : List Span) (end : ℕ) → numbers_from bytes middle c.numbers ≡ whole ss end →
        (a : Bool) → ltb end (length bytes) ≡ a → (w : Bool) → well_formed bytes (flat_rows rs) (flat_spans ss) ≡ w → (n : Bool) → ltb N (length rs) ≡ n → (m : Bool) → ltb M (length ss) ≡ m →
        ComesTo (cond a (refused 25 end) (cond w (cond n (refused 3 (node_place v.width N)) (cond m (refused 4 (place_after bytes middle M)) (filled rs ss))) (refused 22 0)))
    in_room rs middle en ss end em true ea w ew n nn m mm = omega arith
    in_room rs middle en ss end em false ea false ew n nn m mm = omega arith
    in_room rs middle en ss end em false ea true ew true nn m mm = omega arith
    in_room rs middle en ss end em false ea true ew false nn true mm = omega arith
    in_room rs middle en ss end em false ea true ew false nn false mm =
        record { counts = c; told = told; middle = middle; nodes = en; end = end; numbers = em; last = ltb-false end (length bytes) ea; well = ew; node_room_law = ltb-false N (length rs) nn; number_room_law = ltb-false M (length ss) mm }

    after_numbers_law : (rs : List Row) (middle : ℕ) → nodes_from v.width bytes (first_node v.width) c.nodes ≡ whole rs middle → (r : Run Span) → numbers_from bytes middle c.numbers ≡ r → ComesTo (after_numbers v.width N M bytes rs middle r)
    unfolding checked roomed
    after_numbers_law rs middle en (faulty at) em = omega arith
    after_numbers_law rs middle en (whole ss end) em = in_room rs middle en ss end em (ltb end (length bytes)) refl (well_formed bytes (flat_rows rs) (flat_spans ss)) refl (ltb N (length rs)) refl (ltb M (length ss)) refl

    after_nodes_law : (r : Run Row) → nodes_from v.width bytes (first_node v.width) c.nodes ≡ r → ComesTo (after_nodes v.width N M c.numbers bytes r)
    after_nodes_law (faulty at) en = omega arith
    after_nodes_law (whole rs middle) en = after_numbers_law rs middle en (numbers_from bytes middle c.numbers) refl

  head_number : {r : Refusal} → head_in v bytes ≡ Err r → 1 ≤ r.number
  unfolding head_in
  head_number {r} e = go (ltb v.limit (length bytes)) (is_other_version v bytes) (is_sized head_tag (head_size v.width) bytes 0) e
    where
      go : (a b s : Bool) → cond a (refusal_at 1 v.limit) (cond b (refusal_at 26 version_at) (cond s (Ok (counts_read v.width bytes)) (refusal_at 25 0))) ≡ Err r → 1 ≤ r.number
      go true b s e = let z : 1 ≡ r.number = cc in omega arith
      go false true s e = let z : 26 ≡ r.number = cc in omega arith
      go false false true e = let z : ◌≡◌ {A = ℕ} 0 1 = cc in absurd (omega arith)
      go false false false e = let z : 25 ≡ r.number = cc in omega arith

  comes_to : ComesTo (reading_of v N M bytes)
  unfolding reading_of
  comes_to = go (head_in v bytes) refl
    where
      go : (h : Result Counts Refusal) → head_in v bytes ≡ h → ComesTo (after_head v.width N M bytes h)
      go (Err r) e = head_number e
      go (Ok c) e = after_nodes_law c e (nodes_from v.width bytes (first_node v.width) c.nodes) refl

  pub accepts : (rs : List Row) (ss : List Span) → reading_of v N M bytes ≡ filled rs ss → Accepts v N M bytes rs ss
  accepts rs ss e = subst ComesTo e comes_to

  -- "Number and place are 0 when accepted", and then only
  pub refused_number : (number place : ℕ) → reading_of v N M bytes ≡ refused number place → 1 ≤ number
  refused_number number place e = subst ComesTo e comes_to
