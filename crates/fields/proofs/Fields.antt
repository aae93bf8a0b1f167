-- Laws of fields: what stands at a place where a field was put, and what was put where a field stands.
-- Assumes nothing.
use mathlib.Core.Path.{◌≡◌, refl, sym, ap, ap₂, ◌∙◌}
use mathlib.Core.Bool.{true}
use mathlib.Core.List.{List, ◌∷◌, ◌++◌, append_assoc}
use Prim.Native.Nat.{ℕ, ◌+◌, ◌-◌, ◌≤◌, ◌<◌}
use native.Mathlib.Omega.{arith}
use native.Mathlib.Numerals.{add-one}
use native.Mathlib.Nat.{add-zero}
use lib.Dec.{eqb, leb}
use lib.ListN.{length, get_or, take, drop, length-append, length-drop, take-append-drop}
use lib.Seq.{length-take-le, drop-cons, drop-drop, get_or-drop, take_at, drop_at}
use borrow.Author.Tests.{eqb-true, eq-eqb, leb-true, le-leb}
use Rattle.lists.specs.Lists.{All}
use Rattle.lists.proofs.Cases.{and_both}
use Rattle.fields.specs.Counts.{IsByte, count_in, count_bytes}
use Rattle.fields.specs.Fields.{length_width, head_length, longest, field, length_in, content_end, content_in, is_field, is_sized}
use Rattle.fields.proofs.Counts.{bytes_length, count_of_bytes, count_bound, bytes_of_count, all_take, all_drop}

pub field_length : (tag : ℕ) (c : List ℕ) → length (field tag c) ≡ head_length + length c
unfolding field
field_length tag c =
    let e = bytes_length length_width (length c) in
    let l = length-append (count_bytes length_width (length c)) c in
    omega arith

-- ---- a field that was put
-- the field of this content stands at a place, and `rest` after it
pub record There (tag : ℕ) (bytes : List ℕ) (at : ℕ) (c rest : List ℕ) : Type 0 where
  pub field : is_field tag bytes at ≡ true
  pub length : length_in bytes at ≡ lib.ListN.length c
  pub content : content_in bytes at ≡ c
  pub after : drop (content_end bytes at) bytes ≡ rest

module _ (tag : ℕ) (bytes : List ℕ) (at : ℕ) (c rest : List ℕ) (e : drop at bytes ≡ field tag c ++ rest) where
  after_tag : drop (at + 1) bytes ≡ count_bytes length_width (length c) ++ (c ++ rest)
  unfolding field
  after_tag = sym (drop-drop 1 at bytes) ∙ ap (drop 1) e ∙ append_assoc (count_bytes length_width (length c)) c rest

  after_head_law : drop (at + head_length) bytes ≡ c ++ rest
  after_head_law =
      let z : at + head_length ≡ at + 1 + length_width = omega arith in
      rw z (sym (drop-drop length_width (at + 1) bytes) ∙ ap (drop length_width) after_tag ∙ drop_at (count_bytes length_width (length c)) (c ++ rest) length_width (bytes_length length_width (length c)))

  its_tag : get_or bytes at 0 ≡ tag
  unfolding field
  its_tag = ap (λ n. get_or bytes n 0) (sym (add-zero at)) ∙ sym (get_or-drop at bytes 0 0) ∙ ap (λ l. get_or l 0 0) e

  its_room : at + head_length + length c ≤ length bytes
  its_room =
      let l : length bytes - at ≡ length (field tag c) + length rest = sym (length-drop at bytes) ∙ ap length e ∙ length-append (field tag c) rest in
      omega (arith, field_length tag c)

  module _ (short : length c ≤ longest) where
    its_length : length_in bytes at ≡ length c
    unfolding length_in
    its_length =
        ap (λ l. count_in (take length_width l)) after_tag ∙ ap count_in (take_at (count_bytes length_width (length c)) (c ++ rest) length_width (bytes_length length_width (length c))) ∙ count_of_bytes length_width (length c) (omega arith)

    pub there_is : There tag bytes at c rest
    unfolding is_field
    there_is = record {
      field = rw (its_length, eq-eqb (get_or bytes at 0) tag its_tag, le-leb (at + head_length + length c) (length bytes) its_room);
      length = its_length;
      content = rw its_length (ap (take (length c)) after_head_law ∙ take_at c rest (length c) refl);
      after = rw its_length (sym (drop-drop (length c) (at + head_length) bytes) ∙ ap (drop (length c)) after_head_law ∙ drop_at c rest (length c) refl);
    }

-- ---- a field that is found
pub record Here (tag : ℕ) (bytes : List ℕ) (at : ℕ) : Type 0 where
  pub put : drop at bytes ≡ field tag (content_in bytes at) ++ drop (content_end bytes at) bytes
  pub length : length (content_in bytes at) ≡ length_in bytes at
  pub short : length_in bytes at ≤ longest

module _ (tag : ℕ) (bytes : List ℕ) (at : ℕ) (h : is_field tag bytes at ≡ true) where
  pub has_tag : get_or bytes at 0 ≡ tag
  unfolding is_field
  has_tag = eqb-true (get_or bytes at 0) tag (and_both (eqb (get_or bytes at 0) tag) (leb (content_end bytes at) (length bytes)) h).0

  pub has_room : content_end bytes at ≤ length bytes
  unfolding is_field
  has_room = leb-true (content_end bytes at) (length bytes) (and_both (eqb (get_or bytes at 0) tag) (leb (content_end bytes at) (length bytes)) h).1

  length_bytes : length (take length_width (drop (at + 1) bytes)) ≡ length_width
  length_bytes = length-take-le length_width (drop (at + 1) bytes) (simp length-drop (omega (arith, has_room)))

  content_length : length (content_in bytes at) ≡ length_in bytes at
  content_length = length-take-le (length_in bytes at) (drop (at + head_length) bytes) (simp length-drop (omega (arith, has_room)))

  module _ (all : All IsByte bytes) where
    told : All IsByte (take length_width (drop (at + 1) bytes))
    told = all_take length_width (drop (at + 1) bytes) (all_drop (at + 1) bytes all)

    told_short : length_in bytes at ≤ longest
    unfolding length_in
    told_short = let l : count_in (take length_width (drop (at + 1) bytes)) < 65536 = rw length_bytes at (count_bound (take length_width (drop (at + 1) bytes)) told) in omega arith

    told_length : count_bytes length_width (length (content_in bytes at)) ≡ take length_width (drop (at + 1) bytes)
    unfolding length_in
    told_length = ap (count_bytes length_width) content_length ∙ rw length_bytes at (bytes_of_count (take length_width (drop (at + 1) bytes)) told)

    the_content : drop (at + head_length) bytes ≡ content_in bytes at ++ drop (content_end bytes at) bytes
    the_content = sym (take-append-drop (length_in bytes at) (drop (at + head_length) bytes)) ∙ ap (λ l. content_in bytes at ++ l) (drop-drop (length_in bytes at) (at + head_length) bytes)

    past_tag : drop (at + 1) bytes ≡ count_bytes length_width (length (content_in bytes at)) ++ drop (at + head_length) bytes
    past_tag =
        let z : at + 1 + length_width ≡ at + head_length = omega arith in
        sym (take-append-drop length_width (drop (at + 1) bytes)) ∙ ap₂ (λ l m. l ++ m) (sym told_length) (drop-drop length_width (at + 1) bytes ∙ ap (λ n. drop n bytes) z)

    the_field : drop at bytes ≡ field tag (content_in bytes at) ++ drop (content_end bytes at) bytes
    unfolding field
    the_field =
        drop-cons bytes at 0 (omega (arith, has_room)) ∙ ap₂ (λ (b : ℕ) (l : List ℕ). b ∷ l) has_tag (ap (λ n. drop n bytes) (sym (add-one at)) ∙ past_tag ∙ ap (λ l. count_bytes length_width (length (content_in bytes at)) ++ l) the_content ∙ sym (append_assoc (count_bytes length_width (length (content_in bytes at))) (content_in bytes at) (drop (content_end bytes at) bytes)))

    pub is_there : Here tag bytes at
    is_there = record {
      put = the_field;
      length = content_length;
      short = told_short;
    }

-- ---- of this length
module _ (tag size : ℕ) (bytes : List ℕ) (at : ℕ) where
  pub sized_field : is_sized tag size bytes at ≡ true → (is_field tag bytes at ≡ true) × (length_in bytes at ≡ size)
  unfolding is_sized
  sized_field h = let b = and_both (is_field tag bytes at) (eqb (length_in bytes at) size) h in (b.0, eqb-true (length_in bytes at) size b.1)

  pub field_sized : is_field tag bytes at ≡ true → length_in bytes at ≡ size → is_sized tag size bytes at ≡ true
  unfolding is_sized
  field_sized h e = rw (h, eq-eqb (length_in bytes at) size e)
