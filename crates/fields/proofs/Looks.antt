-- Laws of looking for a field at a place: the tests by which it is found, or is not.
-- Assumes nothing.
use mathlib.Core.Path.{◌≡◌, refl, sym, ◌∙◌}
use mathlib.Core.Bool.{Bool, true, false, cond, not, ◌&&◌, ◌||◌}
use mathlib.Core.List.{List}
use Prim.Native.Nat.{ℕ, ◌+◌, ◌-◌, ◌%◌, ◌^◌, ◌≤◌, ◌<◌}
use native.Mathlib.Omega.{arith}
use lib.Dec.{eqb, leb, ltb}
use lib.ListN.{length, get_or, take, drop}
use native.Mathlib.Decide.{dec_lt}
use borrow.Author.Tests.{lt-leb, le-leb, lt-ltb, le-ltb}
use Rattle.fields.specs.Counts.{byte, count_in}
use Rattle.std.specs.Prelude.{Some, None}
use Rattle.fields.specs.Fields.{length_width, head_length, length_in, content_end, is_field, field_at, is_sized}
use Rattle.fields.proofs.Counts.{count_read}

and_false : (b : Bool) → (b && false) ≡ false
and_false true = refl
and_false false = refl

leb_flip : (a b : ℕ) → leb a b ≡ not (ltb b a)
leb_flip a b = go (dec_lt b a)
  where
    go : Dec (b < a) → leb a b ≡ not (ltb b a)
    go (yes l) = rw (lt-ltb b a l) (lt-leb a b l)
    go (no l) = let h : a ≤ b = omega (arith, l) in rw (le-ltb b a h) (le-leb a b h)

either_way : {A : Type 0} (p q : Bool) (x y : A) → cond (p && not q) x y ≡ cond (not p || q) y x
either_way true true x y = refl
either_way true false x y = refl
either_way false q x y = refl

module _ (tag : ℕ) (bytes : List ℕ) (at : ℕ) where
  -- ---- too few bytes for a tag and a length
  module _ (h : length bytes < at + head_length) where
    no_field : is_field tag bytes at ≡ false
    unfolding is_field
    no_field = rw (lt-leb (content_end bytes at) (length bytes) (omega arith)) (and_false (eqb (get_or bytes at 0) tag))

    pub cut_faulty : None ≡ field_at tag bytes at
    unfolding field_at
    cut_faulty = rw no_field

  -- ---- the length that is there
  module _ (h : at + head_length ≤ length bytes) (len : ℕ) (e : len ≡ length_in bytes at) where
    fits_by : leb (content_end bytes at) (length bytes) ≡ leb len (length bytes - (at + head_length))
    fits_by = go (dec_lt (length bytes - (at + head_length)) len)
      where
        go : Dec (length bytes - (at + head_length) < len) → leb (content_end bytes at) (length bytes) ≡ leb len (length bytes - (at + head_length))
        go (yes l) = lt-leb (content_end bytes at) (length bytes) (omega arith) ∙ sym (lt-leb len (length bytes - (at + head_length)) l)
        go (no l) = le-leb (content_end bytes at) (length bytes) (omega (arith, l)) ∙ sym (le-leb len (length bytes - (at + head_length)) (omega (arith, l)))

    found_by : field_at tag bytes at ≡ cond (not (eqb (get_or bytes at 0) tag) || ltb (length bytes - (at + head_length)) len) None (Some (at + head_length + len))
    unfolding field_at is_field
    found_by = rw (fits_by, ← e, leb_flip len (length bytes - (at + head_length))) (either_way (eqb (get_or bytes at 0) tag) (ltb (length bytes - (at + head_length)) len) _ _)

    pub found_faulty : (not (eqb (get_or bytes at 0) tag) || ltb (length bytes - (at + head_length)) len) ≡ true → None ≡ field_at tag bytes at
    found_faulty z = sym (rw z at found_by)

    pub found_whole : (not (eqb (get_or bytes at 0) tag) || ltb (length bytes - (at + head_length)) len) ≡ false → Some (at + head_length + len) ≡ field_at tag bytes at
    found_whole z = sym (rw z at found_by)

-- the length as the code reads it
pub length_read : (bytes : List ℕ) (at : ℕ) → ((i : ℕ) → get_or bytes i 0 < byte) → count_in (take (at + head_length - (at + 1)) (drop (at + 1) bytes)) % 2 ^ 32 ≡ length_in bytes at
unfolding length_in
length_read bytes at all = count_read bytes all (at + 1) (at + head_length) length_width (omega arith) (omega arith)

-- ---- what an answer says
pub whole_field : (tag : ℕ) (bytes : List ℕ) (at : ℕ) {end : ℕ} → field_at tag bytes at ≡ Some end → (is_field tag bytes at ≡ true) × (content_end bytes at ≡ end)
unfolding field_at
whole_field tag bytes at {end} e = go (is_field tag bytes at) e
  where
    go : (b : Bool) → cond b (Some (content_end bytes at)) None ≡ Some end → (b ≡ true) × (content_end bytes at ≡ end)
    go true z = (refl, cc)
    go false z = let y : ◌≡◌ {A = ℕ} 0 1 = cc in absurd (omega arith)

pub faulty_field_law : (tag : ℕ) (bytes : List ℕ) (at : ℕ) → field_at tag bytes at ≡ None → is_field tag bytes at ≡ false
unfolding field_at
faulty_field_law tag bytes at e = go (is_field tag bytes at) e
  where
    go : (b : Bool) → cond b (Some (content_end bytes at)) None ≡ None → b ≡ false
    go true z = let y : ◌≡◌ {A = ℕ} 0 1 = cc in absurd (omega arith)
    go false z = refl

-- ---- whether a field has this length, by where its content ends
module _ (tag size : ℕ) (bytes : List ℕ) (at : ℕ) where
  pub sized_by : {end : ℕ} → field_at tag bytes at ≡ Some end → eqb (end - at - head_length) size ≡ is_sized tag size bytes at
  unfolding is_sized
  sized_by {end} e =
      let w = whole_field tag bytes at e in
      let l : end - at - head_length ≡ length_in bytes at = omega (arith, w.1) in
      rw (l, w.0)

  pub not_sized : field_at tag bytes at ≡ None → false ≡ is_sized tag size bytes at
  unfolding is_sized
  not_sized e = rw (faulty_field_law tag bytes at e)
