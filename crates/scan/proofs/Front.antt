-- Laws of reading at the front of `drop i l`, for any test: what a step at the place i shows.
-- Assumes nothing.
use mathlib.Core.Path.{◌≡◌, refl}
use mathlib.Core.Bool.{Bool, true, false}
use mathlib.Core.List.{List, [], ◌∷◌}
use Prim.Native.Nat.{ℕ, suc, ◌+◌, ◌-◌, ◌≤◌, ◌<◌}
use native.Mathlib.Numerals.{add-one}
use lib.Dec.{leb}
use borrow.Author.Tests.{leb-true, leb-false}
use lib.ListN.{length, get_or, take, drop, length-drop, drop_of_length-le}
use lib.Seq.{drop-cons, take_all}
use native.Mathlib.Omega.{arith}
use Rattle.scan.specs.Front.{rest, part, begins, after_one, after_all, is_nil}

-- what `&l[i..]` is
pub tail_part : (i : ℕ) (l : List ℕ) → take (length l - i) (drop i l) ≡ drop i l
tail_part i l = take_all (length l - i) (drop i l) (omega (arith, length-drop i l))

pub rest_zero : (l : List ℕ) → rest l 0 ≡ l
unfolding rest
rest_zero l = refl

module _ (l : List ℕ) (i : ℕ) where
  pub rest_in : i < length l → rest l i ≡ get_or l i 0 ∷ rest l (i + 1)
  unfolding rest
  rest_in h = rw (add-one, drop-cons l i 0)

  pub rest_past : length l ≤ i → rest l i ≡ []
  unfolding rest
  rest_past h = drop_of_length-le l h

  nil_in : i < length l → false ≡ is_nil (rest l i)
  unfolding rest is_nil
  nil_in h = rw (drop-cons l i 0)

  nil_past : length l ≤ i → true ≡ is_nil (rest l i)
  unfolding rest is_nil
  nil_past h = rw drop_of_length-le

  -- nothing is left of the list at i exactly where i is at least its length
  pub nil_at : leb (length l) i ≡ is_nil (rest l i)
  nil_at = go (leb (length l) i) refl
    where
      go : (b : Bool) → leb (length l) i ≡ b → b ≡ is_nil (rest l i)
      go true e = nil_past (leb-true _ _ e)
      go false e = nil_in (leb-false _ _ e)

module _ (p : ℕ → Bool) (l : List ℕ) (i : ℕ) where
  pub begins_at : i < length l → p (get_or l i 0) ≡ begins p (rest l i)
  unfolding rest begins
  begins_at h = rw (drop-cons l i 0)

  pub begins_past : length l ≤ i → false ≡ begins p (rest l i)
  unfolding rest begins
  begins_past h = rw drop_of_length-le

  pub one_yes : i < length l → p (get_or l i 0) ≡ true → rest l (i + 1) ≡ after_one p (rest l i)
  unfolding rest after_one
  one_yes h t = rw (add-one, drop-cons l i 0, t)

  pub one_no : i < length l → p (get_or l i 0) ≡ false → rest l i ≡ after_one p (rest l i)
  unfolding rest after_one
  one_no h t = rw (drop-cons l i 0, t)

  pub one_past : length l ≤ i → rest l i ≡ after_one p (rest l i)
  unfolding rest after_one
  one_past h = rw drop_of_length-le

  pub all_on : i < length l → p (get_or l i 0) ≡ true → after_all p (rest l (i + 1)) ≡ after_all p (rest l i)
  unfolding rest after_all
  all_on h t = rw (add-one, drop-cons l i 0, t)

  pub all_stop : i < length l → p (get_or l i 0) ≡ false → rest l i ≡ after_all p (rest l i)
  unfolding rest after_all
  all_stop h t = rw (drop-cons l i 0, t)

  pub all_past : length l ≤ i → rest l i ≡ after_all p (rest l i)
  unfolding rest after_all
  all_past h = rw drop_of_length-le

-- the part up to the end or past it is the whole text
pub part_whole : (text : List ℕ) (end : ℕ) → length text ≤ end → part text 0 end ≡ text
part_whole text end h = take_all (end - 0) text (omega arith)

-- a part by its first byte
module _ (text : List ℕ) (i end : ℕ) where
  pub part_first : i < length text → i < end → part text i end ≡ get_or text i 0 ∷ part text (i + 1) end
  part_first h l =
      let e : end - i ≡ suc (end - (i + 1)) = omega arith in
      rw (e, add-one, drop-cons text i 0)

  pub part_none : end ≤ i → part text i end ≡ []
  part_none l =
      let e : end - i ≡ 0 = omega arith in
      rw e

module _ (p : ℕ → Bool) where
  pub one_none : after_one p [] ≡ []
  unfolding after_one
  one_none = refl

  pub one_first : (b : ℕ) (l : List ℕ) → p b ≡ true → after_one p (b ∷ l) ≡ l
  unfolding after_one
  one_first b l t = rw t

  pub one_other : (b : ℕ) (l : List ℕ) → p b ≡ false → after_one p (b ∷ l) ≡ b ∷ l
  unfolding after_one
  one_other b l t = rw t
