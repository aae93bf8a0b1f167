-- Laws of clearing a slice from a place on: all at once, and as the list before the place with zeros after it.
-- Assumes nothing.
use mathlib.Core.Path.{◌≡◌, refl}
use mathlib.Core.List.{List, [], append-nil}
use Prim.Native.Nat.{ℕ, ◌-◌, ◌≤◌}
use native.Mathlib.Omega.{arith}
use borrow.Rule.Slice.PartMut.{mid_of, put_mid}
use lib.ListN.{length, take, drop, replicate, length-append, length-take, length-drop, length-replicate, drop_of_length-le}
use lib.Seq.{take_all, length-take-le}
use Rattle.store.specs.Rows.{zeros, padded, cleared, cleared_to}

pub cleared_length : (s : List ℕ) (from : ℕ) → length (cleared s from) ≡ length s
unfolding cleared_to
cleared_length s from = simp (length-append, length-take, length-replicate) (omega arith)

module _ {A : Type 0} (z : A) (s : List A) (i : ℕ) where
  -- all places from i on are filled
  pub cleared_filled : (tail : List A) → tail ≡ replicate (length (mid_of i (length s - i) s)) z → put_mid i (length s - i) s tail ≡ cleared_to z s i
  unfolding cleared_to
  cleared_filled tail e =
      let none : drop (length s - i) (drop i s) ≡ [] = drop_of_length-le (drop i s) (simp length-drop (omega arith)) in
      let all : length (mid_of i (length s - i) s) ≡ length s - i = simp (length-take, length-drop) (omega arith) in
      rw (none, append-nil, e, all)

  -- there is none
  pub cleared_past : length s ≤ i → cleared_to z s i ≡ s
  unfolding cleared_to
  cleared_past h =
      let e : length s - i ≡ 0 = omega arith in
      rw (e, take_all i s h, append-nil)

pub cleared_padded : (s flat : List ℕ) (n : ℕ) → flat ≡ take n s → n ≤ length s → cleared s n ≡ padded flat (length s)
unfolding cleared_to
cleared_padded s flat n e h = rw (e, length-take-le n s h)

pub cleared_all : (s : List ℕ) → cleared s 0 ≡ padded [] (length s)
cleared_all s = cleared_padded s [] 0 refl (omega arith)

pub cleared_zeros : (s : List ℕ) → cleared s 0 ≡ zeros (length s)
unfolding cleared_to
cleared_zeros s = let z : length s - 0 ≡ length s = omega arith in rw z
