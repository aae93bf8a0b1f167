-- Laws of bytes that are moved to the front, and of places that aren't zero.
-- Assumes nothing.
use mathlib.Core.Path.{◌≡◌, refl, sym, ap, ◌∙◌}
use mathlib.Core.List.{List, ◌++◌}
use Prim.Native.Nat.{ℕ, ◌+◌, ◌-◌, ◌≤◌, ◌<◌, min}
use native.Mathlib.Omega.{arith}
use Rattle.std.proofs.Common.{zero-add}
use native.Mathlib.Decide.{dec_lt}
use lib.Dec.{ltb, eqb}
use lib.ListN.{length, take, drop, length-take, length-drop, drop_of_length-le}
use lib.Seq.{length-take-le, drop-length, take_all, take_at}
use Rattle.std.specs.List.{copy_within, count_by}
use Rattle.std.proofs.lemmas.List.Recursion.{is_count_by}
use mathlib.Core.Bool.{Bool, true, false, cond, not}
use borrow.Author.Tests.{lt-ltb, le-ltb}
use borrow.Rule.Slice.PartMut.{put_mid}
use Rattle.records.specs.declared.input.State.{State}
use Rattle.records.specs.Input.{state, unread_to, unread_from, unread, Refilled}
use Rattle.records.specs.Lines.{one_unless_zero, not_zero, left_over}

-- bytes that are copied to the front stand there
pub moved_front : (l : List ℕ) (from to : ℕ) → from ≤ to → to ≤ length l → take (to - from) (copy_within l from to 0) ≡ take (to - from) (drop from l)
moved_front l from to h g = rw (zero-add (to - from)) (take_at (take (to - from) (drop from l)) (drop (to - from) l) (to - from) (simp (length-take, length-drop) (omega arith)))

-- something was read where there is more than before
some_read : (left count : ℕ) → ltb 0 count ≡ ltb left (left + count)
some_read left count = go (dec_lt 0 count)
  where
    go : Dec (0 < count) → ltb 0 count ≡ ltb left (left + count)
    go (yes h) = lt-ltb 0 count h ∙ sym (lt-ltb left (left + count) (omega arith))
    go (no h) = le-ltb 0 count (omega arith) ∙ sym (le-ltb left (left + count) (omega arith))

-- what is read behind the unread bytes leaves them where they are
module _ (s : State) (l : List ℕ) {to from : ℕ} (a : to ≡ unread_to s l) (b : from ≡ min s.from to) where
  left_unread : to - from ≡ unread s l
  left_unread = rw (b, a)

  kept_front : (m n : List ℕ) (len : ℕ) → to - from ≤ length m → take (to - from) m ≡ take (to - from) (drop from l) → take (unread s l) (put_mid (to - from) len m n) ≡ take (unread s l) (drop (unread_from s l) l)
  kept_front m n len h e =
      let x : from ≡ unread_from s l = rw (b, a) in
      rw (← left_unread, ← x) (take_at (take (to - from) m) (n ++ drop len (drop (to - from) m)) (to - from) (length-take-le (to - from) m h) ∙ e)

  pub refilled : (m n : List ℕ) (count : ℕ) {passed : ℕ} → length m ≡ length l → take (to - from) m ≡ take (to - from) (drop from l) → to - from + count ≤ length l → passed ≡ min s.skip (to - from + count) → Refilled s l (state passed (to - from + count) (s.skip - passed) (ltb 0 count)) (put_mid (to - from) (length m - (to - from)) m n)
  refilled m n count h e f g =
      record {
        kept = kept_front m n (length m - (to - from)) (omega arith) e;
        more = some_read (to - from) count ∙ ap (λ k. ltb k (to - from + count)) left_unread;
        behind = omega (arith, left_unread);
        from = omega arith;
        have = f;
        passed = omega arith;
      }

-- the places that aren't zero are those that the test finds
pub count_is : (l : List ℕ) → not_zero l ≡ count_by (λ n. not (eqb n 0)) l
unfolding not_zero
count_is l = is_count_by not_zero (λ n. not (eqb n 0)) refl (λ x xs. go x xs (eqb x 0) refl) l
  where
    go : (x : ℕ) (xs : List ℕ) (t : Bool) → eqb x 0 ≡ t → one_unless_zero x + not_zero xs ≡ cond (not (eqb x 0)) (1 + not_zero xs) (not_zero xs)
    go x xs true e = rw e (omega arith)
    go x xs false e = rw e (omega arith)

-- from the first place that isn't used on, or from the end
pub left_from : (l : List ℕ) (used i : ℕ) → i ≡ min used (length l) → not_zero (take (length l - i) (drop i l)) ≡ left_over l used
left_from l used i e = ap not_zero (take_all (length l - i) (drop i l) (omega (arith, length-drop i l)) ∙ go (dec_lt (length l) used))
  where
    go : Dec (length l < used) → drop i l ≡ drop used l
    go (yes h) =
        let y : i ≡ length l = omega arith in
        rw y (drop-length l ∙ sym (drop_of_length-le l {i = used} (omega arith)))
    go (no h) =
        let y : i ≡ used = omega arith in
        rw y
