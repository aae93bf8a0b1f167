-- Laws of a record's parts: what stands behind a place, the text, and what is told of both slices.
-- Assumes nothing.
use mathlib.Core.Path.{◌≡◌, refl, sym, ◌∙◌}
use mathlib.Core.Bool.{Bool, true, false, ◌&&◌}
use mathlib.Core.List.{List}
use Rattle.std.proofs.Common.{Some, None}
use Prim.Native.Nat.{ℕ, suc, ◌+◌, ◌-◌, ◌*◌, ◌≤◌, ◌<◌, min}
use native.Mathlib.Omega.{arith}
use native.Mathlib.Decide.{dec_lt}
use native.Mathlib.Numerals.{add-one}
use lib.Dec.{leb}
use lib.ListN.{length, take, drop, set, length-append, length-drop, drop_of_length-le}
use lib.Seq.{take_all, drop-length, drop-cons, set_at, append_snoc}
use borrow.Author.Tests.{leb-true, le-leb, lt-leb}
use Rattle.lists.proofs.Cases.{and_both}
use Rattle.store.specs.Rows.{firsts}
use Rattle.store.proofs.Cells.{firsts_length}
use Rattle.console.specs.Console.{u32_at}
use Rattle.records.specs.Records.{max_text, max_slice, has_text_at, node_places, number_places, slices, slices_at, Within, text_after_rows, numbers_in, filled}

-- what stands from a place on
pub tail_is : (l : List ℕ) (at from : ℕ) → from ≡ min at (length l) → take (length l - from) (drop from l) ≡ drop at l
tail_is l at from e = take_all (length l - from) (drop from l) (omega (arith, length-drop from l)) ∙ go (dec_lt (length l) at)
  where
    go : Dec (length l < at) → drop from l ≡ drop at l
    go (yes h) =
        let x : from ≡ length l = omega arith in
        rw x (drop-length l ∙ sym (drop_of_length-le l {i = at} (omega arith)))
    go (no h) =
        let x : from ≡ at = omega arith in
        rw x

module _ (l : List ℕ) (at : ℕ) where
  pub text_cut : length l < at → false ≡ has_text_at l at
  unfolding has_text_at
  text_cut h = rw (lt-leb at (length l) h)

  pub text_whole : at ≤ length l → leb (length l - at) max_text ≡ has_text_at l at
  unfolding has_text_at
  text_whole h = rw (le-leb at (length l) h)

  text_within : has_text_at l at ≡ true → at ≤ length l
  unfolding has_text_at
  text_within h = leb-true at (length l) (and_both _ _ h).0

-- what is told of both slices, from the numbers that were read
module _ (l : List ℕ) (text : ℕ) {nodes numbers : ℕ} {t : Bool} (a : nodes ≡ node_places l) (b : numbers ≡ number_places l) (e : t ≡ has_text_at l text) where
  pub told_fits : ((leb nodes max_slice && leb numbers max_slice) && t) ≡ true → Some (slices nodes numbers text) ≡ slices_at l text
  unfolding slices_at
  told_fits h =
      let x = rw (a, b, e) at h in
      rw (x, a, b)

  pub told_lacks : ((leb nodes max_slice && leb numbers max_slice) && t) ≡ false → None ≡ slices_at l text
  unfolding slices_at
  told_lacks h =
      let x = rw (a, b, e) at h in
      rw x

  pub told_within : ((leb nodes max_slice && leb numbers max_slice) && t) ≡ true → Within (slices nodes numbers text) (length l)
  told_within h =
      let both = and_both _ _ h in
      let fit = and_both _ _ both.0 in
      record {
        nodes = leb-true _ _ fit.0;
        numbers = leb-true _ _ fit.1;
        text = text_within l text (sym e ∙ both.1);
      }

pub after_rows : (l : List ℕ) {nodes numbers : ℕ} → nodes ≡ node_places l → numbers ≡ number_places l → 8 + (nodes + numbers) * 4 ≡ text_after_rows l
unfolding text_after_rows
after_rows l a b = rw (a, b)

-- places are filled one after the other
module _ (l s : List ℕ) where
  pub filled_none : s ≡ filled l 0 s
  unfolding filled numbers_in firsts
  filled_none = refl

  pub filled_length : (i : ℕ) → i ≤ length s → length (filled l i s) ≡ length s
  unfolding filled numbers_in
  filled_length i h = simp (length-append, firsts_length, length-drop) (omega arith)

  pub filled_on : (i : ℕ) → i < length s → set (filled l i s) i (u32_at l (i * 4)) ≡ filled l (i + 1) s
  unfolding filled numbers_in firsts
  filled_on i h =
      rw (drop-cons s i 0 h, set_at (numbers_in l i) _ _ _ i (firsts_length _ i), add-one i) (sym (append_snoc (numbers_in l i) (u32_at l (i * 4)) (drop (suc i) s)))

  pub filled_all : (i n : ℕ) {t : List ℕ} → i ≤ n → n ≤ i → t ≡ filled l i s → t ≡ filled l n s
  filled_all i n a b e =
      let x : i ≡ n = omega arith in
      rw x at e
