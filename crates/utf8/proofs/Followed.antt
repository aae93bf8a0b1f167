-- The bytes of a character after its first, one at a time: a byte that is in its range, one that isn't, and no more to come.
-- Assumes nothing.
use mathlib.Core.Path.{◌≡◌, refl, sym, ◌∙◌}
use mathlib.Core.Bool.{Bool, true, false, false≢true}
use mathlib.Core.List.{List, [], ◌∷◌}
use Prim.Native.Nat.{ℕ, suc, ◌+◌, ◌-◌, ◌<◌}
use native.Mathlib.Omega.{arith}
use lib.Dec.{leb}
use borrow.Author.Tests.{leb-true, leb-false}
use lib.ListN.{length, get_or}
use Rattle.scan.specs.Front.{rest, begins}
use Rattle.scan.proofs.Front.{rest_in, begins_at, begins_past}
use Rattle.utf8.specs.Utf8.{Range, ◌‥◌, holds, fits, char_width}
use Rattle.utf8.specs.Leads.{tail, width_of, second_of, followers, if_followed}
use Rattle.utf8.proofs.Table.{width_first}

-- where a byte that passes a test stands, the list goes on
pub begins_in : (p : ℕ → Bool) (l : List ℕ) (i : ℕ) → begins p (rest l i) ≡ true → i < length l
begins_in p l i e = go (leb (length l) i) refl
  where
    go : (t : Bool) → leb (length l) i ≡ t → i < length l
    go true h = absurd (false≢true (begins_past p l i (leb-true _ _ h) ∙ e))
    go false h = leb-false _ _ h

fits_not : (r : Range) (rs : List Range) (l : List ℕ) → begins (holds r) l ≡ false → fits (r ∷ rs) l ≡ false
unfolding fits begins
fits_not r rs [] e = refl
fits_not r rs (b ∷ l) e = rw e

module _ (w : ℕ) (r : Range) (n : ℕ) (l : List ℕ) (i : ℕ) where
  pub more : (m j : ℕ) → n ≡ suc m → j ≡ i + 1 → begins (holds r) (rest l i) ≡ true → if_followed w tail m (rest l j) ≡ if_followed w r n (rest l i)
  unfolding if_followed followers fits
  more m j en ej e =
      let k = begins_in (holds r) l i e in
      rw (en, ej, rest_in l i k, begins_at (holds r) l i k ∙ e)

  pub lacks : 0 < n → begins (holds r) (rest l i) ≡ false → 0 ≡ if_followed w r n (rest l i)
  unfolding if_followed followers
  lacks h e =
      let s : n ≡ suc (n - 1) = omega arith in
      rw (s, fits_not r (followers tail (n - 1)) (rest l i) e)

  pub done : n ≡ 0 → w ≡ if_followed w r n (rest l i)
  unfolding if_followed followers fits
  done en = rw en

-- the width, by what the first byte tells
pub width_rest : (l : List ℕ) (i w low high : ℕ) → i < length l → w ≡ width_of (get_or l i 0) → low ≡ (second_of (get_or l i 0)).low → high ≡ (second_of (get_or l i 0)).high → if_followed w (low ‥ high) (w - 1) (rest l (i + 1)) ≡ char_width (rest l i)
width_rest l i w low high h ew el eh = rw (ew, el, eh, rest_in l i h) (sym (width_first (get_or l i 0) (rest l (i + 1))))
