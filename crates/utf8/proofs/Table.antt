-- The first byte decides the width: the first ranges of the table's rows rise and don't meet, so that a byte leads one row at most, and
-- of the ranges after the first only the second differs from 80..BF.
-- Assumes nothing.
use mathlib.Core.Path.{◌≡◌, refl, ap}
use mathlib.Core.Bool.{Bool, true, false, cond, ◌&&◌, and-eq-true_iff}
use mathlib.Core.List.{List, [], ◌∷◌}
use Prim.Native.Nat.{ℕ, suc, ◌-◌, ◌≤◌, ◌<◌}
use native.Mathlib.Omega.{arith}
use lib.Dec.{leb}
use borrow.Author.Tests.{leb-true, lt-leb}
use lib.ListN.{length}
use Rattle.utf8.specs.Utf8.{Range, holds, table, fits, first_fit, char_width}
use Rattle.utf8.specs.Leads.{row_of, second, width_of, second_of, followers, if_followed}

-- the ranges after the first, by the second and their number
abbrev others : List Range → List Range
others row = followers (second row) (length row - 1)

-- rows whose first ranges rise, from n on, and whose other ranges are such
pub data Rising : ℕ → List (List Range) → Type 0 where
  top : {n : ℕ} → Rising n []
  up : {n : ℕ} {r : Range} {rs : List Range} {t : List (List Range)} → leb n r.low ≡ true → leb r.low r.high ≡ true → rs ≡ others (r ∷ rs) → Rising (suc r.high) t → Rising n ((r ∷ rs) ∷ t)

pub table_rises : Rising 0 table
unfolding table followers
table_rises =
    up refl refl refl (up refl refl refl (up refl refl refl (up refl refl refl (up refl refl refl (up refl refl refl (up refl refl refl (up refl refl refl (up refl refl refl top))))))))

pub within : (r : Range) (b : ℕ) → holds r b ≡ true → (r.low ≤ b) × (b ≤ r.high)
within r b e =
    let both = (and-eq-true_iff (leb r.low b) (leb b r.high)).0 e in
    (leb-true _ _ both.0, leb-true _ _ both.1)

module _ (b : ℕ) (l : List ℕ) where
  too_low : {n : ℕ} {t : List (List Range)} → Rising n t → b < n → first_fit t (b ∷ l) ≡ 0
  unfolding first_fit fits
  too_low top h = refl
  too_low (up {r} p q s u) h = rw (lt-leb r.low b (omega (arith, leb-true))) (too_low u (omega (arith, leb-true)))

  -- what is answered of rows t if only `row` can fit
  Alone : List (List Range) → List Range → Type 0
  Alone t row = first_fit t (b ∷ l) ≡ if_followed (length row) (second row) (length row - 1) l

  row_alone : {n : ℕ} {t : List (List Range)} → Rising n t → Alone t (row_of t b)
  unfolding Alone first_fit fits row_of followers if_followed
  row_alone top = refl
  row_alone (up {r} {rs} {t} p q s u) = go (holds r b) refl (row_alone u)
    where
      go : (x : Bool) → holds r b ≡ x → Alone t (row_of t b) → cond (x && fits rs l) (suc (length rs)) (first_fit t (b ∷ l)) ≡ if_followed (length (cond x (r ∷ rs) (row_of t b))) (second (cond x (r ∷ rs) (row_of t b))) (length (cond x (r ∷ rs) (row_of t b)) - 1) l
      go true e ih = rw (too_low u (omega (arith, (within r b e).1))) (ap (λ (x : List Range). cond (fits x l) (suc (length rs)) 0) s)
      go false e ih = ih

  pub width_first : char_width (b ∷ l) ≡ if_followed (width_of b) (second_of b) (width_of b - 1) l
  unfolding char_width width_of second_of Alone
  width_first = row_alone table_rises
