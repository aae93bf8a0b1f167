-- Two answers that a public function's contract allows for one input are one answer, and so are two buffers that are left.
-- Assumes nothing.
use Prim.Native.Nat.{ℕ}
use mathlib.Core.Path.{◌≡◌}
use mathlib.Core.List.{List}
use lib.IntN.{ℤ, pos, nat_abs}
use lib.ListN.{get_or}
use Rattle.lists.specs.One.{One}
use Rattle.lists.proofs.One.{one}
use Rattle.printing.specs.Printing.{Buffer, put_all_in}
use Rattle.signed_lines.specs.Signed.{signed, spaced_signed, units, spaced_units}
use Rattle.signed_lines.specs.Places.{each_signed, signed_left}

pub size_of_one : (z : ℤ) → One (λ r. r ≡ nat_abs z)
size_of_one z = one

pub number_at_one : (t : List ℤ) (at : ℕ) → One (λ r. r ≡ get_or t at (pos 0))
number_at_one t at = one

pub signed_left_one : (t : List ℤ) (from : ℕ) → One (λ r. r ≡ signed_left t from)
signed_left_one t from = one

-- the bytes and the count together
module _ (b : Buffer) (z : ℤ) where
  pub put_signed_one : One (λ left. left ≡ put_all_in (signed z) b)
  put_signed_one = one

  pub put_spaced_signed_one : One (λ left. left ≡ put_all_in (spaced_signed z) b)
  put_spaced_signed_one = one

  pub put_units_one : One (λ left. left ≡ put_all_in (units z) b)
  put_units_one = one

  pub put_spaced_units_one : One (λ left. left ≡ put_all_in (spaced_units z) b)
  put_spaced_units_one = one

pub put_signed_places_one : (b : Buffer) (t : List ℤ) (used : ℕ) → One (λ left. left ≡ put_all_in (each_signed t used) b)
put_signed_places_one b t used = one
