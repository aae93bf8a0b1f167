-- The dimension in one scan: what was seen of `Z` and `M` so far, and what is left, decide.
-- Assumes nothing.
use mathlib.Core.Path.{◌≡◌, refl}
use mathlib.Core.Bool.{Bool, true, false, cond, ◌||◌, or_assoc, or-false}
use mathlib.Core.List.{List}
use Prim.Native.Nat.{ℕ, ◌+◌, ◌≤◌, ◌<◌}
use lib.ListN.{length, drop}
use Rattle.words.specs.Words.{starts_word}
use Rattle.kinds.specs.Kinds.{dim_xy, dim_xyz, dim_xym, dim_xyzm}
use Rattle.names.specs.Names.{endings, string_of}
use Rattle.infer_type.specs.Search.{has_word}
use Rattle.infer_type.specs.Infer.{dimension_in}
use Rattle.infer_type.proofs.Search.{has_in, has_past}

abbrev zm : List ℕ
zm = string_of endings dim_xyzm

abbrev z : List ℕ
z = string_of endings dim_xyz

abbrev m : List ℕ
m = string_of endings dim_xym

-- the dimension of what was seen and of the list
unfoldable pub dim_from : Bool → Bool → List ℕ → ℕ
dim_from saw_z saw_m l =
    cond (has_word zm l) dim_xyzm (cond (saw_z || has_word z l) dim_xyz (cond (saw_m || has_word m l) dim_xym dim_xy))

pub dim_start : (l : List ℕ) → dim_from false false l ≡ dimension_in l
unfolding dim_from dimension_in
dim_start l = refl

module _ (saw_z saw_m : Bool) (l : List ℕ) (i : ℕ) where
  -- a turn of the scan that goes on, and one that finds `ZM`
  pub dim_on : {here_z here_m : Bool} → i < length l → false ≡ starts_word (drop i l) zm → here_z ≡ starts_word (drop i l) z → here_m ≡ starts_word (drop i l) m → dim_from (saw_z || here_z) (saw_m || here_m) (drop (i + 1) l) ≡ dim_from saw_z saw_m (drop i l)
  unfolding dim_from
  dim_on h noZM isZ isM = rw (has_in zm l i h, has_in z l i h, has_in m l i h, ← noZM, ← isZ, ← isM, or_assoc saw_z, or_assoc saw_m)

  pub dim_zm : i < length l → true ≡ starts_word (drop i l) zm → dim_xyzm ≡ dim_from saw_z saw_m (drop i l)
  unfolding dim_from
  dim_zm h isZM = rw (has_in zm l i h, ← isZM)

  -- at the end what was seen decides
  module _ (h : length l ≤ i) where
    dim_end : cond saw_z dim_xyz (cond saw_m dim_xym dim_xy) ≡ dim_from saw_z saw_m (drop i l)
    unfolding dim_from
    dim_end = rw (has_past zm l i h, has_past z l i h, has_past m l i h, or-false saw_z, or-false saw_m)

    pub dim_z : saw_z ≡ true → dim_xyz ≡ dim_from saw_z saw_m (drop i l)
    dim_z e = rw (← dim_end, e)

    pub dim_m : saw_z ≡ false → saw_m ≡ true → dim_xym ≡ dim_from saw_z saw_m (drop i l)
    dim_m e f = rw (← dim_end, e, f)

    pub dim_none : saw_z ≡ false → saw_m ≡ false → dim_xy ≡ dim_from saw_z saw_m (drop i l)
    dim_none e f = rw (← dim_end, e, f)
