-- Which pieces they are, a test at a time.
-- Assumes nothing.
use mathlib.Core.Path.{◌≡◌, refl, sym}
use mathlib.Core.Bool.{Bool, true, false, not, cond, ◌||◌}
use mathlib.Core.List.{List, [], ◌∷◌}
use Prim.Native.Nat.{ℕ, ◌<◌}
use native.Mathlib.Omega.{arith}
use lib.Dec.{eqb}
use lib.ListN.{length, get_or}
use Rattle.std.specs.Prelude.{None}
use Rattle.std.specs.List.{slice_get}
use Rattle.std.specs.Char.{is_ascii_alphabetic}
use Rattle.lists.proofs.Ranges.{all_from, all_from_law}
use Rattle.scan.specs.Bytes.{plus}
use Rattle.scan.specs.Front.{begins}
use Rattle.names.specs.Letters.{is_letter}
use Rattle.canonical_text.specs.Canonical.{needs_plus}
use Rattle.pieces.specs.Pieces.{number_pieces}

-- ---- numbers
-- std's letters are the text's, of all bytes
letters : (b : ℕ) → b < 256 → is_ascii_alphabetic b ≡ is_letter b
unfolding all_from
letters b h = same (is_ascii_alphabetic b) (is_letter b) (all_from_law (λ (k : ℕ). cond (is_ascii_alphabetic k) (is_letter k) (not (is_letter k))) 0 256 b refl (omega arith) (omega arith))
  where
    same : (x y : Bool) → cond x y (not y) ≡ true → x ≡ y
    same true y e = sym e
    same false true e = e
    same false false e = refl

-- by the first byte, and where there is none
pub plus_first : (w : List ℕ) (b : ℕ) → 0 < length w → b ≡ get_or w 0 0 → b < 256 → (eqb b 43 || is_ascii_alphabetic b) ≡ begins needs_plus w
unfolding begins
plus_first [] b n e h = absurd (omega arith)
plus_first (a ∷ w) b n e h = rw (letters b h, e)

pub plus_none : (w : List ℕ) → None ≡ slice_get w 0 → false ≡ begins needs_plus w
unfolding begins
plus_none [] e = refl
plus_none (b ∷ w) e = cc

module _ (lead : ℕ) {w text : List ℕ} (is : w ≡ text) {b : Bool} (t : b ≡ begins needs_plus w) where
  pub number_plus : b ≡ true → number_pieces lead text ≡ (lead ∷ []) ∷ (plus ∷ w) ∷ []
  unfolding number_pieces
  number_plus e = rw (← is, ← t, e)

  pub number_bare : b ≡ false → number_pieces lead text ≡ (lead ∷ w) ∷ []
  unfolding number_pieces
  number_bare e = rw (← is, ← t, e)
