-- The places of a table of signed numbers, and how many of them aren't zero.
use Rattle.std.specs.Prelude.{ℕ, ◌+◌, cond, eqb, ℤ, nat_abs, take, drop}
use mathlib.Core.List.{List, [], ◌∷◌, flat_map}
use Rattle.signed_lines.specs.Signed.{spaced_signed}

-- the first n places, each after a space
unfoldable pub each_signed : List ℤ → ℕ → List (List ℕ)
each_signed t n = flat_map spaced_signed (take n t)

-- "K is how many places after the used part aren't zero"
abbrev pub one_unless_nought : ℤ → ℕ
one_unless_nought z = cond (eqb (nat_abs z) 0) 0 1

unfoldable pub not_nought : List ℤ → ℕ
not_nought [] = 0
not_nought (z ∷ t) = one_unless_nought z + not_nought t

abbrev pub signed_left : List ℤ → ℕ → ℕ
signed_left t used = not_nought (drop used t)
