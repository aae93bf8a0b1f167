-- What bytes weigh, so that texts of digits and at most one point are those that weigh at most 1.
use Rattle.std.specs.Prelude.{cond, List, [], ◌∷◌, ◌++◌, ℕ, ◌+◌, replicate}
use Rattle.scan.specs.Bytes.{is_digit, is_point, is_sign}

abbrev pub weight : ℕ → ℕ
weight b = cond (is_digit b) 0 (cond (is_point b) 1 2)

unfoldable pub weigh : List ℕ → ℕ
weigh [] = 0
weigh (b ∷ l) = weight b + weigh l

abbrev pub sign_width : ℕ → ℕ
sign_width b = cond (is_sign b) 1 0

-- the most that each of sixteen bytes weighs, and then nothing
abbrev pub twos_then_none : List ℕ
twos_then_none = replicate 16 2 ++ replicate 16 0
