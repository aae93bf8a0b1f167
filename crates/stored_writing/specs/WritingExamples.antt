-- Worked examples of what the writer measures, by computation.
use Rattle.std.specs.Prelude.{◌≡◌, refl, [], ◌∷◌, ℕ}
use Rattle.lists.specs.Lists.{every}
use Rattle.stored_form.specs.declared.Version.{Version}
use Rattle.stored_writing.specs.Writing.{fields_length, numbers_measure, measure_of}

-- a version with counts of one byte up to `largest`, and so many bytes in all
abbrev small : ℕ → ℕ → Version
small largest limit = record { number = 9; width = 1; largest = largest; limit = limit }

all : ℕ
unfolding every fields_length numbers_measure measure_of
all = 0

-- what the writer measures: the length, or more than the limit
measures : (measure_of (small 2 20) 1 (1 ∷ 1 ∷ []) ≡ 20) × (measure_of (small 2 19) 1 (1 ∷ 1 ∷ []) ≡ 20) × (measure_of (small 1 20) 1 (1 ∷ 1 ∷ []) ≡ 21) × (measure_of (small 0 20) 1 [] ≡ 21) × (numbers_measure 70000 (65535 ∷ []) ≡ 65538) × (numbers_measure 70000 (65536 ∷ []) ≡ 70001) × (numbers_measure 7 (1 ∷ 1 ∷ []) ≡ 8)
unfolding all
measures = (refl, refl, refl, refl, refl, refl, refl)
