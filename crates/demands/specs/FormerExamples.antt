-- The premises of request 2026-02's theorems are met, by computation: calls of `read` before it, of which two were refused 6, one 13, and one was
-- accepted; and the same calls now.
use Rattle.std.specs.Prelude.{refl, ℕ, replicate}
use mathlib.Core.List.{[], ◌∷◌, flat_map}
use Rattle.scan.specs.Text.{bytes}
use Rattle.store.specs.Rows.{flat_rows, flat_spans}
use Rattle.store.specs.declared.ReadAnswer.{ReadAnswer}
use Rattle.grammar.specs.Edges as edges
use Rattle.grammar.specs.Former.{str_with, former_reading}
use Rattle.demands.specs.Calls.{Read}
use Rattle.demands.specs.Former.{FormerRead}

-- no rows, and the row and the numbers of `POINT(1 2)`
refused_with : ℕ → ℕ → ReadAnswer
refused_with e p = record { number = e; place = p; nodes = 0; numbers = 0 }

point : ReadAnswer
point = record { number = 0; place = 0; nodes = 1; numbers = 2 }

all : ℕ
unfolding edges.all str_with former_reading flat_rows flat_spans flat_map refused_with point
all = 0

-- a bad number: 6 where it starts, and zeros; now 28 at the plus, with as many zeros
bad_number_law : FormerRead (bytes "POINT(+)") (replicate 4 7) (replicate 5 7) (refused_with 6 6) (replicate 4 0) (replicate 5 0)
    × Read (bytes "POINT(+)") (replicate 4 7) (replicate 5 7) (refused_with 28 6) (replicate 4 0) (replicate 5 0)
unfolding all
bad_number_law = (record { answer = refl; nodes = refl; numbers = refl }, record { answer = refl; nodes = refl; numbers = refl })

-- and 29 at the byte to look at
gone_wrong_law : FormerRead (bytes "POINT(1 -infx)") (replicate 4 7) (replicate 5 7) (refused_with 6 8) (replicate 4 0) (replicate 5 0)
    × Read (bytes "POINT(1 -infx)") (replicate 4 7) (replicate 5 7) (refused_with 29 12) (replicate 4 0) (replicate 5 0)
unfolding all
gone_wrong_law = (record { answer = refl; nodes = refl; numbers = refl }, record { answer = refl; nodes = refl; numbers = refl })

-- "anything but `)` gives 13", behind a bad number too
not_closed_law : FormerRead (bytes "POINT(4x 1)") (replicate 4 7) (replicate 5 7) (refused_with 13 9) (replicate 4 0) (replicate 5 0)
    × Read (bytes "POINT(4x 1)") (replicate 4 7) (replicate 5 7) (refused_with 13 9) (replicate 4 0) (replicate 5 0)
unfolding all
not_closed_law = (record { answer = refl; nodes = refl; numbers = refl }, record { answer = refl; nodes = refl; numbers = refl })

-- read with a place to spare in both slices, then and now
accepted : FormerRead (bytes "POINT(1 2)") (replicate 4 7) (replicate 5 7) point (1 ∷ 0 ∷ 1 ∷ 0 ∷ []) (6 ∷ 1 ∷ 8 ∷ 1 ∷ 0 ∷ [])
    × Read (bytes "POINT(1 2)") (replicate 4 7) (replicate 5 7) point (1 ∷ 0 ∷ 1 ∷ 0 ∷ []) (6 ∷ 1 ∷ 8 ∷ 1 ∷ 0 ∷ [])
unfolding all
accepted = (record { answer = refl; nodes = refl; numbers = refl }, record { answer = refl; nodes = refl; numbers = refl })
