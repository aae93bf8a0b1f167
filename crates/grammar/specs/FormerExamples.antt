-- The reading as it was (`Former`), computed: 6 where a bad number that is taken starts, "a `+` counts as its start", and 10 where it is only looked at; and what
-- is no bad number, or has `)` missing behind it, as it is today.
use Rattle.std.specs.Prelude.{◌≡◌, refl, List, [], ◌∷◌, ℕ}
use Rattle.scan.specs.Text.{bytes}
use Rattle.lists.specs.Lists.{All}
use Rattle.store.specs.Rows.{span}
use Rattle.grammar.specs.Grammar.{Got, refused, refusal}
use Rattle.grammar.specs.Edges.{nodes, one_point, all}
use Rattle.grammar.specs.Former.{str_with, former_reading}

-- a text, and what it came to with 40 node rows and 9 number rows
data Was : Type 0 where
  was : List ℕ → Got → Was

abbrev Held : Was → Type 0
Held (was text g) = former_reading 40 9 text ≡ g

texts : List Was
texts =
    was (bytes "+") (refused (refusal 6 0))
    ∷ was (bytes "POINT(4x)") (refused (refusal 6 6))
    ∷ was (bytes "POINT(+)") (refused (refusal 6 6))
    ∷ was (bytes "POINT(1 2 3x)") (refused (refusal 6 10))
    ∷ was (bytes "GEOMETRYCOLLECTION(POINT +x)") (refused (refusal 6 25))
    ∷ was (bytes "POINT 4x") (refused (refusal 10 6))
    ∷ was (bytes "POINT(4x 1)") (refused (refusal 13 9))
    ∷ was (bytes "POINT(x)") (refused (refusal 14 6))
    ∷ was (bytes "POINT(1 2)4x") (nodes one_point (span 6 1 (bytes "1") ∷ span 8 1 (bytes "2") ∷ []))
    ∷ was (0xFF ∷ []) (refused (refusal 2 0))
    ∷ []

every_text : All Held texts
unfolding all texts str_with former_reading
every_text = (refl, (refl, (refl, (refl, (refl, (refl, (refl, (refl, (refl, (refl, tt))))))))))
