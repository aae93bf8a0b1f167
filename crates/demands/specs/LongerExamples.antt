-- Worked examples of reading under a limit, by computation: one byte over it, and just not; 1 before 2.
use Rattle.std.specs.Prelude.{◌≡◌, refl, [], ◌∷◌, ℕ}
use Rattle.scan.specs.Text.{bytes}
use Rattle.limits.specs.Limits.{text_limit}
use Rattle.utf8.specs.Utf8.{table, fits, first_fit, char_width, walk, first_ill}
use Rattle.grammar.specs.Edges.{all}
use Rattle.grammar.specs.Grammar.{refused, refusal}
use Rattle.infer_type.specs.Infer as infer
use Rattle.demands.specs.LongerTexts.{former_limit, reading_within, infer_within}

-- "from 65,535 to 4,194,304 bytes"
limits : (◌≡◌ {A = ℕ} former_limit 65535) × (◌≡◌ {A = ℕ} text_limit 4194304)
limits = (refl, refl)

read : (reading_within 2 9 9 (bytes "   ") ≡ refused (refusal 1 2)) × (reading_within 3 9 9 (bytes "   ") ≡ refused (refusal 8 3)) × (reading_within 2 9 9 (0xFF ∷ 32 ∷ 32 ∷ []) ≡ refused (refusal 1 2)) × (reading_within 3 9 9 (0xFF ∷ 32 ∷ 32 ∷ []) ≡ refused (refusal 2 0))
unfolding all reading_within
read = (refl, refl, refl, refl)

inferred : (infer_within 2 (bytes "   ") ≡ infer.refused 1 2) × (infer_within 2 (0xFF ∷ 32 ∷ 32 ∷ []) ≡ infer.refused 1 2) × (infer_within 3 (0xFF ∷ 32 ∷ 32 ∷ []) ≡ infer.refused 2 0)
unfolding table fits first_fit char_width walk first_ill infer_within
inferred = (refl, refl, refl)
