-- Worked examples of this crate's definitions, by computation.
use Rattle.std.specs.Prelude.{ℕ, ◌≡◌, refl, List, [], ◌∷◌, ◌++◌}
use Rattle.scan.specs.Text.{bytes}
use Rattle.token.specs.declared.Token.TheVariants.{Comma, Number, ParenClose, ParenOpen, Word}
use Rattle.token.specs.declared.Found.{Found}
use Rattle.token.specs.declared.Found.TheVariants as found
use Rattle.printing.specs.Printing.{places_from, decimal}
use Rattle.shown_tokens.specs.Shown.{shown_found}

-- all pieces together
joined : List (List ℕ) → List ℕ
joined [] = []
joined (piece ∷ pieces) = piece ++ joined pieces

shown : Found → List ℕ
shown f = joined (shown_found f)

all : ℕ
unfolding joined shown places_from decimal
all = 0

-- what isn't a token, and each mark, by its place
placed : (shown (found.NoToken 0) ≡ bytes "none@0") × (shown (found.BadNumber 12) ≡ bytes "bad@12") × (shown (found.Is 3 Comma) ≡ bytes ",@3") × (shown (found.Is 3 ParenClose) ≡ bytes ")@3") × (shown (found.Is 3 ParenOpen) ≡ bytes "(@3")
unfolding all
placed = (refl, refl, refl, refl, refl)

-- `+12` at 5, whose text starts behind its plus; `POINT` at the front
spanned : (shown (found.Is 5 (Number 6 2)) ≡ bytes "number@5:6+2") × (shown (found.Is 0 (Word 0 5)) ≡ bytes "word@0:0+5")
unfolding all
spanned = (refl, refl)
