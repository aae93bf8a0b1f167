-- What a demand for a token found, as programs print it: `none@P`, `bad@P`, `(@P`, `number@P:S+L`.
use Rattle.std.specs.Prelude.{ℕ, List, [], ◌∷◌, ◌++◌}
use Rattle.scan.specs.Text.{bytes}
use Rattle.token.specs.declared.Token.{Token}
use Rattle.token.specs.declared.Token.TheVariants.{Comma, Number, ParenClose, ParenOpen, Word}
use Rattle.token.specs.declared.Found.{Found}
use Rattle.token.specs.declared.Found.TheVariants as found
use Rattle.printing.specs.Printing.{decimal}

-- a name, and a number behind it
abbrev pub placed : List ℕ → ℕ → List (List ℕ)
placed name place = name ∷ decimal place ∷ []

-- the place, then the start and the length of a number's text or of a word
abbrev pub spanned : List ℕ → ℕ → ℕ → ℕ → List (List ℕ)
spanned name place start len = placed name place ++ (placed (bytes ":") start ++ placed (bytes "+") len)

abbrev pub shown_token : ℕ → Token → List (List ℕ)
shown_token place Comma = placed (bytes ",@") place
shown_token place (Number start len) = spanned (bytes "number@") place start len
shown_token place ParenClose = placed (bytes ")@") place
shown_token place ParenOpen = placed (bytes "(@") place
shown_token place (Word start len) = spanned (bytes "word@") place start len

abbrev pub shown_found : Found → List (List ℕ)
shown_found (found.NoToken place) = placed (bytes "none@") place
shown_found (found.BadNumber place) = placed (bytes "bad@") place
shown_found (found.Is place token) = shown_token place token
