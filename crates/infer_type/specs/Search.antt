-- Where a word stands in a list of bytes, but for the case of ASCII letters.
use Rattle.std.specs.Prelude.{ℕ, suc, ◌+◌, Bool, false, cond, ◌||◌, List, [], ◌∷◌, length, take, drop}
use Rattle.words.specs.Words.{starts_word}

-- does the word stand anywhere in the list; no word here is empty
unfoldable pub has_word : List ℕ → List ℕ → Bool
has_word w [] = false
has_word w (b ∷ l) = starts_word (b ∷ l) w || has_word w l

-- the place where it first stands, or the list's length
unfoldable pub first_word : List ℕ → List ℕ → ℕ
first_word w [] = 0
first_word w (b ∷ l) = cond (starts_word (b ∷ l) w) 0 (suc (first_word w l))

-- what stands before and after the place where it first stands
abbrev pub before_word : List ℕ → List ℕ → List ℕ
before_word w l = take (first_word w l) l

abbrev pub after_word : List ℕ → List ℕ → List ℕ
after_word w l = drop (first_word w l + length w) l
