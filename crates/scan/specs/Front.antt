-- Reading at the front of a list of bytes.
use Rattle.std.specs.Prelude.{ℕ, ◌-◌, Bool, true, false, cond, List, [], ◌∷◌, drop, take}

-- what stands in the text from the place i on
unfoldable pub rest : List ℕ → ℕ → List ℕ
rest text i = drop i text

-- the bytes of the text from `start` up to `end`
abbrev pub part : List ℕ → ℕ → ℕ → List ℕ
part text start end = take (end - start) (drop start text)

-- does the first byte pass the test
unfoldable pub begins : (ℕ → Bool) → List ℕ → Bool
begins p [] = false
begins p (b ∷ l) = p b

-- the list without its first byte, if that passes the test
unfoldable pub after_one : (ℕ → Bool) → List ℕ → List ℕ
after_one p [] = []
after_one p (b ∷ l) = cond (p b) l (b ∷ l)

-- the list without the bytes at its front that pass the test
unfoldable pub after_all : (ℕ → Bool) → List ℕ → List ℕ
after_all p [] = []
after_all p (b ∷ l) = cond (p b) (after_all p l) (b ∷ l)

unfoldable pub is_nil : List ℕ → Bool
is_nil [] = true
is_nil (b ∷ l) = false
