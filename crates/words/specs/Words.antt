-- Words "compared without regard to ASCII case" (document 01, "Reading").
use Rattle.std.specs.Prelude.{ℕ, ◌-◌, Bool, true, false, cond, ◌&&◌, List, [], ◌∷◌, eqb, leb}

-- `a` to `z`
abbrev pub is_lower : ℕ → Bool
is_lower b = leb 97 b && leb b 122

-- a lower-case ASCII letter as upper case, any other byte as it is
abbrev pub upper : ℕ → ℕ
upper b = cond (is_lower b) (b - 32) b

-- the same byte but for the case of an ASCII letter
abbrev pub same_byte : ℕ → ℕ → Bool
same_byte a b = eqb (upper a) (upper b)

-- the same bytes but for the case of ASCII letters
unfoldable pub same_word : List ℕ → List ℕ → Bool
same_word [] [] = true
same_word [] (b ∷ m) = false
same_word (a ∷ l) [] = false
same_word (a ∷ l) (b ∷ m) = same_byte a b && same_word l m

-- does the first word begin with the second, but for the case of ASCII letters
unfoldable pub starts_word : List ℕ → List ℕ → Bool
starts_word l [] = true
starts_word [] (b ∷ m) = false
starts_word (a ∷ l) (b ∷ m) = same_byte a b && starts_word l m
