-- Worked examples of this crate's definitions, by computation.
use Rattle.std.specs.Prelude.{◌≡◌, refl, true, false, not, List, [], ◌∷◌, map, ℕ, eqb}
use Rattle.lists.specs.Lists.{passing, bytes_that}
use Rattle.words.specs.Words.{upper, same_byte, same_word, starts_word}

-- of all bytes below 256 `a` to `z` alone are raised, to `A` to `Z`
lowers : List ℕ
unfolding passing
lowers = bytes_that (λ b. not (eqb (upper b) b))

range : (lowers ≡ 97 ∷ 98 ∷ 99 ∷ 100 ∷ 101 ∷ 102 ∷ 103 ∷ 104 ∷ 105 ∷ 106 ∷ 107 ∷ 108 ∷ 109 ∷ 110 ∷ 111 ∷ 112 ∷ 113 ∷ 114 ∷ 115 ∷ 116 ∷ 117 ∷ 118 ∷ 119 ∷ 120 ∷ 121 ∷ 122 ∷ [])
    × (map upper lowers ≡ 65 ∷ 66 ∷ 67 ∷ 68 ∷ 69 ∷ 70 ∷ 71 ∷ 72 ∷ 73 ∷ 74 ∷ 75 ∷ 76 ∷ 77 ∷ 78 ∷ 79 ∷ 80 ∷ 81 ∷ 82 ∷ 83 ∷ 84 ∷ 85 ∷ 86 ∷ 87 ∷ 88 ∷ 89 ∷ 90 ∷ [])
unfolding lowers passing
range = (refl, refl)

-- a letter is the same as two bytes, `@`, `[`, the backquote, `{` and `ſ`'s first byte each as itself alone
pairs : (bytes_that (same_byte 97) ≡ 65 ∷ 97 ∷ []) × (bytes_that (same_byte 90) ≡ 90 ∷ 122 ∷ []) × (bytes_that (same_byte 64) ≡ 64 ∷ []) × (bytes_that (same_byte 91) ≡ 91 ∷ []) × (bytes_that (same_byte 96) ≡ 96 ∷ []) × (bytes_that (same_byte 123) ≡ 123 ∷ []) × (bytes_that (same_byte 0xC5) ≡ 0xC5 ∷ [])
unfolding passing
pairs = (refl, refl, refl, refl, refl, refl, refl)

-- `a` and `z` are raised, `{` after them, the backquote before them and `é`'s first byte are not
raised : (upper 97 ≡ 65) × (upper 122 ≡ 90) × (upper 123 ≡ 123) × (upper 96 ≡ 96) × (upper 0xC3 ≡ 0xC3)
raised = (refl, refl, refl, refl, refl)

-- `InF`
in_f : List ℕ
in_f = 73 ∷ 110 ∷ 70 ∷ []

-- `inf`
inf : List ℕ
inf = 105 ∷ 110 ∷ 102 ∷ []

-- `infin`
infin : List ℕ
infin = 105 ∷ 110 ∷ 102 ∷ 105 ∷ 110 ∷ []

same : (same_word in_f inf ≡ true) × (same_word infin inf ≡ false) × (same_word inf infin ≡ false) × (same_word [] [] ≡ true)
unfolding in_f inf infin same_word
same = (refl, refl, refl, refl)

starts : (starts_word infin in_f ≡ true) × (starts_word in_f infin ≡ false) × (starts_word in_f [] ≡ true)
unfolding in_f inf infin starts_word
starts = (refl, refl, refl)

-- `@` and the backquote stand as far apart as `A` and `a`, and differ
marks : same_word (64 ∷ []) (96 ∷ []) ≡ false
unfolding same_word
marks = refl
