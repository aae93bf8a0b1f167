-- Counts in bytes, the highest byte first (document 02, 2026-01: "big-endian"). How many bytes a count has is a parameter of every definition and law.
use Rattle.std.specs.Prelude.{Bool, List, [], ◌∷◌, ◌++◌, ℕ, zero, suc, ◌+◌, ◌*◌, ◌/◌, ◌%◌, ◌^◌, ◌<◌, ltb}

-- what a byte can say
abbrev pub byte : ℕ
byte = 256

abbrev pub IsByte : ℕ → Type 0
IsByte b = b < byte

-- the count that bytes say after those that said n
unfoldable pub count_after : ℕ → List ℕ → ℕ
count_after n [] = n
count_after n (b ∷ bs) = count_after (n * byte + b) bs

abbrev pub count_in : List ℕ → ℕ
count_in bs = count_after 0 bs

-- the w bytes of a count; of a larger one they are its lowest
unfoldable pub count_bytes : ℕ → ℕ → List ℕ
count_bytes zero n = []
count_bytes (suc w) n = count_bytes w (n / byte) ++ (n % byte ∷ [])

-- w bytes can say it
abbrev pub is_count : ℕ → ℕ → Bool
is_count w n = ltb n (byte ^ w)
