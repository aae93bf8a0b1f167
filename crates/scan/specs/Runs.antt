-- Runs of bytes that pass a test: one definition for every scan.
use Rattle.std.specs.Prelude.{ℕ, suc, ◌+◌, min, ◌<◌, ◌≡◌, Bool, true, cond, List, [], ◌∷◌, length, drop, get_or}

-- how many bytes at the front of the list pass the test
unfoldable pub run : (ℕ → Bool) → List ℕ → ℕ
run p [] = 0
run p (b ∷ l) = cond (p b) (suc (run p l)) 0

-- the place of the first byte from `from` on that fails the test, or the end; past the end is the end
unfoldable pub first_not : (ℕ → Bool) → List ℕ → ℕ → ℕ
first_not p text from = min from (length text) + run p (drop from text)

-- the place past the byte at i, if that passes the test, else i; no test here is passed by NUL, which stands for "past the end"
unfoldable pub after_one_at : (ℕ → Bool) → List ℕ → ℕ → ℕ
after_one_at p text i = cond (p (get_or text i 0)) (i + 1) i

-- a test in the code, known by what its calls answer, answers p of each byte
abbrev pub Tells : (ℕ → Bool → Type 0) → (ℕ → Bool) → Type 0
Tells answers p = (b : ℕ) (r : Bool) → b < 256 → answers b r → r ≡ p b

-- any number of bytes, each of which passes the test
pub data Many (p : ℕ → Bool) : List ℕ → Type 0 where
  none : Many p []
  more : {b : ℕ} {l : List ℕ} → p b ≡ true → Many p l → Many p (b ∷ l)
