-- Tests of each entry of a list, and statements about each.
use Rattle.std.specs.Prelude.{ℕ, zero, suc, Bool, true, cond, ◌&&◌, List, [], ◌∷◌, ◌++◌}

-- every entry passes
unfoldable pub every : {A : Type 0} → (A → Bool) → List A → Bool
every p [] = true
every p (a ∷ l) = p a && every p l

-- every entry passes with each one after it
unfoldable pub pairwise : {A : Type 0} → (A → A → Bool) → List A → Bool
pairwise p [] = true
pairwise p (a ∷ l) = every (p a) l && pairwise p l

-- each entry is as Q says
unfoldable pub All : {A : Type 0} → (A → Type 0) → List A → Type 0
All Q [] = Unit {0}
All Q (x ∷ xs) = Q x × All Q xs

-- the numbers below n that pass, in order: of a test of bytes, those below 256 are all of them
unfoldable pub passing : ℕ → (ℕ → Bool) → List ℕ
passing zero p = []
passing (suc n) p = passing n p ++ cond (p n) (n ∷ []) []

abbrev pub bytes_that : (ℕ → Bool) → List ℕ
bytes_that p = passing 256 p
