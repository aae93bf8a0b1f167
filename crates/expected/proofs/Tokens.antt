-- The place alone finds the number again: a token begins at the text's start or behind a stop, and up to the place stand inner bytes.
-- Assumes nothing.
use mathlib.Core.Path.{◌≡◌, refl, sym}
use mathlib.Core.Bool.{true}
use mathlib.Core.List.{List}
use mathlib.Core.Logic.{◌⊎◌, ⊎_elim}
use Prim.Native.Nat.{ℕ, zero, suc, ◌+◌, ◌-◌, ◌<◌}
use native.Mathlib.Omega.{arith}
use lib.ListN.{get_or}
use Rattle.scan.specs.Bytes.{is_stop, is_inner, is_plus}
use Rattle.scan.specs.Front.{part}
use Rattle.scan.specs.Runs.{after_one_at}
use Rattle.expected.specs.Expected.{expected_after, run_start, expected_at}
use Rattle.expected.proofs.Laws.{start_stop}

-- a token can begin at p
abbrev pub Begins : List ℕ → ℕ → Type 0
Begins text p = (p ≡ 0) ⊎ (is_stop (get_or text (p - 1) 0) ≡ true)

-- the n bytes from p on are inner ones
abbrev pub Inner : List ℕ → ℕ → ℕ → Type 0
Inner text p n = (i : ℕ) → i < n → is_inner (get_or text (p + i) 0) ≡ true

module _ (text : List ℕ) where
  no_run : (p : ℕ) → Begins text p → run_start text p ≡ p
  unfolding run_start
  no_run zero b = refl
  no_run (suc p) b = ⊎_elim (λ e. absurd (omega arith)) (λ e. sym (start_stop text (suc p) (omega arith) e)) b

  module _ (p : ℕ) (b : Begins text p) where
    token_start : (n : ℕ) → Inner text p n → run_start text (p + n) ≡ p
    unfolding run_start
    token_start zero h = let e : p + 0 ≡ p = omega arith in rw e (no_run p b)
    token_start (suc n) h =
        let e : p + suc n ≡ suc (p + n) = omega arith in
        rw (e, h n (omega arith)) (token_start n (λ i l. h i (omega arith)))

    -- what was expected n bytes behind the token's start is what its bytes up to there ask for, without the dropped plus
    pub expected_of_token : (n : ℕ) → Inner text p n → expected_at text (p + n) ≡ expected_after (part text (after_one_at is_plus text p) (p + n))
    unfolding expected_at
    expected_of_token n h = rw (token_start n h)
