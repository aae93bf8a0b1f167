-- What the first byte tells is computed for each byte, and so known for any.
-- Assumes nothing.
use mathlib.Core.Path.{◌≡◌}
use mathlib.Core.Bool.{true, ◌||◌}
use Prim.Native.Nat.{ℕ, ◌+◌, ◌≤◌, ◌<◌}
use native.Mathlib.Omega.{arith}
use lib.Dec.{eqb}
use borrow.Author.Tests.{eqb-true, ne_eqb}
use Rattle.lists.proofs.Ranges.{all_from, all_from_law}

module _ (f : ℕ → ℕ) (x : ℕ) where
  -- f is x for the n numbers from `low` on
  pub over : (low n b : ℕ) → all_from (λ k. eqb x (f k)) low n ≡ true → low ≤ b → b < low + n → x ≡ f b
  over low n b e h k = eqb-true x (f b) (all_from_law (λ k. eqb x (f k)) low n b e h k)

  -- f is x for all bytes but two
  pub but_two : (u v b : ℕ) → all_from (λ k. eqb k u || eqb k v || eqb x (f k)) 0 256 ≡ true → b < 256 → (b ≡ u → ⊥) → (b ≡ v → ⊥) → x ≡ f b
  but_two u v b e h nu nv =
      let t = all_from_law (λ k. eqb k u || eqb k v || eqb x (f k)) 0 256 b e (omega arith) (omega arith) in
      eqb-true x (f b) (rw (ne_eqb b u nu, ne_eqb b v nv) at t)
