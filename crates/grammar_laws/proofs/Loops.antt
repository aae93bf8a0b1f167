-- Parts by commas, turn by turn, whatever `g` reads: what is still to be read equals what was to be read.
-- Assumes nothing.
use mathlib.Core.Path.{◌≡◌, refl, ◌∙◌}
use mathlib.Core.Bool.{cond}
use Prim.Native.Nat.{ℕ, zero, suc, ◌+◌, ◌≤◌, ◌<◌}
use native.Mathlib.Omega.{arith}
use lib.Dec.{eqb}
use borrow.Author.Tests.{eq-eqb, ne_eqb}
use Rattle.token.specs.declared.Refusal.{Refusal}
use Rattle.token_stream.specs.Stream.{Str, end, then, hd, tl, size}
use Rattle.grammar.specs.Asks.{P, ret, ask, look, ran, run}
use Rattle.grammar.specs.Tokens.{sort_none, sort_comma, sort_of}
use Rattle.grammar.specs.Grammar.{Out, Got, ok, refused, halt, and_then, fill, items}
use Rattle.grammar_laws.proofs.Asks.{run_step, run_size, run_ask, run_look, run_ret}

-- behind a token a stream is shorter
size_less : (s : Str) → (sort_of (hd s) ≡ sort_none → ⊥) → size (tl s) < size s
unfolding size
size_less (end n) h = absurd (h refl)
size_less (then t s) h = omega arith

-- where a loop stands: n parts are read, o is held, s is left to read
pub record Loop (i : ℕ) (g : Out → P Got) (F : ℕ) (o₀ : Out) (s₀ : Str) (n : ℕ) (o : Out) (s : Str) : Type 0 where
  pub left : ℕ
  pub enough : size s < left
  pub goes : run (items g F 0 i o₀) s₀ ≡ run (items g left n i o) s
  pub few : n + size s ≤ size s₀

pub first : (i : ℕ) (g : Out → P Got) (F : ℕ) (o : Out) (s : Str) → size s < F → Loop i g F o s 0 o s
first i g F o s h = record { left = F; enough = h; goes = refl; few = omega arith }

module _ {i : ℕ} {g : Out → P Got} {F : ℕ} {o₀ : Out} {s₀ : Str} {n : ℕ} {o : Out} {s : Str} (v : Loop i g F o₀ s₀ n o s) where
  -- what a turn does with what was read, with f more to count down
  abbrev behind : ℕ → Got → P Got
  behind f r = and_then r λ o1. look λ t. cond (eqb (sort_of t) sort_comma) (ask λ c. items g f (n + 1) i o1) (ret (ok (fill i (n + 1) o1)))

  turn : (r : Got) (s1 : Str) → run (g o) s ≡ ran r s1 → (f : ℕ) × (size s < suc f) × (run (items g F 0 i o₀) s₀ ≡ run (behind f r) s1)
  unfolding items
  turn r s1 e = go v.left v.enough v.goes
    where
      go : (f : ℕ) → size s < f → run (items g F 0 i o₀) s₀ ≡ run (items g f n i o) s → (f : ℕ) × (size s < suc f) × (run (items g F 0 i o₀) s₀ ≡ run (behind f r) s1)
      go zero h w = absurd (omega arith)
      go (suc f) h w = (f, h, w ∙ run_step (g o) (behind f) s e)

  pub more : {o1 : Out} {s1 : Str} → run (g o) s ≡ ran (ok o1) s1 → sort_of (hd s1) ≡ sort_comma → Loop i g F o₀ s₀ (n + 1) o1 (tl s1)
  unfolding and_then
  more {o1} {s1} e c =
      let t = turn (ok o1) s1 e in
      let z = size_less s1 (λ y. omega (arith, c, y)) in
      let b = run_size (g o) s e in
      record { left = t.0; enough = omega (arith, t.1, z, b); goes = t.2 ∙ rw (run_look, eq-eqb (sort_of (hd s1)) sort_comma c, run_ask); few = omega (arith, v.few, z, b) }

  pub last : {o1 : Out} {s1 : Str} → run (g o) s ≡ ran (ok o1) s1 → (sort_of (hd s1) ≡ sort_comma → ⊥) → run (items g F 0 i o₀) s₀ ≡ ran (ok (fill i (n + 1) o1)) s1
  unfolding and_then
  last {o1} {s1} e c = (turn (ok o1) s1 e).2 ∙ rw (run_look, ne_eqb (sort_of (hd s1)) sort_comma c, run_ret)

  pub refusal : {r : Refusal} {s1 : Str} → run (g o) s ≡ ran (refused r) s1 → run (items g F 0 i o₀) s₀ ≡ ran (refused r) s1
  unfolding run and_then
  refusal {r} {s1} e = (turn (refused r) s1 e).2

  pub stop : {r : Refusal} {s1 : Str} → run (g o) s ≡ ran (halt r) s1 → run (items g F 0 i o₀) s₀ ≡ ran (halt r) s1
  unfolding run and_then
  stop {r} {s1} e = (turn (halt r) s1 e).2

  pub less : {o1 : Out} {s1 : Str} → run (g o) s ≡ ran (ok o1) s1 → sort_of (hd s1) ≡ sort_comma → size (tl s1) < size s
  less {o1} {s1} e c = omega (arith, size_less s1 (λ y. omega (arith, c, y)), run_size (g o) s e)
