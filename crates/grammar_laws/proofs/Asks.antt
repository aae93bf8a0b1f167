-- Laws of feeding a reader: one reader after another, and that no reader makes a stream longer.
-- Assumes nothing.
use mathlib.Core.Path.{◌≡◌, refl, ap, ◌∙◌}
use Prim.Native.Nat.{◌≤◌}
use native.Mathlib.Omega.{arith}
use Rattle.token_stream.specs.Stream.{Tok, Str, hd, tl, size}
use Rattle.token_stream.proofs.Stream.{size_tl}
use Rattle.grammar.specs.Asks.{P, ret, ask, look, bind, Ran, ran, run, left_in}

abbrev pub after : {A B : Type 0} → (A → P B) → Ran A → Ran B
after f (ran a s) = run (f a) s

pub run_bind : {A B : Type 0} (p : P A) (f : A → P B) (s : Str) → run (bind p f) s ≡ after f (run p s)
unfolding run bind
run_bind (ret a) f s = refl
run_bind (ask k) f s = run_bind (k (hd s)) f (tl s)
run_bind (look k) f s = run_bind (k (hd s)) f s

-- one part is read, and the next goes on from there
pub run_step : {A B : Type 0} (p : P A) (f : A → P B) (s : Str) {s' : Str} {a : A} → run p s ≡ ran a s' → run (bind p f) s ≡ run (f a) s'
run_step p f s e = run_bind p f s ∙ ap (after f) e

pub run_ret : {A : Type 0} (a : A) (s : Str) → run (ret a) s ≡ ran a s
unfolding run
run_ret a s = refl

pub run_ask : {A : Type 0} (k : Tok → P A) (s : Str) → run (ask k) s ≡ run (k (hd s)) (tl s)
unfolding run
run_ask k s = refl

pub run_look : {A : Type 0} (k : Tok → P A) (s : Str) → run (look k) s ≡ run (k (hd s)) s
unfolding run
run_look k s = refl

run_left : {A : Type 0} (p : P A) (s : Str) → size (left_in (run p s)) ≤ size s
unfolding run
run_left (ret a) s = omega arith
run_left (ask k) s = omega (arith, run_left (k (hd s)) (tl s), size_tl s)
run_left (look k) s = run_left (k (hd s)) s

pub run_size : {A : Type 0} (p : P A) (s : Str) {s' : Str} {a : A} → run p s ≡ ran a s' → size s' ≤ size s
run_size p s e = rw e at (run_left p s)
