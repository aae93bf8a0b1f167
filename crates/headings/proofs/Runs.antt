-- A reader over a cursor reads the stream of tokens that is still to come.
-- Assumes nothing.
use mathlib.Core.Path.{◌≡◌, refl, ap, ◌∙◌}
use mathlib.Core.List.{List}
use Prim.Native.Nat.{ℕ}
use Rattle.tokenizer.specs.declared.Cursor.{Cursor}
use Rattle.tokenizer.specs.Tokens.{take_at, look_at}
use Rattle.token_stream.specs.Stream.{Tok, tok_in, stream}
use Rattle.token_stream.proofs.Stream.{take_head, take_tail, look_same}
use Rattle.grammar.specs.Asks.{P, ret, ask, look, Ran, ran, run}
use Rattle.grammar.specs.Grammar as spec
use Rattle.grammar_laws.proofs.Asks.{run_ret, run_ask, run_look}
use Rattle.headings.specs.Heads.{Heading, head_of, head_end, RanAt, ran_at, run_at, MetHead}

-- an answer, and the tokens that are left
abbrev ran_in : {A : Type 0} → List ℕ → RanAt A → Ran A
ran_in text (ran_at a c) = ran a (stream text c)

module _ (text : List ℕ) where
  pub runs_ret : {A : Type 0} (a : A) (c : Cursor) → run_at text (ret a) c ≡ ran_at a c
  unfolding run_at
  runs_ret a c = refl

  pub runs_ask : {A : Type 0} (k : Tok → P A) (c : Cursor) → run_at text (ask k) c ≡ run_at text (k (tok_in text (take_at text c).found)) (take_at text c).next
  unfolding run_at
  runs_ask k c = refl

  pub runs_look : {A : Type 0} (k : Tok → P A) (c : Cursor) → run_at text (look k) c ≡ run_at text (k (tok_in text (take_at text c).found)) (look_at text c).next
  unfolding run_at
  runs_look k c = refl

  run_by : {A : Type 0} (p : P A) (c : Cursor) → run p (stream text c) ≡ ran_in text (run_at text p c)
  unfolding run_at
  run_by (ret a) c = run_ret a (stream text c)
  run_by (ask k) c =
      run_ask k (stream text c) ∙ rw (take_head text c, take_tail text c) (run_by (k (tok_in text (take_at text c).found)) (take_at text c).next)
  run_by (look k) c =
      run_look k (stream text c) ∙ rw (take_head text c) (ap (run (k (tok_in text (take_at text c).found))) (look_same text c) ∙ run_by (k (tok_in text (take_at text c).found)) (look_at text c).next)

  -- what a reader comes to over a cursor, it comes to over the stream
  pub run_at_law : {A : Type 0} (p : P A) (c : Cursor) {a : A} {c' : Cursor} → run_at text p c ≡ ran_at a c' → run p (stream text c) ≡ ran a (stream text c')
  run_at_law p c e = run_by p c ∙ ap (ran_in text) e

-- a heading that was read is the one that the grammar reads
pub met_head : {text : List ℕ} {p : P spec.Head} {c : Cursor} {r : Heading} → MetHead text p c r → run p (stream text c) ≡ ran (head_of r) (stream text (head_end r))
met_head {text} {p} {c} x = run_at_law text p c x.is
