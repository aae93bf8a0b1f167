-- Parts by commas and the closing token, whatever `g` reads: one invariant and one set of laws for every loop of the reader.
-- Assumes nothing.
use mathlib.Core.Path.{◌≡◌, refl, sym, ap, ◌∙◌}
use mathlib.Core.Bool.{true, false, false≢true}
use mathlib.Core.List.{List}
use Rattle.std.specs.Prelude.{Ok, Err}
use Prim.Native.Nat.{ℕ, ◌+◌, ◌<◌, ◌^◌}
use native.Mathlib.Omega.{arith}
use lib.ListN.{length}
use Rattle.tokenizer.specs.declared.Passed.{Passed}
use Rattle.tokenizer.specs.Tokens.{cursor_at, pass_comma}
use Rattle.token_stream.specs.Stream.{size, stream}
use Rattle.token_stream.proofs.Stream.{stream_size}
use Rattle.store.specs.Rows.{node_room, number_room, rows_in, spans_in}
use Rattle.grammar.specs.Asks.{ran, run}
use Rattle.grammar.specs.Reading.{enough}
use Rattle.grammar_laws.proofs.Asks.{run_step}
use Rattle.grammar_laws.proofs.Loops as loops
use Rattle.grammar_laws.proofs.Loops.{Loop}
use Rattle.answers.specs.declared.State.{State}
use Rattle.answers.specs.declared.Spot.{Spot}
use Rattle.answers.specs.declared.Unread.TheVariants.{Refused, Stopped}
use Rattle.answers.specs.Reading.{Answer, spot, state, is_read, closed_at, closed_nodes, after_refusal, used_by, got_of, end_of, Met, Part, Reads, Fits, list_of, closed_of}
use Rattle.answers.proofs.Parts.{closed_met, lost_met, comma_follows, other_follows}

-- `parts` are read, the slices hold them, and the reader stands at q
pub record ListInv (text : List ℕ) (i : ℕ) (g : Part) (ns₀ ms₀ : List ℕ) (q₀ : Spot) (ns ms : List ℕ) (parts : ℕ) (q : Spot) : Type 0 where
  pub same_n : length ns ≡ length ns₀
  pub same_m : length ms ≡ length ms₀
  pub below : i < node_room ns
  pub fits : Fits text ns ms q
  pub loop :
      (N M : ℕ) → node_room ns₀ ≡ N → number_room ms₀ ≡ M →
      Loop i (g N M) enough (used_by (rows_in ns₀) (spans_in text ms₀) q₀.nodes q₀.numbers) (stream text (cursor_at q₀.at)) parts (used_by (rows_in ns) (spans_in text ms) q.nodes q.numbers) (stream text (cursor_at q.at))

pub list_first : {text ns ms : List ℕ} {i : ℕ} {g : Part} {q : Spot} → i < q.nodes → Fits text ns ms q → ListInv text i g ns ms q ns ms 0 q
list_first {text} {ns} {ms} {i} {g} {q} l w = record {
  same_n = refl;
  same_m = refl;
  below = omega (arith, l, w.nodes);
  fits = w;
  loop = λ N M f h. loops.first i (g N M) enough _ (stream text (cursor_at q.at)) (omega (arith, stream_size text (cursor_at q.at), w.short));
}

module _ {text ns₀ ms₀ ns ms : List ℕ} {i : ℕ} {g : Part} {q₀ : Spot} {parts : ℕ} {q : Spot} (v : ListInv text i g ns₀ ms₀ q₀ ns ms parts q) where
  pub list_few : parts + 1 < 2 ^ 32
  list_few = omega (arith, (v.loop (node_room ns₀) (number_room ms₀) refl refl).few, stream_size text (cursor_at q₀.at), v.fits.short)

  module _ {a : Answer} {ns₁ ms₁ : List ℕ} (m : Reads text g q ns ms a ns₁ ms₁) where
    child : (N M : ℕ) → node_room ns₀ ≡ N → number_room ms₀ ≡ M → Met text N M (rows_in ns₁) (spans_in text ms₁) (g N M (used_by (rows_in ns) (spans_in text ms) q.nodes q.numbers)) (stream text (cursor_at q.at)) a
    child N M f h = m.met N M (rw v.same_n f) (rw v.same_m h)

    -- a part that was not read: the closing token is taken where it was refused
    pub list_lost : {r : Answer} → is_read a ≡ false → r ≡ after_refusal text a → Reads text (closed_of (list_of i g)) q₀ ns₀ ms₀ r ns₁ ms₁
    list_lost n e = record {
      met = λ N M f h.
          let w = lost_met text (rows_in ns₁) (spans_in text ms₁) a n in
          rw e (record { is = run_step _ _ _ (ends N M f h a refl) ∙ w.is; within = w.within });
    }
      where
        ends : (N M : ℕ) → node_room ns₀ ≡ N → number_room ms₀ ≡ M → (b : Answer) → a ≡ b → run (list_of i g N M (used_by (rows_in ns₀) (spans_in text ms₀) q₀.nodes q₀.numbers)) (stream text (cursor_at q₀.at)) ≡ ran (got_of (rows_in ns₁) (spans_in text ms₁) a) (stream text (end_of a))
        ends N M f h (Ok s) x = absurd (false≢true (sym n ∙ ap is_read x))
        ends N M f h (Err (Refused r c)) x = rw x (loops.refusal (v.loop N M f h) (rw x at (child N M f h).is))
        ends N M f h (Err (Stopped r c)) x = rw x (loops.stop (v.loop N M f h) (rw x at (child N M f h).is))

    -- a part that was read, and what follows it
    module _ {end : Spot} (x : a ≡ Ok end) {p : Passed} (e : p ≡ pass_comma text (cursor_at end.at)) where
      read : (N M : ℕ) → node_room ns₀ ≡ N → number_room ms₀ ≡ M → Met text N M (rows_in ns₁) (spans_in text ms₁) (g N M (used_by (rows_in ns) (spans_in text ms) q.nodes q.numbers)) (stream text (cursor_at q.at)) (Ok end)
      read N M f h = rw x at (child N M f h)

      pub list_more : {here : Spot} → p.comma ≡ true → here ≡ spot p.next.at end.nodes end.numbers → length ns₁ ≡ length ns → length ms₁ ≡ length ms → ListInv text i g ns₀ ms₀ q₀ ns₁ ms₁ (parts + 1) here
      list_more y j ln lm =
          let t = comma_follows text (cursor_at end.at) p e y in
          let w = (read (node_room ns₁) (number_room ms₁) (rw (ln, v.same_n)) (rw (lm, v.same_m))).within in
          rw j (record {
            same_n = ln ∙ v.same_n;
            same_m = lm ∙ v.same_m;
            below = rw ln v.below;
            fits = record { short = v.fits.short; nodes = w.0; numbers = w.1 };
            loop = λ N M f h. rw (← t.1) (loops.more (v.loop N M f h) (read N M f h).is t.0);
          })

      pub list_less : {here : Spot} → p.comma ≡ true → here ≡ spot p.next.at end.nodes end.numbers → size (stream text (cursor_at here.at)) < size (stream text (cursor_at q.at))
      list_less y j =
          let t = comma_follows text (cursor_at end.at) p e y in
          rw (j, ← t.1) (loops.less (v.loop (node_room ns₀) (number_room ms₀) refl refl) (read (node_room ns₀) (number_room ms₀) refl refl).is t.0)

      pub list_last : {s : State} {r : Answer} {ns' : List ℕ} → p.comma ≡ false → s ≡ state p.next end.nodes end.numbers → r ≡ closed_at text s → ns' ≡ closed_nodes text s ns₁ i (parts + 1) → length ns₁ ≡ length ns → Reads text (closed_of (list_of i g)) q₀ ns₀ ms₀ r ns' ms₁
      list_last n j u k ln = record {
        met = λ N M f h.
            let t = other_follows text (cursor_at end.at) p e n in
            let w = read N M f h in
            let z = closed_met text (state p.next end.nodes end.numbers) ns₁ i (parts + 1) (spans_in text ms₁) (rw ln v.below) w.within.0 w.within.1 in
            rw (u, k, j) (record { is = run_step _ _ _ (loops.last (v.loop N M f h) w.is t.0) ∙ rw t.1 z.is; within = z.within });
      }
