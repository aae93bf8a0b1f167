-- `read`, return by return.
-- Assumes nothing.
use mathlib.Core.Path.{◌≡◌, refl, ap, sym, ◌∙◌}
use mathlib.Core.Bool.{true, false}
use Rattle.std.specs.Prelude.{Ok, Err}
use mathlib.Core.List.{List}
use Prim.Native.Nat.{ℕ, ◌+◌, ◌≤◌, ◌<◌, ◌^◌}
use native.Mathlib.Omega.{arith}
use lib.ListN.{length}
use borrow.Author.Tests.{eq-eqb, ne_eqb}
use Rattle.limits.specs.Limits.{text_limit, over_limit}
use Rattle.utf8.specs.Utf8.{first_ill}
use Rattle.utf8.proofs.Walk.{in_text}
use Rattle.tokenizer.specs.declared.Cursor.{Cursor}
use Rattle.token.specs.declared.Refusal.{Refusal}
use Rattle.token_stream.specs.Stream.{stream}
use Rattle.token_stream.proofs.Bridge.{toks_lex}
use Rattle.store.specs.Rows.{node_width, number_width, node_room, number_room, firsts, rows_in, spans_in, cleared}
use Rattle.store.specs.Answers.{Accepts}
use Rattle.store.proofs.Cells.{places_some}
use Rattle.store.proofs.Rows.{rows_length, rows_cleared, spans_length, spans_cleared}
use Rattle.grammar.specs.Asks.{answer_in}
use Rattle.grammar.specs.Grammar as spec
use Rattle.grammar.specs.Grammar.{refused, root}
use Rattle.grammar.specs.Reading.{reading}
use Rattle.answers.specs.declared.Spot.{Spot}
use Rattle.answers.specs.declared.Unread.TheVariants.{Refused, Stopped}
use Rattle.answers.specs.Reading.{Answer, spot, got_of, Within, Reads, Fits}
use Rattle.wkt.specs.Parts.{root_of}
use Rattle.wkt.specs.Leaves.{Leaves, root_in, Finishes}
use Rattle.store.specs.declared.ReadAnswer.{ReadAnswer}

-- what the slices are left with
module _ {ns ms : List ℕ} {got : Answer} {ns' ms' : List ℕ} where
  pub finish_done : {end : Spot} {a : ReadAnswer} → got ≡ Ok end → Within (node_room ns) (number_room ms) got → Accepts ns ms end.nodes end.numbers a ns' ms' → Finishes got ns ms a ns' ms'
  finish_done {end} e v done =
      let w = rw e at v in
      record {
        met = λ text. rw e (record {
          answer = done.answer ∙ rw (rows_length, spans_length);
          nodes = done.nodes ∙ ap (cleared ns) (sym (places_some node_width ns end.nodes w.0).0) ∙ rows_cleared ns end.nodes w.0;
          numbers = done.numbers ∙ ap (cleared ms) (sym (places_some number_width ms end.numbers w.1).0) ∙ spans_cleared text ms end.numbers w.1;
        });
      }

  pub finish_refused : {r : Refusal} {c : Cursor} {a : ReadAnswer} → got ≡ Err (Refused r c) → Leaves (refused r) ns ms a ns' ms' → Finishes got ns ms a ns' ms'
  finish_refused e l = record { met = λ text. rw e l }

  pub finish_stopped : {r : Refusal} {c : Cursor} {a : ReadAnswer} → got ≡ Err (Stopped r c) → Leaves (refused r) ns ms a ns' ms' → Finishes got ns ms a ns' ms'
  finish_stopped e l = record { met = λ text. rw e (record { answer = l.answer; nodes = l.nodes; numbers = l.numbers }) }

-- the root
pub root_fits : {text ns ms : List ℕ} → length text + 2 < 2 ^ 32 → Fits text ns ms (spot 0 0 0)
root_fits v = record { short = v; nodes = omega arith; numbers = omega arith }

module _ {text ns ms ns₁ ms₁ : List ℕ} {got : Answer} (g : Reads text root_of (spot 0 0 0) ns ms got ns₁ ms₁) (ln : length ns₁ ≡ length ns) (lm : length ms₁ ≡ length ms) where
  pub root_within : Within (node_room ns₁) (number_room ms₁) got
  root_within = (g.met (node_room ns₁) (number_room ms₁) (rw ln) (rw lm)).within

  root_is : root_in (node_room ns) (number_room ms) text ≡ got_of (rows_in ns₁) (spans_in text ms₁) got
  unfolding root_in root rows_in spans_in firsts stream
  root_is = ap answer_in (g.met (node_room ns) (number_room ms) refl refl).is

  pub root_left : {a : ReadAnswer} {ns' ms' : List ℕ} → Finishes got ns₁ ms₁ a ns' ms' → Leaves (root_in (node_room ns) (number_room ms) text) ns ms a ns' ms'
  root_left f = let l = f.met text in rw root_is (record { answer = l.answer; nodes = rw (← ln) l.nodes; numbers = rw (← lm) l.numbers })

-- the order of the refusals
module _ (text : List ℕ) {ns ms : List ℕ} {a : ReadAnswer} {ns' ms' : List ℕ} where
  pub read_long : over_limit (length text) ≡ true → Leaves (refused (spec.refusal 1 text_limit)) ns ms a ns' ms' → Leaves (reading (node_room ns) (number_room ms) text) ns ms a ns' ms'
  unfolding reading
  read_long t l = rw t l

  pub read_ill : over_limit (length text) ≡ false → first_ill text < length text → Leaves (refused (spec.refusal 2 (first_ill text))) ns ms a ns' ms' → Leaves (reading (node_room ns) (number_room ms) text) ns ms a ns' ms'
  unfolding reading
  read_ill t h l = rw (t, ne_eqb (first_ill text) (length text) (λ e. omega arith)) l

  pub read_tokens : over_limit (length text) ≡ false → length text ≤ first_ill text → Leaves (root_in (node_room ns) (number_room ms) text) ns ms a ns' ms' → Leaves (reading (node_room ns) (number_room ms) text) ns ms a ns' ms'
  unfolding reading root_in
  read_tokens t h l = rw (t, eq-eqb (first_ill text) (length text) (omega (arith, in_text text)), ← toks_lex text) l
