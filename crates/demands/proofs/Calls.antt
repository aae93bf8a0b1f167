-- An accepted reading, and the rows that it leaves in the slices: a well-formed store.
-- Assumes nothing.
use mathlib.Core.Path.{◌≡◌, refl, ap, sym, ◌∙◌}
use mathlib.Core.Bool.{true, false≢true}
use mathlib.Core.Option.{some}
use mathlib.Core.List.{List}
use Prim.Native.Nat.{ℕ, ◌≤◌}
use borrow.Author.Tests.{le-leb}
use lib.ListN.{length}
use Rattle.store.specs.Rows.{Row, Span, node_room, number_room, flat_rows, flat_spans, padded}
use Rattle.lists.specs.Lists.{All}
use Rattle.limits.specs.Limits.{depth_limit}
use Rattle.tree.specs.Tree.{Tree}
use Rattle.tree.specs.TreeIn.{SpanIn, span_texts, tree_in}
use Rattle.grammar.specs.Grammar.{out, Got, ok, refused, halt}
use Rattle.grammar.specs.Reading.{reading}
use Rattle.grammar_laws.proofs.WellRead.{reading_well_formed}
use Rattle.grammar_laws.proofs.Fuel.{reading_refusals, reading_halts, reading_kept}
use Rattle.store.specs.declared.ReadAnswer.{ReadAnswer}
use Rattle.wkt.specs.Leaves.{Leaves}
use Rattle.shape.specs.Store.{all_rows, all_spans, all_texts, well_formed, tree_of}
use Rattle.shape.proofs.Stores.{tree_of_law, is_well_formed}
use Rattle.shape.proofs.Slices.{flat_rows_law, flat_spans_law, flat_whole, used_rows_law, used_spans_law}
use Rattle.store.specs.declared.WriteAnswer.{WriteAnswer}
use Rattle.store.specs.Answers.{wrote, write_answer, room_after}
use Rattle.to_wkt.specs.Canonical.{store_text}
use Rattle.to_wkt.specs.Write.{output_of, Written}
use Rattle.demands.specs.Calls.{Read, used_nodes, used_numbers}

-- ---- what a reading was, by its answer
pub record Accepts (N M : ℕ) (text : List ℕ) : Type 0 where
  pub rows : List Row
  pub spans : List Span
  pub is : reading N M text ≡ ok (out rows spans)

pub accepts : (text ns ms : List ℕ) (a : ReadAnswer) (ns' ms' : List ℕ) → Read text ns ms a ns' ms' → a.number ≡ 0 → Accepts (node_room ns) (number_room ms) text
accepts text ns ms a ns' ms' r z = go (reading (node_room ns) (number_room ms) text) refl
  where
    go : (g : Got) → reading (node_room ns) (number_room ms) text ≡ g → Accepts (node_room ns) (number_room ms) text
    go (ok (out rs ss)) e = record { rows = rs; spans = ss; is = e }
    go (refused f) e =
        let l : Leaves (refused f) ns ms a ns' ms' = rw e at r in
        let n : f.number ≡ 0 = sym (ap (λ (x : ReadAnswer). x.number) l.answer) ∙ z in
        absurd (false≢true (rw n at (reading_refusals (node_room ns) (number_room ms) text f e).number))
    go (halt f) e =
        let l : Leaves (halt f) ns ms a ns' ms' = rw e at r in
        let n : f.number ≡ 0 = sym (ap (λ (x : ReadAnswer). x.number) l.answer) ∙ z in
        absurd (false≢true (rw n at (reading_halts (node_room ns) (number_room ms) text f e).number))

-- ---- what it leaves
-- the used rows of an accepted reading are its rows
module _ (text ns ms : List ℕ) (a : ReadAnswer) (ns' ms' : List ℕ) (rs : List Row) (ss : List Span) (r : Read text ns ms a ns' ms') (is : reading (node_room ns) (number_room ms) text ≡ ok (out rs ss)) where
  pub left : Leaves (ok (out rs ss)) ns ms a ns' ms'
  left = rw is at r

  pub its_nodes : used_nodes a ns' ≡ flat_rows rs
  its_nodes = rw (left.answer, left.nodes) (used_rows_law rs (length ns))

  pub its_numbers : used_numbers a ms' ≡ flat_spans ss
  its_numbers = rw (left.answer, left.numbers) (used_spans_law ss (length ms))

  kept : All (SpanIn text) ss
  kept = (reading_kept (node_room ns) (number_room ms) text rs ss is).spans

  pub its_rows : all_rows (used_nodes a ns') ≡ rs
  its_rows = ap all_rows its_nodes ∙ flat_rows_law rs

  pub its_spans : all_spans text (used_numbers a ms') ≡ ss
  its_spans = ap (all_spans text) its_numbers ∙ flat_spans_law text ss kept

  -- and they are the tree that its rows and number texts are
  pub its_store : (t : Tree depth_limit) → tree_in depth_limit rs (span_texts ss) ≡ some t → tree_of text (used_nodes a ns') (used_numbers a ms') ≡ some t
  its_store t e =
      let is : tree_in depth_limit (all_rows (used_nodes a ns')) (all_texts text (used_numbers a ms')) ≡ some t = ap (λ l. tree_in depth_limit l (all_texts text (used_numbers a ms'))) its_rows ∙ ap (λ l. tree_in depth_limit rs (span_texts l)) its_spans ∙ e in
      let numbers : All (SpanIn text) (all_spans text (used_numbers a ms')) = rw its_spans kept in
      tree_of_law text (used_nodes a ns') (used_numbers a ms') (record { lengths = rw (its_nodes, its_numbers) (flat_whole rs ss); well = record { tree = t; is = is; numbers = numbers } })

  pub is_well : well_formed text (used_nodes a ns') (used_numbers a ms') ≡ true
  is_well =
      let w = reading_well_formed (node_room ns) (number_room ms) text rs ss is in
      is_well_formed text (used_nodes a ns') (used_numbers a ms') w.tree (its_store w.tree w.is)

-- ---- what a writing says of a store that has a canonical text, with room for it
pub said : (text nodes numbers b : List ℕ) (room : ℕ) (r : WriteAnswer) (bytes : List ℕ) → store_text text nodes numbers ≡ some b → length b ≤ room → Written text nodes numbers room r bytes → (r ≡ wrote (length b)) × (bytes ≡ padded b room)
said text nodes numbers b room r bytes e h w = (w.answer ∙ ap (λ o. write_answer (output_of o) room) e ∙ rw (le-leb (length b) room h), w.bytes ∙ ap (λ o. room_after (output_of o) room) e ∙ rw (le-leb (length b) room h))
