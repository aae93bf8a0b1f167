-- Requests 2026-01 and 2026-05 over calls, of any version of the stored form: one tree, one stored form; read back, accepted and taken; and each refusal exactly when.
-- Assumes nothing.
use mathlib.Core.Path.{◌≡◌, refl, ap, sym, ◌∙◌}
use mathlib.Core.Bool.{Bool, true, false, false≢true}
use mathlib.Core.Option.{some}
use mathlib.Core.List.{List}
use Prim.Native.Nat.{ℕ, ◌≤◌}
use native.Mathlib.Omega.{arith}
use lib.Dec.{leb}
use lib.ListN.{length, length-map}
use borrow.Author.Tests.{le-leb, leb-true, leb-false}
use Rattle.limits.specs.Limits.{depth_limit}
use Rattle.refusals.specs.Refusals.{no_room, ill_formed_store, does_not_fit}
use Rattle.store.specs.declared.ReadAnswer.{ReadAnswer}
use Rattle.store.specs.declared.WriteAnswer.{WriteAnswer}
use Rattle.store.specs.Rows.{Row, Span, node_room, number_room, flat_rows, flat_spans, padded}
use Rattle.store.specs.Answers as output
use Rattle.store.specs.Answers.{Outcome, filled, refused, Output, refusal, Leaves, leaves_one, wrote, write_answer, room_after, writes_one}
use Rattle.tree.specs.Tree.{Tree, rows, texts}
use Rattle.tree.specs.TreeIn.{span_text}
use Rattle.lists.specs.Options.{map_o}
use Rattle.shape.specs.Store.{tree_of, well_formed}
use Rattle.shape.proofs.Stores.{grown, is_well_formed, is_tree, store_tree}
use Rattle.shape.proofs.Slices.{used_rows_law, used_spans_law, same_store}
use Rattle.form.specs.Form.{KeepsTrees, WriteCall, Filled, Lawful}
use Rattle.form.proofs.Form.{trees_equal, trees_again, one_tree_one_writing}
use Rattle.stored_form.specs.declared.Version.{Version}
use Rattle.stored_form.specs.Form.{Known, stored_bytes, stored_tree, stored_of}
use Rattle.stored_form.specs.Reading.{reading_of}
use Rattle.stored_form.proofs.Stores.{not_well, stored_is}
use Rattle.stored.specs.Faults.{Fault, too_long, other_version, bad_head, bad_node, bad_number_law, extra, no_tree, no_node_row_law, no_number_row_law}
use Rattle.stored.proofs.Back.{stored_back}
use Rattle.stored_reading.proofs.Accepts.{accepts}
use Rattle.stored_reading.proofs.Accepted.{ReadTree, accepted_tree, accepted_stored}
use Rattle.stored.proofs.Faults.{refused_exactly}
use Rattle.strict.specs.declared.StrictAnswer.{StrictAnswer}
use Rattle.canonical_text.specs.Canonical.{canonical_text}
use Rattle.to_wkt.specs.Canonical.{store_text, the_text, written_text}
use Rattle.demands.specs.Calls.{used_nodes, used_numbers}
use Rattle.demands.specs.Demand1 as demand1
use Rattle.demands.specs.Demand1.{Writing, Verdict}
use Rattle.demands.specs.Stored.{StoredWrite, stored_in, StoredRead, OneStoredWrite, OneStoredRead, FitsStored, tree_stored, stored_form, stored_entries, StoredOneWritingOfTrees, StoredOneWriting, StoredEqual, StoredReadsBack, StoredAgain, StoredTaken, StoredRound, StoredReadAccepts, StoredRefusal, StoredReadRefuses, StoredReadExactly, store_fits, store_bytes, Storing, no_store, unfit, kept, StoredWriteAnswers, StoredWriteExactly, StoredWriteRefuses, SameWriting}
use Rattle.demands.specs.Stored as demand
use Rattle.demands.proofs.Demand1.{all_zero, write_answers, strict_answers}

-- ---- small things
one_some : {X : Type 0} (x y : X) → some x ≡ some y → x ≡ y
one_some x y e = cc

-- stores of one tree have one canonical text
module _ (text nodes numbers text' nodes' numbers' : List ℕ) where
  same_text : tree_of text nodes numbers ≡ tree_of text' nodes' numbers' → store_text text nodes numbers ≡ store_text text' nodes' numbers'
  unfolding store_text
  same_text e = ap (map_o canonical_text) e

  written_same : store_text text nodes numbers ≡ store_text text' nodes' numbers' → written_text text nodes numbers ≡ written_text text' nodes' numbers'
  unfolding written_text
  written_same e = ap the_text e

module _ (v : Version) (known : Known v) where
  pub one_stored_write : OneStoredWrite v
  one_stored_write text nodes numbers room r out r' out' x y = writes_one x y

  pub one_stored_read : OneStoredRead v
  one_stored_read bytes ns ms a ns' ms' c ns'' ms'' x y = leaves_one x y

  -- ---- what the writer answers
  pub stored_write_answers : StoredWriteAnswers v
  stored_write_answers text nodes numbers room r out w = go (well_formed text nodes numbers) refl (store_fits v text nodes numbers) refl (leb (length (store_bytes v text nodes numbers)) room) refl
    where
      -- of an output that the store comes to
      by : (o : Output) → stored_of v text nodes numbers ≡ o → (r ≡ write_answer o room) × (out ≡ room_after o room)
      by o e = (w.answer ∙ ap (λ (x : Output). write_answer x room) e, w.bytes ∙ ap (λ (x : Output). room_after x room) e)

      go : (a : Bool) → well_formed text nodes numbers ≡ a → (b : Bool) → store_fits v text nodes numbers ≡ b → (c : Bool) → leb (length (store_bytes v text nodes numbers)) room ≡ c → Storing v text nodes numbers room r out
      go false ea b eb c ec = let u = by (refusal ill_formed_store) (not_well v text nodes numbers ea) in rw (u.0, u.1) (no_store ea)
      go true ea false eb c ec = let u = by (refusal does_not_fit) (stored_is v text nodes numbers ea ∙ rw eb) in rw (u.0, u.1) (unfit ea eb)
      go true ea true eb false ec = let u = by (output.bytes (store_bytes v text nodes numbers)) (stored_is v text nodes numbers ea ∙ rw eb) in rw (u.0, u.1, ec) (demand.too_long ea eb (leb-false (length (store_bytes v text nodes numbers)) room ec))
      go true ea true eb true ec = let u = by (output.bytes (store_bytes v text nodes numbers)) (stored_is v text nodes numbers ea ∙ rw eb) in rw (u.0, u.1, ec) (kept ea eb (leb-true (length (store_bytes v text nodes numbers)) room ec))

  pub stored_write_refuses : StoredWriteRefuses v
  stored_write_refuses text nodes numbers room r out w = go (stored_write_answers text nodes numbers room r out w)
    where
      go : {r : WriteAnswer} {out : List ℕ} → Storing v text nodes numbers room r out → StoredWriteExactly v text nodes numbers room r
      go (no_store e) = record {
        ill = ((λ z. e), λ z. refl);
        fit = ((λ z. absurd (omega (arith, z))), λ h. absurd (false≢true (sym e ∙ h.0)));
        roomless = ((λ z. absurd (omega (arith, z))), λ h. absurd (false≢true (sym e ∙ h.0)));
        accepted = ((λ z. absurd (omega (arith, z))), λ h. absurd (false≢true (sym e ∙ h.0)));
      }
      go (unfit e f) = record {
        ill = ((λ z. absurd (omega (arith, z))), λ h. absurd (false≢true (sym h ∙ e)));
        fit = ((λ z. (e, f)), λ h. refl);
        roomless = ((λ z. absurd (omega (arith, z))), λ h. absurd (false≢true (sym f ∙ h.1)));
        accepted = ((λ z. absurd (omega (arith, z))), λ h. absurd (false≢true (sym f ∙ h.1)));
      }
      go (demand.too_long e f l) = record {
        ill = ((λ z. absurd (omega (arith, z))), λ h. absurd (false≢true (sym h ∙ e)));
        fit = ((λ z. absurd (omega (arith, z))), λ h. absurd (false≢true (sym h.1 ∙ f)));
        roomless = ((λ z. (e, f, l)), λ h. refl);
        accepted = ((λ z. absurd (omega (arith, z))), λ h. absurd (omega (arith, h.2, l)));
      }
      go (kept e f l) = record {
        ill = ((λ z. absurd (omega (arith, z))), λ h. absurd (false≢true (sym h ∙ e)));
        fit = ((λ z. absurd (omega (arith, z))), λ h. absurd (false≢true (sym h.1 ∙ f)));
        roomless = ((λ z. absurd (omega (arith, z))), λ h. absurd (omega (arith, h.2, l)));
        accepted = ((λ z. (e, f, l)), λ h. refl);
      }

  -- a reason's number is none of an accepted reading, and none of the writer's
  fault_number : {b : List ℕ} {N M number place : ℕ} → Fault v b N M number place → (1 ≤ number) × (number ≡ no_room → ⊥) × (number ≡ does_not_fit → ⊥)
  fault_number (too_long h) = (omega arith, λ z. omega (arith, z), λ z. omega (arith, z))
  fault_number (other_version h o) = (omega arith, λ z. omega (arith, z), λ z. omega (arith, z))
  fault_number (bad_head o h) = (omega arith, λ z. omega (arith, z), λ z. omega (arith, z))
  fault_number (bad_node i h l r f) = (omega arith, λ z. omega (arith, z), λ z. omega (arith, z))
  fault_number (bad_number_law i h l r f) = (omega arith, λ z. omega (arith, z), λ z. omega (arith, z))
  fault_number (extra h l) = (omega arith, λ z. omega (arith, z), λ z. omega (arith, z))
  fault_number (no_tree h f) = (omega arith, λ z. omega (arith, z), λ z. omega (arith, z))
  fault_number (no_node_row_law h l) = (omega arith, λ z. omega (arith, z), λ z. omega (arith, z))
  fault_number (no_number_row_law h g l) = (omega arith, λ z. omega (arith, z), λ z. omega (arith, z))

  pub refused_reading : (b : List ℕ) (N M number place : ℕ) → reading_of v N M b ≡ refused number place → (1 ≤ number) × (number ≡ no_room → ⊥) × (number ≡ does_not_fit → ⊥)
  refused_reading b N M number place e = fault_number ((refused_exactly v b N M number place).0 e)

  -- ---- stored bytes are a form
  stored_keeps : KeepsTrees (stored_form v)
  stored_keeps t N M f h =
      let b = stored_back v known t f.good f.fits N M h.nodes h.numbers in
      ap (tree_stored (stored_bytes v t)) b.reads ∙ b.tree

  -- what a call of the reader comes to
  module _ (b ns ms : List ℕ) (a : ReadAnswer) (ns' ms' : List ℕ) (r : StoredRead v b ns ms a ns' ms') where
    module _ (rs : List Row) (ss : List Span) (is : reading_of v (node_room ns) (number_room ms) b ≡ filled rs ss) where
      pub left : Leaves (filled rs ss) ns ms a ns' ms'
      left = rw is at r

      pub its_nodes : used_nodes a ns' ≡ flat_rows rs
      its_nodes = rw (left.answer, left.nodes) (used_rows_law rs (length ns))

      pub its_numbers : used_numbers a ms' ≡ flat_spans ss
      its_numbers = rw (left.answer, left.numbers) (used_spans_law ss (length ms))

      abbrev pub its_tree : ReadTree b rs ss
      its_tree = accepted_tree v (node_room ns) (number_room ms) b rs ss is

      pub its_store : tree_of b (used_nodes a ns') (used_numbers a ms') ≡ some its_tree.tree
      its_store = rw (its_nodes, its_numbers) its_tree.is

      its_filled : Filled (stored_form v) (stored_entries v) its_tree.tree b a ns' ms'
      its_filled =
          let n : length rs ≡ length (rows depth_limit its_tree.tree) = ap length its_tree.its_rows in
          let m : length ss ≡ length (texts depth_limit its_tree.tree) = sym (length-map ss span_text) ∙ ap length its_tree.its_texts in
          record { answer = left.answer ∙ rw (n, m); tree = its_store }

    -- it is accepted
    pub record AcceptedCall : Type 0 where
      pub its_rows : List Row
      pub its_spans : List Span
      pub is : reading_of v (node_room ns) (number_room ms) b ≡ filled its_rows its_spans

    pub accepted_call : a.number ≡ 0 → AcceptedCall
    accepted_call z = go (reading_of v (node_room ns) (number_room ms) b) refl
      where
        go : (o : Outcome) → reading_of v (node_room ns) (number_room ms) b ≡ o → AcceptedCall
        go (filled rs ss) e = record { its_rows = rs; its_spans = ss; is = e }
        go (refused number place) e =
            let l : Leaves (refused number place) ns ms a ns' ms' = rw e at r in
            let n : number ≡ 0 = sym (ap (λ (x : ReadAnswer). x.number) l.answer) ∙ z in
            absurd (omega (arith, n, (refused_reading b (node_room ns) (number_room ms) number place e).0))

  stored_filled : (t : Tree depth_limit) (b ns ms : List ℕ) (a : ReadAnswer) (ns' ms' : List ℕ) → tree_stored b (reading_of v (node_room ns) (number_room ms) b) ≡ some t → StoredRead v b ns ms a ns' ms' → Filled (stored_form v) (stored_entries v) t b a ns' ms'
  stored_filled t b ns ms a ns' ms' e r = go (reading_of v (node_room ns) (number_room ms) b) refl e
    where
      go : (o : Outcome) → reading_of v (node_room ns) (number_room ms) b ≡ o → tree_stored b o ≡ some t → Filled (stored_form v) (stored_entries v) t b a ns' ms'
      go (filled rs ss) is e =
          let k = its_tree b ns ms a ns' ms' r rs ss is in
          let same : k.tree ≡ t = one_some k.tree t (sym k.is ∙ e) in
          rw same at (its_filled b ns ms a ns' ms' r rs ss is)
      go (refused number place) is e = let z : ◌≡◌ {A = ℕ} 0 1 = cc in absurd (omega arith)

  stored_wrote : (text nodes numbers : List ℕ) (t : Tree depth_limit) (room : ℕ) (r : WriteAnswer) (out : List ℕ) → tree_of text nodes numbers ≡ some t → FitsStored v t → length (stored_bytes v t) ≤ room → StoredWrite v text nodes numbers room r out
      → (r ≡ wrote (length (stored_bytes v t))) × (out ≡ padded (stored_bytes v t) room)
  unfolding stored_of
  stored_wrote text nodes numbers t room r out is f h w =
      let e : stored_of v text nodes numbers ≡ output.bytes (stored_bytes v t) = ap (stored_tree v) is ∙ rw f.fits in
      let l = le-leb (length (stored_bytes v t)) room h in
      (w.answer ∙ ap (λ (x : Output). write_answer x room) e ∙ rw l, w.bytes ∙ ap (λ (x : Output). room_after x room) e ∙ rw l)

  stored_lawful : Lawful (stored_form v) (stored_entries v)
  stored_lawful = record { keeps = stored_keeps; told = λ n. refl; writes = stored_wrote; reads = stored_filled }

  pub stored_one_writing_of_trees : StoredOneWritingOfTrees v
  stored_one_writing_of_trees = (trees_equal (stored_form v) stored_keeps, trees_again (stored_form v) stored_keeps)

  pub stored_one_writing : StoredOneWriting v
  stored_one_writing = one_tree_one_writing (stored_form v) (stored_entries v) stored_lawful

  -- ---- a call of the writer that isn't refused
  module _ (text nodes numbers : List ℕ) (room : ℕ) (r : WriteAnswer) (out : List ℕ) (w : StoredWrite v text nodes numbers room r out) (z : r.number ≡ 0) where
    written_call : WriteCall (stored_form v) (stored_entries v) text nodes numbers r out
    written_call =
        let x = (stored_write_refuses text nodes numbers room r out w).accepted.0 z in
        let g = grown text nodes numbers x.0 in
        let s = store_tree text nodes numbers g.tree g.is in
        record {
          stored = record { tree = g.tree; is = g.is; fits = record { good = s.good; fits = rw (s.its_rows, s.its_texts) at x.1 } };
          room = room;
          enough = rw (s.its_rows, s.its_texts) at x.2;
          call = w;
        }

  pub stored_equal : StoredEqual v
  stored_equal text nodes numbers room r out text' nodes' numbers' room' r' out' w z w' z' =
      stored_one_writing.equal text nodes numbers r out text' nodes' numbers' r' out' (written_call text nodes numbers room r out w z) (written_call text' nodes' numbers' room' r' out' w' z')

  pub stored_reads_back : StoredReadsBack v
  stored_reads_back text nodes numbers room r out ns ms a ns' ms' w z hn hm call =
      let b = stored_one_writing.back text nodes numbers r out ns ms a ns' ms' (written_call text nodes numbers room r out w z) hn hm call in
      let k = accepted_call (stored_in r out) ns ms a ns' ms' call (ap (λ (x : ReadAnswer). x.number) b.answer) in
      let s = its_store (stored_in r out) ns ms a ns' ms' call k.its_rows k.its_spans k.is in
      record { back = b; inside = (is_tree (stored_in r out) (used_nodes a ns') (used_numbers a ms') _ s).well.numbers }

  -- ---- a call of the reader that isn't refused
  pub stored_again : StoredAgain v
  stored_again b ns ms a ns' ms' all call z room r out h w =
      let k = accepted_call b ns ms a ns' ms' call z in
      let t = its_tree b ns ms a ns' ms' call k.its_rows k.its_spans k.is in
      let s = its_store b ns ms a ns' ms' call k.its_rows k.its_spans k.is in
      let q = accepted_stored v known (node_room ns) (number_room ms) b all k.its_rows k.its_spans k.is in
      let f : FitsStored v t.tree = record { good = (store_tree b (used_nodes a ns') (used_numbers a ms') t.tree s).good; fits = q.fits } in
      let e : stored_bytes v t.tree ≡ b = sym q.stored in
      rw e at (stored_wrote b (used_nodes a ns') (used_numbers a ms') t.tree room r out s f (rw e h) w)

  pub stored_taken : StoredTaken v
  stored_taken b ns ms a ns' ms' call z =
      let k = accepted_call b ns ms a ns' ms' call z in
      let well = is_well_formed b (used_nodes a ns') (used_numbers a ms') _ (its_store b ns ms a ns' ms' call k.its_rows k.its_spans k.is) in
      record {
        well = well;
        writes = λ room r out w. not_22 well (write_answers b (used_nodes a ns') (used_numbers a ms') room r out w);
        checks = λ r w. not_ill well (strict_answers b (used_nodes a ns') (used_numbers a ms') r w);
        stores = λ room r out w e. false≢true (sym ((stored_write_refuses b (used_nodes a ns') (used_numbers a ms') room r out w).ill.0 e) ∙ well);
      }
    where
      not_22 : {text nodes numbers : List ℕ} {room : ℕ} {r : WriteAnswer} {out : List ℕ} → well_formed text nodes numbers ≡ true → Writing text nodes numbers room r out → r.number ≡ ill_formed_store → ⊥
      not_22 well (demand1.no_store e) n = false≢true (sym e ∙ well)
      not_22 well (demand1.too_long e l) n = omega (arith, n)
      not_22 well (demand1.fits e l) n = omega (arith, n)

      not_ill : {text nodes numbers : List ℕ} {r : StrictAnswer} → well_formed text nodes numbers ≡ true → Verdict text nodes numbers r → r.number ≡ ill_formed_store → ⊥
      not_ill well (demand1.ill_store e) n = false≢true (sym e ∙ well)
      not_ill well (demand1.passes e i h) n = omega (arith, n)
      not_ill well (demand1.fails before v after e i h l m) n = omega (arith, n)

  -- ---- what is written of a store and read back has its canonical text
  pub stored_same : (text nodes numbers : List ℕ) (room : ℕ) (r : WriteAnswer) (out : List ℕ) → StoredWrite v text nodes numbers room r out → r.number ≡ 0 →
      (ps qs : List ℕ) (c : ReadAnswer) (ps' qs' : List ℕ) → node_room nodes ≤ node_room ps → number_room numbers ≤ number_room qs → StoredRead v (stored_in r out) ps qs c ps' qs' → SameWriting text nodes numbers (stored_in r out) c ps' qs'
  stored_same text nodes numbers room r out w y ps qs c ps' qs' hn hm again =
      let b : List ℕ = stored_in r out in
      let g = grown text nodes numbers ((stored_write_refuses text nodes numbers room r out w).accepted.0 y).0 in
      let q = stored_reads_back text nodes numbers room r out ps qs c ps' qs' w y hn hm again in
      let n : c.number ≡ 0 = ap (λ (x : ReadAnswer). x.number) q.back.answer in
      let k = accepted_call b ps qs c ps' qs' again n in
      let s = its_store b ps qs c ps' qs' again k.its_rows k.its_spans k.is in
      let same = (same_store b (used_nodes c ps') (used_numbers c qs') text nodes numbers _ g.tree s g.is).1 (q.back.same_nodes, q.back.same_texts_law) in
      let e = same_text b (used_nodes c ps') (used_numbers c qs') text nodes numbers (s ∙ ap some same ∙ sym g.is) in
      record {
        accepted = n;
        canonical = written_same b (used_nodes c ps') (used_numbers c qs') text nodes numbers e;
        writes = λ room₁ r₁ out₁. ((λ x. rw e at x), λ x. rw e x);
      }

  -- ---- text, tree, stored bytes, tree, canonical text
  pub stored_round : StoredRound v
  stored_round text ns ms a ns' ms' call z room r out w y ps qs c ps' qs' hn hm again =
      stored_same text (used_nodes a ns') (used_numbers a ms') room r out w y ps qs c ps' qs' hn hm again

  pub stored_read_accepts : StoredReadAccepts v
  stored_read_accepts b ns ms a ns' ms' call z =
      let k = accepted_call b ns ms a ns' ms' call z in
      let l = left b ns ms a ns' ms' call k.its_rows k.its_spans k.is in
      let q = accepts v (node_room ns) (number_room ms) b k.its_rows k.its_spans k.is in
      record {
        place = ap (λ (x : ReadAnswer). x.place) l.answer;
        nodes = rw l.answer q.node_room_law;
        numbers = rw l.answer q.number_room_law;
        nodes_padded = l.nodes ∙ ap (λ (x : List ℕ). padded x (length ns)) (sym (its_nodes b ns ms a ns' ms' call k.its_rows k.its_spans k.is));
        numbers_padded = l.numbers ∙ ap (λ (x : List ℕ). padded x (length ms)) (sym (its_numbers b ns ms a ns' ms' call k.its_rows k.its_spans k.is));
      }

  -- ---- what the reader refuses
  pub stored_read_refuses : StoredReadRefuses v
  stored_read_refuses b ns ms a ns' ms' call h = go (reading_of v (node_room ns) (number_room ms) b) refl
    where
      go : (o : Outcome) → reading_of v (node_room ns) (number_room ms) b ≡ o → StoredRefusal v b ns ms a ns' ms'
      go (filled rs ss) e = let l : Leaves (filled rs ss) ns ms a ns' ms' = rw e at call in absurd (h (ap (λ (x : ReadAnswer). x.number) l.answer))
      go (refused number place) e =
          let l : Leaves (refused number place) ns ms a ns' ms' = rw e at call in
          record {
            fault = rw l.answer ((refused_exactly v b (node_room ns) (number_room ms) number place).0 e);
            no_nodes = ap (λ (x : ReadAnswer). x.nodes) l.answer;
            no_numbers = ap (λ (x : ReadAnswer). x.numbers) l.answer;
            nodes_zero = l.nodes ∙ all_zero (length ns);
            numbers_zero = l.numbers ∙ all_zero (length ms);
          }

  pub stored_read_exactly : StoredReadExactly v
  stored_read_exactly b ns ms a ns' ms' call number place h = (forth, back)
    where
      forth : (a.number ≡ number) × (a.place ≡ place) → Fault v b (node_room ns) (number_room ms) number place
      forth e =
          let f = (stored_read_refuses b ns ms a ns' ms' call (λ z. h (sym e.0 ∙ z))).fault in
          rw (e.0, e.1) at f

      back : Fault v b (node_room ns) (number_room ms) number place → (a.number ≡ number) × (a.place ≡ place)
      back f =
          let l : Leaves (refused number place) ns ms a ns' ms' = rw ((refused_exactly v b (node_room ns) (number_room ms) number place).1 f) at call in
          (ap (λ (x : ReadAnswer). x.number) l.answer, ap (λ (x : ReadAnswer). x.place) l.answer)
