-- Demand 1: the contracts of the entries leave no choice, and a refusal has a number of the table, its place, and zeros.
-- Assumes nothing.
use mathlib.Core.Path.{◌≡◌, refl, ap, sym, ◌∙◌}
use mathlib.Core.Bool.{Bool, true, false, cond, ◌||◌, ◌&&◌}
use mathlib.Core.Logic.{◌⊎◌, inl, inr}
use mathlib.Core.Option.{Option, none, some}
use mathlib.Core.List.{List, [], ◌∷◌, ◌++◌}
use Prim.Native.Nat.{ℕ, ◌+◌, ◌-◌, ◌≤◌, ◌<◌}
use native.Mathlib.Omega.{arith}
use lib.Dec.{eqb, leb}
use lib.ListN.{length}
use borrow.Author.Tests.{eqb-true, leb-true, leb-false}
use Rattle.limits.specs.Limits.{text_limit, over_limit, depth_limit}
use Rattle.scan.proofs.Bytes.{or_elim}
use Rattle.utf8.specs.Utf8.{is_utf8, first_ill}
use Rattle.token_stream.specs.Lex.{lex}
use Rattle.token_stream.specs.Stream.{Tok, Str, toks}
use Rattle.token.specs.declared.Found.{Found}
use Rattle.tokenizer.specs.declared.Held.{Held}
use Rattle.token.specs.declared.Refusal.{Refusal}
use Rattle.token.specs.Tokens.{read_at}
use Rattle.tokenizer.specs.Tokens.{take_held, hold, step, cursor_at}
use Rattle.token_stream.proofs.Stream.{take_head, take_tail, look_head, look_same}
use Rattle.lists.proofs.Cases.{either, or_left, or_right}
use Rattle.store.specs.Rows.{Row, node_room, number_room, zeros, padded}
use Rattle.store.proofs.Rows.{rows_length}
use Rattle.infer_type.specs.declared.Inferred.{Inferred}
use Rattle.infer_type.specs.Infer as infer
use Rattle.infer_type.specs.Answers.{Answer, long, ill, wide, neither, no_space, no_name, named_paren, named_empty}
use Rattle.infer_type.proofs.Answers.{inferred_is_one, infer_type_answers}
use Rattle.lists.specs.Lists.{All}
use Rattle.grammar.specs.Answers.{Passes, is_refusal, is_halt, Refused, Halted}
use Rattle.grammar.specs.Asks.{Ran, ran, run, answer_in}
use Rattle.grammar.specs.Grammar.{Out, out, Got, ok, refused, halt, refusal, root}
use Rattle.grammar.specs.Reading.{enough, reading}
use Rattle.grammar_laws.proofs.After.{accepted}
use Rattle.grammar_laws.proofs.Fuel.{reading_refusals, reading_halts, reading_kept}
use Rattle.store.specs.declared.ReadAnswer.{ReadAnswer}
use Rattle.wkt.specs.Leaves as read
use Rattle.wkt.specs.Leaves.{Leaves}
use Rattle.lists.specs.Options.{map_o}
use Rattle.nodes.specs.declared.Visit.{Visit}
use Rattle.nodes.specs.declared.Frame.{Frame}
use Rattle.nodes.specs.declared.Met.{Met}
use Rattle.nodes.specs.declared.Met.TheVariants as met
use Rattle.nodes.specs.Nodes.{no_kind, above, visit_of, numbers_of, is_leaf, is_allowed, may_open, frame_of, onward, is_spent, node_end, node_ends, still_open, follow, at_last, meets_node, meets_rows, meets}
use Rattle.shape.specs.Numbers.{are_numbers}
use Rattle.shape.specs.Store.{all_rows, are_whole, tree_of, well_formed, walk_of}
use Rattle.shape.proofs.Stores.{walk_of_law, well_by_walk}
use Rattle.refusals.specs.Refusals.{ill_formed_store, no_room}
use Rattle.tree.specs.Tree.{Tree}
use Rattle.canonical_text.specs.Canonical.{canonical_text}
use Rattle.strict.specs.declared.StrictAnswer.{StrictAnswer}
use Rattle.strict.specs.Strict.{of_walk, strict_of}
use Rattle.strict.specs.Outcome as outcome
use Rattle.strict.specs.Outcome.{Outcome}
use Rattle.strict.proofs.Outcome.{first_fault_law}
use Rattle.store.specs.declared.WriteAnswer.{WriteAnswer}
use Rattle.store.specs.Answers.{leaves_one, wrote, not_written, write_answer, room_after, writes_one}
use Rattle.to_wkt.specs.Canonical.{store_text, the_text, written_text}
use Rattle.to_wkt.specs.Write.{output_of}
use Rattle.demands.specs.Faults.{PlaceOf, over_limit_law, ill_formed, at_fault, AtFault, no_node, no_number, too_deep_law, bad_number_law, not_ascii, no_root_law, no_name_law, no_header_law, no_ending, not_opened_law, not_closed_law, no_x_law, no_y_law, no_z_law, no_m_law, no_child_law, stopped}
use Rattle.demands.specs.Demand1.{OneReading, OneWritten, RefusedReading, ReadRefuses, ReadPlaces, ReadAccepts, WriteRefuses, Writing, no_store, too_long, fits, WriteAnswers, OneChecked, Verdict, ill_store, passes, fails, StrictAnswers, OneInferred, TypeAnswers, is_type_refusal, TypeRefuses, OneTaken, OneLooked, TakesFirst, LooksOnly, ComesOut, ReadsBySteps, ReadTooLong, ReadIllFormed}
use Rattle.demands.specs.Steps.{Came, read_whole}
use Rattle.demands.proofs.Calls.{accepts, left, its_nodes, its_numbers}
use Rattle.demands.proofs.Steps.{Stopped, stopped_at, Faulty, faulty, GotIn}
use Rattle.demands.proofs.Faults.{text_faults}

pub one_reading : OneReading
one_reading text ns ms a ns' ms' c ns'' ms'' x y = leaves_one x y

pub one_written : OneWritten
one_written text nodes numbers room r r' bytes bytes' x y = writes_one x y

pub all_zero : (n : ℕ) → padded [] n ≡ zeros n
all_zero n = let z : n - 0 ≡ n = omega arith in ap zeros z

-- what a refusal's answer and zeros come to
refusal_leaves : (text ns ms : List ℕ) (a : ReadAnswer) (ns' ms' : List ℕ) (f : Refusal) → (is_refusal f.number || is_halt f.number) ≡ true → f.place ≤ length text → a ≡ read.answer_of (refused f) → ns' ≡ padded [] (length ns) → ms' ≡ padded [] (length ms) → RefusedReading text ns ms a ns' ms'
refusal_leaves text ns ms a ns' ms' f n p e en em =
    record {
      number = rw e n;
      place = rw e p;
      no_nodes = ap (λ (x : ReadAnswer). x.nodes) e;
      no_numbers = ap (λ (x : ReadAnswer). x.numbers) e;
      nodes_zero = en ∙ all_zero (length ns);
      numbers_zero = em ∙ all_zero (length ms);
    }

pub read_refuses : ReadRefuses
read_refuses text ns ms a ns' ms' r h = go (reading (node_room ns) (number_room ms) text) refl
  where
    go : (g : Got) → reading (node_room ns) (number_room ms) text ≡ g → RefusedReading text ns ms a ns' ms'
    go (ok (out rs ss)) e = let l : Leaves (ok (out rs ss)) ns ms a ns' ms' = rw e at r in absurd (h (ap (λ (x : ReadAnswer). x.number) l.answer))
    go (refused f) e =
        let l : Leaves (refused f) ns ms a ns' ms' = rw e at r in
        let u : Refused text f = reading_refusals (node_room ns) (number_room ms) text f e in
        refusal_leaves text ns ms a ns' ms' f (or_left (is_refusal f.number) (is_halt f.number) u.number) u.place l.answer l.nodes l.numbers
    go (halt f) e =
        let l : Leaves (halt f) ns ms a ns' ms' = rw e at r in
        let u : Halted text f = reading_halts (node_room ns) (number_room ms) text f e in
        refusal_leaves text ns ms a ns' ms' f (or_right (is_refusal f.number) (is_halt f.number) u.number) u.place l.answer l.nodes l.numbers

pub read_places_law : ReadPlaces
unfolding reading
read_places_law text ns ms a ns' ms' r h = go (over_limit (length text)) refl (is_utf8 text) refl r.answer
  where
    N : ℕ
    N = node_room ns

    M : ℕ
    M = number_room ms

    Say : Got → Type 0
    Say g = a ≡ read.answer_of g → PlaceOf N M text a.number a.place

    -- what the tokens are refused with
    met : (f : Refusal) (s : Str) → Passes text → Faulty N M (toks text 0) [] f s → a ≡ read.answer_of (refused f) → PlaceOf N M text a.number a.place
    met _ _ p (faulty q w v) e = rw e (at_fault p q w v)

    -- and stopped by
    ended : (f : Refusal) → Passes text → Stopped N M (toks text 0) f → a ≡ read.answer_of (refused f) → PlaceOf N M text a.number a.place
    ended _ p (stopped_at q w v) e = rw e (stopped p q w v)

    tokens : (x : Ran Got) → Passes text → GotIn N M (toks text 0) [] (Came N M (toks text 0) [] read_whole) x → Say (answer_in x)
    tokens (ran (ok (out rs ss)) s) p k e = absurd (h (ap (λ (x : ReadAnswer). x.number) e))
    tokens (ran (refused f) s) p k e = met f s p k.1 e
    tokens (ran (halt f) s) p k e = ended f p k e

    go : (b : Bool) → over_limit (length text) ≡ b → (c : Bool) → is_utf8 text ≡ c → Say (cond b (refused (refusal 1 text_limit)) (cond c (answer_in (run (root N M enough depth_limit) (lex 0 text))) (refused (refusal 2 (first_ill text)))))
    go true l c u e = rw e (over_limit_law l)
    go false l true u e = tokens (run (root N M enough depth_limit) (lex 0 text)) (record { short = l; utf8 = u }) (text_faults N M text l) e
    go false l false u e = rw e (ill_formed l u)

pub reads_by_steps : ReadsBySteps
unfolding reading
reads_by_steps text ns ms a ns' ms' r z =
    let o = accepts text ns ms a ns' ms' r z in
    let p = accepted (node_room ns) (number_room ms) text (out o.rows o.spans) o.is in
    let e : answer_in (run (root (node_room ns) (number_room ms) enough depth_limit) (lex 0 text)) ≡ ok (out o.rows o.spans) = rw (p.short, p.utf8) at o.is in
    let c = came (run (root (node_room ns) (number_room ms) enough depth_limit) (lex 0 text)) (out o.rows o.spans) (text_faults (node_room ns) (number_room ms) text p.short) e in
    (o.rows, o.spans, c.0, c.1, its_nodes text ns ms a ns' ms' o.rows o.spans r o.is, its_numbers text ns ms a ns' ms' o.rows o.spans r o.is)
  where
    came : (x : Ran Got) (o : Out) → GotIn (node_room ns) (number_room ms) (toks text 0) [] (Came (node_room ns) (number_room ms) (toks text 0) [] read_whole) x → answer_in x ≡ ok o
        → (s : Str) × Came (node_room ns) (number_room ms) (toks text 0) [] read_whole o s
    came (ran (ok o₁) s) o h e = let q : o₁ ≡ o = cc in (s, rw q at h)
    came (ran (refused f) s) o h e = let q : ◌≡◌ {A = ℕ} 0 1 = cc in absurd (omega (arith, q))
    came (ran (halt f) s) o h e = let q : ◌≡◌ {A = ℕ} 0 1 = cc in absurd (omega (arith, q))

-- ---- 1 and 2, exactly when
fault_number : {t : Tok} {e p : ℕ} → AtFault t e p → 3 ≤ e
fault_number no_node = omega arith
fault_number (no_number s) = omega arith
fault_number (too_deep_law s) = omega arith
fault_number (bad_number_law {r = r} s w) = or_elim (eqb r.number 28) (eqb r.number 29) (λ z. omega (arith, eqb-true r.number 28 z)) (λ z. omega (arith, eqb-true r.number 29 z)) w
fault_number (not_ascii s w) = omega arith
fault_number (no_root_law o) = omega arith
fault_number (no_name_law s i) = omega arith
fault_number (no_header_law l) = omega arith
fault_number (no_ending s i w) = omega arith
fault_number (not_opened_law o w) = omega arith
fault_number (not_closed_law o) = omega arith
fault_number (no_x_law o) = omega arith
fault_number (no_y_law o) = omega arith
fault_number (no_z_law o) = omega arith
fault_number (no_m_law o) = omega arith
fault_number (no_child_law o) = omega arith

why : (text : List ℕ) {N M e p : ℕ} → PlaceOf N M text e p → (e ≡ 1 → over_limit (length text) ≡ true) × (e ≡ 2 → (over_limit (length text) ≡ false) × (is_utf8 text ≡ false))
why text (over_limit_law l) = ((λ z. l), λ z. absurd (omega (arith, z)))
why text (ill_formed l u) = ((λ z. absurd (omega (arith, z))), λ z. (l, u))
why text (stopped p a f r) = ((λ z. absurd (omega (arith, fault_number f, z))), λ z. absurd (omega (arith, fault_number f, z)))
why text (at_fault p a f r) = ((λ z. absurd (omega (arith, fault_number f, z))), λ z. absurd (omega (arith, fault_number f, z)))

pub read_too_long : ReadTooLong
unfolding reading
read_too_long text ns ms a ns' ms' r = (
  (λ z. (why text (read_places_law text ns ms a ns' ms' r (λ y. omega (arith, y, z)))).0 z),
  λ l. (let e : a ≡ read.answer_of (refused (refusal 1 text_limit)) = rw l at r.answer in ap (λ (x : ReadAnswer). x.number) e),
)

pub read_ill_formed : ReadIllFormed
unfolding reading
read_ill_formed text ns ms a ns' ms' r = (
  (λ z. (why text (read_places_law text ns ms a ns' ms' r (λ y. omega (arith, y, z)))).1 z),
  λ l. (let e : a ≡ read.answer_of (refused (refusal 2 (first_ill text))) = rw (l.0, l.1) at r.answer in ap (λ (x : ReadAnswer). x.number) e),
)

pub write_refuses : WriteRefuses
write_refuses text nodes numbers room r bytes w h = go (store_text text nodes numbers) w.answer w.bytes
  where
    fits : (b : Bool) (n : ℕ) (l : List ℕ) → r ≡ cond b (wrote n) (not_written no_room) → bytes ≡ cond b l (zeros room) → ((r ≡ not_written ill_formed_store) ⊎ (r ≡ not_written no_room)) × (bytes ≡ zeros room)
    fits true n l e f = absurd (h (ap (λ (x : WriteAnswer). x.number) e))
    fits false n l e f = (inr e, f)

    go : (o : Option (List ℕ)) → r ≡ write_answer (output_of o) room → bytes ≡ room_after (output_of o) room → ((r ≡ not_written ill_formed_store) ⊎ (r ≡ not_written no_room)) × (bytes ≡ zeros room)
    go none e f = (inl e, f)
    go (some b) e f = fits (leb (length b) room) (length b) (padded b room) e f

pub read_accepts : ReadAccepts
read_accepts text ns ms a ns' ms' r z =
    let o = accepts text ns ms a ns' ms' r z in
    let l = left text ns ms a ns' ms' o.rows o.spans r o.is in
    let k = reading_kept (node_room ns) (number_room ms) text o.rows o.spans o.is in
    record {
      place = ap (λ (x : ReadAnswer). x.place) l.answer;
      nodes = rw l.answer k.nodes;
      numbers = rw l.answer k.numbers;
      nodes_padded = l.nodes ∙ ap (λ (x : List ℕ). padded x (length ns)) (sym (its_nodes text ns ms a ns' ms' o.rows o.spans r o.is));
      numbers_padded = l.numbers ∙ ap (λ (x : List ℕ). padded x (length ms)) (sym (its_numbers text ns ms a ns' ms' o.rows o.spans r o.is));
    }

pub write_answers : WriteAnswers
unfolding store_text well_formed written_text
write_answers text nodes numbers room r bytes w = go (tree_of text nodes numbers) refl w.answer w.bytes
  where
    its : Tree depth_limit → List ℕ
    its t = canonical_text t

    sized : (t : Tree depth_limit) → tree_of text nodes numbers ≡ some t → (b : Bool) → leb (length (its t)) room ≡ b
        → Writing text nodes numbers room (cond b (wrote (length (its t))) (not_written no_room)) (cond b (padded (its t) room) (zeros room))
    sized t e true l = rw (← ap (λ o. the_text (map_o canonical_text o)) e) (fits (rw e) (rw e (leb-true (length (its t)) room l)))
    sized t e false l = too_long (rw e) (rw e (leb-false (length (its t)) room l))

    go : (o : Option (Tree depth_limit)) → tree_of text nodes numbers ≡ o → r ≡ write_answer (output_of (map_o canonical_text o)) room → bytes ≡ room_after (output_of (map_o canonical_text o)) room → Writing text nodes numbers room r bytes
    go none e x y = rw (x, y) (no_store (rw e))
    go (some t) e x y = rw (x, y) (sized t e (leb (length (its t)) room) refl)

-- ---- the strict check
pub one_checked : OneChecked
one_checked text nodes numbers r r' x y = x ∙ sym y

module _ {X : Type 0} where
  abbrev Every : (X → Type 0) → Option (List X) → Type 0
  Every Q none = Unit {0}
  Every Q (some xs) = All Q xs

-- the nodes that a walk meets stand in its rows
module _ (L : ℕ) where
  abbrev Below : Met → Type 0
  Below (met.Node v) = v.row < L
  Below (met.End i n) = Unit {0}
  Below met.Done = Unit {0}
  Below met.Ill = Unit {0}

  both_below : (a b : List Met) → All Below a → All Below b → All Below (a ++ b)
  unfolding All
  both_below [] b h k = k
  both_below (m ∷ a) b h k = (h.0, both_below a b h.1 k)

  follow_below : (ms : List Met) (o : Option (List Met)) → All Below ms → Every Below o → Every Below (follow ms o)
  follow_below ms none b h = tt
  follow_below ms (some more) b h = both_below ms more b h

  end_below : (f : Frame) (i : ℕ) → All Below (node_end f i)
  unfolding node_end All
  end_below f i = either (eqb f.kind no_kind) (All Below) _ _ (λ e. tt) λ e. (tt, tt)

  endings_below : (fs : List Frame) (i : ℕ) → All Below (node_ends fs i)
  unfolding node_ends All
  endings_below [] i = tt
  endings_below (f ∷ fs) i = either (is_spent f) (All Below) _ _ (λ e. both_below (node_end f i) (node_ends fs i) (end_below f i) (endings_below fs i)) λ e. tt

  one_below : (count : ℕ) (f : Frame) (fs : List Frame) (v : Visit) (rest : List Frame → ℕ → Option (List Met)) → v.row < L → ((gs : List Frame) (j : ℕ) → Every Below (rest gs j)) → Every Below (meets_node count f fs v rest)
  unfolding meets_node All
  one_below count f fs v rest b h =
      let node : All Below (met.Node v ∷ []) = (b, tt) in
      either (is_allowed v) (Every Below) _ _
      (λ a. either (is_leaf v) (Every Below) _ _
      (λ l. either (leb (v.number + numbers_of v) count) (Every Below) _ _ (λ e. follow_below (met.Node v ∷ []) (rest (onward f ∷ fs) (v.number + numbers_of v)) node (h _ _)) λ e. tt)
      λ l. either (may_open v) (Every Below) _ _ (λ e. follow_below (met.Node v ∷ []) (rest (frame_of v ∷ onward f ∷ fs) v.number) node (h _ _)) λ e. tt)
      λ a. tt

  last_below : (count : ℕ) (fs : List Frame) (j : ℕ) → Every Below (at_last count fs j)
  unfolding at_last All
  last_below count [] j = either (eqb j count) (Every Below) _ _ (λ e. tt) λ e. tt
  last_below count (f ∷ fs) j = tt

  rows_below : (count : ℕ) (fs : List Frame) (i j : ℕ) (rs : List Row) → i + length rs ≤ L → Every Below (meets_rows count fs i j rs)
  unfolding meets_rows
  rows_below count fs i j [] h = last_below count fs j
  rows_below count [] i j (r ∷ rs) h = tt
  rows_below count (f ∷ fs) i j (r ∷ rs) h =
      one_below count f fs (visit_of i j f r) _ (omega arith)
      λ gs j'. follow_below (node_ends gs (i + 1)) (meets_rows count (still_open gs) (i + 1) j' rs) (endings_below gs (i + 1)) (rows_below count (still_open gs) (i + 1) j' rs (omega arith))

store_below : (text nodes numbers : List ℕ) → Every (Below (node_room nodes)) (walk_of text nodes numbers)
unfolding meets
store_below text nodes numbers =
    rw (walk_of_law text nodes numbers)
    (either (are_whole nodes numbers && are_numbers text numbers) (Every (Below (node_room nodes))) _ _
    (λ e. follow_below (node_room nodes) (node_ends (above ∷ []) 0) (meets_rows (number_room numbers) (still_open (above ∷ [])) 0 0 (all_rows nodes)) (endings_below (node_room nodes) (above ∷ []) 0)
    (rows_below (node_room nodes) (number_room numbers) (still_open (above ∷ [])) 0 0 (all_rows nodes) (omega (arith, rows_length nodes (node_room nodes))))) λ e. tt)

-- a node in the midst of those that are met
in_midst : (L : ℕ) (v : Visit) (before after : List Met) → All (Below L) (before ++ met.Node v ∷ after) → v.row < L
unfolding All
in_midst L v [] after h = h.0
in_midst L v (m ∷ before) after h = in_midst L v before after h.1

pub strict_answers : StrictAnswers
unfolding strict_of
strict_answers text nodes numbers r e = rw e (go (walk_of text nodes numbers) refl (store_below text nodes numbers))
  where
    judged : (ms : List Met) {r : StrictAnswer} → walk_of text nodes numbers ≡ some ms → well_formed text nodes numbers ≡ true → All (Below (node_room nodes)) ms → Outcome text numbers ms r → Verdict text nodes numbers r
    judged ms e w h (outcome.passes all) = passes w e all
    judged ms e w h (outcome.fails before v after is all low) = fails before v after w (e ∙ ap some is) all low (in_midst (node_room nodes) v before after (rw is at h))

    go : (o : Option (List Met)) → walk_of text nodes numbers ≡ o → Every (Below (node_room nodes)) o → Verdict text nodes numbers (of_walk text numbers o)
    go none e h = ill_store (well_by_walk text nodes numbers ∙ rw e)
    go (some ms) e h = judged ms e (well_by_walk text nodes numbers ∙ rw e) h (first_fault_law text numbers ms)

-- ---- infer_type
pub one_inferred : OneInferred
one_inferred text r r' x y = inferred_is_one text r r' x y

pub type_answers : TypeAnswers
type_answers text r e = rw e (infer_type_answers text)

pub type_refuses : TypeRefuses
type_refuses text r e h = go (type_answers text r e) h
  where
    go : {a : Inferred} → Answer text a → (a.number ≡ 0 → ⊥) → (is_type_refusal a.number ≡ true) × (a ≡ infer.refused a.number a.place)
    go (named_paren k p f w) n = absurd (n refl)
    go (named_empty k p s f w) n = absurd (n refl)
    go (long x) n = (refl, refl)
    go (ill x u) n = (refl, refl)
    go (wide x u s w) n = (refl, refl)
    go (no_name k p f) n = (refl, refl)
    go (no_space k p f g) n = (refl, refl)
    go (neither k p f) n = (refl, refl)

-- ---- the token reader's steps
pub one_taken : OneTaken
one_taken text c r r' x y = x ∙ sym y

pub one_looked : OneLooked
one_looked text c r r' x y = x ∙ sym y

pub takes_first : TakesFirst
takes_first text c r e = rw e (sym (take_head text c), sym (take_tail text c))

pub looks_only : LooksOnly
looks_only text c r e = rw e (sym (look_head text c), sym (look_same text c))

pub comes_out : ComesOut
unfolding take_held
comes_out text c r r' x y = y ∙ rw x (go c.at c.held)
  where
    again : (i : ℕ) (f : Found) → take_held text i (hold f) ≡ step f (cursor_at i)
    again i (Found.NoToken p) = refl
    again i (Found.BadNumber p) = refl
    again i (Found.Is p t) = refl

    go : (i : ℕ) (h : Held) → take_held text (take_held text i h).next.at (hold (take_held text i h).found) ≡ take_held text i h
    go i Held.Nothing = again (read_at text i).at (read_at text i).found
    go i (Held.NoToken p) = refl
    go i (Held.BadNumber p) = refl
    go i (Held.Is p t) = refl
