-- What a move comes to, by what its reading and its writing came to.
-- Assumes nothing.
use mathlib.Core.Path.{◌≡◌, refl, ap, sym, ◌∙◌}
use mathlib.Core.Bool.{Bool, true, false, cond}
use mathlib.Core.Option.{Option, none, some}
use mathlib.Core.List.{List, []}
use Prim.Native.Nat.{ℕ, ◌-◌, ◌*◌, ◌/◌, ◌≤◌}
use native.Mathlib.Omega.{arith}
use lib.Dec.{leb}
use lib.ListN.{length, take, length-append, length-replicate}
use borrow.Author.Tests.{le-leb}
use Rattle.limits.specs.Limits.{depth_limit}
use Rattle.lists.specs.Lists.{All}
use Rattle.store.specs.declared.ReadAnswer.{ReadAnswer}
use Rattle.store.specs.declared.WriteAnswer.{WriteAnswer}
use Rattle.store.specs.Rows.{Row, Span, node_width, number_width, node_room, number_room, places_of, flat_rows, flat_spans, zeros, padded, cleared}
use Rattle.store.specs.Answers.{Outcome, filled, Output, bytes, refusal, Leaves, write_answer, room_after, Writes}
use Rattle.store.specs.Answers as outcome
use Rattle.store.proofs.Rows.{rows_wide}
use Rattle.store.proofs.Zeros.{cleared_all}
use Rattle.tree.specs.Tree.{Tree}
use Rattle.shape.specs.Store.{tree_of}
use Rattle.shape.proofs.Stores.{store_tree}
use Rattle.shape.proofs.Slices.{spans_wide, used_rows_law, used_spans_law}
use Rattle.fields.specs.Counts.{IsByte}
use Rattle.stored_form.specs.declared.Version.{Version}
use Rattle.stored_form.specs.Form.{Known, stored_bytes, fits_tree, stored_tree, stored_of}
use Rattle.stored_form.specs.Reading.{reading_of}
use Rattle.stored_reading.proofs.Accepts.{accepts, refused_number}
use Rattle.stored_reading.proofs.Accepted.{accepted_tree, accepted_stored}
use Rattle.stored_moves.specs.declared.MoveAnswer.{MoveAnswer}
use Rattle.stored_moves.specs.Moving.{Moving, moved, refused, after_writing, moving_of, move_answer, Moves}
use Rattle.stored_moves.proofs.Comes.{after_reading_law, after_writing_law}
use Rattle.stored_writing.specs.Writing.{StoredIn}

-- ---- small things
nothing_left_law : (room : ℕ) → zeros room ≡ padded [] room
nothing_left_law room = let z : room - 0 ≡ room = omega arith in ap zeros (sym z)

padded_length : (l : List ℕ) (n : ℕ) → length l ≤ n → length (padded l n) ≡ n
padded_length l n h = length-append l (zeros (n - length l)) ∙ omega (arith, length-replicate {A = ℕ} (n - length l) 0)

places_of_law : (w : ℕ) (s : List ℕ) (n : ℕ) → n ≤ length s / w → places_of w s n ≡ n * w
unfolding places_of
places_of_law w s n h = rw (le-leb n (length s / w) h)

-- a refusal's number is none of an accepted writing
written_number : (w : Version) (o : Option (Tree depth_limit)) (number : ℕ) → stored_tree w o ≡ refusal number → 1 ≤ number
written_number w none number e = let z : 22 ≡ number = cc in omega arith
written_number w (some t) number e = go (fits_tree w t) e
  where
    go : (f : Bool) → cond f (bytes (stored_bytes w t)) (refusal 27) ≡ refusal number → 1 ≤ number
    go true e = let z : ◌≡◌ {A = ℕ} 0 1 = cc in absurd (omega arith)
    go false e = let z : 27 ≡ number = cc in omega arith

refusal_number : (w : Version) (text nodes numbers : List ℕ) (number : ℕ) → stored_of w text nodes numbers ≡ refusal number → 1 ≤ number
unfolding stored_of
refusal_number w text nodes numbers number e = written_number w (tree_of text nodes numbers) number e

moves_as : {m m' : Moving} {ns ms : List ℕ} {room : ℕ} {a : MoveAnswer} {ns' ms' out : List ℕ} → m ≡ m' → Moves m' ns ms room a ns' ms' out → Moves m ns ms room a ns' ms' out
moves_as e h = rw e h

module _ (v w : Version) (source ns ms : List ℕ) (a : ReadAnswer) (ns' ms' : List ℕ) (read : Leaves (reading_of v (node_room ns) (number_room ms) source) ns ms a ns' ms') where
  abbrev comes : ℕ → Moving
  comes room = moving_of v w (node_room ns) (number_room ms) room source

  -- ---- "the reading side's first"
  pub unread : (a.number ≡ 0 → ⊥) → {room : ℕ} {m : MoveAnswer} {out : List ℕ} → m ≡ move_answer (refused a.number a.place) → out ≡ padded [] room → Moves (comes room) ns ms room m ns' ms' out
  unread h {room} {m} {out} em eo = go (reading_of v (node_room ns) (number_room ms) source) refl
    where
      go : (o : Outcome) → reading_of v (node_room ns) (number_room ms) source ≡ o → Moves (comes room) ns ms room m ns' ms' out
      go (filled rs ss) e = let l : Leaves (filled rs ss) ns ms a ns' ms' = rw e at read in absurd (h (ap (λ (x : ReadAnswer). x.number) l.answer))
      go (outcome.refused number place) e =
          let l : Leaves (outcome.refused number place) ns ms a ns' ms' = rw e at read in
          moves_as (after_reading_law v w (node_room ns) (number_room ms) room source e) (record { answer = rw l.answer at em; nodes = l.nodes; numbers = l.numbers; output = eo })

  -- ---- what was read
  record Its : Type 0 where
    rows : List Row
    spans : List Span
    is : reading_of v (node_room ns) (number_room ms) source ≡ filled rows spans
    left : Leaves (filled rows spans) ns ms a ns' ms'

  module _ (z : a.number ≡ 0) where
    its : Its
    its = go (reading_of v (node_room ns) (number_room ms) source) refl
      where
        go : (o : Outcome) → reading_of v (node_room ns) (number_room ms) source ≡ o → Its
        go (filled rs ss) e = record { rows = rs; spans = ss; is = e; left = rw e at read }
        go (outcome.refused number place) e =
            let l : Leaves (outcome.refused number place) ns ms a ns' ms' = rw e at read in
            let n : number ≡ 0 = sym (ap (λ (x : ReadAnswer). x.number) l.answer) ∙ z in
            absurd (omega (arith, n, refused_number v (node_room ns) (number_room ms) source number place e))

    few_rows : length its.rows ≤ node_room ns
    few_rows = (accepts v (node_room ns) (number_room ms) source its.rows its.spans its.is).node_room_law

    few_spans : length its.spans ≤ number_room ms
    few_spans = (accepts v (node_room ns) (number_room ms) source its.rows its.spans its.is).number_room_law

    node_slice : length ns' ≡ length ns
    node_slice = ap length its.left.nodes ∙ padded_length (flat_rows its.rows) (length ns) (omega (arith, rows_wide its.rows, few_rows))

    number_slice : length ms' ≡ length ms
    number_slice = ap length its.left.numbers ∙ padded_length (flat_spans its.spans) (length ms) (omega (arith, spans_wide its.spans, few_spans))

    nodes_are : take (places_of node_width ns' a.nodes) ns' ≡ flat_rows its.rows
    nodes_are =
        let n : a.nodes ≡ length its.rows = ap (λ (x : ReadAnswer). x.nodes) its.left.answer in
        ap (λ (k : ℕ). take (places_of node_width ns' k) ns') n ∙ ap (λ (k : ℕ). take k ns') (places_of_law node_width ns' (length its.rows) (omega (arith, node_slice, few_rows)))
        ∙ ap (take (length its.rows * node_width)) its.left.nodes ∙ used_rows_law its.rows (length ns)

    numbers_are : take (places_of number_width ms' a.numbers) ms' ≡ flat_spans its.spans
    numbers_are =
        let n : a.numbers ≡ length its.spans = ap (λ (x : ReadAnswer). x.numbers) its.left.answer in
        ap (λ (k : ℕ). take (places_of number_width ms' k) ms') n ∙ ap (λ (k : ℕ). take k ms') (places_of_law number_width ms' (length its.spans) (omega (arith, number_slice, few_spans)))
        ∙ ap (take (length its.spans * number_width)) its.left.numbers ∙ used_spans_law its.spans (length ms)

    -- ---- the used rows of both slices, by how many places they take
    module _ {p q : ℕ} (ep : p ≡ places_of node_width ns' a.nodes) (eq : q ≡ places_of number_width ms' a.numbers) where
      abbrev used_nodes : List ℕ
      used_nodes = take (p - 0) ns'

      abbrev used_numbers : List ℕ
      used_numbers = take (q - 0) ms'

      used_nodes_law : used_nodes ≡ flat_rows its.rows
      used_nodes_law = let z : p - 0 ≡ p = omega arith in ap (λ (k : ℕ). take k ns') (z ∙ ep) ∙ nodes_are

      used_numbers_law : used_numbers ≡ flat_spans its.spans
      used_numbers_law = let z : q - 0 ≡ q = omega arith in ap (λ (k : ℕ). take k ms') (z ∙ eq) ∙ numbers_are

      -- the source is their stored bytes, so that they need no check and their texts fit
      pub store_stored : Known v → All IsByte source → StoredIn v source used_nodes used_numbers
      store_stored known all =
          let a = accepts v (node_room ns) (number_room ms) source its.rows its.spans its.is in
          let u = accepted_tree v (node_room ns) (number_room ms) source its.rows its.spans its.is in
          let q = accepted_stored v known (node_room ns) (number_room ms) source all its.rows its.spans its.is in
          let st = store_tree source (flat_rows its.rows) (flat_spans its.spans) u.tree u.is in
          rw (used_nodes_law, used_numbers_law) (record { well = a.well; stored = rw (st.its_rows, st.its_texts) q.stored; fits = rw (st.its_rows, st.its_texts) q.fits })

      -- ---- what was written of it
      module _ {room : ℕ} {r : WriteAnswer} {out : List ℕ} (write : Writes (stored_of w source used_nodes used_numbers) room r out) where
        abbrev output : Output
        output = stored_of w source (flat_rows its.rows) (flat_spans its.spans)

        wrote : Writes output room r out
        wrote = rw (used_nodes_law, used_numbers_law) at write

        by : {o : Output} → output ≡ o → (comes room ≡ after_writing room its.rows its.spans o) × (r ≡ write_answer o room) × (out ≡ room_after o room)
        by e = (
          after_writing_law v w (node_room ns) (number_room ms) room source its.rows its.spans its.is e,
          wrote.answer ∙ ap (λ (x : Output). write_answer x room) e,
          wrote.bytes ∙ ap (λ (x : Output). room_after x room) e,
        )

        cleared_nodes : cleared ns' 0 ≡ padded [] (length ns)
        cleared_nodes = cleared_all ns' ∙ ap (padded []) node_slice

        cleared_numbers : cleared ms' 0 ≡ padded [] (length ms)
        cleared_numbers = cleared_all ms' ∙ ap (padded []) number_slice

        -- "then 27, then 23": the store is zero too
        pub unwritten : (r.number ≡ 0 → ⊥) → {m : MoveAnswer} → m ≡ move_answer (refused r.number r.place) → Moves (comes room) ns ms room m (cleared ns' 0) (cleared ms' 0) out
        unwritten h {m} em = go output refl
          where
            refusing : (number : ℕ) → comes room ≡ refused number 0 → r.number ≡ number → r.place ≡ 0 → out ≡ zeros room → Moves (comes room) ns ms room m (cleared ns' 0) (cleared ms' 0) out
            refusing number e en ep eo = moves_as e (record { answer = rw (en, ep) at em; nodes = cleared_nodes; numbers = cleared_numbers; output = eo ∙ nothing_left_law room })

            by_room : (b : List ℕ) → output ≡ bytes b → (f : Bool) → leb (length b) room ≡ f → Moves (comes room) ns ms room m (cleared ns' 0) (cleared ms' 0) out
            by_room b e true l = let u = by e in let x : r ≡ outcome.wrote (length b) = u.1 ∙ rw l in absurd (h (ap (λ (y : WriteAnswer). y.number) x))
            by_room b e false l = let u = by e in let x : r ≡ outcome.not_written 23 = u.1 ∙ rw l in refusing 23 (u.0 ∙ rw l) (ap (λ (y : WriteAnswer). y.number) x) (ap (λ (y : WriteAnswer). y.place) x) (u.2 ∙ rw l)

            go : (o : Output) → output ≡ o → Moves (comes room) ns ms room m (cleared ns' 0) (cleared ms' 0) out
            go (refusal number) e = let u = by e in refusing number u.0 (ap (λ (y : WriteAnswer). y.number) u.1) (ap (λ (y : WriteAnswer). y.place) u.1) u.2
            go (bytes b) e = by_room b e (leb (length b) room) refl

        -- the store is left as the reader leaves it
        abbrev answered : MoveAnswer
        answered = record { number = 0; place = 0; length = r.length; nodes = a.nodes; numbers = a.numbers }

        answers : (n : ℕ) → r.length ≡ n → answered ≡ record { number = 0; place = 0; length = n; nodes = length its.rows; numbers = length its.spans }
        answers n e =
            ap (λ (k : ℕ). record { number = 0; place = 0; length = k; nodes = a.nodes; numbers = a.numbers }) e
            ∙ ap (λ (x : ReadAnswer). record { number = 0; place = 0; length = n; nodes = x.nodes; numbers = x.numbers }) its.left.answer

        pub written : r.number ≡ 0 → Moves (comes room) ns ms room answered ns' ms' out
        written n = go output refl
          where
            by_room : (b : List ℕ) → output ≡ bytes b → (f : Bool) → leb (length b) room ≡ f → Moves (comes room) ns ms room answered ns' ms' out
            by_room b e true l =
                let u = by e in
                let y : r ≡ outcome.wrote (length b) = u.1 ∙ rw l in
                let x : r.length ≡ length b = ap (λ (q : WriteAnswer). q.length) y in
                let e' : comes room ≡ moved its.rows its.spans b = u.0 ∙ rw l in
                moves_as e' (record { answer = answers (length b) x; nodes = its.left.nodes; numbers = its.left.numbers; output = u.2 ∙ rw l })
            by_room b e false l = let u = by e in let x : r ≡ outcome.not_written 23 = u.1 ∙ rw l in absurd (omega (arith, ap (λ (y : WriteAnswer). y.number) x, n))

            go : (o : Output) → output ≡ o → Moves (comes room) ns ms room answered ns' ms' out
            go (refusal number) e = let u = by e in let x : r.number ≡ number = ap (λ (y : WriteAnswer). y.number) u.1 in absurd (omega (arith, x, n, refusal_number w source (flat_rows its.rows) (flat_spans its.spans) number e))
            go (bytes b) e = by_room b e (leb (length b) room) refl
