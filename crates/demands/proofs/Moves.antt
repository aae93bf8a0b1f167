-- Request 2026-06 over calls, of a move from any version to any other: left as the reader leaves it, all zero on a refusal, each refusal exactly when; up and back gives the first bytes,
-- and what is moved reads to the same tree. Then the two moves that there are.
-- Assumes nothing.
use mathlib.Core.Path.{◌≡◌, refl, ap, ap₂, sym, ◌∙◌}
use mathlib.Core.Bool.{Bool, true, false, false≢true, ◌&&◌}
use mathlib.Core.List.{List, [], ◌∷◌, ◌++◌}
use Prim.Native.Nat.{ℕ, ◌+◌, ◌≤◌, ◌<◌}
use native.Mathlib.Decide.{dec_lt}
use native.Mathlib.Nat.{mul-le-mul_right}
use native.Mathlib.Omega.{arith}
use lib.Dec.{leb}
use lib.ListN.{length, take, length-map}
use lib.Seq.{take_at}
use borrow.Author.Tests.{le-leb, leb-true, leb-false}
use Rattle.limits.specs.Limits.{depth_limit}
use Rattle.lists.specs.Lists.{every, All}
use Rattle.lists.proofs.Lists.{every_head, every_tail, every_weaker}
use Rattle.store.specs.declared.ReadAnswer.{ReadAnswer}
use Rattle.store.specs.Rows.{Row, Span, node_room, number_room, flat_rows, flat_spans, padded}
use Rattle.store.proofs.Rows.{rows_length}
use Rattle.store.specs.Answers.{filled, bytes, Leaves, Writes, wrote}
use Rattle.store.specs.Answers as outcome
use Rattle.tree.specs.Tree.{Tree, GoodTree, rows, texts}
use Rattle.tree.specs.TreeIn.{span_text}
use Rattle.shape.specs.Store.{all_rows, all_texts, tree_of}
use Rattle.shape.proofs.Stores.{texts_count, StoreTree, store_tree}
use Rattle.shape.proofs.Slices.{node_count_law, text_count}
use Rattle.fields.specs.Counts.{IsByte}
use Rattle.fields.specs.Fields.{head_length, longest}
use Rattle.stored_form.specs.declared.Version.{Version}
use Rattle.stored_form.specs.declared.Edition.TheVariants.{First, Second}
use Rattle.stored_form.specs.Form.{version1, version2, Known, node_size, node_place, stored_bytes, fits_tree, stored_of}
use Rattle.stored_form.specs.Reading.{reading_of}
use Rattle.stored_form.proofs.Known.{known_of}
use Rattle.stored_form.proofs.Fits.{FitsEach, fits_each, each_fits}
use Rattle.stored_moves.specs.declared.MoveAnswer.{MoveAnswer}
use Rattle.stored_moves.specs.Moving.{Moving, moved, refused, moving_of, move_answer, Moves, moves_one}
use Rattle.stored_reading.proofs.Accepted.{accepted_tree, accepted_stored}
use Rattle.stored.proofs.Back.{stored_back}
use Rattle.stored.proofs.Moves.{versions_length, of_tree, Comes, unread, unfit, roomless, moves, comes, tree_moves}
use Rattle.demands.specs.Calls.{used_nodes, used_numbers}
use Rattle.demands.specs.Stored.{StoredRead, StoredWrite, store_fits, store_bytes}
use Rattle.demands.specs.Moves.{moved_in, as_read, Unfit, many_nodes, many_numbers, many_parts, too_long, Wider, Move, OneMove, ReadAndWritten, LeftAsRead, AllZero, RefusedAllZero, MoveExactly, MoveRefuses, UnfitExactly, ShortTexts, MovedLength, AcceptsAllRead, ThereAndBack, ReadsTheSame, MovesWell, UpAcceptsAllRead, UpIsLonger, BackIsShorter}
use Rattle.demands.proofs.Demand1.{all_zero}
use Rattle.demands.proofs.Versions.{every_inside}
use Rattle.demands.proofs.Stored.{refused_reading, left, its_store, accepted_call, stored_reads_back, stored_same}

-- ---- lists of which all passes, and of which not all does
every_all : {A : Type 0} (p : A → Bool) (P : A → Type 0) → ((x : A) → p x ≡ true → P x) → (xs : List A) → every p xs ≡ true → All P xs
unfolding All
every_all p P f [] h = tt
every_all p P f (x ∷ xs) h = (f x (every_head p x xs h), every_all p P f xs (every_tail p x xs h))

record OneFails {A : Type 0} (p : A → Bool) (xs : List A) : Type 0 where
  before : List A
  one : A
  after : List A
  is : xs ≡ before ++ (one ∷ after)
  fails : p one ≡ false

not_every : {A : Type 0} (p : A → Bool) (xs : List A) → every p xs ≡ false → OneFails p xs
unfolding every
not_every p [] h = absurd (false≢true (sym h))
not_every p (x ∷ xs) h = go (not_every p xs) (p x) refl h
  where
    go : (every p xs ≡ false → OneFails p xs) → (a : Bool) → p x ≡ a → (a && every p xs) ≡ false → OneFails p (x ∷ xs)
    go rest false ea e = record { before = []; one = x; after = xs; is = refl; fails = ea }
    go rest true ea e = let r = rest e in record { before = x ∷ r.before; one = r.one; after = r.after; is = ap (λ (l : List _). x ∷ l) r.is; fails = r.fails }

-- ---- where something of a store doesn't fit, if it isn't a text
module _ (w : Version) (text nodes numbers : List ℕ) where
  row_count : length (all_rows nodes) ≡ node_room nodes
  row_count = rows_length nodes (node_room nodes)

  number_count_law : length (all_texts text numbers) ≡ number_room numbers
  number_count_law = texts_count text numbers

  unfit_where : every (λ (x : List ℕ). leb (length x) longest) (all_texts text numbers) ≡ true → store_fits w text nodes numbers ≡ false → Unfit w text nodes numbers
  unfit_where short f = go (dec_lt w.largest (node_room nodes)) (dec_lt w.largest (number_room numbers)) (every (λ (r : Row). leb r.parts w.largest) (all_rows nodes)) refl (dec_lt w.limit (length (store_bytes w text nodes numbers)))
    where
      go : Dec (w.largest < node_room nodes) → Dec (w.largest < number_room numbers) → (p : Bool) → every (λ (r : Row). leb r.parts w.largest) (all_rows nodes) ≡ p → Dec (w.limit < length (store_bytes w text nodes numbers)) → Unfit w text nodes numbers
      go (yes h) m p ep l = many_nodes h
      go (no h) (yes m) p ep l = many_numbers m
      go (no h) (no m) false ep l = let r = not_every (λ (r : Row). leb r.parts w.largest) (all_rows nodes) ep in many_parts r.before r.one r.after r.is (leb-false r.one.parts w.largest r.fails)
      go (no h) (no m) true ep (yes l) = too_long l
      go (no h) (no m) true ep (no l) =
          let each : FitsEach w (all_rows nodes) (all_texts text numbers) = record { nodes = omega (arith, row_count, h); numbers = omega (arith, number_count_law, m); parts = ep; texts = short; all = omega (arith, l) } in
          absurd (false≢true (sym f ∙ each_fits w (all_rows nodes) (all_texts text numbers) each))

  unfit_not : Unfit w text nodes numbers → store_fits w text nodes numbers ≡ true → ⊥
  unfit_not u f = go u (fits_each w (all_rows nodes) (all_texts text numbers) f)
    where
      go : Unfit w text nodes numbers → FitsEach w (all_rows nodes) (all_texts text numbers) → ⊥
      go (many_nodes h) e = omega (arith, h, row_count, e.nodes)
      go (many_numbers h) e = omega (arith, h, number_count_law, e.numbers)
      go (many_parts before r after i h) e = omega (arith, h, leb-true r.parts w.largest (every_inside (λ (x : Row). leb x.parts w.largest) before r after (rw i at e.parts)))
      go (too_long h) e = omega (arith, h, e.all)

  unfit_false : Unfit w text nodes numbers → store_fits w text nodes numbers ≡ false
  unfit_false u = go (store_fits w text nodes numbers) refl
    where
      go : (b : Bool) → store_fits w text nodes numbers ≡ b → b ≡ false
      go false e = refl
      go true e = absurd (unfit_not u e)

-- ---- what a call of the reader says of the tree that it was accepted for, in any version w
module _ (v : Version) (known : Known v) (w : Version) (b ns ms : List ℕ) (c : ReadAnswer) (ns' ms' : List ℕ) (call : StoredRead v b ns ms c ns' ms') (rs : List Row) (ss : List Span) (is : reading_of v (node_room ns) (number_room ms) b ≡ filled rs ss) where
  abbrev tree : Tree depth_limit
  tree = (accepted_tree v (node_room ns) (number_room ms) b rs ss is).tree

  is_store : tree_of b (used_nodes c ns') (used_numbers c ms') ≡ mathlib.Core.Option.some tree
  is_store = its_store v known b ns ms c ns' ms' call rs ss is

  store_of : StoreTree b (used_nodes c ns') (used_numbers c ms') tree
  store_of = store_tree b (used_nodes c ns') (used_numbers c ms') tree is_store

  fits_is : store_fits w b (used_nodes c ns') (used_numbers c ms') ≡ fits_tree w tree
  fits_is = rw (store_of.its_rows, store_of.its_texts)

  bytes_are : store_bytes w b (used_nodes c ns') (used_numbers c ms') ≡ stored_bytes w tree
  bytes_are = rw (store_of.its_rows, store_of.its_texts)

  accepted_number : c.number ≡ 0
  accepted_number = ap (λ (x : ReadAnswer). x.number) (left v known b ns ms c ns' ms' call rs ss is).answer

module _ (v w : Version) (known_v : Known v) (known_w : Known w) where
  pub one_move : OneMove v w
  one_move source ns ms room a ns' ms' out a' ns'' ms'' out' x y = moves_one x y

  module _ (source ns ms : List ℕ) (room : ℕ) (a : MoveAnswer) (ns' ms' out : List ℕ) (call : Move v w source ns ms room a ns' ms' out) where
    abbrev N : ℕ
    N = node_room ns

    abbrev M : ℕ
    M = number_room ms

    abbrev comes_to : Moving
    comes_to = moving_of v w N M room source

    -- what a call that comes to m answers and leaves
    by : {m : Moving} → comes_to ≡ m → Moves m ns ms room a ns' ms' out
    by e = rw e at call

    -- ---- a call that isn't refused
    record MovedCall : Type 0 where
      its_rows : List Row
      its_spans : List Span
      is : reading_of v N M source ≡ filled its_rows its_spans
      fits : fits_tree w (accepted_tree v N M source its_rows its_spans is).tree ≡ true
      enough : length (stored_bytes w (accepted_tree v N M source its_rows its_spans is).tree) ≤ room
      left : Moves (moved its_rows its_spans (stored_bytes w (accepted_tree v N M source its_rows its_spans is).tree)) ns ms room a ns' ms' out

    moved_call : a.number ≡ 0 → MovedCall
    moved_call z = go comes_to (comes v w N M room source) refl
      where
        go : (m : Moving) → Comes v w N M room source m → comes_to ≡ m → MovedCall
        go _ (unread number place e) i = absurd (omega (arith, z, ap (λ (x : MoveAnswer). x.number) (by i).answer, (refused_reading v known_v source N M number place e).0))
        go _ (unfit rs ss e f) i = absurd (omega (arith, z, ap (λ (x : MoveAnswer). x.number) (by i).answer))
        go _ (roomless rs ss e f l) i = absurd (omega (arith, z, ap (λ (x : MoveAnswer). x.number) (by i).answer))
        go _ (moves rs ss e f l) i = record { its_rows = rs; its_spans = ss; is = e; fits = f; enough = l; left = by i }

    -- ---- "through a lent store left as the reader leaves it"
    module _ (z : a.number ≡ 0) where
      abbrev its : MovedCall
      its = moved_call z

      abbrev its_source : Tree depth_limit
      its_source = (accepted_tree v N M source its.its_rows its.its_spans its.is).tree

      reading_of_law : Leaves (filled its.its_rows its.its_spans) ns ms (as_read a) ns' ms'
      reading_of_law = record { answer = ap as_read its.left.answer; nodes = its.left.nodes; numbers = its.left.numbers }

      its_read : StoredRead v source ns ms (as_read a) ns' ms'
      its_read = rw its.is reading_of_law

      its_write : StoredWrite w source (used_nodes (as_read a) ns') (used_numbers (as_read a) ms') room (wrote a.length) out
      its_write =
          let e : stored_of w source (used_nodes (as_read a) ns') (used_numbers (as_read a) ms') ≡ bytes (stored_bytes w its_source) = of_tree w source (used_nodes (as_read a) ns') (used_numbers (as_read a) ms') its_source (is_store v known_v w source ns ms (as_read a) ns' ms' its_read its.its_rows its.its_spans its.is) ∙ rw its.fits in
          let l = le-leb (length (stored_bytes w its_source)) room its.enough in
          let n : a.length ≡ length (stored_bytes w its_source) = ap (λ (x : MoveAnswer). x.length) its.left.answer in
          rw e (record { answer = rw l (ap wrote n); bytes = rw l its.left.output })

      read_and_written : ReadAndWritten v w source ns ms room a ns' ms' out
      read_and_written = record { place = ap (λ (x : MoveAnswer). x.place) its.left.answer; read = its_read; write = its_write }

      -- the bytes that it says it wrote
      moved_bytes : moved_in a out ≡ stored_bytes w its_source
      moved_bytes =
          let n : a.length ≡ length (stored_bytes w its_source) = ap (λ (x : MoveAnswer). x.length) its.left.answer in
          ap (take a.length) its.left.output ∙ take_at (stored_bytes w its_source) _ a.length (sym n)

    -- ---- "all zero on any refusal"
    refused_zero : (number place : ℕ) → Moves (refused number place) ns ms room a ns' ms' out → AllZero v w ns ms room a ns' ms' out
    refused_zero number place h = record {
      no_length = ap (λ (x : MoveAnswer). x.length) h.answer;
      no_nodes = ap (λ (x : MoveAnswer). x.nodes) h.answer;
      no_numbers = ap (λ (x : MoveAnswer). x.numbers) h.answer;
      nodes_zero = h.nodes ∙ all_zero (length ns);
      numbers_zero = h.numbers ∙ all_zero (length ms);
      output_zero = h.output ∙ all_zero room;
    }

    all_is_zero : (a.number ≡ 0 → ⊥) → AllZero v w ns ms room a ns' ms' out
    all_is_zero h = go comes_to refl
      where
        go : (m : Moving) → comes_to ≡ m → AllZero v w ns ms room a ns' ms' out
        go (moved rs ss b) i = absurd (h (ap (λ (x : MoveAnswer). x.number) (by i).answer))
        go (refused number place) i = refused_zero number place (by i)

    -- ---- "Refusals: the reading side's first, then 27, then 23"
    module _ (c : ReadAnswer) (ns'' ms'' : List ℕ) (read : StoredRead v source ns ms c ns'' ms'') where
      abbrev fits : Bool
      fits = store_fits w source (used_nodes c ns'') (used_numbers c ms'')

      abbrev written : List ℕ
      written = store_bytes w source (used_nodes c ns'') (used_numbers c ms'')

      number_of : {m : Moving} → comes_to ≡ m → a.number ≡ (move_answer m).number
      number_of i = ap (λ (x : MoveAnswer). x.number) (by i).answer

      place_of : {m : Moving} → comes_to ≡ m → a.place ≡ (move_answer m).place
      place_of i = ap (λ (x : MoveAnswer). x.place) (by i).answer

      exactly : MoveExactly v w source room a c ns'' ms''
      exactly = go comes_to (comes v w N M room source) refl
        where
          unread_exactly : (number place : ℕ) → reading_of v N M source ≡ outcome.refused number place → comes_to ≡ refused number place → MoveExactly v w source room a c ns'' ms''
          unread_exactly number place e i =
              let l : Leaves (outcome.refused number place) ns ms c ns'' ms'' = rw e at read in
              let n : c.number ≡ number = ap (λ (x : ReadAnswer). x.number) l.answer in
              let p : c.place ≡ place = ap (λ (x : ReadAnswer). x.place) l.answer in
              let k = refused_reading v known_v source N M number place e in
              record {
                reading_first = λ h. (number_of i ∙ sym n, place_of i ∙ sym p);
                unfit = ((λ x. absurd (k.2 (sym (number_of i) ∙ x))), λ x. absurd (omega (arith, k.0, n, x.0)));
                roomless = ((λ x. absurd (k.1 (sym (number_of i) ∙ x))), λ x. absurd (omega (arith, k.0, n, x.0)));
                accepted = ((λ x. absurd (omega (arith, k.0, number_of i, x))), λ x. absurd (omega (arith, k.0, n, x.0)));
                no_place = λ x. absurd (omega (arith, k.0, n, x));
              }

          go : (m : Moving) → Comes v w N M room source m → comes_to ≡ m → MoveExactly v w source room a c ns'' ms''
          go _ (unread number place e) i = unread_exactly number place e i
          go _ (unfit rs ss e f) i =
              let n = accepted_number v known_v w source ns ms c ns'' ms'' read rs ss e in
              let g : fits ≡ false = fits_is v known_v w source ns ms c ns'' ms'' read rs ss e ∙ f in
              record {
                reading_first = λ h. absurd (h n);
                unfit = ((λ x. (n, g)), λ x. number_of i);
                roomless = ((λ x. absurd (omega (arith, number_of i, x))), λ x. absurd (false≢true (sym g ∙ x.1)));
                accepted = ((λ x. absurd (omega (arith, number_of i, x))), λ x. absurd (false≢true (sym g ∙ x.1)));
                no_place = λ x. place_of i;
              }
          go _ (roomless rs ss e f l) i =
              let n = accepted_number v known_v w source ns ms c ns'' ms'' read rs ss e in
              let g : fits ≡ true = fits_is v known_v w source ns ms c ns'' ms'' read rs ss e ∙ f in
              let k : room < length written = rw (bytes_are v known_v w source ns ms c ns'' ms'' read rs ss e) l in
              record {
                reading_first = λ h. absurd (h n);
                unfit = ((λ x. absurd (omega (arith, number_of i, x))), λ x. absurd (false≢true (sym x.1 ∙ g)));
                roomless = ((λ x. (n, g, k)), λ x. number_of i);
                accepted = ((λ x. absurd (omega (arith, number_of i, x))), λ x. absurd (omega (arith, x.2, k)));
                no_place = λ x. place_of i;
              }
          go _ (moves rs ss e f l) i =
              let n = accepted_number v known_v w source ns ms c ns'' ms'' read rs ss e in
              let g : fits ≡ true = fits_is v known_v w source ns ms c ns'' ms'' read rs ss e ∙ f in
              let k : length written ≤ room = rw (bytes_are v known_v w source ns ms c ns'' ms'' read rs ss e) l in
              record {
                reading_first = λ h. absurd (h n);
                unfit = ((λ x. absurd (omega (arith, number_of i, x))), λ x. absurd (false≢true (sym x.1 ∙ g)));
                roomless = ((λ x. absurd (omega (arith, number_of i, x))), λ x. absurd (omega (arith, x.2, k)));
                accepted = ((λ x. (n, g, k)), λ x. number_of i);
                no_place = λ x. place_of i;
              }

  pub left_as_read : LeftAsRead v w
  left_as_read source ns ms room a ns' ms' out call z = read_and_written source ns ms room a ns' ms' out call z

  pub refused_all_zero : RefusedAllZero v w
  refused_all_zero source ns ms room a ns' ms' out call h = all_is_zero source ns ms room a ns' ms' out call h

  pub move_refuses : MoveRefuses v w
  move_refuses source ns ms room a ns' ms' out c ns'' ms'' call read = exactly source ns ms room a ns' ms' out call c ns'' ms'' read

  -- ---- the tree of a source of bytes: its stored bytes are the source, and it fits v
  module _ (source ns ms : List ℕ) (all : All IsByte source) (rs : List Row) (ss : List Span) (is : reading_of v (node_room ns) (number_room ms) source ≡ filled rs ss) where
    abbrev source_tree : Tree depth_limit
    source_tree = (accepted_tree v (node_room ns) (number_room ms) source rs ss is).tree

    source_is : source ≡ stored_bytes v source_tree
    source_is = (accepted_stored v known_v (node_room ns) (number_room ms) source all rs ss is).stored

    source_fits : fits_tree v source_tree ≡ true
    source_fits = (accepted_stored v known_v (node_room ns) (number_room ms) source all rs ss is).fits

    source_each : FitsEach v (rows depth_limit source_tree) (texts depth_limit source_tree)
    source_each = fits_each v (rows depth_limit source_tree) (texts depth_limit source_tree) source_fits

    source_rows : length rs ≡ length (rows depth_limit source_tree)
    source_rows = ap length (accepted_tree v (node_room ns) (number_room ms) source rs ss is).its_rows

    -- its length in w
    other_length : length (stored_bytes w source_tree) + node_place v.width (length rs) ≡ length source + node_place w.width (length rs)
    other_length =
        let e = versions_length v w (rows depth_limit source_tree) (texts depth_limit source_tree) in
        rw source_rows (e ∙ ap (λ (k : ℕ). k + node_place w.width (length (rows depth_limit source_tree))) (ap length (sym source_is)))

  -- ---- lengths
  pub moved_length : MovedLength v w
  moved_length source ns ms room a ns' ms' out all call z =
      let k = moved_call source ns ms room a ns' ms' out call z in
      let n : a.length ≡ length (stored_bytes w (accepted_tree v (node_room ns) (number_room ms) source k.its_rows k.its_spans k.is).tree) = ap (λ (x : MoveAnswer). x.length) k.left.answer in
      let m : a.nodes ≡ length k.its_rows = ap (λ (x : MoveAnswer). x.nodes) k.left.answer in
      ap₂ (λ (i j : ℕ). i + node_place v.width j) n m ∙ other_length source ns ms all k.its_rows k.its_spans k.is ∙ ap (λ (j : ℕ). length source + node_place w.width j) (sym m)

  -- ---- no text of a source is too long for any version
  module _ (source ns ms : List ℕ) (c : ReadAnswer) (ns'' ms'' : List ℕ) (all : All IsByte source) (read : StoredRead v source ns ms c ns'' ms'') (z : c.number ≡ 0) where
    texts_fit : every (λ (x : List ℕ). leb (length x) longest) (all_texts source (used_numbers c ms'')) ≡ true
    texts_fit =
        let k = accepted_call v known_v source ns ms c ns'' ms'' read z in
        let s = store_of v known_v w source ns ms c ns'' ms'' read k.its_rows k.its_spans k.is in
        rw s.its_texts (source_each source ns ms all k.its_rows k.its_spans k.is).texts

  pub short_texts : ShortTexts v w
  short_texts source ns ms c ns'' ms'' all read z =
      every_all (λ (x : List ℕ). leb (length x) longest) (λ (x : List ℕ). length x ≤ longest) (λ x h. leb-true (length x) longest h) (all_texts source (used_numbers c ms'')) (texts_fit source ns ms c ns'' ms'' all read z)

  -- ---- "27 exactly where something doesn't fit"
  pub unfit_exactly : UnfitExactly v w
  unfit_exactly source ns ms room a ns' ms' out c ns'' ms'' all call read z =
      let x = (exactly source ns ms room a ns' ms' out call c ns'' ms'' read).unfit in
      ((λ e. unfit_where w source (used_nodes c ns'') (used_numbers c ms'') (texts_fit source ns ms c ns'' ms'' all read z) (x.0 e).1), λ u. x.1 (z, unfit_false w source (used_nodes c ns'') (used_numbers c ms'') u))

  -- ---- "With room, going up accepts all that version 1's reader accepts"
  pub accepts_all_read : Wider v w → AcceptsAllRead v w
  accepts_all_read wider source ns ms room a ns' ms' out c ns'' ms'' all call read z enough =
      let k = accepted_call v known_v source ns ms c ns'' ms'' read z in
      let rs : List Row = k.its_rows in
      let t : Tree depth_limit = (accepted_tree v (node_room ns) (number_room ms) source rs k.its_spans k.is).tree in
      let each = source_each source ns ms all rs k.its_spans k.is in
      let n : c.nodes ≡ length rs = ap (λ (x : ReadAnswer). x.nodes) (left v known_v source ns ms c ns'' ms'' read rs k.its_spans k.is).answer in
      let l = other_length source ns ms all rs k.its_spans k.is in
      let few : length rs ≤ v.largest = omega (arith, each.nodes, source_rows source ns ms all rs k.its_spans k.is) in
      let long : node_place w.width (length rs) ≤ node_place w.width v.largest = omega (arith, mul-le-mul_right (head_length + node_size w.width) few) in
      let s = ap length (source_is source ns ms all rs k.its_spans k.is) in
      let f : FitsEach w (rows depth_limit t) (texts depth_limit t) = record {
        nodes = omega (arith, each.nodes, wider.counts);
        numbers = omega (arith, each.numbers, wider.counts);
        parts = every_weaker (λ (r : Row). leb r.parts v.largest) (λ (r : Row). leb r.parts w.largest) (λ r h. le-leb r.parts w.largest (omega (arith, leb-true r.parts v.largest h, wider.counts))) (rows depth_limit t) each.parts;
        texts = each.texts;
        all = omega (arith, l, s, each.all, long, wider.whole);
      } in
      let fits = fits_is v known_v w source ns ms c ns'' ms'' read rs k.its_spans k.is ∙ each_fits w (rows depth_limit t) (texts depth_limit t) f in
      let room_is : length (stored_bytes w t) ≤ room = omega (arith, l, rw n at enough) in
      (exactly source ns ms room a ns' ms' out call c ns'' ms'' read).accepted.1 (z, fits, rw (bytes_are v known_v w source ns ms c ns'' ms'' read rs k.its_spans k.is) room_is)

  -- ---- "Up and back gives the first bytes; back and up, where allowed, likewise"
  pub there_and_back : ThereAndBack v w
  there_and_back source ns ms room a ns' ms' out all call z ps qs room₂ c ps' qs' out₂ hn hm hr again =
      let k = moved_call source ns ms room a ns' ms' out call z in
      let rs : List Row = k.its_rows in
      let ss : List Span = k.its_spans in
      let u = accepted_tree v (node_room ns) (number_room ms) source rs ss k.is in
      let t : Tree depth_limit = u.tree in
      let good : GoodTree depth_limit t = (store_tree source (flat_rows rs) (flat_spans ss) t u.is).good in
      let s : source ≡ stored_bytes v t = source_is source ns ms all rs ss k.is in
      let n : a.nodes ≡ length (rows depth_limit t) = ap (λ (x : MoveAnswer). x.nodes) k.left.answer ∙ ap length u.its_rows in
      let m : a.numbers ≡ length (texts depth_limit t) = ap (λ (x : MoveAnswer). x.numbers) k.left.answer ∙ sym (length-map ss span_text) ∙ ap length u.its_texts in
      let few : length (rows depth_limit t) ≤ node_room ps = omega (arith, n, hn) in
      let less : length (texts depth_limit t) ≤ number_room qs = omega (arith, m, hm) in
      let back = stored_back w known_w t good k.fits (node_room ps) (number_room qs) few less in
      let is : moving_of w v (node_room ps) (number_room qs) room₂ (moved_in a out) ≡ moved (rows depth_limit t) back.spans (stored_bytes v t)
      = ap (moving_of w v (node_room ps) (number_room qs) room₂) (moved_bytes source ns ms room a ns' ms' out call z) ∙ tree_moves w v known_w t good k.fits (source_fits source ns ms all rs ss k.is) (node_room ps) (number_room qs) room₂ few less (omega (arith, ap length s, hr)) in
      let l : Moves (moved (rows depth_limit t) back.spans (stored_bytes v t)) ps qs room₂ c ps' qs' out₂ = rw is at again in
      let len : length (stored_bytes v t) ≡ length source = ap length (sym s) in
      let count : length back.spans ≡ a.numbers = sym (length-map back.spans span_text) ∙ ap length back.its_texts ∙ sym m in
      let rest : out₂ ≡ padded source room₂ = l.output ∙ ap (λ (x : List ℕ). padded x room₂) (sym s) in
      let answer : c ≡ record { number = 0; place = 0; length = length source; nodes = a.nodes; numbers = a.numbers }
      = l.answer ∙ ap (λ (x : ℕ). record { number = 0; place = 0; length = x; nodes = length (rows depth_limit t); numbers = length back.spans }) len
      ∙ ap (λ (x : ℕ). record { number = 0; place = 0; length = length source; nodes = x; numbers = length back.spans }) (sym n)
      ∙ ap (λ (x : ℕ). record { number = 0; place = 0; length = length source; nodes = a.nodes; numbers = x }) count in
      record { answer = answer; bytes = ap (λ (x : MoveAnswer). take x.length out₂) answer ∙ ap (take (length source)) rest ∙ take_at source _ (length source) refl; rest = rest }

  -- ---- what is moved reads to the same tree
  pub reads_the_same : ReadsTheSame v w
  reads_the_same source ns ms room a ns' ms' out call z ps qs c ps' qs' hn hm read =
      let x = read_and_written source ns ms room a ns' ms' out call z in
      let k = accepted_call v known_v source ns ms (as_read a) ns' ms' x.read z in
      let st = is_store v known_v w source ns ms (as_read a) ns' ms' x.read k.its_rows k.its_spans k.is in
      let u = accepted_tree v (node_room ns) (number_room ms) source k.its_rows k.its_spans k.is in
      let counts = (left v known_v source ns ms (as_read a) ns' ms' x.read k.its_rows k.its_spans k.is).answer in
      let n : node_room (used_nodes (as_read a) ns') ≤ node_room ps = omega (arith, node_count_law source (used_nodes (as_read a) ns') (used_numbers (as_read a) ms') u.tree st, ap length u.its_rows, ap (λ (y : ReadAnswer). y.nodes) counts, hn) in
      let m : number_room (used_numbers (as_read a) ms') ≤ number_room qs = omega (arith, text_count source (used_nodes (as_read a) ns') (used_numbers (as_read a) ms') u.tree st, length-map k.its_spans span_text, ap length u.its_texts, ap (λ (y : ReadAnswer). y.numbers) counts, hm) in
      let b = (stored_reads_back w known_w source (used_nodes (as_read a) ns') (used_numbers (as_read a) ms') room (wrote a.length) out ps qs c ps' qs' x.write refl n m read).back in
      record {
        same_nodes = b.same_nodes;
        same_texts_law = b.same_texts_law;
        same_writing = stored_same w known_w source (used_nodes (as_read a) ns') (used_numbers (as_read a) ms') room (wrote a.length) out x.write refl ps qs c ps' qs' n m read;
      }

-- ---- a move from any version to any other; and those that there are
pub any_move : (v w : Version) → Known v → Known w → MovesWell v w
any_move v w known_v known_w = record {
  one_move = one_move v w known_v known_w;
  left_as_read = left_as_read v w known_v known_w;
  all_zero = refused_all_zero v w known_v known_w;
  refuses = move_refuses v w known_v known_w;
  unfit_exactly = unfit_exactly v w known_v known_w;
  short_texts = short_texts v w known_v known_w;
  moved_length = moved_length v w known_v known_w;
  there_and_back = there_and_back v w known_v known_w;
  reads_the_same = reads_the_same v w known_v known_w;
}

pub going_up : MovesWell version1 version2
going_up = any_move version1 version2 (known_of First) (known_of Second)

pub going_back : MovesWell version2 version1
going_back = any_move version2 version1 (known_of Second) (known_of First)

version_2_is_wider : Wider version1 version2
version_2_is_wider = record { counts = omega arith; whole = omega arith }

pub up_accepts_all_read : UpAcceptsAllRead
up_accepts_all_read source ns ms room a ns' ms' out c ns'' ms'' all call read z enough =
    accepts_all_read version1 version2 (known_of First) (known_of Second) version_2_is_wider source ns ms room a ns' ms' out c ns'' ms'' all call read z (omega (arith, enough))

pub up_is_longer : UpIsLonger
up_is_longer source ns ms room a ns' ms' out all call z = omega (arith, moved_length version1 version2 (known_of First) (known_of Second) source ns ms room a ns' ms' out all call z)

pub back_is_shorter : BackIsShorter
back_is_shorter source ns ms room a ns' ms' out all call z = omega (arith, moved_length version2 version1 (known_of Second) (known_of First) source ns ms room a ns' ms' out all call z)
