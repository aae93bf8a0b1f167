-- Laws of what the fields after the head come to: by what was seen of them, and by the rooms.
-- Assumes nothing.
use mathlib.Core.Path.{◌≡◌, refl, ap, sym, subst, ◌∙◌}
use mathlib.Core.Bool.{Bool, true, false, cond, ◌&&◌}
use mathlib.Core.List.{List, [], ◌∷◌}
use Prim.Native.Nat.{ℕ, zero, suc, ◌+◌, ◌*◌, ◌≤◌, ◌<◌}
use native.Mathlib.Omega.{arith}
use native.Mathlib.Nat.{suc-mul, mul-le-mul_right}
use lib.Dec.{ltb}
use lib.ListN.{length}
use borrow.Author.Tests.{lt-ltb, le-ltb, le-leb}
use Rattle.lists.specs.Lists.{every, All}
use Rattle.lists.proofs.Cases.{and_both}
use Rattle.refusals.specs.Refusals.{no_node_row, no_number_row, ill_formed_store, faulty_field}
use Rattle.number.specs.Lexeme.{is_lexeme}
use Rattle.store.specs.declared.ReadAnswer.{ReadAnswer}
use Rattle.store.specs.Rows.{Row, Span, flat_rows, flat_spans}
use Rattle.store.specs.Answers.{Outcome, filled, refused, Leaves}
use Rattle.tree.specs.TreeIn.{span_texts}
use Rattle.lists.specs.Options.{is_some}
use Rattle.nodes.specs.Nodes.{above, meets}
use Rattle.shape.specs.Numbers.{is_number}
use Rattle.shape.specs.Store.{well_formed}
use Rattle.shape.proofs.Slices.{Own, well_by_rows}
use Rattle.fields.specs.Fields.{head_length, length_in, content_end, is_field, is_sized}
use Rattle.fields.proofs.Fields.{has_room}
use Rattle.stored_form.specs.declared.Version.{Version}
use Rattle.stored_form.specs.declared.Counts.{Counts}
use Rattle.std.specs.Prelude.{Result, Ok, Err}
use Rattle.stored_form.specs.declared.Refusal.{Refusal}
use Rattle.stored_form.specs.declared.Seen.{Seen}
use Rattle.stored_form.specs.Form.{node_tag, number_tag, node_size, first_node, node_place}
use Rattle.stored_form.specs.Reading.{refusal_at, seen, head_in, reading_of, Run, faulty, whole, row_told, node_after, nodes_from, span_told, numbers_from, place_after, roomed, checked, after_numbers, after_nodes, Right}
use Rattle.stored_numbers.specs.Looks.{numbers_well, numbers_seen}
use Rattle.stored_reading.specs.Looks.{nodes_well, nodes_seen, headed_of, NodesSeen, NumbersGood, Filled}
use Rattle.stored_form.proofs.Runs.{whole_one, no_field, first, fields_count, fields_fewer}
use Rattle.stored_reading.proofs.Looks.{node_room_law}

and_comm : (a b : Bool) → (a && b) ≡ (b && a)
and_comm true true = refl
and_comm true false = refl
and_comm false true = refl
and_comm false false = refl

pub leaves_as : {o o' : Outcome} {ns ms ns' ms' : List ℕ} {a : ReadAnswer} → o ≡ o' → Leaves o' ns ms a ns' ms' → Leaves o ns ms a ns' ms'
leaves_as e l = rw e l

-- reading is what its head comes to
module _ (v : Version) (bytes : List ℕ) (N M : ℕ) where
  pub refused_head : {r : Refusal} → head_in v bytes ≡ Err r → reading_of v N M bytes ≡ refused r.number r.place
  unfolding reading_of
  refused_head e = rw e

  pub told_head : {c : Counts} → head_in v bytes ≡ Ok c → reading_of v N M bytes ≡ headed_of v.width N M bytes c
  unfolding reading_of
  told_head e = rw e

-- ---- what was seen of a run
apart : {b : ℕ} {w : Bool} {r : Refusal} → ◌≡◌ {A = Result Seen Refusal} (Err r) (seen w b) → ⊥
apart e = let z : ◌≡◌ {A = ℕ} 0 1 = cc in omega arith

seen_one : {w w' : Bool} {a a' : ℕ} → seen w a ≡ seen w' a' → (w ≡ w') × (a ≡ a')
seen_one {w} {w'} {a} {a'} e =
    let r : ◌≡◌ {A = Seen} (record { well = w; end = a }) (record { well = w'; end = a' }) = cc in
    (ap (λ (s : Seen). s.well) r, ap (λ (s : Seen). s.end) r)

refused_as : {X : Type 0} {n a : ℕ} {r : Refusal} → refusal_at {X = X} n a ≡ Err r → refused n a ≡ refused r.number r.place
refused_as {X} {n} {a} {r} e =
    let z : ◌≡◌ {A = Refusal} (record { number = n; place = a }) r = cc in
    ap (λ (r : Refusal). refused r.number r.place) z

-- node fields that are whole
record TheNodes (numbers : ℕ) (r : Run Row) (well : Bool) (at : ℕ) : Type 0 where
  its_rows : List Row
  are : r ≡ whole its_rows at
  told : is_some (meets numbers (above ∷ []) 0 0 its_rows) ≡ well

the_nodes : (numbers : ℕ) (r : Run Row) {well : Bool} {at : ℕ} → nodes_well numbers r ≡ seen well at → TheNodes numbers r well at
the_nodes numbers (faulty a) {well} {at} e = absurd (apart e)
the_nodes numbers (whole rs a) {well} {at} e =
    let z = seen_one e in
    record { its_rows = rs; are = ap (whole rs) z.1; told = z.0 }

-- number fields that are whole, with nothing after them
record TheNumbers (bytes : List ℕ) (r : Run Span) (good : Bool) : Type 0 where
  its_spans : List Span
  end : ℕ
  are : r ≡ whole its_spans end
  last : ltb end (length bytes) ≡ false
  told : every is_lexeme (span_texts its_spans) ≡ good

the_numbers : (bytes : List ℕ) (r : Run Span) {good : Bool} {at : ℕ} → numbers_well bytes r ≡ seen good at → TheNumbers bytes r good
the_numbers bytes (faulty a) {good} {at} e = absurd (apart e)
the_numbers bytes (whole ss a) {good} {at} e = go (ltb a (length bytes)) refl e
  where
    go : (b : Bool) → ltb a (length bytes) ≡ b → cond b (refusal_at faulty_field a) (seen (every is_lexeme (span_texts ss)) a) ≡ seen good at → TheNumbers bytes (whole ss a) good
    go true z y = absurd (apart y)
    go false z y = record { its_spans = ss; end = a; are = refl; last = z; told = (seen_one y).0 }

-- ---- spans that number fields tell lie in the bytes, and hold them
record Inside (bytes : List ℕ) (ss : List Span) : Type 0 where
  lexemes : every (is_number bytes) ss ≡ every is_lexeme (span_texts ss)
  own : All (Own bytes) ss

inside : (bytes : List ℕ) (n at : ℕ) (ss : List Span) (end : ℕ) → numbers_from bytes at n ≡ whole ss end → Inside bytes ss
unfolding every All
inside bytes zero at ss end e = let z : [] ≡ ss = (whole_one (sym (no_field (is_field number_tag bytes) (span_told bytes) (content_end bytes) at) ∙ e)).0 in rw (← z) (record { lexemes = refl; own = tt })
inside bytes (suc n) at ss end e =
    let f = first (is_field number_tag bytes) (span_told bytes) (content_end bytes) at n e in
    let i = inside bytes n (content_end bytes at) f.tail end f.rest in
    let fits = le-leb (at + head_length + length_in bytes at) (length bytes) (has_room number_tag bytes at f.is_right) in
    rw f.all (record { lexemes = rw (fits, i.lexemes); own = (refl, i.own) })

-- ---- the outcome
module _ (w : ℕ) (bytes : List ℕ) (c : Counts) where
  abbrev node_run : Run Row
  node_run = nodes_from w bytes (first_node w) c.nodes

  module _ (N M : ℕ) where
    pub nodes_fault : {r : Refusal} → nodes_seen w bytes (first_node w) c.nodes c.numbers ≡ Err r → headed_of w N M bytes c ≡ refused r.number r.place
    nodes_fault {r} e = go node_run e
      where
        go : (run : Run Row) → nodes_well c.numbers run ≡ Err r → after_nodes w N M c.numbers bytes run ≡ refused r.number r.place
        go (faulty a) z = refused_as z
        go (whole rs a) z = absurd (apart (sym z))

  module _ {well : Bool} {middle : ℕ} (e : NodesSeen w bytes c well middle) where
    abbrev number_run : Run Span
    number_run = numbers_from bytes middle c.numbers

    its_nodes : TheNodes c.numbers node_run well middle
    its_nodes = the_nodes c.numbers node_run e

    after_nodes_law : (N M : ℕ) → headed_of w N M bytes c ≡ after_numbers w N M bytes its_nodes.its_rows middle number_run
    after_nodes_law N M = rw its_nodes.are

    pub numbers_fault : (N M : ℕ) {r : Refusal} → numbers_seen bytes middle c.numbers ≡ Err r → headed_of w N M bytes c ≡ refused r.number r.place
    numbers_fault N M {r} z = after_nodes_law N M ∙ go number_run z
      where
        go : (run : Run Span) → numbers_well bytes run ≡ Err r → after_numbers w N M bytes its_nodes.its_rows middle run ≡ refused r.number r.place
        go (faulty a) y = refused_as y
        go (whole ss a) y = by (ltb a (length bytes)) y
          where
            by : (b : Bool) → cond b (refusal_at faulty_field a) (seen (every is_lexeme (span_texts ss)) a) ≡ Err r → cond b (refused faulty_field a) (checked w N M bytes its_nodes.its_rows middle ss) ≡ refused r.number r.place
            by true x = refused_as x
            by false x = absurd (apart (sym x))

    -- ---- every field is right
    module _ {good : Bool} {at : ℕ} (z : numbers_seen bytes middle c.numbers ≡ seen good at) where
      its_numbers : TheNumbers bytes number_run good
      its_numbers = the_numbers bytes number_run z

      is_well : well_formed bytes (flat_rows its_nodes.its_rows) (flat_spans its_numbers.its_spans) ≡ (good && well)
      is_well =
          let i = inside bytes c.numbers middle its_numbers.its_spans its_numbers.end its_numbers.are in
          let count : length its_numbers.its_spans ≡ c.numbers = fields_count (is_field number_tag bytes) (span_told bytes) (content_end bytes) c.numbers middle its_numbers.its_spans its_numbers.end its_numbers.are in
          well_by_rows bytes its_nodes.its_rows its_numbers.its_spans i.own ∙ rw (i.lexemes, its_numbers.told, count, its_nodes.told)

      after_numbers_law : (N M : ℕ) → headed_of w N M bytes c ≡ cond (good && well) (roomed w N M bytes its_nodes.its_rows middle its_numbers.its_spans) (refused ill_formed_store 0)
      unfolding checked
      after_numbers_law N M = after_nodes_law N M ∙ rw (its_numbers.are, its_numbers.last, is_well)

      pub fields_ill : (N M : ℕ) → (well && good) ≡ false → headed_of w N M bytes c ≡ refused ill_formed_store 0
      fields_ill N M y = after_numbers_law N M ∙ rw (and_comm good well, y)

-- ---- fields that are a tree
-- the rows and spans that they tell
pub record Fields (w : ℕ) (bytes : List ℕ) (c : Counts) (middle : ℕ) : Type 0 where
  pub its_rows : List Row
  pub its_spans : List Span
  pub end : ℕ
  pub nodes : nodes_from w bytes (first_node w) c.nodes ≡ whole its_rows middle
  pub numbers : numbers_from bytes middle c.numbers ≡ whole its_spans end
  pub outcome : (N M : ℕ) → headed_of w N M bytes c ≡ roomed w N M bytes its_rows middle its_spans

pub fields_good : {w : ℕ} {bytes : List ℕ} {c : Counts} {middle : ℕ} → NodesSeen w bytes c true middle → NumbersGood bytes middle c.numbers → Fields w bytes c middle
fields_good {w} {bytes} {c} {middle} e g =
    let rs = its_nodes w bytes c e in
    let ss = its_numbers w bytes c e g.are in
    record {
      its_rows = rs.its_rows;
      its_spans = ss.its_spans;
      end = ss.end;
      nodes = rs.are;
      numbers = ss.are;
      outcome = after_numbers_law w bytes c e g.are;
    }

-- what was seen, where all of it is well
pub good_fields : (w : ℕ) (bytes : List ℕ) (c : Counts) (nodes numbers : Seen) → nodes_seen w bytes (first_node w) c.nodes c.numbers ≡ Ok nodes → numbers_seen bytes nodes.end c.numbers ≡ Ok numbers → (nodes.well && numbers.well) ≡ true
    → NodesSeen w bytes c true nodes.end × NumbersGood bytes nodes.end c.numbers
good_fields w bytes c nodes numbers e m g =
    let both = and_both nodes.well numbers.well g in
    (subst (λ (b : Bool). NodesSeen w bytes c b nodes.end) both.0 e, record { end = numbers.end; are = subst (λ (b : Bool). numbers_seen bytes nodes.end c.numbers ≡ seen b numbers.end) both.1 m })

-- where node fields end
nodes_room : (w : ℕ) (bytes : List ℕ) (n at : ℕ) (rs : List Row) (end : ℕ) → at ≤ length bytes → nodes_from w bytes at n ≡ whole rs end → at + n * (head_length + node_size w) ≤ length bytes
nodes_room w bytes zero at rs end h e = omega arith
nodes_room w bytes (suc n) at rs end h e =
    let f = first (is_sized node_tag (node_size w) bytes) (row_told w bytes) (node_after w) at n e in
    omega (arith, suc-mul n (head_length + node_size w), nodes_room w bytes n (node_after w at) f.tail end (node_room_law w bytes at f.is_right) f.rest)

module _ {w : ℕ} {bytes : List ℕ} {c : Counts} {middle : ℕ} (f : Fields w bytes c middle) where
  pub right_nodes : Right (nodes_from w bytes (first_node w) c.nodes)
  right_nodes = record { items = f.its_rows; end = middle; are = f.nodes }

  pub right_numbers : Right (numbers_from bytes middle c.numbers)
  right_numbers = record { items = f.its_spans; end = f.end; are = f.numbers }

  pub fewer_numbers : {n : ℕ} → n < c.numbers → Right (numbers_from bytes middle n)
  fewer_numbers {n} h = fields_fewer (is_field number_tag bytes) (span_told bytes) (content_end bytes) n c.numbers middle (omega arith) right_numbers

  row_count : length f.its_rows ≡ c.nodes
  row_count = fields_count (is_sized node_tag (node_size w) bytes) (row_told w bytes) (node_after w) c.nodes (first_node w) f.its_rows middle f.nodes

  span_count : length f.its_spans ≡ c.numbers
  span_count = fields_count (is_field number_tag bytes) (span_told bytes) (content_end bytes) c.numbers middle f.its_spans f.end f.numbers

  -- the first node field that has no row lies in the bytes
  pub node_inside : first_node w ≤ length bytes → {N : ℕ} → N < c.nodes → first_node w + N * (head_length + 2 + w) ≤ length bytes
  node_inside h {N} l = omega (arith, nodes_room w bytes c.nodes (first_node w) f.its_rows middle h f.nodes, mul-le-mul_right (head_length + node_size w) l)

  -- n and m are the rooms N and M, as the code counts them
  module _ (N M : ℕ) {n : ℕ} (is_n : n ≡ N) where
    pub no_node_row_law : n < c.nodes → headed_of w N M bytes c ≡ refused no_node_row (first_node w + n * (head_length + 2 + w))
    unfolding roomed
    no_node_row_law h =
        let place : node_place w n ≡ first_node w + n * (head_length + 2 + w) = omega arith in
        rw (← is_n) (f.outcome n M ∙ rw (row_count, lt-ltb n c.nodes h, place))

    module _ {m : ℕ} (is_m : m ≡ M) (rows : c.nodes ≤ n) where
      pub no_number_row_law : {place : ℕ} → place ≡ place_after bytes middle m → m < c.numbers → headed_of w N M bytes c ≡ refused no_number_row place
      unfolding roomed
      no_number_row_law e h = rw (← is_n, ← is_m, e) (f.outcome n m ∙ rw (row_count, span_count, le-ltb n c.nodes rows, lt-ltb m c.numbers h))

      enough_rows_law : c.numbers ≤ m → headed_of w N M bytes c ≡ filled f.its_rows f.its_spans
      unfolding roomed
      enough_rows_law h = rw (← is_n, ← is_m) (f.outcome n m ∙ rw (row_count, span_count, le-ltb n c.nodes rows, le-ltb m c.numbers h))

      -- both slices are filled
      pub fields_filled : c.numbers ≤ m → {ns ms ns' ms' : List ℕ} → Filled flat_rows (nodes_from w bytes (first_node w) c.nodes) ns ns' → Filled flat_spans (numbers_from bytes middle c.numbers) ms ms'
          → Leaves (headed_of w N M bytes c) ns ms (record { number = 0; place = 0; nodes = c.nodes; numbers = c.numbers }) ns' ms'
      fields_filled h a b = rw (enough_rows_law h) (record { answer = rw (row_count, span_count); nodes = a.put f.its_rows middle (f.nodes); numbers = b.put f.its_spans f.end f.numbers })
