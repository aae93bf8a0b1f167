-- Laws of node rows and number rows: what a slice holds after a put, as numbers, and when cleared after its rows.
-- Assumes nothing.
use mathlib.Core.Path.{◌≡◌, refl, sym, ap, ◌∙◌}
use mathlib.Core.List.{List, [], ◌∷◌, ◌++◌, flat_map}
use Prim.Native.Nat.{ℕ, zero, suc, ◌+◌, ◌-◌, ◌*◌, ◌/◌, ◌≤◌, ◌<◌}
use native.Mathlib.Omega.{arith}
use native.Mathlib.Numerals.{unary_clauses}
use native.Mathlib.Decide.{dec_lt}
use native.Mathlib.Nat.{le_of_suc-le-suc}
use lib.Dec.{ltb}
use lib.ListN.{length, get_or, set, take, length-append}
use Rattle.lists.proofs.Cases.{either}
use Rattle.store.specs.Rows.{node_width, number_width, kind_column, dimension_column, parts_column, start_column, length_column, node_room, number_room, cell, put, firsts, Row, row, fresh_row, closed_row, parts_at, span_of, row_at, span_at, rows_in, spans_in, open_row, close_row, put_row, put_span, close_in, row_numbers, span_numbers, flat_rows, flat_spans, zeros, padded, cleared}
use Rattle.store.proofs.Cells.{put_in, put_length, put_before, put_here, put_there, snoc, firsts_length, firsts_same, firsts_put, firsts_flat}
use Rattle.store.proofs.Zeros.{cleared_padded}

module _ (ns : List ℕ) where
  pub rows_length : (n : ℕ) → length (rows_in ns n) ≡ n
  unfolding rows_in
  rows_length n = firsts_length (row_at ns) n

  pub rows_flat : (n : ℕ) → n ≤ node_room ns → flat_rows (rows_in ns n) ≡ take (n * node_width) ns
  unfolding rows_in flat_rows firsts
  rows_flat n h = firsts_flat node_width ns row_numbers (row_at ns) (λ i. refl) n h

  pub rows_cleared : (n : ℕ) → n ≤ node_room ns → cleared ns (n * node_width) ≡ padded (flat_rows (rows_in ns n)) (length ns)
  rows_cleared n h = cleared_padded ns (flat_rows (rows_in ns n)) (n * node_width) (rows_flat n h) (omega arith)

module _ (text ms : List ℕ) where
  pub spans_length : (m : ℕ) → length (spans_in text ms m) ≡ m
  unfolding spans_in
  spans_length m = firsts_length (span_at text ms) m

  pub spans_flat : (m : ℕ) → m ≤ number_room ms → flat_spans (spans_in text ms m) ≡ take (m * number_width) ms
  unfolding spans_in flat_spans firsts
  spans_flat m h = firsts_flat number_width ms span_numbers (span_at text ms) (λ i. refl) m h

  pub spans_cleared : (m : ℕ) → m ≤ number_room ms → cleared ms (m * number_width) ≡ padded (flat_spans (spans_in text ms m)) (length ms)
  spans_cleared m h = cleared_padded ms (flat_spans (spans_in text ms m)) (m * number_width) (spans_flat m h) (omega arith)

-- a row is opened by putting it whole, with no parts
pub open_row_puts : (ns : List ℕ) (i k d : ℕ) → open_row ns i k d ≡ put_row ns i k d 0
unfolding open_row put_row
open_row_puts ns i k d = refl

-- the puts as stores, one for each column
pub put_row_in : (ns : List ℕ) (i k d n : ℕ) → i < node_room ns → set (set (set ns (i * node_width + kind_column) k) (i * node_width + dimension_column) d) (i * node_width + parts_column) n ≡ put_row ns i k d n
unfolding put_row
put_row_in ns i k d n h = rw (put_in node_width ns i kind_column (row_numbers (row k d n)) h) (simp unary_clauses)

pub put_span_in : (ms : List ℕ) (i start len : ℕ) → i < number_room ms → set (set ms (i * number_width + start_column) start) (i * number_width + length_column) len ≡ put_span ms i start len
unfolding put_span
put_span_in ms i start len h = rw (put_in number_width ms i start_column (start ∷ len ∷ []) h) (simp unary_clauses)

-- a put into one node row leaves the others as they are
row_there : (ns : List ℕ) (i c : ℕ) (vs : List ℕ) → c + length vs ≤ node_width → (j : ℕ) → (j ≡ i → ⊥) → row_at (put node_width ns i c vs) j ≡ row_at ns j
row_there ns i c vs f j o =
    let is = put_there node_width ns i c vs f j o in
    rw (is 0 (omega arith), is 1 (omega arith), is 2 (omega arith))

module _ (ns : List ℕ) (i k d parts : ℕ) where
  pub put_row_length : length (put_row ns i k d parts) ≡ length ns
  unfolding put_row
  put_row_length = put_length node_width ns i kind_column (row_numbers (row k d parts))

  row_here : i < node_room ns → row_at (put_row ns i k d parts) i ≡ row k d parts
  unfolding put_row
  row_here h =
      let is = put_here node_width ns i kind_column (row_numbers (row k d parts)) (omega arith) h in
      rw (is 0 (omega arith), is 1 (omega arith), is 2 (omega arith))

  others : (j : ℕ) → (j ≡ i → ⊥) → row_at (put_row ns i k d parts) j ≡ row_at ns j
  unfolding put_row
  others = row_there ns i kind_column (row_numbers (row k d parts)) (omega arith)

  pub rows_put : i < node_room ns → rows_in (put_row ns i k d parts) (i + 1) ≡ rows_in ns i ++ (row k d parts ∷ [])
  unfolding rows_in
  rows_put h = firsts_put (row_at ns) (row_at (put_row ns i k d parts)) i (row k d parts) others (row_here h)

  pub rows_below : (n : ℕ) → n ≤ i → rows_in (put_row ns i k d parts) n ≡ rows_in ns n
  unfolding rows_in
  rows_below n h = firsts_same (row_at ns) (row_at (put_row ns i k d parts)) n (λ j l. others j (λ z. omega arith))

-- the same of a row that is opened
module _ (ns : List ℕ) (i k d : ℕ) where
  pub open_row_length : length (open_row ns i k d) ≡ length ns
  open_row_length = ap length (open_row_puts ns i k d) ∙ put_row_length ns i k d 0

  pub rows_opened : i < node_room ns → rows_in (open_row ns i k d) (i + 1) ≡ rows_in ns i ++ (fresh_row k d ∷ [])
  rows_opened h = ap (λ l. rows_in l (i + 1)) (open_row_puts ns i k d) ∙ rows_put ns i k d 0 h

  pub rows_before : (n : ℕ) → n ≤ i → rows_in (open_row ns i k d) n ≡ rows_in ns n
  rows_before n h = ap (λ l. rows_in l n) (open_row_puts ns i k d) ∙ rows_below ns i k d 0 n h

module _ (ms : List ℕ) (i start len : ℕ) where
  pub put_span_length : length (put_span ms i start len) ≡ length ms
  unfolding put_span
  put_span_length = put_length number_width ms i start_column (start ∷ len ∷ [])

  module _ (text : List ℕ) where
    span_here : i < number_room ms → span_at text (put_span ms i start len) i ≡ span_of text start len
    unfolding put_span
    span_here h =
        let is = put_here number_width ms i start_column (start ∷ len ∷ []) (omega arith) h in
        rw (is 0 (omega arith), is 1 (omega arith))

    span_there : (j : ℕ) → (j ≡ i → ⊥) → span_at text (put_span ms i start len) j ≡ span_at text ms j
    unfolding put_span
    span_there j o =
        let is = put_there number_width ms i start_column (start ∷ len ∷ []) (omega arith) j o in
        rw (is 0 (omega arith), is 1 (omega arith))

    pub spans_put : i < number_room ms → spans_in text (put_span ms i start len) (i + 1) ≡ spans_in text ms i ++ (span_of text start len ∷ [])
    unfolding spans_in
    spans_put h = firsts_put (span_at text ms) (span_at text (put_span ms i start len)) i (span_of text start len) span_there (span_here h)

    pub spans_before : (m : ℕ) → m ≤ i → spans_in text (put_span ms i start len) m ≡ spans_in text ms m
    unfolding spans_in
    spans_before m h = firsts_same (span_at text ms) (span_at text (put_span ms i start len)) m (λ j l. span_there j (λ z. omega arith))

pub close_in_length : (rs : List Row) (i v : ℕ) → length (close_in rs i v) ≡ length rs
unfolding close_in
close_in_length [] i v = refl
close_in_length (r ∷ rs) zero v = refl
close_in_length (r ∷ rs) (suc i) v = ap suc (close_in_length rs i v)

pub close_in_seam : (a : List Row) (r : Row) (b : List Row) (v : ℕ) → close_in (a ++ r ∷ b) (length a) v ≡ a ++ closed_row r v b ∷ b
unfolding close_in
close_in_seam [] r b v = refl
close_in_seam (q ∷ a) r b v = ap (λ l. q ∷ l) (close_in_seam a r b v)

pub close_in_at : (a : List Row) (r : Row) (b : List Row) (i v : ℕ) → length a ≡ i → close_in (a ++ r ∷ b) i v ≡ a ++ closed_row r v b ∷ b
close_in_at a r b i v e = rw (← e) (close_in_seam a r b v)

pub close_in_left : (a b : List Row) (i v : ℕ) → i < length a → close_in (a ++ b) i v ≡ close_in a i v ++ b
unfolding close_in
close_in_left [] b i v h = absurd (omega arith)
close_in_left (r ∷ a) b zero v h = refl
close_in_left (r ∷ a) b (suc i) v h = ap (λ l. r ∷ l) (close_in_left a b i v (le_of_suc-le-suc h))

pub close_in_past : (a : List Row) (i v : ℕ) → length a ≤ i → close_in a i v ≡ a
unfolding close_in
close_in_past [] i v h = refl
close_in_past (r ∷ a) zero v h = absurd (omega arith)
close_in_past (r ∷ a) (suc i) v h = ap (λ l. r ∷ l) (close_in_past a i v (le_of_suc-le-suc h))

module _ (ns : List ℕ) (i v : ℕ) where
  pub close_row_length : length (close_row ns i v) ≡ length ns
  unfolding close_row
  close_row_length = put_length node_width ns i parts_column (v ∷ [])

  part_here : i < node_room ns → (under : List Row) → row_at (close_row ns i v) i ≡ closed_row (row_at ns i) v under
  unfolding close_row
  part_here h under =
      let stays = put_before node_width ns i parts_column (v ∷ []) in
      rw (stays 0 (omega arith), stays 1 (omega arith), put_here node_width ns i parts_column (v ∷ []) (omega arith) h 0 (omega arith))

  part_there : (j : ℕ) → (j ≡ i → ⊥) → row_at (close_row ns i v) j ≡ row_at ns j
  unfolding close_row
  part_there = row_there ns i parts_column (v ∷ []) (omega arith)

  pub rows_closed : i < node_room ns → (n : ℕ) → rows_in (close_row ns i v) n ≡ close_in (rows_in ns n) i v
  unfolding rows_in firsts
  rows_closed h zero = sym (close_in_past [] i v (omega arith))
  rows_closed h (suc n) = go (rows_closed h n) (dec_lt i n) (dec_lt n i)
    where
      len : length (rows_in ns n) ≡ n
      len = rows_length ns n

      go : rows_in (close_row ns i v) n ≡ close_in (rows_in ns n) i v → Dec (i < n) → Dec (n < i) → rows_in (close_row ns i v) n ++ (row_at (close_row ns i v) n ∷ []) ≡ close_in (rows_in ns n ++ (row_at ns n ∷ [])) i v
      go ih (yes a) b = snoc ih (part_there n (λ z. omega arith)) ∙ sym (close_in_left (rows_in ns n) (row_at ns n ∷ []) i v (omega (arith, len)))
      go ih (no a) (yes b) =
          let past : length (rows_in ns n ++ (row_at ns n ∷ [])) ≤ i = simp length-append (omega (arith, len)) in
          snoc (ih ∙ close_in_past (rows_in ns n) i v (omega (arith, len))) (part_there n (λ z. omega arith)) ∙ sym (close_in_past (rows_in ns n ++ (row_at ns n ∷ [])) i v past)
      go ih (no a) (no b) =
          let e : n ≡ i = omega arith in
          snoc (ih ∙ close_in_past (rows_in ns n) i v (omega (arith, len))) (ap (row_at (close_row ns i v)) e ∙ part_here h []) ∙ sym (ap (λ j. close_in (rows_in ns n ++ (row_at ns j ∷ [])) i v) e ∙ close_in_at (rows_in ns n) (row_at ns i) [] i v (len ∙ e))

-- ---- rows and their numbers
pub rows_wide : (rs : List Row) → length (flat_rows rs) ≡ length rs * node_width
unfolding flat_rows flat_map
rows_wide [] = refl
rows_wide (r ∷ rs) = let z : length (flat_rows rs) ≡ length rs * node_width = rows_wide rs in omega (arith, z)

row_one : (a b : Row) (l l' : List ℕ) → row_numbers a ++ l ≡ row_numbers b ++ l' → (a ≡ b) × (l ≡ l')
row_one a b l l' e =
    let k : a.kind ≡ b.kind = cc in
    let d : a.dimension ≡ b.dimension = cc in
    let n : a.parts ≡ b.parts = cc in
    (rw (k, d, n), cc)

-- rows are those of their numbers
pub rows_one : (a b : List Row) → flat_rows a ≡ flat_rows b → a ≡ b
unfolding flat_rows flat_map
rows_one [] [] e = refl
rows_one [] (r ∷ b) e = let z : ◌≡◌ {A = ℕ} 0 1 = cc in absurd (omega arith)
rows_one (r ∷ a) [] e = let z : ◌≡◌ {A = ℕ} 0 1 = cc in absurd (omega arith)
rows_one (r ∷ a) (q ∷ b) e =
    let u = row_one r q (flat_rows a) (flat_rows b) e in
    let v : a ≡ b = rows_one a b u.1 in
    rw (u.0, v)

zero_at : (m i : ℕ) → get_or (zeros m) i 0 ≡ 0
zero_at zero i = refl
zero_at (suc m) zero = refl
zero_at (suc m) (suc i) = zero_at m i

-- the parts of the first row of a slice that has no row, and of one that has
pub no_row_parts : (n : ℕ) → parts_at (padded (flat_rows []) n) 0 ≡ 0
unfolding cell flat_rows flat_map
no_row_parts n = either (ltb 0 (length (zeros (n - 0)) / node_width)) (λ (x : ℕ). x ≡ 0) _ _ (λ b. zero_at (n - 0) parts_column) λ b. refl

pub first_parts : (r : Row) (rs : List Row) (n : ℕ) → r.parts ≡ 0 → parts_at (padded (flat_rows (r ∷ rs)) n) 0 ≡ 0
unfolding cell flat_rows flat_map
first_parts r rs n e = either (ltb 0 (length (padded (flat_rows (r ∷ rs)) n) / node_width)) (λ (x : ℕ). x ≡ 0) _ _ (λ b. e) λ b. refl
