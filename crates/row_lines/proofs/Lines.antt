-- Laws of the lines: how each is put by its pieces, and row after row.
-- Assumes nothing.
use mathlib.Core.Path.{◌≡◌, refl, sym, ◌∙◌}
use mathlib.Core.List.{List, [], ◌∷◌, ◌++◌, flat_map}
use Prim.Native.Nat.{ℕ, ◌+◌, ◌-◌, ◌≤◌, min}
use native.Mathlib.Omega.{arith}
use native.Mathlib.Numerals.{add-one}
use lib.ListN.{length, take, drop}
use Rattle.std.proofs.Common.{append_assoc, append-nil}
use Rattle.scan.specs.Text.{bytes}
use Rattle.store.specs.Rows.{node_width, node_column, span_start_at, span_length_at}
use Rattle.store.specs.declared.ReadAnswer.{ReadAnswer}
use Rattle.printing.specs.declared.Out.{Out}
use Rattle.printing.specs.Printing.{Buffer, put_all_in, spaced, Prints}
use Rattle.printing.proofs.Buffers.{put_then, prints_then}
use Rattle.console.specs.Console.{newline}
use Rattle.row_lines.specs.Lines.{node_numbers, node_line, number_line, lines_of, answer_line, listing_lines}

-- the number of a column, after a space
abbrev pub column_in : List ℕ → ℕ → ℕ → List (List ℕ)
column_in ns i c = spaced (node_column ns i c)

-- the numbers of a row are those of its columns
columns_all : (ns : List ℕ) (i : ℕ) → lines_of (column_in ns i) node_width ≡ node_numbers ns i
unfolding lines_of node_column flat_map
columns_all ns i = refl

-- one row more
lines_more : (f : ℕ → List (List ℕ)) (i : ℕ) → lines_of f i ++ f i ≡ lines_of f (i + 1)
unfolding lines_of
lines_more f i = rw (add-one i)

module _ (xs : List (List ℕ)) (f : ℕ → List (List ℕ)) {a b : Out} where
  -- behind others no row is put yet
  pub rows_none : Prints xs a b → Prints (xs ++ lines_of f 0) a b
  unfolding lines_of
  rows_none p = rw append-nil p

  -- one row more
  pub rows_on : (i : ℕ) {c : Out} → Prints (xs ++ lines_of f i) a b → Prints (f i) b c → Prints (xs ++ lines_of f (i + 1)) a c
  rows_on i p q = rw (← lines_more f i, ← append_assoc xs (lines_of f i) (f i)) (prints_then p q)

  pub rows_all : (i n : ℕ) → Prints (xs ++ lines_of f i) a b → i ≤ n → n ≤ i → Prints (xs ++ lines_of f n) a b
  rows_all i n p h l =
      let e : i ≡ n = omega arith in
      rw e at p

-- the number of a column
pub column_put : (ns : List ℕ) (i c : ℕ) {n : ℕ} {a b : Out} → n ≡ node_column ns i c → Prints (spaced n) a b → Prints (column_in ns i c) a b
column_put ns i c e p = rw e at p

-- a node's line
pub node_put : (ns : List ℕ) (i c : ℕ) {a b d : Out} → Prints ((bytes "node" ∷ []) ++ lines_of (column_in ns i) c) a b → c ≤ node_width → node_width ≤ c → Prints (newline ∷ []) b d → Prints (node_line ns i) a d
node_put ns i c p h l q = rw (← columns_all ns i) (prints_then (rows_all (bytes "node" ∷ []) (column_in ns i) c node_width p h l) q)

-- a number's line: the part of the text that lies in it
pub number_put : (text ms : List ℕ) (i : ℕ) {s l start len : ℕ} {a b c d : Out} → s ≡ span_start_at ms i → l ≡ span_length_at ms i → start ≡ min (length text) s → len ≡ min (length text - start) l → Prints (bytes "number " ∷ []) a b → Prints (take (start + len - start) (drop start text) ∷ []) b c → Prints (newline ∷ []) c d → Prints (number_line text ms i) a d
number_put text ms i {s = s} {l} {start} {len} e f g h x y z =
    let n : start + len - start ≡ len = omega arith in
    let g' : start ≡ min (span_start_at ms i) (length text) = omega arith in
    let h' : len ≡ min (span_length_at ms i) (length text - start) = omega arith in
    prints_then x (prints_then (rw (n, h', g') at y) z)

-- the answer's line, the nodes' and the numbers'
pub lines_printed : (a : ReadAnswer) (text ns ms : List ℕ) (j : ℕ) {o o' : Out} → Prints ((answer_line a ++ lines_of (node_line ns) a.nodes) ++ lines_of (number_line text ms) j) o o' → j ≤ a.numbers → a.numbers ≤ j → Prints (listing_lines a text ns ms) o o'
lines_printed a text ns ms j p h l = rw (← append_assoc (answer_line a) (lines_of (node_line ns) a.nodes) (lines_of (number_line text ms) a.numbers)) (rows_all _ (number_line text ms) j a.numbers p h l)

-- the same of a buffer
pub lines_put : (a : ReadAnswer) (text ns ms : List ℕ) (b : Buffer) {b₁ b₂ b₃ : Buffer} → b₁ ≡ put_all_in (answer_line a) b → b₂ ≡ put_all_in (lines_of (node_line ns) a.nodes) b₁ → b₃ ≡ put_all_in (lines_of (number_line text ms) a.numbers) b₂ → b₃ ≡ put_all_in (listing_lines a text ns ms) b
lines_put a text ns ms _ x y z = rw (z, y, x) (sym (put_then (answer_line a) _ _ ∙ put_then (lines_of (node_line ns) a.nodes) _ _))
