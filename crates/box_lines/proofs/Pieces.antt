-- Laws of the lines: how each is put by its pieces.
-- Assumes nothing.
use mathlib.Core.Path.{◌≡◌, sym, ap, ◌∙◌}
use mathlib.Core.List.{List, [], ◌∷◌, ◌++◌}
use Prim.Native.Nat.{ℕ, ◌-◌, ◌*◌, ◌/◌, ◌≤◌, min}
use native.Mathlib.Omega.{arith}
use borrow.Author.Tests.{eq-eqb, ne_eqb}
use lib.IntN.{ℤ, nat_abs}
use lib.ListN.{length, take, drop, length-drop}
use lib.Seq.{take_all}
use Rattle.scan.specs.Text.{bytes}
use Rattle.store.specs.Rows.{kind_at}
use Rattle.printing.specs.declared.Out.{Out}
use Rattle.printing.specs.Printing.{Prints}
use Rattle.printing.proofs.Buffers.{prints_then}
use Rattle.signed_lines.specs.Signed.{spaced_units}
use Rattle.row_lines.specs.Lines.{lines_of}
use Rattle.row_lines.proofs.Lines.{rows_all}
use Rattle.box_lines.specs.Lines.{pair, column, box_text, row_line, box_line, box_lines}

-- what stands for the numbers is put
pub pair_put : (low high : ℤ) {l h : ℤ} {a b c : Out} → l ≡ low → h ≡ high → Prints (spaced_units l) a b → Prints (spaced_units h) b c → Prints (pair low high) a c
pair_put low high p q x y = prints_then (rw p at x) (rw q at y)

module _ (l : List ℤ) {a b : Out} {z : ℤ} {n : ℕ} (p : z ≡ column l 0) (e : n ≡ nat_abs z) where
  pub box_none : n ≡ 0 → Prints (bytes " -" ∷ []) a b → Prints (box_text l) a b
  box_none h x = rw (eq-eqb (nat_abs (column l 0)) 0 (sym (e ∙ ap nat_abs p) ∙ h)) x

  pub box_sides : {u v w s : ℤ} {c : Out} → (n ≡ 0 → ⊥) → u ≡ column l 1 → v ≡ column l 2 → w ≡ column l 3 → s ≡ column l 4 → Prints (pair u v) a b → Prints (pair w s) b c → Prints (box_text l) a c
  box_sides h q r t f x y = rw (ne_eqb (nat_abs (column l 0)) 0 (λ o. h (e ∙ ap nat_abs p ∙ o))) (prints_then (rw (q, r) at x) (rw (t, f) at y))

module _ (ns : List ℕ) (t : List ℤ) where
  -- the rest of the table, as it is lent
  rest : (from : ℕ) → take (length t - from) (drop from t) ≡ drop from t
  rest from = take_all (length t - from) (drop from t) (rw (length-drop from t) (omega arith))

  pub line_put : (i : ℕ) {a b : Out} {k : ℕ} → k ≡ kind_at ns i → Prints (row_line i k (take (length t - i * 5) (drop (i * 5) t))) a b → Prints (box_line ns t i) a b
  line_put i e x = rw (rest (i * 5), e) at x

  pub lines_all : (rows last i : ℕ) {a b : Out} → last ≡ min rows (length t / 5) → i ≤ last → last ≤ i → Prints ([] ++ lines_of (box_line ns t) i) a b → Prints (box_lines ns t rows) a b
  lines_all rows last i e h g x = rows_all [] (box_line ns t) i (min rows (length t / 5)) x (omega arith) (omega arith)
