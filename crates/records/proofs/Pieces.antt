-- Laws of lines: they are put piece by piece, and entry after entry.
-- Assumes nothing.
use mathlib.Core.Path.{◌≡◌, sym, ◌∙◌}
use mathlib.Core.List.{List, [], ◌∷◌, ◌++◌, flat_map, append_assoc, append-nil}
use Prim.Native.Nat.{ℕ, ◌+◌, ◌≤◌, ◌<◌, min}
use native.Mathlib.Omega.{arith}
use native.Mathlib.Numerals.{add-one}
use native.Mathlib.Decide.{dec_lt}
use lib.ListN.{length, get_or, take}
use lib.Seq.{take-suc, take-length, take_all}
use borrow.Author.Tests.{eq-eqb, ne_eqb}
use Rattle.scan.specs.Text.{bytes}
use Rattle.printing.specs.declared.Out.{Out}
use Rattle.printing.specs.Printing.{spaced, Prints}
use Rattle.printing.proofs.Buffers.{prints_then}
use Rattle.store.specs.declared.ReadAnswer.{ReadAnswer}
use Rattle.store.specs.declared.WriteAnswer.{WriteAnswer}
use Rattle.records.specs.Lines.{three_numbers, left_over, left_line, each_of, rows_line, used_nodes, used_numbers, numbers_line, read_line, hex_byte, write_line, move_numbers, move_line}

flat_snoc : (f : ℕ → List (List ℕ)) (l : List ℕ) (n : ℕ) → flat_map f (l ++ (n ∷ [])) ≡ flat_map f l ++ f n
unfolding flat_map
flat_snoc f [] n = append-nil (f n)
flat_snoc f (b ∷ l) n = rw (flat_snoc f l n, append_assoc)

-- behind others something is put for each entry of a part of a list
module _ (xs : List (List ℕ)) (f : ℕ → List (List ℕ)) (l : List ℕ) {a b : Out} where
  pub each_none : Prints xs a b → Prints (xs ++ each_of f l 0) a b
  unfolding each_of flat_map
  each_none p = rw append-nil p

  pub each_on : (i : ℕ) {c : Out} → i < length l → Prints (xs ++ each_of f l i) a b → Prints (f (get_or l i 0)) b c → Prints (xs ++ each_of f l (i + 1)) a c
  unfolding each_of
  each_on i h p q =
      rw (add-one i, take-suc l i 0 h, flat_snoc f (take i l) (get_or l i 0), ← append_assoc xs (flat_map f (take i l)) (f (get_or l i 0))) (prints_then p q)

-- all that is used of a slice
pub each_all : (xs : List (List ℕ)) (f : ℕ → List (List ℕ)) (s : List ℕ) (used n i : ℕ) {a b : Out} → n ≡ min used (length s) → length (take n s) ≤ i → Prints (xs ++ each_of f (take n s) i) a b → Prints (xs ++ each_of f s used) a b
unfolding each_of
each_all xs f s used n i e h p = rw (← take_all i (take n s) h ∙ go (dec_lt (length s) used)) p
  where
    go : Dec (length s < used) → take n s ≡ take used s
    go (yes j) =
        let x : n ≡ length s = omega arith in
        rw x (take-length s ∙ sym (take_all used s (omega arith)))
    go (no j) =
        let x : n ≡ used = omega arith in
        rw x

-- a slice's used places: none, or some
module _ (l : List ℕ) (used : ℕ) {a b : Out} where
  pub none_put : used ≡ 0 → Prints (bytes " ;" ∷ bytes " " ∷ []) a b → Prints (rows_line l used) a b
  none_put e p = rw (eq-eqb used 0 e) p

  pub some_put : (used ≡ 0 → ⊥) → Prints ((bytes " ;" ∷ []) ++ each_of spaced l used) a b → Prints (rows_line l used) a b
  some_put e p = rw (ne_eqb used 0 e) p

-- the whole line of a reader's answer, and of a writer's
pub read_put : (a : ReadAnswer) (ns ms : List ℕ) {used spans j k : ℕ} {o o₁ o₂ o₃ o₄ : Out} → used ≡ used_nodes a ns → spans ≡ used_numbers a ms → j ≡ left_over ns used → k ≡ left_over ms spans → Prints (numbers_line a) o o₁ → Prints (rows_line ns used) o₁ o₂ → Prints (rows_line ms spans) o₂ o₃ → Prints (left_line (j + k)) o₃ o₄ → Prints (read_line a ns ms) o o₄
read_put a ns ms d e f g x y z w = prints_then x (prints_then (rw d at y) (prints_then (rw e at z) (rw (f, g, d, e) at w)))

pub written_put : (a : WriteAnswer) (out : List ℕ) {k : ℕ} {o o₁ o₂ o₃ o₄ : Out} → k ≡ left_over out a.length → Prints (three_numbers a.number a.place a.length) o o₁ → Prints (bytes " ; " ∷ []) o₁ o₂ → Prints (each_of hex_byte out a.length) o₂ o₃ → Prints (left_line k) o₃ o₄ → Prints (write_line a out) o o₄
written_put a out e x y z w = prints_then x (prints_then y (prints_then z (rw e at w)))

-- and of a move's
pub moved_put : (a : ReadAnswer) (n : ℕ) (out ns ms : List ℕ) {used spans i j k : ℕ} {o o₁ o₂ o₃ o₄ o₅ o₆ : Out} → used ≡ used_nodes a ns → spans ≡ used_numbers a ms → i ≡ left_over out n → j ≡ left_over ns used → k ≡ left_over ms spans →
    Prints (move_numbers a n) o o₁ → Prints (bytes " ; " ∷ []) o₁ o₂ → Prints (each_of hex_byte out n) o₂ o₃ → Prints (rows_line ns used) o₃ o₄ → Prints (rows_line ms spans) o₄ o₅ → Prints (left_line (i + (j + k))) o₅ o₆ → Prints (move_line a n out ns ms) o o₆
moved_put a n out ns ms d e c f g x h b y z w = prints_then x (prints_then h (prints_then b (prints_then (rw d at y) (prints_then (rw e at z) (rw (c, f, g, d, e) at w)))))
