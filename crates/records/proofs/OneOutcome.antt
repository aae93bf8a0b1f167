-- Two answers that a public function's contract allows for one input are one answer, and so are two slices and two buffers that are left. `refill` isn't
-- here: what it leaves is what standard input has.
-- Assumes nothing.
use Prim.Native.Nat.{ℕ}
use mathlib.Core.Path.{◌≡◌, sym, ap, ◌∙◌}
use mathlib.Core.List.{List}
use Rattle.std.proofs.Common.{Option}
use lib.ListN.{drop}
use Rattle.lists.specs.One.{One}
use Rattle.lists.proofs.One.{one}
use Rattle.printing.specs.Printing.{Buffer, put_all_in}
use Rattle.console.specs.Console.{u32_at}
use Rattle.store.specs.declared.ReadAnswer.{ReadAnswer}
use Rattle.store.specs.declared.WriteAnswer.{WriteAnswer}
use Rattle.records.specs.declared.input.State.{State}
use Rattle.records.specs.declared.slices.Slices.{Slices}
use Rattle.records.specs.Records.{has_text_at, slices_at, lent_in, rows_of_nodes, rows_of_numbers, Loads}
use Rattle.records.specs.Input.{front_of, cut_in}
use Rattle.records.specs.Lines.{bad_record, three_numbers, left_line, read_line, write_line, move_line}

module _ (bytes : List ℕ) where
  pub field_one : (at : ℕ) → One (λ r. r ≡ u32_at bytes at)
  field_one at = one

  pub behind_one : (at : ℕ) → One (λ r. r ≡ drop at bytes)
  behind_one at = one

  pub has_text_one : (at : ℕ) → One (λ r. r ≡ has_text_at bytes at)
  has_text_one at = one

  pub at_front_one : (s : State) → One (λ r. r ≡ front_of bytes s)
  at_front_one s = one

  pub told_one : (text : ℕ) → One (λ r. r ≡ slices_at bytes text)
  told_one text = one

  pub lent_one : One (λ r. r ≡ lent_in bytes)
  lent_one = one

  -- what is told, and both slices
  pub load_one : (ns ms : List ℕ) {r r' : Option Slices} {ns' ns'' ms' ms'' : List ℕ} → Loads bytes ns ms r ns' ms' → Loads bytes ns ms r' ns'' ms'' → (r ≡ r') × (ns' ≡ ns'') × (ms' ≡ ms'')
  load_one ns ms a b =
      let same = a.told ∙ sym b.told in (
        same,
        a.nodes ∙ (ap (λ s. rows_of_nodes bytes s ns) same ∙ sym b.nodes),
        a.numbers ∙ (ap (λ s. rows_of_numbers bytes s ms) same ∙ sym b.numbers),
      )

-- the bytes and the count together
module _ (b : Buffer) where
  pub put_bad_record_one : One (λ left. left ≡ put_all_in bad_record b)
  put_bad_record_one = one

  pub put_three_one : (first second third : ℕ) → One (λ left. left ≡ put_all_in (three_numbers first second third) b)
  put_three_one first second third = one

  pub put_left_over_one : (count : ℕ) → One (λ left. left ≡ put_all_in (left_line count) b)
  put_left_over_one count = one

  pub put_read_one : (a : ReadAnswer) (ns ms : List ℕ) → One (λ left. left ≡ put_all_in (read_line a ns ms) b)
  put_read_one a ns ms = one

  pub put_written_one : (a : WriteAnswer) (out : List ℕ) → One (λ left. left ≡ put_all_in (write_line a out) b)
  put_written_one a out = one

  pub put_moved_one : (a : ReadAnswer) (n : ℕ) (out ns ms : List ℕ) → One (λ left. left ≡ put_all_in (move_line a n out ns ms) b)
  put_moved_one a n out ns ms = one

  pub put_cut_record_one : (s : State) → One (λ left. left ≡ cut_in s b)
  put_cut_record_one s = one
