-- Two answers that a public function's contract allows for one input are one answer, and so are two buffers that are left. `read_input` isn't here: what it
-- answers is what standard input has.
-- Assumes nothing.
use Prim.Native.Nat.{ℕ}
use mathlib.Core.Path.{◌≡◌}
use mathlib.Core.List.{List}
use Rattle.lists.specs.One.{One}
use Rattle.lists.proofs.One.{one}
use Rattle.printing.specs.Printing.{Buffer, put_all_in}
use Rattle.console.specs.Console.{is_over_input, room_for_nodes, room_for_numbers, counts_line, refusal_line, too_long_line, u32_at}

pub node_rows_one : One (λ r. r ≡ room_for_nodes)
node_rows_one = one

pub number_rows_one : One (λ r. r ≡ room_for_numbers)
number_rows_one = one

pub is_over_one : (bytes : ℕ) → One (λ r. r ≡ is_over_input bytes)
is_over_one bytes = one

pub u32_at_one : (bytes : List ℕ) (at : ℕ) → One (λ r. r ≡ u32_at bytes at)
u32_at_one bytes at = one

-- the bytes and the count together
module _ (b : Buffer) where
  pub put_line_one : (name end : List ℕ) (first second : ℕ) → One (λ left. left ≡ put_all_in (counts_line name first second end) b)
  put_line_one name end first second = one

  pub put_refusal_one : (n place : ℕ) (end : List ℕ) → One (λ left. left ≡ put_all_in (refusal_line n place end) b)
  put_refusal_one n place end = one

  pub put_too_long_one : One (λ left. left ≡ put_all_in too_long_line b)
  put_too_long_one = one
