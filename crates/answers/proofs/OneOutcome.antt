-- Two answers that a public function's contract allows for one input are one answer, and the slices are left the same.
-- Assumes nothing.
use Prim.Native.Nat.{ℕ}
use mathlib.Core.Path.{◌≡◌}
use mathlib.Core.List.{List}
use Rattle.std.specs.Prelude.{Ok}
use Rattle.lists.specs.One.{One}
use Rattle.lists.proofs.One.{one}
use Rattle.tokenizer.specs.declared.Cursor.{Cursor}
use Rattle.tokenizer.specs.Tokens.{cursor_at, pass_comma}
use Rattle.store.specs.Rows.{open_row}
use Rattle.headings.specs.declared.NoHead.{NoHead}
use Rattle.answers.specs.declared.Unread.TheVariants.{Refused}
use Rattle.answers.specs.declared.State.{State}
use Rattle.answers.specs.declared.Spot.{Spot}
use Rattle.answers.specs.Reading.{Answer, spot, state, state_of, ended_nodes, closed_at, closed_nodes, after_refusal, row_for}

pub moved_one : (at : ℕ) (s : Spot) → One (λ r. r ≡ spot at s.nodes s.numbers)
moved_one at s = one

pub at_cursor_one : (c : Cursor) (s : Spot) → One (λ r. r ≡ state c s.nodes s.numbers)
at_cursor_one c s = one

pub state_of_one : (s : Spot) → One (λ r. r ≡ state_of s)
state_of_one s = one

pub spot_of_one : (s : State) → One (λ r. r ≡ spot s.cursor.at s.nodes s.numbers)
spot_of_one s = one

pub after_part_one : (text : List ℕ) (end : Spot) → One (λ r. r ≡ pass_comma text (cursor_at end.at))
after_part_one text end = one

pub after_refusal_one : (text : List ℕ) (got : Answer) → One (λ r. r ≡ after_refusal text got)
after_refusal_one text got = one

pub from_one : (e : NoHead) → One (λ u. u ≡ Refused e.refusal e.next)
from_one e = one

-- those that are lent the node rows: the answer, and the slice that is left
module _ (ns : List ℕ) (row parts : ℕ) where
  pub ended_one : (end : Spot) → One (λ (r : Answer). r ≡ Ok end)
  ended_one end = one

  pub ended_left_one : (end : Spot) → One (λ left. left ≡ ended_nodes ns row parts end)
  ended_left_one end = one

  pub closing_one : (text : List ℕ) (s : State) → One (λ r. r ≡ closed_at text s)
  closing_one text s = one

  pub closing_left_one : (text : List ℕ) (s : State) → One (λ left. left ≡ closed_nodes text s ns row parts)
  closing_left_one text s = one

module _ (ns : List ℕ) where
  pub open_node_one : (place : ℕ) (s : Spot) → One (λ r. r ≡ row_for ns place s)
  open_node_one place s = one

  pub open_node_left_one : (i kind dimension : ℕ) → One (λ left. left ≡ open_row ns i kind dimension)
  open_node_left_one i kind dimension = one
