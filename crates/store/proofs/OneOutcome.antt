-- Two answers that a public function's contract allows for one input are one answer, and so are two slices that are left.
-- Assumes nothing.
use Prim.Native.Nat.{ℕ}
use mathlib.Core.Path.{◌≡◌, sym, ◌∙◌}
use mathlib.Core.List.{List}
use Rattle.lists.specs.One.{One}
use Rattle.lists.proofs.One.{one}
use Rattle.store.specs.declared.ReadAnswer.{ReadAnswer}
use Rattle.store.specs.Answers.{Accepts, refused, Leaves, leaves_one}
use Rattle.store.specs.Rows.{node_width, number_width, node_room, number_room, places_of, open_row, close_row, put_row, put_span, cleared_to, kind_at, dimension_at, parts_at, node_column, span_start_at, span_length_at}

module _ (slice : List ℕ) where
  pub node_room_one : One (λ r. r ≡ node_room slice)
  node_room_one = one

  pub number_room_one : One (λ r. r ≡ number_room slice)
  number_room_one = one

  pub node_places_one : (rows : ℕ) → One (λ r. r ≡ places_of node_width slice rows)
  node_places_one rows = one

  pub number_places_one : (rows : ℕ) → One (λ r. r ≡ places_of number_width slice rows)
  number_places_one rows = one

-- of numbers of any type, whose zero is z
pub clear_any_one : {A : Type 0} (z : A) (slice : List A) (from : ℕ) → One (λ left. left ≡ cleared_to z slice from)
clear_any_one z slice from = one

pub clear_one : {A : Type 0} (z : A) (slice : List A) (from : ℕ) → One (λ left. left ≡ cleared_to z slice from)
clear_one z slice from = one

module _ (slice : List ℕ) (row : ℕ) where
  pub open_row_one : (kind dimension : ℕ) → One (λ left. left ≡ open_row slice row kind dimension)
  open_row_one kind dimension = one

  pub close_row_one : (parts : ℕ) → One (λ left. left ≡ close_row slice row parts)
  close_row_one parts = one

  pub put_row_one : (kind dimension parts : ℕ) → One (λ left. left ≡ put_row slice row kind dimension parts)
  put_row_one kind dimension parts = one

  pub put_number_one : (start length : ℕ) → One (λ left. left ≡ put_span slice row start length)
  put_number_one start length = one

  pub kind_at_one : One (λ r. r ≡ kind_at slice row)
  kind_at_one = one

  pub dimension_at_one : One (λ r. r ≡ dimension_at slice row)
  dimension_at_one = one

  pub parts_at_one : One (λ r. r ≡ parts_at slice row)
  parts_at_one = one

  pub node_column_one : (column : ℕ) → One (λ r. r ≡ node_column slice row column)
  node_column_one column = one

  pub start_at_one : One (λ r. r ≡ span_start_at slice row)
  start_at_one = one

  pub length_at_one : One (λ r. r ≡ span_length_at slice row)
  length_at_one = one

-- two outcomes of `refuse`: the answer and both slices
pub refuse_one : {why at : ℕ} {ns ms ns' ns'' ms' ms'' : List ℕ} {a a' : ReadAnswer} → Leaves (refused why at) ns ms a ns' ms' → Leaves (refused why at) ns ms a' ns'' ms'' → (a ≡ a') × (ns' ≡ ns'') × (ms' ≡ ms'')
refuse_one x y = leaves_one x y

-- and of `accept`
pub accept_one : {rows used : ℕ} {ns ms ns' ns'' ms' ms'' : List ℕ} {a a' : ReadAnswer} → Accepts ns ms rows used a ns' ms' → Accepts ns ms rows used a' ns'' ms'' → (a ≡ a') × (ns' ≡ ns'') × (ms' ≡ ms'')
accept_one x y = (x.answer ∙ sym y.answer, x.nodes ∙ sym y.nodes, x.numbers ∙ sym y.numbers)
