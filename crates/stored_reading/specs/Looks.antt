-- What private functions of the reader tell, and what they ask.
use Rattle.std.specs.Prelude.{◌≡◌, Bool, true, Result, Ok, Err, List, [], ◌∷◌, ℕ, ◌^◌, ◌≤◌, ◌<◌, length}
use Rattle.lists.specs.Options.{is_some}
use Rattle.store.specs.Rows.{Row, padded}
use Rattle.refusals.specs.Refusals.{faulty_field}
use Rattle.store.specs.Answers.{Outcome, refused}
use Rattle.nodes.specs.Nodes.{above, meets}
use Rattle.stored_form.specs.declared.Counts.{Counts}
use Rattle.stored_form.specs.declared.Refusal.{Refusal}
use Rattle.stored_form.specs.declared.Seen.{Seen}
use Rattle.stored_form.specs.declared.Version.{Version}
use Rattle.stored_form.specs.Form.{first_node}
use Rattle.stored_form.specs.Reading.{refusal_at, seen, Run, faulty, whole, nodes_from, after_head, reading_of}
use Rattle.stored_numbers.specs.Looks.{numbers_seen}
use Rattle.stored_reading.specs.declared.Layout.{Layout}

-- whether nodes are a tree that needs so many numbers
abbrev pub nodes_well : ℕ → Run Row → Result Seen Refusal
nodes_well numbers (faulty at) = refusal_at faulty_field at
nodes_well numbers (whole rs at) = seen (is_some (meets numbers (above ∷ []) 0 0 rs)) at

abbrev pub nodes_seen : ℕ → List ℕ → ℕ → ℕ → ℕ → Result Seen Refusal
nodes_seen w bytes first count numbers = nodes_well numbers (nodes_from w bytes first count)

-- what is known once the head has told its counts
pub record Headed (w : ℕ) (bytes : List ℕ) (c : Counts) : Type 0 where
  pub narrow : w ≤ 4
  pub short : length bytes < 2 ^ 32
  pub told : first_node w ≤ length bytes
  pub counted : c.nodes < 2 ^ 32

-- what its fields come to
abbrev pub headed_of : ℕ → ℕ → ℕ → List ℕ → Counts → Outcome
headed_of w N M bytes c = after_head w N M bytes (Ok c)

-- its node fields were seen, with this answer
abbrev pub NodesSeen : ℕ → List ℕ → Counts → Bool → ℕ → Type 0
NodesSeen w bytes c well middle = nodes_seen w bytes (first_node w) c.nodes c.numbers ≡ seen well middle

-- its number fields were seen, and are all well
pub record NumbersGood (bytes : List ℕ) (middle count : ℕ) : Type 0 where
  pub end : ℕ
  pub are : numbers_seen bytes middle count ≡ seen true end

-- fields that are one tree, for each of which there is a row
pub record LaidOut (v : Version) (N M : ℕ) (bytes : List ℕ) (l : Layout) : Type 0 where
  pub headed : Headed v.width bytes l.counts
  pub reading : reading_of v N M bytes ≡ headed_of v.width N M bytes l.counts
  pub nodes : NodesSeen v.width bytes l.counts true l.middle
  pub numbers : NumbersGood bytes l.middle l.counts.numbers
  pub node_rows : l.counts.nodes ≤ N
  pub number_rows : l.counts.numbers ≤ M

-- what is found where every field is looked at: such fields, or the refusal that reading comes to
abbrev pub Looked : Version → ℕ → ℕ → List ℕ → Result Layout Refusal → Type 0
Looked v N M bytes (Ok l) = LaidOut v N M bytes l
Looked v N M bytes (Err r) = reading_of v N M bytes ≡ refused r.number r.place

-- a slice is filled with what the fields of a run tell, as numbers, and zeros after it
pub record Filled {X : Type 0} (flat : List X → List ℕ) (r : Run X) (slice slice' : List ℕ) : Type 0 where
  pub put : (xs : List X) (end : ℕ) → r ≡ whole xs end → slice' ≡ padded (flat xs) (length slice)
