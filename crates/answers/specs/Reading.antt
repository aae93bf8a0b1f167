-- What the code's answers mean, and what a call of each part of the reader comes to.
-- A contract over both slices is a record over all values; the rooms stand inside with equations.
use Rattle.std.specs.Prelude.{◌≡◌, Bool, true, false, cond, Result, Ok, Err, List, ℕ, ◌+◌, ◌≤◌, ◌<◌, ◌^◌, eqb, ltb, length}
use Rattle.refusals.specs.Refusals.{no_node_row, not_closed}
use Rattle.tokenizer.specs.declared.Cursor.{Cursor}
use Rattle.tokenizer.specs.Tokens.{cursor_at}
use Rattle.token_stream.specs.Stream.{Str, stream}
use Rattle.store.specs.Rows.{Row, Span, node_room, number_room, rows_in, spans_in, close_row}
use Rattle.grammar.specs.Asks.{P, bind, ran, run}
use Rattle.grammar.specs.Tokens.{sort_close}
use Rattle.grammar.specs.Grammar as spec
use Rattle.grammar.specs.Grammar.{Out, out, Got, ok, refused, halt, refusal}
use Rattle.grammar.specs.Reading.{enough}
use Rattle.sorts.specs.declared.Taken.{Taken}
use Rattle.sorts.specs.Taken.{taken_at, refusal_by}
use Rattle.answers.specs.declared.State.{State}
use Rattle.answers.specs.declared.Spot.{Spot}
use Rattle.answers.specs.declared.Unread.{Unread}
use Rattle.answers.specs.declared.Unread.TheVariants.{Refused, Stopped}

abbrev pub spot : ℕ → ℕ → ℕ → Spot
spot i n m = record { at = i; nodes = n; numbers = m }

abbrev pub state : Cursor → ℕ → ℕ → State
state c n m = record { cursor = c; nodes = n; numbers = m }

-- a spot is a state where nothing is held
abbrev pub state_of : Spot → State
state_of s = state (cursor_at s.at) s.nodes s.numbers

-- what reading a part came to
abbrev pub Answer : Type 0
Answer = Result Spot Unread

abbrev pub is_read : Answer → Bool
is_read (Ok s) = true
is_read (Err e) = false

-- the node in row i has ended at e, with so many parts: its row is closed
abbrev pub ended_nodes : List ℕ → ℕ → ℕ → Spot → List ℕ
ended_nodes ns i parts e = close_row ns i parts

-- what is answered where the closing token was looked for: t was taken
abbrev pub not_closed_at : List ℕ → Taken → Answer
not_closed_at text t = Err (Refused (refusal_by text not_closed t) (cursor_at t.at))

-- behind a body that was read: `)` ends the node, any other token is refused
unfoldable pub closed_at : List ℕ → State → Answer
closed_at text s =
    let t = taken_at text s.cursor in
    cond (eqb t.sort sort_close) (Ok (spot t.at s.nodes s.numbers)) (not_closed_at text t)

-- and its row has its parts only then
unfoldable pub closed_nodes : List ℕ → State → List ℕ → ℕ → ℕ → List ℕ
closed_nodes text s ns i parts =
    let t = taken_at text s.cursor in
    cond (eqb t.sort sort_close) (ended_nodes ns i parts (spot t.at s.nodes s.numbers)) ns

-- behind a body that was refused the closing token is taken too; behind one that was stopped nothing is
unfoldable pub after_refusal : List ℕ → Answer → Answer
after_refusal text (Ok s) = Ok s
after_refusal text (Err (Refused r c)) =
    let t = taken_at text c in
    cond (eqb t.sort sort_close) (Err (Refused r (cursor_at t.at))) (not_closed_at text t)
after_refusal text (Err (Stopped r c)) = Err (Stopped r c)

-- one node row more, or the refusal for want of one
unfoldable pub row_for : List ℕ → ℕ → Spot → Answer
row_for ns p s = cond (ltb s.nodes (node_room ns)) (Ok (spot s.at (s.nodes + 1) s.numbers)) (Err (Stopped (refusal no_node_row p) (cursor_at s.at)))

-- what is used of the slices, where R and S say what they hold in so many rows
abbrev pub used_by : (ℕ → List Row) → (ℕ → List Span) → ℕ → ℕ → Out
used_by R S n m = out (R n) (S m)

-- what an answer means, and the cursor behind it
abbrev pub got_of : (ℕ → List Row) → (ℕ → List Span) → Answer → Got
got_of R S (Ok s) = ok (used_by R S s.nodes s.numbers)
got_of R S (Err (Refused r c)) = refused r
got_of R S (Err (Stopped r c)) = halt r

abbrev pub end_of : Answer → Cursor
end_of (Ok s) = cursor_at s.at
end_of (Err (Refused r c)) = c
end_of (Err (Stopped r c)) = c

-- the rows that were read are within a room for N node rows and M number rows
abbrev pub Within : ℕ → ℕ → Answer → Type 0
Within N M (Ok s) = (s.nodes ≤ N) × (s.numbers ≤ M)
Within N M (Err (Refused r c)) = Unit {0}
Within N M (Err (Stopped r c)) = Unit {0}

-- the reader p, fed with s, comes to r
pub record Met (text : List ℕ) (N M : ℕ) (R : ℕ → List Row) (S : ℕ → List Span) (p : P Got) (s : Str) (r : Answer) : Type 0 where
  pub is : run p s ≡ ran (got_of R S r) (stream text (end_of r))
  pub within : Within N M r

-- a part of the grammar, with room for N node rows and M number rows
abbrev pub Part : Type 0
Part = ℕ → ℕ → Out → P Got

-- functions that are lent both slices read, from a spot on, what g reads
pub record Reads (text : List ℕ) (g : Part) (s : Spot) (ns ms : List ℕ) (r : Answer) (ns' ms' : List ℕ) : Type 0 where
  pub met :
      (N M : ℕ) → node_room ns ≡ N → number_room ms ≡ M →
      Met text N M (rows_in ns') (spans_in text ms') (g N M (used_by (rows_in ns) (spans_in text ms) s.nodes s.numbers)) (stream text (cursor_at s.at)) r

-- what is asked of a spot before both slices are lent: its rows are within the room
pub record Fits (text ns ms : List ℕ) (s : Spot) : Type 0 where
  pub short : length text + 2 < 2 ^ 32
  pub nodes : s.nodes ≤ node_room ns
  pub numbers : s.numbers ≤ number_room ms

-- by commas, what g reads; the parts go to row i
abbrev pub list_of : ℕ → Part → Part
list_of i g N M o = spec.items (g N M) enough 0 i o

-- what g reads, and the closing token
abbrev pub closed_of : Part → Part
closed_of g N M o = bind (g N M o) spec.closing
