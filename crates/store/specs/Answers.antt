-- What an entry answers that fills a store or writes one, and what it leaves in the slices that it is lent (document 01, "Refusal numbers").
use Rattle.std.specs.Prelude.{◌≡◌, cond, List, [], ℕ, leb, length}
use Rattle.std.proofs.Common.{sym, ◌∙◌}
use Rattle.refusals.specs.Refusals.{no_room}
use Rattle.store.specs.declared.ReadAnswer.{ReadAnswer}
use Rattle.store.specs.declared.WriteAnswer.{WriteAnswer}
use Rattle.store.specs.Rows.{Row, Span, node_width, number_width, places_of, flat_rows, flat_spans, zeros, padded, cleared}

-- ---- readers
-- what reading into a store comes to: node rows and number rows, or a refusal's number and place
pub data Outcome : Type 0 where
  filled : List Row → List Span → Outcome
  refused : ℕ → ℕ → Outcome

-- "The reader answers number, place, node count, number count"; "Number and place are 0 when accepted, all after the place 0
-- when refused."
abbrev pub read_answer : Outcome → ReadAnswer
read_answer (filled rs ss) = record { number = 0; place = 0; nodes = length rs; numbers = length ss }
read_answer (refused number place) = record { number = number; place = place; nodes = 0; numbers = 0 }

-- the used rows as numbers: none after a refusal
abbrev pub used_rows : Outcome → List ℕ
used_rows (filled rs ss) = flat_rows rs
used_rows (refused number place) = []

abbrev pub used_spans : Outcome → List ℕ
used_spans (filled rs ss) = flat_spans ss
used_spans (refused number place) = []

-- the answer, and every place of both slices: "Unused places are zero after every call."
pub record Leaves (o : Outcome) (ns ms : List ℕ) (a : ReadAnswer) (ns' ms' : List ℕ) : Type 0 where
  pub answer : a ≡ read_answer o
  pub nodes : ns' ≡ padded (used_rows o) (length ns)
  pub numbers : ms' ≡ padded (used_spans o) (length ms)

-- the first rows of both slices stay, and zeros follow them
pub record Accepts (ns ms : List ℕ) (rows used : ℕ) (a : ReadAnswer) (ns' ms' : List ℕ) : Type 0 where
  pub answer : a ≡ record { number = 0; place = 0; nodes = rows; numbers = used }
  pub nodes : ns' ≡ cleared ns (places_of node_width ns rows)
  pub numbers : ms' ≡ cleared ms (places_of number_width ms used)

-- two outcomes that such a contract allows coincide
pub leaves_one : {o : Outcome} {ns ms : List ℕ} {a a' : ReadAnswer} {ns' ns'' ms' ms'' : List ℕ} → Leaves o ns ms a ns' ms' → Leaves o ns ms a' ns'' ms'' → (a ≡ a') × (ns' ≡ ns'') × (ms' ≡ ms'')
leaves_one x y = (x.answer ∙ sym y.answer, x.nodes ∙ sym y.nodes, x.numbers ∙ sym y.numbers)

-- ---- writers
-- what writing a store comes to before the room is looked at: bytes, or a refusal's number
pub data Output : Type 0 where
  bytes : List ℕ → Output
  refusal : ℕ → Output

-- "Number and place are 0 when accepted, all after the place 0 when refused."
abbrev pub wrote : ℕ → WriteAnswer
wrote n = record { number = 0; place = 0; length = n }

abbrev pub not_written : ℕ → WriteAnswer
not_written number = record { number = number; place = 0; length = 0 }

-- 23 comes last: "writer: canonical text longer than the room"
abbrev pub write_answer : Output → ℕ → WriteAnswer
write_answer (bytes b) room = cond (leb (length b) room) (wrote (length b)) (not_written no_room)
write_answer (refusal number) room = not_written number

-- "A refusing writer zeroes its output; an accepting one zeroes what lies after the text."
abbrev pub room_after : Output → ℕ → List ℕ
room_after (bytes b) room = cond (leb (length b) room) (padded b room) (zeros room)
room_after (refusal number) room = zeros room

pub record Writes (o : Output) (room : ℕ) (r : WriteAnswer) (out : List ℕ) : Type 0 where
  pub answer : r ≡ write_answer o room
  pub bytes : out ≡ room_after o room

pub writes_one : {o : Output} {room : ℕ} {r r' : WriteAnswer} {out out' : List ℕ} → Writes o room r out → Writes o room r' out' → (r ≡ r') × (out ≡ out')
writes_one x y = (x.answer ∙ sym y.answer, x.bytes ∙ sym y.bytes)
