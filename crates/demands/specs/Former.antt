-- Request 2026-02, over calls of `read`: what was answered before it and what is answered now. "Refusal 6 becomes two [..]. Demand 2 reads both as the Rust's one
-- message; the closing-token rule is unchanged. Refusals: 28 and 29 in the place of 6." (document 02) The theorems that give these are in proofs/Former.
use Rattle.std.specs.Prelude.{◌≡◌, true, cond, ◌↔◌, List, ℕ}
use Rattle.refusals.specs.Refusals.{bad_number}
use Rattle.token.specs.Tokens.{is_bad_number, bad_at}
use Rattle.store.specs.Rows.{node_room, number_room}
use Rattle.store.specs.declared.ReadAnswer.{ReadAnswer}
use Rattle.grammar.specs.Grammar.{refused}
use Rattle.grammar.specs.Former.{former_reading}
use Rattle.wkt.specs.Leaves.{answer_of, Leaves}
use Rattle.demands.specs.Calls.{Read}

-- what a call of `read` left before the request, by the contract that it had
abbrev pub FormerRead : List ℕ → List ℕ → List ℕ → ReadAnswer → List ℕ → List ℕ → Type 0
FormerRead text ns ms a ns' ms' = Leaves (former_reading (node_room ns) (number_room ms) text) ns ms a ns' ms'

-- what is said of a call then, which answered b and left ns'' and ms'', and of the same call now
abbrev pub OfBoth : (List ℕ → ReadAnswer → List ℕ → List ℕ → ReadAnswer → List ℕ → List ℕ → Type 0) → Type 0
OfBoth Q =
    (text ns ms : List ℕ) (b : ReadAnswer) (ns'' ms'' : List ℕ) (a : ReadAnswer) (ns' ms' : List ℕ) → FormerRead text ns ms b ns'' ms'' → Read text ns ms a ns' ms' → Q text b ns'' ms'' a ns' ms'

-- both slices are left the same, and the counts are
abbrev pub SlicesStay : Type 0
SlicesStay = OfBoth λ text b ns'' ms'' a ns' ms'. (ns' ≡ ns'') × (ms' ≡ ms'') × (a.nodes ≡ b.nodes) × (a.numbers ≡ b.numbers)

-- "28 and 29 in the place of 6": the one is answered exactly where the other was
abbrev pub ExactlyThere : Type 0
ExactlyThere = OfBoth λ text b ns'' ms'' a ns' ms'. (b.number ≡ bad_number) ↔ (is_bad_number a.number ≡ true)

-- "Refusal 6 becomes two": with the number and the place of the bad number that starts where the 6 was, and "all after the place 0"
abbrev pub BecomesTwo : Type 0
BecomesTwo = OfBoth λ text b ns'' ms'' a ns' ms'. b.number ≡ bad_number → a ≡ answer_of (refused (bad_at text b.place))

-- every other answer is what it was: "the closing-token rule is unchanged", and 10 keeps the token's start
abbrev pub OthersStay : Type 0
OthersStay = OfBoth λ text b ns'' ms'' a ns' ms'. (b.number ≡ bad_number → ⊥) → a ≡ b

-- "Demand 2 reads both as the Rust's one message", which is that of 6: read so, the numbers are what they were
abbrev pub as_the_rust : ℕ → ℕ
as_the_rust e = cond (is_bad_number e) bad_number e

abbrev pub OneMessage : Type 0
OneMessage = OfBoth λ text b ns'' ms'' a ns' ms'. as_the_rust a.number ≡ b.number
