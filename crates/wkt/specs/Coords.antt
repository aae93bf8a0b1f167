-- What a call of each part of the reader of coordinates comes to: it is lent the number rows only, and says its equation for all node rows.
use Rattle.std.specs.Prelude.{◌≡◌, Ok, Err, List, ℕ, zero, suc, ◌+◌, ◌≤◌, ◌<◌, ◌^◌, length}
use Rattle.tokenizer.specs.Tokens.{cursor_at}
use Rattle.token_stream.specs.Stream.{stream}
use Rattle.token_stream.specs.Sound.{Sound}
use Rattle.store.specs.Rows.{Row, node_room, number_room, rows_in, spans_in}
use Rattle.grammar.specs.Asks.{P}
use Rattle.grammar.specs.Grammar as spec
use Rattle.grammar.specs.Grammar.{Got}
use Rattle.answers.specs.declared.State.{State}
use Rattle.answers.specs.declared.Spot.{Spot}
use Rattle.answers.specs.declared.Unread.TheVariants.{Refused, Stopped}
use Rattle.answers.specs.Reading.{Answer, spot, state, used_by, got_of, end_of, Within, Met, Part}

-- what is asked of a state before numbers are read token by token: the rows used are within the room, and what is held was
-- read of the text
pub record Ready (text ms : List ℕ) (s : State) : Type 0 where
  pub short : length text + 2 < 2 ^ 32
  pub numbers : s.numbers ≤ number_room ms
  pub sound : Sound text s.cursor

-- of a spot
pub record FitsNumbers (text ms : List ℕ) (s : Spot) : Type 0 where
  pub short : length text + 2 < 2 ^ 32
  pub numbers : s.numbers ≤ number_room ms

-- and of what came before
abbrev pub ReadyAfter : List ℕ → List ℕ → Answer → Type 0
ReadyAfter text ms (Ok s) = FitsNumbers text ms s
ReadyAfter text ms (Err (Refused r c)) = Unit {0}
ReadyAfter text ms (Err (Stopped r c)) = Unit {0}

-- one that goes on from an answer; g is what it reads there
pub record MetOn (text : List ℕ) (g : ℕ → Got → P Got) (a : Answer) (ms : List ℕ) (r : Answer) (ms' : List ℕ) : Type 0 where
  pub met :
      (N M : ℕ) (R : ℕ → List Row) → number_room ms ≡ M → Within N M a →
      Met text N M R (spans_in text ms') (g M (got_of R (spans_in text ms) a)) (stream text (end_of a)) r

-- the number that is refused by e if it is missing
pub record MetNumber (text : List ℕ) (e : ℕ) (s : State) (ms : List ℕ) (r : Answer) (ms' : List ℕ) : Type 0 where
  pub met :
      (N M : ℕ) (R : ℕ → List Row) → number_room ms ≡ M → s.nodes ≤ N →
      Met text N M R (spans_in text ms') (spec.number M e (used_by R (spans_in text ms) s.nodes s.numbers)) (stream text s.cursor) r

pub record MetCoord (text : List ℕ) (d : ℕ) (s : State) (ms : List ℕ) (r : Answer) (ms' : List ℕ) : Type 0 where
  pub met :
      (N M : ℕ) (R : ℕ → List Row) → number_room ms ≡ M → s.nodes ≤ N →
      Met text N M R (spans_in text ms') (spec.coord M d (used_by R (spans_in text ms) s.nodes s.numbers)) (stream text s.cursor) r

-- the rows before `used` are as they were
pub record Unmoved (text : List ℕ) (used : ℕ) (ms ms' : List ℕ) : Type 0 where
  pub same : length ms' ≡ length ms
  pub spans : (m : ℕ) → m ≤ used → spans_in text ms' m ≡ spans_in text ms m

-- k numbers one after the other, from i up to r, into the rows from `used` up to u, whatever is refused for want of one
pub data Numbers (text : List ℕ) (i used : ℕ) (ms : List ℕ) : ℕ → ℕ → ℕ → List ℕ → Type 0 where
  none : Numbers text i used ms zero used i ms
  more :
      {k u c r : ℕ} {ms₁ ms₂ : List ℕ} → Numbers text i used ms k u c ms₁ → length ms₂ ≡ length ms₁ →
      ((e n : ℕ) → MetNumber text e (state (cursor_at c) n u) ms₁ (Ok (spot r n (suc u))) ms₂) → Numbers text i used ms (suc k) (suc u) r ms₂

-- where r lies behind i, so many numbers were read
pub record MetPlains (text : List ℕ) (width i used : ℕ) (ms : List ℕ) (r : ℕ) (ms' : List ℕ) : Type 0 where
  pub kept : Unmoved text used ms ms'
  pub numbers : i < r → Numbers text i used ms width (used + width) r ms'

-- what is asked of a state before a bare point is read, whose first token is held
pub record FitsHeld (text ns ms : List ℕ) (s : State) : Type 0 where
  pub short : length text + 2 < 2 ^ 32
  pub nodes : s.nodes ≤ node_room ns
  pub numbers : s.numbers ≤ number_room ms
  pub sound : Sound text s.cursor

-- `Reads`, from such a state on
pub record ReadsHeld (text : List ℕ) (g : Part) (s : State) (ns ms : List ℕ) (r : Answer) (ns' ms' : List ℕ) : Type 0 where
  pub met :
      (N M : ℕ) → node_room ns ≡ N → number_room ms ≡ M →
      Met text N M (rows_in ns') (spans_in text ms') (g N M (used_by (rows_in ns) (spans_in text ms) s.nodes s.numbers)) (stream text s.cursor) r
