-- What a heading that the code read means.
use Rattle.std.specs.Prelude.{◌≡◌, Bool, false, cond, Result, Ok, Err, List, ℕ, eqb}
use Rattle.refusals.specs.Refusals.{not_opened}
use Rattle.names.specs.Names.{is_empty_word}
use Rattle.token.specs.declared.Refusal.{Refusal}
use Rattle.tokenizer.specs.declared.Cursor.{Cursor}
use Rattle.tokenizer.specs.Tokens.{cursor_at, take_at, look_at}
use Rattle.token_stream.specs.Stream.{span_in, tok_in}
use Rattle.grammar.specs.Tokens.{sort_word}
use Rattle.grammar.specs.Asks.{P, ret, ask, look}
use Rattle.grammar.specs.Grammar as spec
use Rattle.grammar.specs.Grammar.{opens, empty, wrong}
use Rattle.sorts.specs.declared.Taken.{Taken}
use Rattle.sorts.specs.Taken.{refusal_by}
use Rattle.headings.specs.declared.Head.{Head}
use Rattle.headings.specs.declared.Head.TheVariants.{Opens, Empty}
use Rattle.headings.specs.declared.NoHead.{NoHead}

abbrev pub no_head : Refusal → Cursor → NoHead
no_head r c = record { refusal = r; next = c }

-- what reading a heading came to
abbrev pub Heading : Type 0
Heading = Result Head NoHead

abbrev pub head_of : Heading → spec.Head
head_of (Ok (Opens k d p i)) = opens k d p
head_of (Ok (Empty k d p i)) = empty k d p
head_of (Err e) = wrong e.refusal

-- the cursor behind a heading: behind `(` and EMPTY nothing is held
abbrev pub head_end : Heading → Cursor
head_end (Ok (Opens k d p i)) = cursor_at i
head_end (Ok (Empty k d p i)) = cursor_at i
head_end (Err e) = e.next

-- an answer, and the cursor to go on with
pub data RanAt (A : Type 0) : Type 0 where
  ran_at : A → Cursor → RanAt A

-- a reader over a cursor: it takes and looks as the cursor does
unfoldable pub run_at : {A : Type 0} → List ℕ → P A → Cursor → RanAt A
run_at text (ret a) c = ran_at a c
run_at text (ask k) c = run_at text (k (tok_in text (take_at text c).found)) (take_at text c).next
run_at text (look k) c = run_at text (k (tok_in text (take_at text c).found)) (look_at text c).next

-- the reader p of a heading, over the cursor c, comes to r: what is held behind it too
pub record MetHead (text : List ℕ) (p : P spec.Head) (c : Cursor) (r : Heading) : Type 0 where
  pub is : run_at text p c ≡ ran_at (head_of r) (head_end r)

-- is a token that was taken the word EMPTY, in any case
abbrev pub is_empty_in : List ℕ → Taken → Bool
is_empty_in text t = cond (eqb t.sort sort_word) (is_empty_word (span_in text t.start t.len)) false

-- what a token that was taken and is not `(` says in its place: "`EMPTY` gives no parts. Not `(`: 12."
unfoldable pub empty_at : List ℕ → ℕ → ℕ → Taken → Heading
empty_at text k d t = cond (is_empty_in text t) (Ok (Empty k d t.place t.at)) (Err (no_head (refusal_by text not_opened t) (cursor_at t.at)))
