-- Two answers that a public function's contract allows for one input are one answer, and so are the readers that are left.
-- Assumes nothing.
use Prim.Native.Nat.{ℕ}
use mathlib.Core.Path.{◌≡◌}
use mathlib.Core.List.{List}
use denote.Ref.{Bor}
use Rattle.lists.specs.One.{One}
use Rattle.lists.proofs.One.{one}
use Rattle.tokenizer.specs.declared.Cursor.{Cursor}
use Rattle.tokenizer.specs.Tokens.{cursor_at, take_at, look_at}
use Rattle.token_reader.specs.declared.Tokens.{Tokens}
use Rattle.token_reader.specs.Reader.{reader, next_of, after_next, peek_of, after_peek, nth_from}

module _ (text : Bor (List ℕ)) where
  pub new_one : (cursor : Cursor) → One (λ r. r ≡ reader text cursor)
  new_one cursor = one

  pub at_one : (place : ℕ) → One (λ r. r ≡ reader text (cursor_at place))
  at_one place = one

  pub from_slice_one : One (λ r. r ≡ reader text (cursor_at 0))
  from_slice_one = one

module _ (self : Tokens) where
  pub take_one : One (λ r. r ≡ take_at self.text.now self.cursor)
  take_one = one

  pub look_one : One (λ r. r ≡ look_at self.text.now self.cursor)
  look_one = one

  pub moved_one : (cursor : Cursor) → One (λ r. r ≡ reader self.text cursor)
  moved_one cursor = one

  -- the answer, and the reader after it
  pub next_one : One (λ r. r ≡ next_of self) × One (λ after. after ≡ after_next self)
  next_one = (one, one)

  pub peek_one : One (λ r. r ≡ peek_of self) × One (λ after. after ≡ after_peek self)
  peek_one = (one, one)

module _ (text : List ℕ) (cursor : Cursor) where
  pub take_from_one : One (λ r. r ≡ take_at text cursor)
  take_from_one = one

  pub look_from_one : One (λ r. r ≡ look_at text cursor)
  look_from_one = one

  pub next_from_one : One (λ r. r ≡ take_at text cursor)
  next_from_one = one

  pub peek_from_one : One (λ r. r ≡ look_at text cursor)
  peek_from_one = one

pub first_one : (text : Bor (List ℕ)) (place : ℕ) → One (λ r. r ≡ next_of (reader text (cursor_at place)))
first_one text place = one

pub nth_one : (text : List ℕ) (place n : ℕ) → One (λ r. r ≡ nth_from text n (cursor_at place))
nth_one text place n = one
