-- Laws of a token reader: looking changes nothing of the tokens to come.
-- Assumes nothing.
use mathlib.Core.Path.{◌≡◌, refl, ap, ◌∙◌}
use mathlib.Core.List.{List}
use Prim.Native.Nat.{ℕ, suc}
use Rattle.token.specs.declared.Found.{Found}
use Rattle.tokenizer.specs.declared.Held.{Held}
use Rattle.tokenizer.specs.declared.Cursor.{Cursor}
use Rattle.tokenizer.specs.declared.Step.{Step}
use Rattle.tokenizer.specs.Tokens.{take_held, take_at, look_at, hold, step, cursor_at}
use Rattle.token_stream.specs.Stream.{hd, tl, tok_in, stream}
use Rattle.token_stream.proofs.Stream.{take_head, take_tail, look_same}
use Rattle.token_reader.specs.declared.Tokens.{Tokens}
use Rattle.token_reader.specs.Reader.{reader, next_of, after_next, peek_of, after_peek, nth_from}

-- a turn of `nth`: after a step one token fewer is left to count off
pub nth_on : (text : List ℕ) (left : ℕ) (c : Cursor) (s : Step) → s ≡ take_at text c → nth_from text left s.next ≡ nth_from text (suc left) c
unfolding nth_from
nth_on text left c s e = ap (λ (t : Step). nth_from text left t.next) e

-- and with none left the step's token is the one asked for
pub nth_here : (text : List ℕ) (c : Cursor) (s : Step) → s ≡ take_at text c → s.found ≡ nth_from text 0 c
unfolding nth_from
nth_here text c s e = ap (λ (t : Step). t.found) e

-- what is held comes out as it is, and nothing is held after it
held_out : (text : List ℕ) (i : ℕ) (f : Found) → take_held text i (hold f) ≡ step f (cursor_at i)
unfolding take_held
held_out text i (Found.NoToken p) = refl
held_out text i (Found.BadNumber p) = refl
held_out text i (Found.Is p t) = refl

-- after a token is taken nothing is held
taken_free : (text : List ℕ) (i : ℕ) (h : Held) → step (take_held text i h).found (cursor_at (take_held text i h).next.at) ≡ take_held text i h
unfolding take_held
taken_free text i Held.Nothing = refl
taken_free text i (Held.NoToken p) = refl
taken_free text i (Held.BadNumber p) = refl
taken_free text i (Held.Is p t) = refl

-- a token looked at "comes out once": what is taken after a look is what would have been taken without it, and so is the cursor after it
pub look_take : (text : List ℕ) (c : Cursor) → take_at text (look_at text c).next ≡ take_at text c
look_take text c = held_out text (take_at text c).next.at (take_at text c).found ∙ taken_free text c.at c.held

-- a second look sees the same, and changes nothing more
pub look_look : (text : List ℕ) (c : Cursor) → look_at text (look_at text c).next ≡ look_at text c
look_look text c = ap (λ (s : Step). step s.found (record { at = s.next.at; held = hold s.found })) (look_take text c)

module _ (r : Tokens) where
  -- the same of a reader: after a look the same token is taken, and the reader is then the same
  pub peek_next : (next_of (after_peek r) ≡ next_of r) × (after_next (after_peek r) ≡ after_next r)
  peek_next = (ap (λ (s : Step). s.found) (look_take _ r.cursor), ap (λ (s : Step). reader r.text s.next) (look_take _ r.cursor))

  pub peek_peek : (peek_of (after_peek r) ≡ peek_of r) × (after_peek (after_peek r) ≡ after_peek r)
  peek_peek = (ap (λ (s : Step). s.found) (look_look _ r.cursor), ap (λ (s : Step). reader r.text s.next) (look_look _ r.cursor))

  -- looking twice and then taking is taking
  pub peek_peek_next : (next_of (after_peek (after_peek r)) ≡ next_of r) × (after_next (after_peek (after_peek r)) ≡ after_next r)
  peek_peek_next = (ap next_of peek_peek.1 ∙ peek_next.0, ap after_next peek_peek.1 ∙ peek_next.1)

  -- a reader takes the head of the stream that its cursor stands for, and a look changes nothing of it
  pub next_head : hd (stream r.text.now r.cursor) ≡ tok_in r.text.now (next_of r)
  next_head = take_head _ r.cursor

  pub next_tail : tl (stream r.text.now r.cursor) ≡ stream r.text.now (after_next r).cursor
  next_tail = take_tail _ r.cursor

  pub peek_same : stream r.text.now r.cursor ≡ stream r.text.now (after_peek r).cursor
  peek_same = look_same _ r.cursor
