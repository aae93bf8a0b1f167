-- The stream before a cursor: `take` gives its head and leaves its tail, and `look` gives its head and leaves it whole.
-- Assumes nothing.
use mathlib.Core.Path.{◌≡◌, refl, sym, ap, ◌∙◌}
use mathlib.Core.Bool.{Bool, true, false, cond}
use mathlib.Core.List.{List}
use mathlib.Core.Logic.{◌⊎◌, inl, inr}
use Prim.Native.Nat.{ℕ, zero, suc, ◌+◌, ◌≤◌, ◌<◌}
use native.Mathlib.Decide.{dec_lt}
use native.Mathlib.Omega.{arith}
use lib.Dec.{eqb}
use lib.ListN.{length, get_or}
use borrow.Author.Tests.{le-leb, lt-leb, eqb-true, eq-eqb}
use Rattle.scan.specs.Bytes.{is_blank, is_inner, is_numberlike, is_plus}
use Rattle.scan.specs.Runs.{first_not}
use Rattle.scan.proofs.Bytes.{plus_inner}
use Rattle.scan.proofs.Runs.{on, past, not_before, not_past, first_fails, one_not_before, one_not_past, scan_one}
use Rattle.token.specs.declared.Found.{Found}
use Rattle.tokenizer.specs.declared.Held.{Held}
use Rattle.token.specs.declared.Read.{Read}
use Rattle.tokenizer.specs.declared.Cursor.{Cursor}
use Rattle.token.specs.Tokens.{read, end_of, after_blank, text_start, number_at, word_at, start_at, token_at, read_at}
use Rattle.tokenizer.specs.Tokens.{take_held, take_at, hold, look_at}
use Rattle.token_stream.specs.Stream.{open_tk, close_tk, comma_tk, none_tk, bad_tk, word_tk, number_tk, Tok, tok, Str, end, then, hd, tl, size, none_then, cons, tok_in, toks_by, toks, before, stream}
use Rattle.lists.proofs.Cases.{either}

-- a token in front of a stream is its head, and the stream its tail
hd_none : (p : ℕ) (s : Str) → hd (none_then p s) ≡ tok p none_tk
hd_none p (end n) = go (eqb p n) refl
  where
    go : (b : Bool) → eqb p n ≡ b → hd (cond b (end n) (then (tok p none_tk) (end n))) ≡ tok p none_tk
    go true e = ap (λ (i : ℕ). tok i none_tk) (sym (eqb-true p n e))
    go false e = refl
hd_none p (then t s) = refl

tl_none : (p : ℕ) (s : Str) → tl (none_then p s) ≡ s
tl_none p (end n) = go (eqb p n)
  where
    go : (b : Bool) → tl (cond b (end n) (then (tok p none_tk) (end n))) ≡ end n
    go true = refl
    go false = refl
tl_none p (then t s) = refl

size_none : (p : ℕ) (s : Str) → size (none_then p s) ≤ size s + 1
unfolding size
size_none p (end n) = go (eqb p n)
  where
    go : (b : Bool) → size (cond b (end n) (then (tok p none_tk) (end n))) ≤ 1
    go true = omega arith
    go false = omega arith
size_none p (then t s) = omega arith

pub hd_cons : (t : Tok) (s : Str) → hd (cons t s) ≡ t
unfolding cons
hd_cons (tok p none_tk) s = hd_none p s
hd_cons (tok p (bad_tk r)) s = refl
hd_cons (tok p open_tk) s = refl
hd_cons (tok p close_tk) s = refl
hd_cons (tok p comma_tk) s = refl
hd_cons (tok p (number_tk q x)) s = refl
hd_cons (tok p (word_tk w)) s = refl

pub tl_cons : (t : Tok) (s : Str) → tl (cons t s) ≡ s
unfolding cons
tl_cons (tok p none_tk) s = tl_none p s
tl_cons (tok p (bad_tk r)) s = refl
tl_cons (tok p open_tk) s = refl
tl_cons (tok p close_tk) s = refl
tl_cons (tok p comma_tk) s = refl
tl_cons (tok p (number_tk q x)) s = refl
tl_cons (tok p (word_tk w)) s = refl

pub size_cons : (t : Tok) (s : Str) → size (cons t s) ≤ size s + 1
unfolding cons size
size_cons (tok p none_tk) s = size_none p s
size_cons (tok p (bad_tk r)) s = omega arith
size_cons (tok p open_tk) s = omega arith
size_cons (tok p close_tk) s = omega arith
size_cons (tok p comma_tk) s = omega arith
size_cons (tok p (number_tk q x)) s = omega arith
size_cons (tok p (word_tk w)) s = omega arith

-- a tail is no longer than its stream, and shorter where a token was
pub size_tl : (s : Str) → size (tl s) ≤ size s
unfolding size
size_tl (end n) = omega arith
size_tl (then t s) = omega arith

-- reading moves on, or reaches the end
module _ (text : List ℕ) (p : ℕ) (h : p < length text) where
  pub blank_on : (e : ℕ) → e ≤ after_blank text e
  blank_on e = one_not_before is_blank text e refl

  -- a number ends where it would if its `+` belonged to its text
  pub plus_end : end_of text (text_start text p) ≡ end_of text p
  plus_end = scan_one is_plus is_inner plus_inner text p refl

  pub inner_on : is_inner (get_or text p 0) ≡ true → p < after_blank text (end_of text p)
  inner_on t = omega (arith, on is_inner text p h t, not_before is_inner text (p + 1) (omega arith), blank_on (end_of text p))

  start_on : (c : ℕ) → get_or text p 0 ≡ c → is_blank c ≡ false → p < (start_at text p c).at
  unfolding start_at number_at word_at
  start_on c w z =
      let Q : Read → Type 0 = λ r. p < r.at in
      either (eqb c 0) Q _ _ (λ e. omega arith) λ e0.
      either (eqb c 40) Q _ _ (λ e. omega arith) λ e1.
      either (eqb c 41) Q _ _ (λ e. omega arith) λ e2.
      either (eqb c 44) Q _ _ (λ e. omega arith) λ e3.
      (let i : is_inner c ≡ true = rw (z, e0, e1, e2, e3) in
      let o : p < after_blank text (end_of text p) = inner_on (rw w i) in
      either (is_numberlike c) Q _ _ (λ e. rw plus_end o) λ e. o)

  start_within : (c : ℕ) → (start_at text p c).at ≤ length text
  unfolding start_at number_at word_at
  start_within c =
      let Q : Read → Type 0 = λ r. r.at ≤ length text in
      let w : (q : ℕ) → after_blank text (end_of text q) ≤ length text = λ q. one_not_past is_blank text (end_of text q) refl (not_past is_inner text q) in
      either (eqb c 0) Q _ _ (λ e. omega arith) λ e0.
      either (eqb c 40) Q _ _ (λ e. omega arith) λ e1.
      either (eqb c 41) Q _ _ (λ e. omega arith) λ e2.
      either (eqb c 44) Q _ _ (λ e. omega arith) λ e3.
      either (is_numberlike c) Q _ _ (λ e. w (text_start text p)) λ e. w p

module _ (text : List ℕ) where
  pub read_on_law : (i : ℕ) → (length text ≤ (read_at text i).at) ⊎ (i < (read_at text i).at)
  unfolding read_at token_at
  read_on_law i = go (dec_lt (first_not is_blank text i) (length text)) (dec_lt i (length text))
    where
      go : Dec (first_not is_blank text i < length text) → Dec (i < length text) → (length text ≤ (read_at text i).at) ⊎ (i < (read_at text i).at)
      go (yes h) (yes l) =
          rw (lt-leb (length text) (first_not is_blank text i) h)
          (inr (omega (arith, start_on text (first_not is_blank text i) h _ refl (first_fails is_blank text i h), not_before is_blank text i (omega arith))))
      go (yes h) (no l) = absurd (omega (arith, h, past is_blank text i (omega arith)))
      go (no h) l = rw (le-leb (length text) (first_not is_blank text i) (omega arith)) (inl (omega arith))

  -- and stays within the text
  pub read_within : (i : ℕ) → (read_at text i).at ≤ length text
  unfolding read_at token_at
  read_within i = go (dec_lt (first_not is_blank text i) (length text))
    where
      go : Dec (first_not is_blank text i < length text) → (read_at text i).at ≤ length text
      go (yes l) = rw (lt-leb (length text) (first_not is_blank text i) l) (start_within text (first_not is_blank text i) l (get_or text (first_not is_blank text i) 0))
      go (no l) = rw (le-leb (length text) (first_not is_blank text i) (omega arith)) (omega arith)

  read_past : (i : ℕ) → length text ≤ i → read_at text i ≡ read (Found.NoToken (length text)) (length text)
  unfolding read_at token_at
  read_past i h = rw (past is_blank text i h, le-leb (length text) (length text) (omega arith))

  pub none_end : (n : ℕ) → cons (tok n none_tk) (end n) ≡ end n
  unfolding cons
  none_end n = rw (eq-eqb n n refl)

  -- more turns than there are bytes make no other stream
  toks_enough : (f i : ℕ) → length text ≤ i + f → toks_by text (suc f) i ≡ toks_by text f i
  unfolding toks_by
  toks_enough zero i h = rw (read_past i (omega arith)) (none_end (length text))
  toks_enough (suc f) i h = ap (cons (tok_in text (read_at text i).found)) (toks_enough f (read_at text i).at (go (read_on_law i)))
    where
      go : (length text ≤ (read_at text i).at) ⊎ (i < (read_at text i).at) → length text ≤ (read_at text i).at + f
      go (inl a) = omega arith
      go (inr b) = omega arith

  -- the tokens from i on are the token read there, and those from where it leaves off
  pub toks_step : (i : ℕ) → toks text i ≡ cons (tok_in text (read_at text i).found) (toks text (read_at text i).at)
  unfolding toks toks_by
  toks_step i = sym (toks_enough (length text) i (omega arith))

  size_by : (f i : ℕ) → size (toks_by text f i) ≤ f
  unfolding toks_by size
  size_by zero i = omega arith
  size_by (suc f) i = omega (arith, size_cons (tok_in text (read_at text i).found) (toks_by text f (read_at text i).at), size_by f (read_at text i).at)

  -- there are no more tokens than bytes, but for one that is held
  pub stream_size : (c : Cursor) → size (stream text c) ≤ length text + 1
  unfolding stream toks
  stream_size c = go c.held
    where
      s : size (toks text c.at) ≤ length text
      s = size_by (length text) c.at

      go : (h : Held) → size (before text c.at h) ≤ length text + 1
      go Held.Nothing = omega (arith, s)
      go (Held.NoToken p) = omega (arith, s, size_cons (tok_in text (Found.NoToken p)) (toks text c.at))
      go (Held.BadNumber p) = omega (arith, s, size_cons (tok_in text (Found.BadNumber p)) (toks text c.at))
      go (Held.Is p t) = omega (arith, s, size_cons (tok_in text (Found.Is p t)) (toks text c.at))

  -- taking
  first_by : (i : ℕ) (h : Held) → hd (before text i h) ≡ tok_in text (take_held text i h).found
  unfolding take_held
  first_by i Held.Nothing = ap hd (toks_step i) ∙ hd_cons (tok_in text (read_at text i).found) (toks text (read_at text i).at)
  first_by i (Held.NoToken p) = hd_cons (tok_in text (Found.NoToken p)) (toks text i)
  first_by i (Held.BadNumber p) = hd_cons (tok_in text (Found.BadNumber p)) (toks text i)
  first_by i (Held.Is p t) = hd_cons (tok_in text (Found.Is p t)) (toks text i)

  rest_by : (i : ℕ) (h : Held) → tl (before text i h) ≡ stream text (take_held text i h).next
  unfolding take_held stream
  rest_by i Held.Nothing = ap tl (toks_step i) ∙ tl_cons (tok_in text (read_at text i).found) (toks text (read_at text i).at)
  rest_by i (Held.NoToken p) = tl_cons (tok_in text (Found.NoToken p)) (toks text i)
  rest_by i (Held.BadNumber p) = tl_cons (tok_in text (Found.BadNumber p)) (toks text i)
  rest_by i (Held.Is p t) = tl_cons (tok_in text (Found.Is p t)) (toks text i)

  -- `take` gives the head
  pub take_head : (c : Cursor) → hd (stream text c) ≡ tok_in text (take_at text c).found
  unfolding stream
  take_head c = first_by c.at c.held

  -- and leaves the tail
  pub take_tail : (c : Cursor) → tl (stream text c) ≡ stream text (take_at text c).next
  unfolding stream
  take_tail c = rest_by c.at c.held

  hold_before : (i : ℕ) (f : Found) → before text i (hold f) ≡ cons (tok_in text f) (toks text i)
  hold_before i (Found.NoToken p) = refl
  hold_before i (Found.BadNumber p) = refl
  hold_before i (Found.Is p t) = refl

  look_by : (i : ℕ) (h : Held) → before text i h ≡ before text (take_held text i h).next.at (hold (take_held text i h).found)
  unfolding take_held
  look_by i Held.Nothing = toks_step i ∙ sym (hold_before (read_at text i).at (read_at text i).found)
  look_by i (Held.NoToken p) = refl
  look_by i (Held.BadNumber p) = refl
  look_by i (Held.Is p t) = refl

  -- `look` gives the head too
  pub look_head : (c : Cursor) → hd (stream text c) ≡ tok_in text (look_at text c).found
  look_head c = take_head c

  -- and changes nothing
  pub look_same : (c : Cursor) → stream text c ≡ stream text (look_at text c).next
  unfolding stream
  look_same c = look_by c.at c.held
