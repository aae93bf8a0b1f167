-- What holds of each token of a text.
-- Assumes nothing.
use mathlib.Core.List.{List}
use Prim.Native.Nat.{ℕ, zero, suc}
use lib.Dec.{eqb}
use lib.ListN.{length}
use Rattle.lists.proofs.Cases.{either}
use Rattle.token.specs.Tokens.{read_at}
use Rattle.token_stream.specs.Stream.{open_tk, close_tk, comma_tk, none_tk, bad_tk, word_tk, number_tk, Tok, tok, Str, end, then, hd, tl, none_then, cons, tok_in, toks_by, toks}

module _ (Q : Tok → Type 0) where
  -- of each token of a stream, its end included
  abbrev pub Toks : Str → Type 0
  Toks (end n) = Q (tok n none_tk)
  Toks (then t s) = Q t × Toks s

  pub hd_all : (s : Str) → Toks s → Q (hd s)
  hd_all (end n) a = a
  hd_all (then t s) a = a.0

  pub tl_all : (s : Str) → Toks s → Toks (tl s)
  tl_all (end n) a = a
  tl_all (then t s) a = a.1

  none_all : (p : ℕ) (s : Str) → Q (tok p none_tk) → Toks s → Toks (none_then p s)
  none_all p (end n) q a = either (eqb p n) Toks _ _ (λ e. a) λ e. (q, a)
  none_all p (then t s) q a = (q, a)

  cons_all : (t : Tok) (s : Str) → Q t → Toks s → Toks (cons t s)
  unfolding cons
  cons_all (tok p none_tk) s q a = none_all p s q a
  cons_all (tok p (bad_tk r)) s q a = (q, a)
  cons_all (tok p open_tk) s q a = (q, a)
  cons_all (tok p close_tk) s q a = (q, a)
  cons_all (tok p comma_tk) s q a = (q, a)
  cons_all (tok p (number_tk r x)) s q a = (q, a)
  cons_all (tok p (word_tk w)) s q a = (q, a)

  -- what holds of each token that is read, and of the end
  pub toks_all : (text : List ℕ) → Q (tok (length text) none_tk) → ((i : ℕ) → Q (tok_in text (read_at text i).found)) → Toks (toks text 0)
  unfolding toks toks_by
  toks_all text z h = go (length text) 0
    where
      go : (n i : ℕ) → Toks (toks_by text n i)
      go zero i = z
      go (suc n) i = cons_all (tok_in text (read_at text i).found) (toks_by text n (read_at text i).at) (h i) (go n (read_at text i).at)
