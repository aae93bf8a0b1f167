-- What lies after the last token that a reader takes or looks at changes nothing. It holds of every reader: it is proved of `run`, not of the grammar.
-- Assumes nothing.
use mathlib.Core.Path.{◌≡◌, refl}
use mathlib.Core.Bool.{Bool, true, false}
use mathlib.Core.List.{List, [], ◌∷◌, ◌++◌}
use Prim.Native.Nat.{ℕ, ◌+◌, ◌≤◌, ◌<◌}
use native.Mathlib.Omega.{arith}
use lib.ListN.{length}
use Rattle.scan.specs.Bytes.{paren_close, is_blank, is_stop}
use Rattle.token_stream.specs.Stream.{Tok, tok, close_tk, Str, end, then, hd, tl}
use Rattle.token_stream.specs.Lex.{mark_tk, run_tk, Lexed, lexed, flush, push, lex_byte, lex_run, lex}
use Rattle.lists.proofs.Cases.{either}
use Rattle.grammar.specs.Asks.{P, ret, ask, look, run, answer_in}
use Rattle.grammar.specs.Tokens.{place_of}
use Rattle.grammar.specs.LastToken.{last_of}

-- tokens in front of a stream
unfoldable pub onto : List Tok → Str → Str
onto [] s = s
onto (t ∷ ts) s = then t (onto ts s)

-- nothing of the stream stands before place q
abbrev pub From : ℕ → Str → Type 0
From q (end n) = q ≤ n
From q (then t s) = (q ≤ place_of t) × From q s

from_hd : (q : ℕ) (s : Str) → From q s → q ≤ place_of (hd s)
from_hd q (end n) f = f
from_hd q (then t s) f = f.0

from_tl : (q : ℕ) (s : Str) → From q s → From q (tl s)
from_tl q (end n) f = f
from_tl q (then t s) f = f.1

last_from : {A : Type 0} (p : P A) (s : Str) (z : Tok) (q : ℕ) → From q s → q ≤ place_of z → q ≤ place_of (last_of p s z)
unfolding last_of
last_from (ret a) s z q f h = h
last_from (ask k) s z q f h = last_from (k (hd s)) (tl s) (hd s) q (from_tl q s f) (from_hd q s f)
last_from (look k) s z q f h = last_from (k (hd s)) s (hd s) q f (from_hd q s f)

-- the answer is made of the tokens in front, if the last one taken or looked at stands before place q and the rest does not
same_answer : {A : Type 0} (p : P A) (ts : List Tok) (s s' : Str) (z : Tok) (q : ℕ) → From q s → place_of (last_of p (onto ts s) z) < q
    → answer_in (run p (onto ts s)) ≡ answer_in (run p (onto ts s'))
unfolding last_of onto run
same_answer (ret a) ts s s' z q f h = refl
same_answer (ask k) [] s s' z q f h = absurd (omega (arith, last_from (k (hd s)) (tl s) (hd s) q (from_tl q s f) (from_hd q s f)))
same_answer (ask k) (t ∷ ts) s s' z q f h = same_answer (k t) ts s s' t q f h
same_answer (look k) [] s s' z q f h = absurd (omega (arith, last_from (k (hd s)) s (hd s) q f (from_hd q s f)))
same_answer (look k) (t ∷ ts) s s' z q f h = same_answer (k t) (t ∷ ts) s s' t q f h

-- ---- of texts
FromLexed : ℕ → Lexed → Type 0
FromLexed q (lexed r s) = From q s

from_flush : (p q : ℕ) (l : Lexed) → q ≤ p → FromLexed q l → From q (flush p l)
unfolding FromLexed flush
from_flush p q (lexed [] s) h f = f
from_flush p q (lexed (b ∷ bs) s) h f = (h, f)

from_push : (b q : ℕ) (l : Lexed) → FromLexed q l → FromLexed q (push b l)
unfolding FromLexed push
from_push b q (lexed r s) f = f

from_byte : (p b q : ℕ) (l : Lexed) → q ≤ p → FromLexed q l → FromLexed q (lex_byte p b l)
unfolding FromLexed lex_byte
from_byte p b q l h f =
    let g : From q (flush (p + 1) l) = from_flush (p + 1) q l (omega arith) f in
    either (is_blank b) (FromLexed q) _ _ (λ e. g) λ e. either (is_stop b) (FromLexed q) _ _ (λ e. (h, g)) λ e. from_push b q l f

from_run : (bs : List ℕ) (p q : ℕ) → q ≤ p → FromLexed q (lex_run p bs)
unfolding FromLexed lex_run
from_run [] p q h = h
from_run (b ∷ bs) p q h = from_byte p b q (lex_run (p + 1) bs) h (from_run bs (p + 1) q (omega arith))

from_lex : (bs : List ℕ) (p : ℕ) → From p (lex p bs)
unfolding lex
from_lex bs p = from_flush p p (lex_run p bs) (omega arith) (from_run bs p p (omega arith))

-- a text is cut at a `)`: the tokens up to it do not depend on what follows
flushed : ℕ → List ℕ → List Tok → List Tok
flushed p [] ts = ts
flushed p (b ∷ bs) ts = tok p (run_tk p b bs) ∷ ts

flush_onto : (p : ℕ) (r : List ℕ) (ts : List Tok) (s : Str) → flush p (lexed r (onto ts s)) ≡ onto (flushed p r ts) s
unfolding flush onto flushed
flush_onto p [] ts s = refl
flush_onto p (b ∷ bs) ts s = refl

-- the run that stands before the first token, and the tokens, of xs at p and a `)`
record Cut (p : ℕ) (xs : List ℕ) : Type 0 where
  first : List ℕ
  toks : List Tok
  past : ℕ
  place : past ≡ p + length xs + 1
  is : (ys : List ℕ) → lex_run p (xs ++ paren_close ∷ ys) ≡ lexed first (onto toks (lex past ys))

cut : (xs : List ℕ) (p : ℕ) → Cut p xs
unfolding lex_run lex_byte lex onto mark_tk push
cut [] p = record { first = []; toks = tok p close_tk ∷ []; past = p + 1; place = omega arith; is = λ ys. refl }
cut (b ∷ xs) p = by (is_blank b) (is_stop b) refl refl (cut xs (p + 1))
  where
    by : (x y : Bool) → is_blank b ≡ x → is_stop b ≡ y → Cut (p + 1) xs → Cut p (b ∷ xs)
    by true y e f u = record { first = []; toks = flushed (p + 1) u.first u.toks; past = u.past; place = omega (arith, u.place); is = λ ys. rw (e, u.is ys, flush_onto) }
    by false true e f u =
        record { first = []; toks = tok p (mark_tk b) ∷ flushed (p + 1) u.first u.toks; past = u.past; place = omega (arith, u.place); is = λ ys. rw (f, e, u.is ys, flush_onto) }
    by false false e f u = record { first = b ∷ u.first; toks = u.toks; past = u.past; place = omega (arith, u.place); is = λ ys. rw (f, e, u.is ys) }

lex_cut : (xs ys : List ℕ) → lex 0 (xs ++ paren_close ∷ ys) ≡ onto (flushed 0 (cut xs 0).first (cut xs 0).toks) (lex (cut xs 0).past ys)
unfolding lex
lex_cut xs ys = rw ((cut xs 0).is ys, flush_onto)

-- if the last token that a reader takes or looks at stands at or before a `)`, what follows the `)` does not matter to the answer
pub later : {A : Type 0} (p : P A) (xs ys zs : List ℕ) (z : Tok) → place_of (last_of p (lex 0 (xs ++ paren_close ∷ ys)) z) ≤ length xs
    → answer_in (run p (lex 0 (xs ++ paren_close ∷ ys))) ≡ answer_in (run p (lex 0 (xs ++ paren_close ∷ zs)))
later p xs ys zs z h =
    rw (lex_cut xs ys, lex_cut xs zs)
    (let g : place_of (last_of p (onto (flushed 0 (cut xs 0).first (cut xs 0).toks) (lex (cut xs 0).past ys)) z) ≤ length xs = rw (lex_cut xs ys) at h in
    same_answer p _ (lex (cut xs 0).past ys) (lex (cut xs 0).past zs) z (cut xs 0).past (from_lex ys (cut xs 0).past) (omega (arith, g, (cut xs 0).place)))
