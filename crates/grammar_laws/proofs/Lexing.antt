-- The tokens of what the canonical writer writes: a word, a number as it is spelled, a mark, each where something ends it.
-- Assumes nothing.
use mathlib.Core.Path.{◌≡◌, refl, ap, sym, ◌∙◌}
use mathlib.Core.Bool.{Bool, true, false, cond, ◌||◌, false≢true}
use mathlib.Core.List.{List, [], ◌∷◌, ◌++◌}
use Prim.Native.Nat.{ℕ, ◌+◌, ◌<◌}
use native.Mathlib.Omega.{arith}
use lib.ListN.{length}
use borrow.Author.Tests.{not-true}
use Rattle.scan.specs.Bytes.{space, paren_open, paren_close, comma, plus, is_blank, is_mark, is_stop, is_inner, is_plus, is_numberlike}
use Rattle.scan.specs.Front.{begins}
use Rattle.scan.proofs.Bytes.{or_none}
use Rattle.number.specs.Lexeme.{is_lexeme}
use Rattle.names.specs.Letters.{is_letter}
use Rattle.lists.specs.Lists.{every}
use Rattle.lists.proofs.Lists.{every_head, every_tail}
use Rattle.token_stream.specs.Stream.{open_tk, close_tk, comma_tk, word_tk, number_tk, tok, Str, end, then}
use Rattle.token_stream.specs.Lex.{mark_tk, number_token, run_tk, lexed, flush, push, lex_byte, lex_run, lex}
use Rattle.canonical_text.specs.Canonical.{spell}
use Rattle.grammar_laws.proofs.Lexemes.{lexeme_inner, nil_lexeme, bare_first}

-- the place after x
abbrev pub adv : ℕ → List ℕ → ℕ
adv p [] = p
adv p (b ∷ bs) = adv (p + 1) bs

-- no run begins r: it is over, or begins with a blank or a token of its own
abbrev pub Stop : List ℕ → Type 0
Stop r = (q : ℕ) → lex_run q r ≡ lexed [] (lex q r)

inner_byte : (b : ℕ) (p : ℕ) (x : List ℕ) (s : Str) → is_inner b ≡ true → lex_byte p b (lexed x s) ≡ lexed (b ∷ x) s
unfolding lex_byte push
inner_byte b p x s e =
    let n : is_stop b ≡ false = not-true (is_stop b) e in
    rw (n, (or_none (is_blank b) (is_mark b) n).0)

run_is : (x r : List ℕ) (p : ℕ) → every is_inner x ≡ true → Stop r → lex_run p (x ++ r) ≡ lexed x (lex (adv p x) r)
unfolding lex_run
run_is [] r p e h = h p
run_is (b ∷ x) r p e h = ap (lex_byte p b) (run_is x r (p + 1) (every_tail is_inner b x e) h) ∙ inner_byte b p x (lex (adv (p + 1) x) r) (every_head is_inner b x e)

lex_run_law : (b : ℕ) (x r : List ℕ) (p : ℕ) → every is_inner (b ∷ x) ≡ true → Stop r → lex p (b ∷ (x ++ r)) ≡ then (tok p (run_tk p b x)) (lex (adv (p + 1) x) r)
unfolding lex flush
lex_run_law b x r p e h = ap (flush p) (run_is (b ∷ x) r p e h)

-- a word: it does not begin as a number, and nothing in it ends it
pub record IsWord (w : List ℕ) : Type 0 where
  pub some_byte : 0 < length w
  pub no_number : begins is_numberlike w ≡ false
  pub inner : every is_inner w ≡ true

pub lex_word : (w r : List ℕ) (p : ℕ) → IsWord w → Stop r → lex p (w ++ r) ≡ then (tok p (word_tk w)) (lex (adv p w) r)
unfolding run_tk begins
lex_word [] r p g h = absurd (omega (arith, g.some_byte))
lex_word (b ∷ x) r p g h = lex_run_law b x r p g.inner h ∙ rw g.no_number

-- a number's text, as it is spelled, is that number; q is where the text that is kept starts
pub lex_number : (x r : List ℕ) (p : ℕ) → is_lexeme x ≡ true → Stop r → (q : ℕ) × (lex p (spell x ++ r) ≡ then (tok p (number_tk q x)) (lex (adv p (spell x)) r))
unfolding spell begins run_tk number_token every
lex_number [] r p e h = absurd (false≢true (sym nil_lexeme ∙ e))
lex_number (b ∷ x) r p e h = by (is_plus b) (is_letter b) refl refl
  where
    inner : every is_inner (b ∷ x) ≡ true
    inner = lexeme_inner (b ∷ x) e

    with_plus : lex p (plus ∷ b ∷ (x ++ r)) ≡ then (tok p (number_tk (p + 1) (b ∷ x))) (lex (adv (p + 1) (b ∷ x)) r)
    with_plus = lex_run_law plus (b ∷ x) r p inner h ∙ rw e

    by : (y z : Bool) → is_plus b ≡ y → is_letter b ≡ z
        → (q : ℕ) × (lex p (cond (y || z) (plus ∷ b ∷ x) (b ∷ x) ++ r) ≡ then (tok p (number_tk q (b ∷ x))) (lex (adv p (cond (y || z) (plus ∷ b ∷ x) (b ∷ x))) r))
    by true z f g = (p + 1, with_plus)
    by false true f g = (p + 1, with_plus)
    by false false f g = (p, lex_run_law b x r p inner h ∙ rw (bare_first b x e g, f, e))

-- ---- the bytes that end a run
pub lex_blank : (p : ℕ) (r : List ℕ) → lex p (space ∷ r) ≡ lex (p + 1) r
unfolding lex lex_run flush lex_byte
lex_blank p r = refl

pub lex_open : (p : ℕ) (r : List ℕ) → lex p (paren_open ∷ r) ≡ then (tok p open_tk) (lex (p + 1) r)
unfolding lex lex_run flush lex_byte mark_tk
lex_open p r = refl

pub lex_close : (p : ℕ) (r : List ℕ) → lex p (paren_close ∷ r) ≡ then (tok p close_tk) (lex (p + 1) r)
unfolding lex lex_run flush lex_byte mark_tk
lex_close p r = refl

pub lex_comma : (p : ℕ) (r : List ℕ) → lex p (comma ∷ r) ≡ then (tok p comma_tk) (lex (p + 1) r)
unfolding lex lex_run flush lex_byte mark_tk
lex_comma p r = refl

pub lex_end : (p : ℕ) → lex p [] ≡ end p
unfolding lex lex_run flush
lex_end p = refl

pub stop_blank : (r : List ℕ) → Stop (space ∷ r)
unfolding lex lex_run flush lex_byte
stop_blank r q = refl

pub stop_open : (r : List ℕ) → Stop (paren_open ∷ r)
unfolding lex lex_run flush lex_byte
stop_open r q = refl

pub stop_close : (r : List ℕ) → Stop (paren_close ∷ r)
unfolding lex lex_run flush lex_byte
stop_close r q = refl

pub stop_comma : (r : List ℕ) → Stop (comma ∷ r)
unfolding lex lex_run flush lex_byte
stop_comma r q = refl

pub stop_end : Stop []
unfolding lex lex_run flush
stop_end q = refl
