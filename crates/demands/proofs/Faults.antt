-- Every refusal of a text is at the place of one of its tokens, which starts there.
-- Assumes nothing.
use mathlib.Core.Path.{◌≡◌, refl, sym, subst, ◌∙◌}
use mathlib.Core.Bool.{Bool, true, false, false≢true}
use mathlib.Core.Logic.{inl, inr}
use mathlib.Core.List.{List, []}
use Prim.Native.Nat.{ℕ, zero, suc, ◌+◌, ◌≤◌, ◌<◌}
use native.Mathlib.Omega.{arith}
use lib.Dec.{eqb, leb}
use lib.ListN.{length, get_or}
use borrow.Author.Tests.{eqb-true, leb-false, ltb-false}
use Rattle.limits.specs.Limits.{text_limit, over_limit, depth_limit}
use Rattle.scan.specs.Bytes.{nul, paren_open, paren_close, comma, is_blank, is_inner, is_numberlike}
use Rattle.scan.specs.Runs.{first_not}
use Rattle.scan.proofs.Runs.{first_fails}
use Rattle.number.specs.Lexeme.{is_lexeme}
use Rattle.number.proofs.Equal.{passes, sound}
use Rattle.token.specs.declared.Found.{Found}
use Rattle.token.specs.declared.Read.{Read}
use Rattle.token.specs.declared.Token.{Token}
use Rattle.token.specs.declared.Token.TheVariants.{Comma, Number, ParenClose, ParenOpen, Word}
use Rattle.token.specs.Tokens.{end_of, text_start, number_or, number_at, word_at, start_at, token_at, read_at, number_text}
use Rattle.token.proofs.BadNumbers.{told}
use Rattle.token_stream.specs.Lex.{lex}
use Rattle.token_stream.specs.Stream.{Tok, Str, hd, size, tok_in, toks}
use Rattle.lists.proofs.Cases.{either}
use Rattle.token_stream.proofs.Each.{Toks, hd_all, tl_all, toks_all}
use Rattle.token_stream.proofs.Bridge.{toks_lex}
use Rattle.grammar.specs.Asks.{run}
use Rattle.grammar.specs.Grammar.{root}
use Rattle.grammar.specs.Reading.{enough}
use Rattle.grammar_laws.proofs.Fuel.{lex_size}
use Rattle.grammar_laws.proofs.Former.{bad_numbered}
use Rattle.demands.specs.Steps.{Came, read_whole}
use Rattle.demands.specs.Faults.{later, Starts, TokensStart}
use Rattle.demands.proofs.Steps.{Own, GotIn, root_in}

-- ---- what holds of each token of a text
module _ (Q : Tok → Type 0) where
  at_index : (s : Str) (n : ℕ) → Toks Q s → Toks Q (later n s)
  at_index s zero a = a
  at_index s (suc n) a = tl_all Q (later n s) (at_index s n a)

-- ---- the tokens of a text
own_token : (text : List ℕ) (p : ℕ) (t : Token) → Own (tok_in text (Found.Is p t))
own_token text p ParenOpen = tt
own_token text p ParenClose = tt
own_token text p Comma = tt
own_token text p (Number s l) = tt
own_token text p (Word s l) = tt

own_found : (text : List ℕ) (f : Found) → Own (tok_in text f)
own_found text (Found.NoToken p) = tt
own_found text (Found.BadNumber p) = bad_numbered text p
own_found text (Found.Is p t) = own_token text p t

all_own : (text : List ℕ) (i : ℕ) → Own (hd (later i (toks text 0)))
all_own text i = hd_all Own (later i (toks text 0)) (at_index Own (toks text 0) i (toks_all Own text tt λ j. own_found text (read_at text j).found))

-- what the tokens of a text come to
pub text_faults : (N M : ℕ) (text : List ℕ) → over_limit (length text) ≡ false → GotIn N M (toks text 0) [] (Came N M (toks text 0) [] read_whole) (run (root N M enough depth_limit) (lex 0 text))
text_faults N M text h =
    let l : size (toks text 0) ≤ length text + 1 = rw (toks_lex text) (lex_size text) in
    subst (λ (s : Str). GotIn N M (toks text 0) [] (Came N M (toks text 0) [] read_whole) (run (root N M enough depth_limit) s)) (toks_lex text)
    (root_in N M (toks text 0) (all_own text) enough (omega (arith, ltb-false text_limit (length text) h)))

-- ---- where they stand
module _ (text : List ℕ) where
  abbrev Right : Read → Type 0
  Right r = Starts text (tok_in text r.found)

  number_starts : (p : ℕ) → p < length text → is_inner (get_or text p 0) ≡ true → is_numberlike (get_or text p 0) ≡ true → Right (number_at text p)
  unfolding number_at
  number_starts p l i n = go (is_lexeme (number_text text p)) refl
    where
      go : (b : Bool) → is_lexeme (number_text text p) ≡ b → Starts text (tok_in text (number_or b p (text_start text p) (end_of text (text_start text p))))
      go true e = (n, refl, refl, sound (number_text text p) e)
      go false e = (n, (λ f. false≢true (sym e ∙ passes f)), refl, told text p i l)

  byte_starts : (p b : ℕ) → p < length text → get_or text p 0 ≡ b → is_blank b ≡ false → Right (start_at text p b)
  unfolding start_at word_at
  byte_starts p b l e y =
      either (eqb b nul) Right _ _ (λ z. inr (l, e ∙ eqb-true b nul z)) λ z0.
      either (eqb b paren_open) Right _ _ (λ z. (l, e ∙ eqb-true b paren_open z)) λ z1.
      either (eqb b paren_close) Right _ _ (λ z. (l, e ∙ eqb-true b paren_close z)) λ z2.
      either (eqb b comma) Right _ _ (λ z. (l, e ∙ eqb-true b comma z)) λ z3.
      either (is_numberlike b) Right _ _ (λ z. (let i : is_inner b ≡ true = rw (y, z0, z1, z2, z3) in number_starts p l (rw e i) (rw e z))) λ z.
      (let i : is_inner b ≡ true = rw (y, z0, z1, z2, z3) in (rw e i, rw e z, refl))

  pub read_starts : (i : ℕ) → Right (read_at text i)
  unfolding read_at token_at
  read_starts i =
      either (leb (length text) (first_not is_blank text i)) Right _ _ (λ z. inl refl)
      λ z. (let l : first_not is_blank text i < length text = leb-false (length text) (first_not is_blank text i) z in byte_starts (first_not is_blank text i) _ l refl (first_fails is_blank text i l))

pub tokens_start : TokensStart
tokens_start text t a = rw a.is at (hd_all (Starts text) (later a.index (toks text 0)) (at_index (Starts text) (toks text 0) a.index (toks_all (Starts text) text (inl refl) (read_starts text))))
