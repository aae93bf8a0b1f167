-- The tokens of a text lie in it: a token but "no token" starts before the end, a number's text is a lexeme there, a bad number is refused there.
-- Assumes nothing.
use mathlib.Core.Path.{◌≡◌, refl, ap, sym, ◌∙◌}
use mathlib.Core.Bool.{true, ◌||◌, ◌&&◌}
use mathlib.Core.List.{List, [], ◌∷◌, ◌++◌}
use Prim.Native.Nat.{ℕ, suc, ◌+◌, ◌-◌, ◌≤◌, ◌<◌}
use native.Mathlib.Omega.{arith}
use lib.Dec.{eqb, leb}
use lib.ListN.{length, drop, length-append, length-drop}
use lib.Seq.{drop-drop, take-append_seam}
use Rattle.scan.specs.Bytes.{nul, paren_open, paren_close, plus, is_blank, is_stop, is_numberlike}
use Rattle.number.specs.Lexeme.{is_lexeme}
use Rattle.refusals.specs.Refusals.{text_too_long, ill_formed_utf8, non_ascii_root, no_child}
use Rattle.token.specs.Tokens.{is_bad_number, wrong_number_at}
use Rattle.token.proofs.BadNumbers.{wrong_in}
use Rattle.token_stream.specs.Stream.{Tk, open_tk, close_tk, comma_tk, none_tk, bad_tk, word_tk, number_tk, Tok, tok, Str, end, then, hd, tl}
use Rattle.token_stream.specs.Lex.{mark_tk, number_token, run_tk, Lexed, lexed, flush, push, lex_byte, lex_run, lex}
use Rattle.lists.proofs.Cases.{either, or_right}
use Rattle.grammar.specs.Tokens.{sort_none, sort_number, sort_of, place_of, start_of, text_of, refusal_at}
use Rattle.grammar.specs.Answers.{is_refusal, Refused}
use Rattle.tree.specs.TreeIn.{NumberIn}

-- the two numbers of a bad number are of the table
bad_refusal : (e : ℕ) → is_bad_number e ≡ true → is_refusal e ≡ true
bad_refusal e w = or_right (eqb e text_too_long || eqb e ill_formed_utf8 || leb non_ascii_root e && leb e no_child) (is_bad_number e) w

module _ (text : List ℕ) where
  -- a token at p
  abbrev pub TkIn : ℕ → Tk → Type 0
  TkIn p none_tk = p ≤ length text
  TkIn p (bad_tk r) = (p < length text) × Refused text r
  TkIn p open_tk = p < length text
  TkIn p close_tk = p < length text
  TkIn p comma_tk = p < length text
  TkIn p (number_tk q x) = (p < length text) × NumberIn text q (length x) x
  TkIn p (word_tk w) = p < length text

  abbrev pub TokIn : Tok → Type 0
  TokIn (tok p k) = TkIn p k

  abbrev pub ToksIn : Str → Type 0
  ToksIn (end n) = n ≤ length text
  ToksIn (then t s) = TokIn t × ToksIn s

  pub hd_in : (s : Str) → ToksIn s → TokIn (hd s)
  hd_in (end n) a = a
  hd_in (then t s) a = a.0

  pub tl_in : (s : Str) → ToksIn s → ToksIn (tl s)
  tl_in (end n) a = a
  tl_in (then t s) a = a.1

  -- what the grammar asks of a token
  pub place_before : (t : Tok) → TokIn t → (sort_of t ≡ sort_none → ⊥) → place_of t < length text
  place_before (tok p none_tk) a h = absurd (h refl)
  place_before (tok p (bad_tk r)) a h = a.0
  place_before (tok p open_tk) a h = a
  place_before (tok p close_tk) a h = a
  place_before (tok p comma_tk) a h = a
  place_before (tok p (number_tk q x)) a h = a.0
  place_before (tok p (word_tk w)) a h = a

  pub place_in : (t : Tok) → TokIn t → place_of t ≤ length text
  place_in (tok p none_tk) a = a
  place_in (tok p (bad_tk r)) a = omega (arith, a.0)
  place_in (tok p open_tk) a = omega arith
  place_in (tok p close_tk) a = omega arith
  place_in (tok p comma_tk) a = omega arith
  place_in (tok p (number_tk q x)) a = omega (arith, a.0)
  place_in (tok p (word_tk w)) a = omega arith

  pub refusal_in : (e : ℕ) → is_refusal e ≡ true → (t : Tok) → TokIn t → Refused text (refusal_at e t)
  refusal_in e h (tok p none_tk) a = record { number = h; place = a }
  refusal_in e h (tok p (bad_tk r)) a = a.1
  refusal_in e h (tok p open_tk) a = record { number = h; place = omega arith }
  refusal_in e h (tok p close_tk) a = record { number = h; place = omega arith }
  refusal_in e h (tok p comma_tk) a = record { number = h; place = omega arith }
  refusal_in e h (tok p (number_tk q x)) a = record { number = h; place = omega (arith, a.0) }
  refusal_in e h (tok p (word_tk w)) a = record { number = h; place = omega arith }

  pub number_in : (t : Tok) → TokIn t → sort_of t ≡ sort_number → NumberIn text (start_of t) (length (text_of t)) (text_of t)
  number_in (tok p none_tk) a e = absurd (omega (arith, e))
  number_in (tok p (bad_tk r)) a e = absurd (omega (arith, e))
  number_in (tok p open_tk) a e = absurd (omega (arith, e))
  number_in (tok p close_tk) a e = absurd (omega (arith, e))
  number_in (tok p comma_tk) a e = absurd (omega (arith, e))
  number_in (tok p (number_tk q x)) a e = a.1
  number_in (tok p (word_tk w)) a e = absurd (omega (arith, e))

  -- lexing: at p stand the bytes bs
  next : (p b : ℕ) (bs : List ℕ) → drop p text ≡ b ∷ bs → drop (p + 1) text ≡ bs
  next p b bs e = sym (drop-drop 1 p text) ∙ ap (drop 1) e

  before_end : (p b : ℕ) (bs : List ℕ) → drop p text ≡ b ∷ bs → p < length text
  before_end p b bs e = let l : length text - p ≡ suc (length bs) = sym (length-drop p text) ∙ ap length e in omega arith

  number_tk_in : (p q b : ℕ) (bs x rest : List ℕ) → p + length (b ∷ bs) ≤ length text → drop q text ≡ x ++ rest → q ≤ length text → TkIn p (number_token (wrong_number_at p (b ∷ bs)) q x)
  unfolding number_token
  number_tk_in p q b bs x rest h e l =
      let z : length text - q ≡ length x + length rest = sym (length-drop q text) ∙ ap length e ∙ length-append x rest in
      let w = wrong_in p (b ∷ bs) in
      either (is_lexeme x) (TkIn p) _ _
      (λ g. (omega arith, record { inside = omega arith; bytes = rw e (take-append_seam x rest); lexeme = g }))
      λ g. (omega arith, record { number = bad_refusal (wrong_number_at p (b ∷ bs)).number w.0; place = omega (arith, w.1) })

  run_tk_in : (p b : ℕ) (bs rest : List ℕ) → drop p text ≡ b ∷ (bs ++ rest) → TkIn p (run_tk p b bs)
  unfolding run_tk
  run_tk_in p b bs rest e =
      let z : length text - p ≡ suc (length bs + length rest) = sym (length-drop p text) ∙ ap length e ∙ ap suc (length-append bs rest) in
      let h : p < length text = before_end p b (bs ++ rest) e in
      let l : p + length (b ∷ bs) ≤ length text = omega arith in
      either (is_numberlike b) (TkIn p) _ _
      (λ n. either (eqb b plus) (TkIn p) _ _
      (λ s. number_tk_in p (p + 1) b bs bs rest l (next p b (bs ++ rest) e) (omega arith))
      λ s. number_tk_in p p b bs (b ∷ bs) rest l e (omega arith))
      λ n. h

  LexedIn : List ℕ → Lexed → Type 0
  LexedIn bs (lexed r s) = (rest : List ℕ) × (bs ≡ r ++ rest) × ToksIn s

  flush_in : (p : ℕ) (bs : List ℕ) (l : Lexed) → drop p text ≡ bs → LexedIn bs l → ToksIn (flush p l)
  unfolding flush LexedIn
  flush_in p bs (lexed [] s) e h = h.2
  flush_in p bs (lexed (b ∷ r) s) e h = (run_tk_in p b r h.0 (e ∙ h.1), h.2)

  push_in : (b : ℕ) (bs : List ℕ) (l : Lexed) → LexedIn bs l → LexedIn (b ∷ bs) (push b l)
  unfolding push LexedIn
  push_in b bs (lexed r s) h = (h.0, ap (λ (k : List ℕ). b ∷ k) h.1, h.2)

  mark_tk_in : (p b : ℕ) → p < length text → TkIn p (mark_tk b)
  unfolding mark_tk
  mark_tk_in p b h =
      either (eqb b nul) (TkIn p) _ _ (λ e. omega arith) λ e.
      either (eqb b paren_open) (TkIn p) _ _ (λ e. h) λ e.
      either (eqb b paren_close) (TkIn p) _ _ (λ e. h) λ e. h

  byte_in : (p b : ℕ) (bs : List ℕ) (l : Lexed) → drop p text ≡ b ∷ bs → LexedIn bs l → LexedIn (b ∷ bs) (lex_byte p b l)
  unfolding lex_byte LexedIn
  byte_in p b bs l e h =
      let f : ToksIn (flush (p + 1) l) = flush_in (p + 1) bs l (next p b bs e) h in
      either (is_blank b) (LexedIn (b ∷ bs)) _ _ (λ z. (b ∷ bs, refl, f)) λ z.
      either (is_stop b) (LexedIn (b ∷ bs)) _ _ (λ y. (b ∷ bs, refl, (mark_tk_in p b (before_end p b bs e), f))) λ y. push_in b bs l h

  lex_run_in : (bs : List ℕ) (p : ℕ) → p ≤ length text → drop p text ≡ bs → LexedIn bs (lex_run p bs)
  unfolding lex_run LexedIn
  lex_run_in [] p h e = ([], refl, h)
  lex_run_in (b ∷ bs) p h e =
      let l : p < length text = before_end p b bs e in
      byte_in p b bs (lex_run (p + 1) bs) e (lex_run_in bs (p + 1) (omega arith) (next p b bs e))

  pub lex_in : ToksIn (lex 0 text)
  unfolding lex
  lex_in = flush_in 0 text (lex_run 0 text) refl (lex_run_in text 0 (omega arith) refl)
