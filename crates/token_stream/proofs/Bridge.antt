-- The stream that the code reads is the lexing of the text, byte by byte: `toks text i ≡ lex i (drop i text)`.
-- Assumes nothing.
use mathlib.Core.Path.{◌≡◌, refl, sym, ap, ap₂, ◌∙◌}
use mathlib.Core.Bool.{Bool, true, false, cond, false≢true}
use mathlib.Core.List.{List, [], ◌∷◌}
use mathlib.Core.Logic.{◌⊎◌, inl, inr}
use Prim.Native.Nat.{ℕ, zero, suc, ◌+◌, ◌-◌, ◌≤◌, ◌<◌}
use native.Mathlib.Omega.{arith}
use native.Mathlib.Numerals.{add-one}
use native.Mathlib.Decide.{dec_lt}
use lib.Dec.{eqb}
use lib.ListN.{length, get_or, drop, get_or-eq_default}
use lib.Seq.{drop-cons, drop-length}
use borrow.Author.Tests.{le-leb, lt-leb, ne_eqb}
use Rattle.scan.specs.Bytes.{is_blank, is_stop, is_inner, is_numberlike, is_plus}
use Rattle.scan.specs.Front.{part}
use Rattle.scan.specs.Runs.{first_not, after_one_at}
use Rattle.scan.proofs.Front.{part_first}
use Rattle.scan.proofs.Runs.{on, stop, past, not_before, not_past, first_fails, one_on, one_off}
use Rattle.number.specs.Lexeme.{is_lexeme}
use Rattle.token.specs.declared.Read.{Read}
use Rattle.token.specs.declared.Refusal.{Refusal}
use Rattle.token.specs.Tokens.{wrong_number_at, bad_at, end_of, after_blank, text_start, number_or, number_at, word_at, start_at, token_at, read_at}
use Rattle.token.proofs.BadNumbers.{bad_is}
use Rattle.token_stream.specs.Stream.{Tk, none_tk, bad_tk, number_tk, tok, Str, end, then, cons, tok_in, toks_by, toks}
use Rattle.token_stream.specs.Lex.{mark_tk, number_token, run_tk, Lexed, lexed, flush, push, lex_byte, lex_run, lex}
use Rattle.token_stream.proofs.Stream.{read_on_law, read_within, none_end, plus_end}
use Rattle.lists.proofs.Cases.{either}

module _ (text : List ℕ) where
  X : ℕ → Lexed
  X i = lex_run i (drop i text)

  L : ℕ → Str
  L i = lex i (drop i text)

  L-X : (i : ℕ) → L i ≡ flush i (X i)
  unfolding L X lex
  L-X i = refl

  X-end : X (length text) ≡ lexed [] (end (length text))
  unfolding X lex_run
  X-end = rw (drop-length text)

  L-end : L (length text) ≡ end (length text)
  unfolding flush
  L-end = L-X (length text) ∙ rw X-end

  X-lexByte : (i : ℕ) → i < length text → X i ≡ lex_byte i (get_or text i 0) (X (i + 1))
  unfolding X lex_run
  X-lexByte i h = rw (drop-cons text i 0 h, add-one i)

  -- a byte that ends a run
  X-blank : (i : ℕ) → i < length text → is_blank (get_or text i 0) ≡ true → X i ≡ lexed [] (L (i + 1))
  unfolding lex_byte
  X-blank i h z = X-lexByte i h ∙ rw (z, L-X (i + 1))

  X-markTk : (i : ℕ) → i < length text → is_blank (get_or text i 0) ≡ false → is_stop (get_or text i 0) ≡ true → X i ≡ lexed [] (then (tok i (mark_tk (get_or text i 0))) (L (i + 1)))
  unfolding lex_byte
  X-markTk i h z t = X-lexByte i h ∙ rw (t, z, L-X (i + 1))

  X-inner : (i : ℕ) → i < length text → is_blank (get_or text i 0) ≡ false → is_stop (get_or text i 0) ≡ false → X i ≡ push (get_or text i 0) (X (i + 1))
  unfolding lex_byte
  X-inner i h z t = X-lexByte i h ∙ rw (t, z)

  L-blank : (i : ℕ) → i < length text → is_blank (get_or text i 0) ≡ true → L i ≡ L (i + 1)
  unfolding flush
  L-blank i h z = L-X i ∙ rw (X-blank i h z)

  L-markTk : (i : ℕ) → i < length text → is_blank (get_or text i 0) ≡ false → is_stop (get_or text i 0) ≡ true → L i ≡ then (tok i (mark_tk (get_or text i 0))) (L (i + 1))
  unfolding flush
  L-markTk i h z t = L-X i ∙ rw (X-markTk i h z t)

  empty_run : (i : ℕ) (s : Str) → X i ≡ lexed [] s → X i ≡ lexed [] (L i)
  unfolding flush
  empty_run i s e = e ∙ ap (lexed []) (sym (L-X i ∙ rw e))

  -- blanks are passed over
  L-blanks : (f i : ℕ) → length text ≤ i + f → i ≤ length text → L i ≡ L (first_not is_blank text i)
  L-blanks zero i g h = let e : i ≡ length text = omega arith in ap L (e ∙ sym (past is_blank text i (omega arith)))
  L-blanks (suc f) i g h = go (dec_lt i (length text)) (is_blank (get_or text i 0)) refl (L-blanks f (i + 1))
    where
      go : Dec (i < length text) → (x : Bool) → is_blank (get_or text i 0) ≡ x → (length text ≤ i + 1 + f → i + 1 ≤ length text → L (i + 1) ≡ L (first_not is_blank text (i + 1))) → L i ≡ L (first_not is_blank text i)
      go (no l) x z r = let e : i ≡ length text = omega arith in ap L (e ∙ sym (past is_blank text i (omega arith)))
      go (yes l) true z r = L-blank i l z ∙ r (omega arith) (omega arith) ∙ ap L (on is_blank text i l z)
      go (yes l) false z r = ap L (sym (stop is_blank text i l z))

  Run : ℕ → ℕ → Type 0
  Run i e = X i ≡ lexed (part text i e) (L e)

  -- a run of bytes of a number or a word
  run_none : (i e : ℕ) → X i ≡ lexed [] (L i) → e ≡ i → Run i e
  unfolding Run
  run_none i e x k = let z : i - i ≡ 0 = omega arith in rw (k, z) x

  run_more : (i e : ℕ) → i < length text → i < e → X i ≡ push (get_or text i 0) (X (i + 1)) → Run (i + 1) e → Run i e
  unfolding Run push
  run_more i e h l x r = x ∙ rw (r, part_first text i e h l)

  X-run : (f i : ℕ) → length text ≤ i + f → i ≤ length text → Run i (first_not is_inner text i)
  X-run zero i g h =
      let e : i ≡ length text = omega arith in
      run_none i (first_not is_inner text i) (rw e (X-end ∙ ap (lexed []) (sym L-end))) (past is_inner text i (omega arith) ∙ sym e)
  X-run (suc f) i g h = go (dec_lt i (length text)) (is_blank (get_or text i 0)) (is_stop (get_or text i 0)) refl refl (X-run f (i + 1))
    where
      go : Dec (i < length text) → (x y : Bool) → is_blank (get_or text i 0) ≡ x → is_stop (get_or text i 0) ≡ y → (length text ≤ i + 1 + f → i + 1 ≤ length text → Run (i + 1) (first_not is_inner text (i + 1))) → Run i (first_not is_inner text i)
      go (no l) x y z t r =
          let e : i ≡ length text = omega arith in
          run_none i (first_not is_inner text i) (rw e (X-end ∙ ap (lexed []) (sym L-end))) (past is_inner text i (omega arith) ∙ sym e)
      go (yes l) true true z t r = run_none i (first_not is_inner text i) (empty_run i (L (i + 1)) (X-blank i l z)) (stop is_inner text i l (rw t))
      go (yes l) true false z t r = absurd (false≢true (sym t ∙ rw z))
      go (yes l) false true z t r = run_none i (first_not is_inner text i) (empty_run i _ (X-markTk i l z t)) (stop is_inner text i l (rw t))
      go (yes l) false false z t r =
          let o = on is_inner text i l (rw t) in
          run_more i (first_not is_inner text i) l (omega (arith, o, not_before is_inner text (i + 1) (omega arith))) (X-inner i l z t) (rw o at (r (omega arith) (omega arith)))

  L-run : (p : ℕ) → p < length text → is_blank (get_or text p 0) ≡ false → is_stop (get_or text p 0) ≡ false → L p ≡ then (tok p (run_tk p (get_or text p 0) (part text (p + 1) (end_of text p)))) (L (end_of text p))
  unfolding flush Run
  L-run p h z t =
      let o = on is_inner text p h (rw t) in
      L-X p ∙ rw (X-run (length text) p (omega arith) (omega arith), part_first text p (end_of text p) h (omega (arith, o, not_before is_inner text (p + 1) (omega arith))))

  L-after : (e : ℕ) → L e ≡ L (after_blank text e)
  unfolding after_one_at
  L-after e = go (dec_lt e (length text))
    where
      go : Dec (e < length text) → L e ≡ L (cond (is_blank (get_or text e 0)) (e + 1) e)
      go (yes h) = either (is_blank (get_or text e 0)) (λ (k : ℕ). L e ≡ L k) (e + 1) e (λ z. L-blank e h z) (λ z. refl)
      go (no h) = let g : length text ≤ e = omega arith in rw (get_or-eq_default text 0 g)

  -- the end's place
  ends : Str → ℕ
  ends (end n) = n
  ends (then t s) = ends s

  ends_x : Lexed → ℕ
  ends_x (lexed r s) = ends s

  ends_flush : (p : ℕ) (l : Lexed) → ends (flush p l) ≡ ends_x l
  unfolding flush ends ends_x
  ends_flush p (lexed [] s) = refl
  ends_flush p (lexed (b ∷ bs) s) = refl

  ends_push : (b : ℕ) (l : Lexed) → ends_x (push b l) ≡ ends_x l
  unfolding push ends_x
  ends_push b (lexed r s) = refl

  ends_lex_byte : (p b : ℕ) (l : Lexed) → ends_x (lex_byte p b l) ≡ ends_x l
  unfolding lex_byte ends_x ends
  ends_lex_byte p b l = go (is_blank b) (is_stop b)
    where
      go : (x y : Bool) → ends_x (cond x (lexed [] (flush (p + 1) l)) (cond y (lexed [] (then (tok p (mark_tk b)) (flush (p + 1) l))) (push b l))) ≡ ends_x l
      go true y = ends_flush (p + 1) l
      go false true = ends_flush (p + 1) l
      go false false = ends_push b l

  X-ends : (f i : ℕ) → length text ≤ i + f → i ≤ length text → ends_x (X i) ≡ length text
  unfolding ends_x ends
  X-ends zero i g h = let e : i ≡ length text = omega arith in rw (e, X-end)
  X-ends (suc f) i g h = go (dec_lt i (length text)) (X-ends f (i + 1))
    where
      go : Dec (i < length text) → (length text ≤ i + 1 + f → i + 1 ≤ length text → ends_x (X (i + 1)) ≡ length text) → ends_x (X i) ≡ length text
      go (no l) r = let e : i ≡ length text = omega arith in rw (e, X-end)
      go (yes l) r = rw (X-lexByte i l) (ends_lex_byte i (get_or text i 0) (X (i + 1)) ∙ r (omega arith) (omega arith))

  L-ends : (i : ℕ) → i ≤ length text → ends (L i) ≡ length text
  L-ends i h = ap ends (L-X i) ∙ ends_flush i (X i) ∙ X-ends (length text) i (omega arith) h

  none_cons : (p : ℕ) (s : Str) → p < ends s → cons (tok p none_tk) s ≡ then (tok p none_tk) s
  unfolding cons ends
  none_cons p (end n) h = rw (ne_eqb p n (λ z. omega (arith, z, h)))
  none_cons p (then t s) h = refl

  -- numbers
  number_tok : (p q e : ℕ) → tok_in text (number_or (is_lexeme (part text q e)) p q e) ≡ tok p (number_token (bad_at text p) q (part text q e))
  unfolding number_token
  number_tok p q e = go (is_lexeme (part text q e))
    where
      go : (x : Bool) → tok_in text (number_or x p q e) ≡ tok p (cond x (number_tk q (part text q e)) (bad_tk (bad_at text p)))
      go true = refl
      go false = refl

  number_cons : (p q : ℕ) (r : Refusal) (x : List ℕ) (s : Str) → cons (tok p (number_token r q x)) s ≡ then (tok p (number_token r q x)) s
  unfolding number_token cons
  number_cons p q r x s = go (is_lexeme x)
    where
      go : (b : Bool) → cons (tok p (cond b (number_tk q x) (bad_tk r))) s ≡ then (tok p (cond b (number_tk q x) (bad_tk r))) s
      go true = refl
      go false = refl

  module _ (p : ℕ) (h : p < length text) where
    abbrev rest : List ℕ
    rest = part text (p + 1) (end_of text p)

    marked : (c : ℕ) → get_or text p 0 ≡ c → is_blank c ≡ false → is_stop c ≡ true → L p ≡ then (tok p (mark_tk c)) (L (p + 1))
    marked c w z t = rw w at (L-markTk p h (rw w z) (rw w t))

    whole : is_inner (get_or text p 0) ≡ true → get_or text p 0 ∷ rest ≡ part text p (end_of text p)
    whole t = sym (part_first text p (end_of text p) h (omega (arith, on is_inner text p h t, not_before is_inner text (p + 1) (omega arith))))

    -- the number's token, when its text starts at q
    from : (q : ℕ) → q ≡ text_start text p → then (tok p (number_token (bad_at text p) q (part text q (end_of text p)))) (L (end_of text p)) ≡ cons (tok_in text (number_at text p).found) (L (number_at text p).at)
    unfolding number_at
    from q e = rw (← e, ap (end_of text) e ∙ plus_end text p h, number_tok p q (end_of text p), number_cons p q (bad_at text p) (part text q (end_of text p)), ← L-after (end_of text p))

    number_is : (c : ℕ) → get_or text p 0 ≡ c → is_blank c ≡ false → is_stop c ≡ false → is_numberlike c ≡ true → L p ≡ cons (tok_in text (number_at text p).found) (L (number_at text p).at)
    unfolding run_tk
    number_is c w z t n = go (eqb c 43) refl
      where
        ran : L p ≡ then (tok p (run_tk p c rest)) (L (end_of text p))
        ran = rw w at (L-run p h (rw w z) (rw w t))

        all : c ∷ rest ≡ part text p (end_of text p)
        all = rw w at (whole (rw (w, t)))

        bad : wrong_number_at p (c ∷ rest) ≡ bad_at text p
        bad = ap (wrong_number_at p) all ∙ sym (bad_is text p)

        go : (x : Bool) → eqb c 43 ≡ x → L p ≡ cons (tok_in text (number_at text p).found) (L (number_at text p).at)
        go true e =
            let f : run_tk p c rest ≡ number_token (wrong_number_at p (c ∷ rest)) (p + 1) rest = rw (n, e) in
            let g : run_tk p c rest ≡ number_token (bad_at text p) (p + 1) rest = f ∙ ap (λ (r : Refusal). number_token r (p + 1) rest) bad in
            ran ∙ ap (λ (k : Tk). then (tok p k) (L (end_of text p))) g ∙ from (p + 1) (one_on is_plus text p (rw w e))
        go false e =
            let f : run_tk p c rest ≡ number_token (wrong_number_at p (c ∷ rest)) p (c ∷ rest) = rw (n, e) in
            let g : run_tk p c rest ≡ number_token (bad_at text p) p (part text p (end_of text p)) = f ∙ ap₂ (λ (r : Refusal) (l : List ℕ). number_token r p l) bad all in
            ran ∙ ap (λ (k : Tk). then (tok p k) (L (end_of text p))) g ∙ from p (one_off is_plus text p (rw w e))

    word_is : (c : ℕ) → get_or text p 0 ≡ c → is_blank c ≡ false → is_stop c ≡ false → is_numberlike c ≡ false → L p ≡ cons (tok_in text (word_at text p).found) (L (word_at text p).at)
    unfolding word_at run_tk cons
    word_is c w z t n =
        let ran : L p ≡ then (tok p (run_tk p c rest)) (L (end_of text p)) = rw w at (L-run p h (rw w z) (rw w t)) in
        let all : c ∷ rest ≡ part text p (end_of text p) = rw w at (whole (rw (w, t))) in
        ran ∙ rw (n, all, ← L-after (end_of text p))

    start_is : (c : ℕ) → get_or text p 0 ≡ c → is_blank c ≡ false → L p ≡ cons (tok_in text (start_at text p c).found) (L (start_at text p c).at)
    unfolding start_at mark_tk cons
    start_is c w z =
        let Q : Read → Type 0 = λ r. L p ≡ cons (tok_in text r.found) (L r.at) in
        either (eqb c 0) Q _ _ (λ e0. marked c w z (rw (z, e0)) ∙ rw e0 (sym (none_cons p (L (p + 1)) (omega (arith, L-ends (p + 1) (omega arith)))))) λ e0.
        either (eqb c 40) Q _ _ (λ e1. marked c w z (rw (z, e0, e1)) ∙ rw (e0, e1)) λ e1.
        either (eqb c 41) Q _ _ (λ e2. marked c w z (rw (z, e0, e1, e2)) ∙ rw (e0, e1, e2)) λ e2.
        either (eqb c 44) Q _ _ (λ e3. marked c w z (rw (z, e0, e1, e2, e3)) ∙ rw (e0, e1, e2)) λ e3.
        (let t : is_stop c ≡ false = rw (z, e0, e1, e2, e3) in
        either (is_numberlike c) Q _ _ (λ n. number_is c w z t n) λ n. word_is c w z t n)

  read_is : (i : ℕ) → i ≤ length text → L i ≡ cons (tok_in text (read_at text i).found) (L (read_at text i).at)
  unfolding read_at token_at
  read_is i h = L-blanks (length text) i (omega arith) h ∙ go (dec_lt (first_not is_blank text i) (length text))
    where
      go : Dec (first_not is_blank text i < length text) → L (first_not is_blank text i) ≡ cons (tok_in text (read_at text i).found) (L (read_at text i).at)
      go (yes l) = rw (lt-leb (length text) (first_not is_blank text i) l) (start_is (first_not is_blank text i) l (get_or text (first_not is_blank text i) 0) refl (first_fails is_blank text i l))
      go (no l) =
          let e : first_not is_blank text i ≡ length text = omega (arith, l, not_past is_blank text i) in
          rw (le-leb (length text) (first_not is_blank text i) (omega arith)) (ap L e ∙ L-end ∙ sym (rw L-end (none_end text (length text))))

  by : (f i : ℕ) → length text ≤ i + f → i ≤ length text → toks_by text f i ≡ L i
  unfolding toks_by
  by zero i g h = let e : i ≡ length text = omega arith in sym (ap L e ∙ L-end)
  by (suc f) i g h = ap (cons (tok_in text (read_at text i).found)) (by f (read_at text i).at (go (read_on_law text i)) (read_within text i)) ∙ sym (read_is i h)
    where
      go : (length text ≤ (read_at text i).at) ⊎ (i < (read_at text i).at) → length text ≤ (read_at text i).at + f
      go (inl a) = omega arith
      go (inr b) = omega arith

-- the tokens of a text from i on
pub toks_from : (text : List ℕ) (i : ℕ) → i ≤ length text → toks text i ≡ lex i (drop i text)
unfolding toks L
toks_from text i h = by text (length text) i (omega arith) h

-- the tokens of a whole text
pub toks_lex : (text : List ℕ) → toks text 0 ≡ lex 0 text
toks_lex text = toks_from text 0 (omega arith)
