-- What the steps of reading a token show, in the variables of the code.
-- Assumes nothing.
use mathlib.Core.Path.{◌≡◌, refl, ap, ◌∙◌}
use mathlib.Core.Bool.{Bool, cond}
use mathlib.Core.List.{List}
use Prim.Native.Nat.{ℕ, ◌-◌, ◌≤◌, ◌<◌}
use native.Mathlib.Omega.{arith}
use lib.ListN.{length, get_or}
use borrow.Author.Tests.{le-leb, lt-leb, ne_eqb}
use Rattle.scan.specs.Bytes.{is_inner, is_numberlike, is_plus}
use Rattle.scan.proofs.Runs.{not_before, one_not_past}
use Rattle.number.specs.declared.Lexeme.{Lexeme}
use Rattle.number.specs.Lexeme.{is_lexeme, up_to_stop}
use Rattle.token.specs.declared.Found.{Found}
use Rattle.token.specs.declared.Token.TheVariants.{Word}
use Rattle.token.specs.Tokens.{read, end_of, after_blank, text_start, number_or, number_from, number_at, word_at, start_at, token_at}

module _ (text : List ℕ) where
  -- a number's text starts no later than it ends
  pub start_end : (p : ℕ) → p < length text → text_start text p ≤ end_of text (text_start text p)
  start_end p h = not_before is_inner text (text_start text p) (one_not_past is_plus text p refl (omega arith))

  pub number_is : (p start next : ℕ) (x : Lexeme) (good : Bool) → start ≡ text_start text p → x ≡ up_to_stop is_lexeme text start → next ≡ after_blank text x.end → x.good ≡ good → read (number_or good p start x.end) next ≡ number_at text p
  unfolding number_at
  number_is p start next x good s e n g =
      rw (← g, n) (ap (number_from text p start) e ∙ ap (λ (k : ℕ). number_from text p k (up_to_stop is_lexeme text k)) s)

  pub word_is : (p end next : ℕ) → end ≡ end_of text p → next ≡ after_blank text end → read (Found.Is p (Word p (end - p))) next ≡ word_at text p
  unfolding word_at
  word_is p end next e n = rw (n, e)

  module _ (p : ℕ) where
    pub end_is : length text ≤ p → read (Found.NoToken (length text)) (length text) ≡ token_at text p
    unfolding token_at
    end_is h = rw (le-leb _ _ h)

    module _ (h : p < length text) where
      pub byte_is : (b : ℕ) → get_or text p 0 ≡ b → start_at text p b ≡ token_at text p
      unfolding token_at
      byte_is b e = rw (lt-leb _ _ h, e)

      module _ (n0 : get_or text p 0 ≡ 0 → ⊥) (n1 : get_or text p 0 ≡ 40 → ⊥) (n2 : get_or text p 0 ≡ 41 → ⊥) (n3 : get_or text p 0 ≡ 44 → ⊥) where
        pub other_is : (t : Bool) → is_numberlike (get_or text p 0) ≡ t → cond t (number_at text p) (word_at text p) ≡ token_at text p
        unfolding token_at start_at
        other_is t e = rw (lt-leb _ _ h, ne_eqb _ _ n0, ne_eqb _ _ n1, ne_eqb _ _ n2, ne_eqb _ _ n3, e)
