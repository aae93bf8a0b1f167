-- A lexeme has only inner bytes: no blank and no mark.
-- Assumes nothing.
use mathlib.Core.Path.{◌≡◌, refl}
use mathlib.Core.Bool.{Bool, true, false, cond, false≢true, and-eq-true_iff}
use mathlib.Core.List.{List, [], ◌∷◌, ◌++◌}
use Prim.Native.Nat.{ℕ, ◌≤◌, ◌-◌}
use native.Mathlib.Omega.{arith}
use lib.Dec.{eqb, leb}
use lib.ListN.{length}
use borrow.Author.Tests.{leb-true, eqb-true}
use Rattle.scan.specs.Bytes.{is_inner, is_digit, is_sign, is_point}
use Rattle.scan.specs.Runs.{first_not, Many, none, more}
use Rattle.scan.proofs.Bytes.{above_inner, digit_inner, sign_inner, point_inner}
use Rattle.scan.proofs.Runs.{whole}
use Rattle.words.specs.Words.{same_word, upper, is_lower}
use Rattle.number.specs.Lexeme.{is_e, inf, infinity, nan, is_lexeme}
use Rattle.number.specs.Grammar.{OneByte, one, both, this, that, Maybe, absent, present, named, Digits1, Exp, Number, Float}
use Rattle.number.proofs.Stop.{e_inner}
use Rattle.number.proofs.Equal.{sound}

many_join : {p : ℕ → Bool} {x y : List ℕ} → Many p x → Many p y → Many p (x ++ y)
many_join none n = n
many_join (more e m) n = more e (many_join m n)

-- for any test that only inner bytes pass
module _ (p : ℕ → Bool) (inner : (b : ℕ) → p b ≡ true → is_inner b ≡ true) where
  one_inner : {l : List ℕ} → OneByte p l → Many is_inner l
  one_inner (one {b = b} e) = more (inner b e) none

  maybe_inner : {l : List ℕ} → Maybe (OneByte p) l → Many is_inner l
  maybe_inner absent = none
  maybe_inner (present o) = one_inner o

  many_inner : {l : List ℕ} → Many p l → Many is_inner l
  many_inner none = none
  many_inner (more {b = b} e m) = more (inner b e) (many_inner m)

upper_low : (b : ℕ) → upper b ≤ b
upper_low b = go (is_lower b)
  where
    go : (t : Bool) → cond t (b - 32) b ≤ b
    go true = omega arith
    go false = omega arith

-- a word of letters, in either case
word_inner : (l w : List ℕ) → Many (λ k. leb 45 (upper k)) w → same_word l w ≡ true → Many is_inner l
unfolding same_word
word_inner [] [] m e = none
word_inner [] (k ∷ w) m e = none
word_inner (b ∷ l) [] m e = absurd (false≢true e)
word_inner (b ∷ l) (k ∷ w) (more high m) e =
    let same : upper b ≡ upper k = eqb-true (upper b) (upper k) ((and-eq-true_iff _ _).0 e).0 in
    more (above_inner b (omega (arith, upper_low b, leb-true 45 (upper k) high))) (word_inner l w m ((and-eq-true_iff (eqb (upper b) (upper k)) _).0 e).1)

digits_inner : {l : List ℕ} → Digits1 l → Many is_inner l
digits_inner (both o m) = many_join (one_inner is_digit digit_inner o) (many_inner is_digit digit_inner m)

exp_inner : {l : List ℕ} → Maybe Exp l → Many is_inner l
exp_inner absent = none
exp_inner (present (both e (both s d))) = many_join (one_inner is_e e_inner e) (many_join (maybe_inner is_sign sign_inner s) (digits_inner d))

number_inner : {l : List ℕ} → Number l → Many is_inner l
number_inner (both (this d) e) = many_join (digits_inner d) (exp_inner e)
number_inner (both (that (this (both d (both p m)))) e) =
    many_join (many_join (digits_inner d) (many_join (one_inner is_point point_inner p) (many_inner is_digit digit_inner m))) (exp_inner e)
number_inner (both (that (that (both m (both p d)))) e) =
    many_join (many_join (many_inner is_digit digit_inner m) (many_join (one_inner is_point point_inner p) (digits_inner d))) (exp_inner e)

float_inner : {l : List ℕ} → Float l → Many is_inner l
float_inner (both s (this (named {l = l} e))) = many_join (maybe_inner is_sign sign_inner s) (word_inner l inf (more refl (more refl (more refl none))) e)
float_inner (both s (that (this (named {l = l} e)))) = many_join (maybe_inner is_sign sign_inner s) (word_inner l infinity (more refl (more refl (more refl (more refl (more refl (more refl (more refl (more refl none)))))))) e)
float_inner (both s (that (that (this (named {l = l} e))))) = many_join (maybe_inner is_sign sign_inner s) (word_inner l nan (more refl (more refl (more refl none))) e)
float_inner (both s (that (that (that n)))) = many_join (maybe_inner is_sign sign_inner s) (number_inner n)

pub lexeme_inner : (l : List ℕ) → is_lexeme l ≡ true → Many is_inner l
lexeme_inner l e = float_inner (sound l e)

-- so a scan for a stop passes a lexeme over whole
pub lexeme_whole : (l : List ℕ) → is_lexeme l ≡ true → first_not is_inner l 0 ≡ length l
lexeme_whole l e = whole is_inner l (lexeme_inner l e)
