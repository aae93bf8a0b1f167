-- The bytes of a lexeme: each is a letter, or one that a number can start with. So a lexeme is ASCII, has no stop in it, and its first byte tells
-- whether it needs a `+` in front.
-- Assumes nothing.
use mathlib.Core.Path.{◌≡◌, refl, sym, ap, ◌∙◌}
use mathlib.Core.Bool.{Bool, true, false, ◌||◌, ◌&&◌, false≢true}
use mathlib.Core.List.{List, [], ◌∷◌, ◌++◌}
use Prim.Native.Nat.{ℕ}
use native.Mathlib.Omega.{arith}
use lib.Dec.{eqb, leb}
use borrow.Author.Tests.{le-leb, eqb-true}
use Rattle.lists.proofs.Cases.{or_right}
use Rattle.scan.specs.Bytes.{is_inner, is_digit, is_sign, is_point, is_numberlike, plus, minus, point, is_ascii}
use Rattle.scan.specs.Runs.{Many, none, more}
use Rattle.scan.proofs.Bytes.{or_elim, digit_high, digit_inner, sign_inner, point_inner}
use Rattle.words.specs.Words.{same_word}
use Rattle.scan.specs.Front.{begins, after_one, after_all}
use Rattle.number.specs.Lexeme.{is_e, inf, infinity, nan, is_named, is_decimal, is_unsigned, is_lexeme}
use Rattle.number.specs.Grammar.{OneByte, one, both, this, that, Maybe, absent, present, named, Digits1, Exp, Number, Float}
use Rattle.number.proofs.Equal.{sound}
use Rattle.names.specs.Letters.{is_letter}
use Rattle.lists.specs.Lists.{every}
use Rattle.lists.proofs.Lists.{every_head, every_tail, every_weaker}
use Rattle.names.proofs.Letters.{same_every, letter_ascii, letter_inner}

pub every_join : {A : Type 0} (p : A → Bool) (x y : List A) → every p x ≡ true → every p y ≡ true → every p (x ++ y) ≡ true
unfolding every
every_join p [] y a b = b
every_join p (c ∷ x) y a b = rw (every_head p c x a) (every_join p x y (every_tail p c x a) b)

-- a byte of a lexeme
abbrev pub is_number_byte : ℕ → Bool
is_number_byte b = is_numberlike b || is_letter b

digit_byte : (b : ℕ) → is_digit b ≡ true → is_number_byte b ≡ true
digit_byte b e = rw e

sign_byte : (b : ℕ) → is_sign b ≡ true → is_number_byte b ≡ true
sign_byte b e = or_elim (eqb b plus) (eqb b minus) (λ z. ap is_number_byte (eqb-true b plus z)) (λ z. ap is_number_byte (eqb-true b minus z)) e

point_byte : (b : ℕ) → is_point b ≡ true → is_number_byte b ≡ true
point_byte b e = ap is_number_byte (eqb-true b point e)

e_byte : (b : ℕ) → is_e b ≡ true → is_number_byte b ≡ true
e_byte b e = or_elim (eqb b 101) (eqb b 69) (λ z. ap is_number_byte (eqb-true b 101 z)) (λ z. ap is_number_byte (eqb-true b 69 z)) e

letter_byte : (b : ℕ) → is_letter b ≡ true → is_number_byte b ≡ true
letter_byte b e = or_right (is_numberlike b) (is_letter b) e

abbrev Bytes : List ℕ → Type 0
Bytes l = every is_number_byte l ≡ true

join : (x y : List ℕ) → Bytes x → Bytes y → Bytes (x ++ y)
join x y a b = every_join is_number_byte x y a b

module _ (p : ℕ → Bool) (h : (b : ℕ) → p b ≡ true → is_number_byte b ≡ true) where
  one_bytes : {l : List ℕ} → OneByte p l → Bytes l
  unfolding every
  one_bytes (one {b = b} e) = rw (h b e)

  maybe_bytes : {l : List ℕ} → Maybe (OneByte p) l → Bytes l
  unfolding every
  maybe_bytes absent = refl
  maybe_bytes (present o) = one_bytes o

  many_bytes : {l : List ℕ} → Many p l → Bytes l
  unfolding every
  many_bytes none = refl
  many_bytes (more {b = b} e m) = rw (h b e) (many_bytes m)

word_bytes : (l w : List ℕ) → every is_letter w ≡ true → same_word l w ≡ true → Bytes l
word_bytes l w a e = every_weaker is_letter is_number_byte letter_byte l (sym (same_every (λ b. leb 65 b && leb b 90) l w e) ∙ a)

digits_bytes : {l : List ℕ} → Digits1 l → Bytes l
digits_bytes (both {x = x} {y = y} o m) = join x y (one_bytes is_digit digit_byte o) (many_bytes is_digit digit_byte m)

exp_bytes : {l : List ℕ} → Maybe Exp l → Bytes l
unfolding every
exp_bytes absent = refl
exp_bytes (present (both {x = x} {y = y} e (both {x = u} {y = v} s d))) = join x (u ++ v) (one_bytes is_e e_byte e) (join u v (maybe_bytes is_sign sign_byte s) (digits_bytes d))

number_bytes : {l : List ℕ} → Number l → Bytes l
number_bytes (both {x = x} {y = y} (this d) e) = join x y (digits_bytes d) (exp_bytes e)
number_bytes (both {y = y} (that (this (both {x = a} d (both {x = b} {y = c} p m)))) e) =
    join (a ++ (b ++ c)) y (join a (b ++ c) (digits_bytes d) (join b c (one_bytes is_point point_byte p) (many_bytes is_digit digit_byte m))) (exp_bytes e)
number_bytes (both {y = y} (that (that (both {x = a} m (both {x = b} {y = c} p d)))) e) =
    join (a ++ (b ++ c)) y (join a (b ++ c) (many_bytes is_digit digit_byte m) (join b c (one_bytes is_point point_byte p) (digits_bytes d))) (exp_bytes e)

float_bytes : {l : List ℕ} → Float l → Bytes l
unfolding every
float_bytes (both {x = x} {y = y} s (this (named e))) = join x y (maybe_bytes is_sign sign_byte s) (word_bytes y inf refl e)
float_bytes (both {x = x} {y = y} s (that (this (named e)))) = join x y (maybe_bytes is_sign sign_byte s) (word_bytes y infinity refl e)
float_bytes (both {x = x} {y = y} s (that (that (this (named e))))) = join x y (maybe_bytes is_sign sign_byte s) (word_bytes y nan refl e)
float_bytes (both {x = x} {y = y} s (that (that (that n)))) = join x y (maybe_bytes is_sign sign_byte s) (number_bytes n)

pub lexeme_bytes : (l : List ℕ) → is_lexeme l ≡ true → every is_number_byte l ≡ true
lexeme_bytes l e = float_bytes (sound l e)

numberlike_ascii : (b : ℕ) → is_numberlike b ≡ true → is_ascii b ≡ true
numberlike_ascii b e =
    or_elim (is_digit b || is_point b) (is_sign b)
    (or_elim (is_digit b) (is_point b) (λ z. le-leb b 127 (omega (arith, digit_high b z))) λ z. ap is_ascii (eqb-true b point z))
    (or_elim (eqb b plus) (eqb b minus) (λ z. ap is_ascii (eqb-true b plus z)) λ z. ap is_ascii (eqb-true b minus z)) e

numberlike_inner : (b : ℕ) → is_numberlike b ≡ true → is_inner b ≡ true
numberlike_inner b e = or_elim (is_digit b || is_point b) (is_sign b) (or_elim (is_digit b) (is_point b) (digit_inner b) (point_inner b)) (sign_inner b) e

pub lexeme_ascii : (l : List ℕ) → is_lexeme l ≡ true → every is_ascii l ≡ true
lexeme_ascii l e = every_weaker is_number_byte is_ascii (λ b z. or_elim (is_numberlike b) (is_letter b) (numberlike_ascii b) (letter_ascii b) z) l (lexeme_bytes l e)

pub lexeme_inner : (l : List ℕ) → is_lexeme l ≡ true → every is_inner l ≡ true
lexeme_inner l e = every_weaker is_number_byte is_inner (λ b z. or_elim (is_numberlike b) (is_letter b) (numberlike_inner b) (letter_inner b) z) l (lexeme_bytes l e)

pub nil_lexeme : is_lexeme [] ≡ false
unfolding is_lexeme is_unsigned is_named is_decimal begins after_one after_all same_word
nil_lexeme = refl

-- a lexeme that gets no `+` begins a number as it is
pub bare_first : (b : ℕ) (l : List ℕ) → is_lexeme (b ∷ l) ≡ true → is_letter b ≡ false → is_numberlike b ≡ true
bare_first b l e n =
    or_elim (is_numberlike b) (is_letter b) (λ z. z) (λ z. absurd (false≢true (sym n ∙ z))) (every_head is_number_byte b l (lexeme_bytes (b ∷ l) e))
