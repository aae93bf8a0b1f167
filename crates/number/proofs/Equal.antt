-- `is_lexeme` decides the grammar of Rust's `f64`: it is true of the grammar's texts (`passes`), and of no others (`sound`).
-- Assumes nothing.
use mathlib.Core.Path.{◌≡◌, refl, sym, ap, ◌∙◌, subst}
use mathlib.Core.Logic.{◌⊎◌, inl, inr}
use mathlib.Core.Bool.{Bool, true, false, cond, ◌||◌, false≢true, and-eq-true_iff}
use mathlib.Core.List.{List, [], ◌∷◌, ◌++◌, append_assoc, append-nil}
use Prim.Native.Nat.{ℕ}
use native.Mathlib.Omega.{arith}
use lib.Dec.{eqb}
use borrow.Author.Tests.{eqb-true, ne_eqb}
use Rattle.lists.proofs.Cases.{or_left, or_right}
use Rattle.scan.specs.Bytes.{is_digit, is_sign, is_point}
use Rattle.scan.specs.Front.{begins, after_one, after_all, is_nil}
use Rattle.scan.specs.Runs.{Many, none, more}
use Rattle.scan.proofs.Bytes.{or_elim, digit_low}
use Rattle.words.specs.Words.{same_word, upper}
use Rattle.number.specs.Lexeme.{is_e, inf, infinity, nan, is_named, after_whole, has_digit, is_digits, is_exponent, is_decimal, is_unsigned, is_lexeme}
use Rattle.number.proofs.Stop.{all_none, one_none}
use Rattle.number.specs.Grammar.{OneByte, one, ◌then◌, both, this, that, Maybe, absent, present, named, Sign, Digits, Digits1, Exp, Number, Unsigned, Float}

-- bytes of different kinds
pub digit_sign : (b : ℕ) → is_digit b ≡ true → is_sign b ≡ false
digit_sign b e =
    let low = digit_low b e in
    rw (ne_eqb b 43 (λ q. omega arith), ne_eqb b 45 (λ q. omega arith))

point_sign : (b : ℕ) → is_point b ≡ true → is_sign b ≡ false
point_sign b e = ap is_sign (eqb-true b 46 e)

pub point_digit : (b : ℕ) → is_point b ≡ true → is_digit b ≡ false
point_digit b e = ap is_digit (eqb-true b 46 e)

-- a sign is no digit and no point
pub sign_digit : (b : ℕ) → is_sign b ≡ true → is_digit b ≡ false
sign_digit b e = or_elim (eqb b 43) (eqb b 45) (λ q. ap is_digit (eqb-true b 43 q)) (λ q. ap is_digit (eqb-true b 45 q)) e

pub sign_point : (b : ℕ) → is_sign b ≡ true → is_point b ≡ false
sign_point b e = or_elim (eqb b 43) (eqb b 45) (λ q. ap is_point (eqb-true b 43 q)) (λ q. ap is_point (eqb-true b 45 q)) e

e_digit : (b : ℕ) → is_e b ≡ true → is_digit b ≡ false
e_digit b e = or_elim (eqb b 101) (eqb b 69) (λ q. ap is_digit (eqb-true b 101 q)) (λ q. ap is_digit (eqb-true b 69 q)) e

e_point : (b : ℕ) → is_e b ≡ true → is_point b ≡ false
e_point b e = or_elim (eqb b 101) (eqb b 69) (λ q. ap is_point (eqb-true b 101 q)) (λ q. ap is_point (eqb-true b 69 q)) e

-- runs at the front
module _ (p : ℕ → Bool) where
  after_many : {x : List ℕ} (y : List ℕ) → Many p x → after_all p (x ++ y) ≡ after_all p y
  unfolding after_all
  after_many y none = refl
  after_many y (more e m) = rw e (after_many y m)

  begins_one : {x : List ℕ} (y : List ℕ) → (OneByte p then Many p) x → begins p (x ++ y) ≡ true
  unfolding begins
  begins_one y (both (one e) m) = e

  many_one : {x : List ℕ} → (OneByte p then Many p) x → Many p x
  many_one (both (one e) m) = more e m

  many_all : {x : List ℕ} → Many p x → after_all p x ≡ []
  unfolding after_all
  many_all none = refl
  many_all (more e m) = rw e (many_all m)

  begins_first : {x : List ℕ} → (OneByte p then Many p) x → begins p x ≡ true
  unfolding begins
  begins_first (both (one e) m) = e

-- the grammar's texts pass
digits_sign : {x : List ℕ} → Digits1 x → begins is_sign x ≡ false
unfolding begins
digits_sign (both (one {b = b} e) m) = digit_sign b e

digits_pass : {x : List ℕ} → Digits1 x → is_digits is_nil x ≡ true
unfolding is_digits is_nil
digits_pass d = rw (begins_first is_digit d, many_all is_digit (many_one is_digit d))

exp_passes : {l : List ℕ} → Maybe Exp l → is_exponent is_nil l ≡ true
unfolding is_exponent after_one begins is_nil
exp_passes absent = refl
exp_passes (present (both (one e) (both {y = x} absent d))) = rw (e, one_none is_sign x (digits_sign d)) (digits_pass d)
exp_passes (present (both (one e) (both (present (one s)) d))) = rw (e, s) (digits_pass d)

exp_digit : {l : List ℕ} → Maybe Exp l → begins is_digit l ≡ false
unfolding begins
exp_digit absent = refl
exp_digit (present (both (one {b = b} e) r)) = e_digit b e

exp_point : {l : List ℕ} → Maybe Exp l → begins is_point l ≡ false
unfolding begins
exp_point absent = refl
exp_point (present (both (one {b = b} e) r)) = e_point b e

decimal_by : (l y : List ℕ) → has_digit l ≡ true → after_all is_digit (after_whole l) ≡ y → is_exponent is_nil y ≡ true → is_decimal is_nil l ≡ true
unfolding is_decimal
decimal_by l y h1 h2 h3 = rw (h1, h2, h3)

-- digits, a point and digits are passed over
pointed : {a c : List ℕ} (b : ℕ) (y : List ℕ) → Digits a → is_point b ≡ true → Digits c → begins is_digit y ≡ false → after_all is_digit (after_one is_point (after_all is_digit ((a ++ b ∷ c) ++ y))) ≡ y
unfolding after_all after_one
pointed {a} {c} b y m t n e = rw (append_assoc a (b ∷ c) y, after_many is_digit (b ∷ c ++ y) m, point_digit b t, t, after_many is_digit y n) (all_none is_digit y e)

point_then : {x : List ℕ} (b : ℕ) (y : List ℕ) → is_point b ≡ true → Digits1 x → has_digit (b ∷ x ++ y) ≡ true
unfolding begins after_one after_all
point_then b y t d = rw (point_digit b t, t) (begins_one is_digit y d)

number_passes : {l : List ℕ} → Number l → is_decimal is_nil l ≡ true
unfolding begins after_one
number_passes (both {x = x} {y = y} (this d) e) =
    decimal_by (x ++ y) y (rw (begins_one is_digit y d))
    (rw (after_many is_digit y (many_one is_digit d), all_none is_digit y (exp_digit e), one_none is_point y (exp_point e)) (all_none is_digit y (exp_digit e)))
    (exp_passes e)
number_passes (both {x = x} {y = y} (that (this (both (both (one f) m) (both (one {b = b} t) n)))) e) =
    decimal_by (x ++ y) y (rw f) (pointed b y (more f m) t n (exp_digit e)) (exp_passes e)
number_passes (both {x = x} {y = y} (that (that (both none (both (one {b = b} t) d)))) e) =
    decimal_by (x ++ y) y (point_then b y t d) (pointed b y none t (many_one is_digit d) (exp_digit e)) (exp_passes e)
number_passes (both {x = x} {y = y} (that (that (both (more f m) (both (one {b = b} t) d)))) e) =
    decimal_by (x ++ y) y (rw f) (pointed b y (more f m) t (many_one is_digit d) (exp_digit e)) (exp_passes e)

-- a word whose first byte is an upper-case `I` or `N` begins with no sign
letter_sign : (b k : ℕ) → (43 ≡ k → ⊥) → (45 ≡ k → ⊥) → upper b ≡ k → is_sign b ≡ false
letter_sign b k n1 n2 e = go (is_sign b) refl
  where
    go : (t : Bool) → is_sign b ≡ t → t ≡ false
    go false q = refl
    go true q = absurd (or_elim (eqb b 43) (eqb b 45) (λ r. n1 (sym (ap upper (eqb-true b 43 r)) ∙ e)) (λ r. n2 (sym (ap upper (eqb-true b 45 r)) ∙ e)) q)

named_sign : (l : List ℕ) (k : ℕ) (w : List ℕ) → (43 ≡ upper k → ⊥) → (45 ≡ upper k → ⊥) → same_word l (k ∷ w) ≡ true → begins is_sign l ≡ false
unfolding begins same_word
named_sign [] k w n1 n2 e = refl
named_sign (b ∷ l) k w n1 n2 e = letter_sign b (upper k) n1 n2 (eqb-true (upper b) (upper k) ((and-eq-true_iff _ _).0 e).0)

number_sign : {l : List ℕ} → Number l → begins is_sign l ≡ false
unfolding begins
number_sign (both (this (both (one {b = b} f) m)) e) = digit_sign b f
number_sign (both (that (this (both (both (one {b = b} f) m) r))) e) = digit_sign b f
number_sign (both (that (that (both none (both (one {b = b} t) d)))) e) = point_sign b t
number_sign (both (that (that (both (more {b = b} f m) r))) e) = digit_sign b f

unsigned_sign : {l : List ℕ} → Unsigned l → begins is_sign l ≡ false
unsigned_sign {l} (this (named e)) = named_sign l _ _ (λ q. omega arith) (λ q. omega arith) e
unsigned_sign {l} (that (this (named e))) = named_sign l _ _ (λ q. omega arith) (λ q. omega arith) e
unsigned_sign {l} (that (that (this (named e)))) = named_sign l _ _ (λ q. omega arith) (λ q. omega arith) e
unsigned_sign (that (that (that n))) = number_sign n

unsigned_passes : {l : List ℕ} → Unsigned l → is_unsigned l ≡ true
unfolding is_unsigned is_named
unsigned_passes {l} (this (named e)) = rw e
unsigned_passes {l} (that (this (named e))) = or_left _ _ (or_left _ _ (or_right (same_word l inf) _ e))
unsigned_passes {l} (that (that (this (named e)))) = or_left _ _ (or_right (same_word l inf || same_word l infinity) _ e)
unsigned_passes {l} (that (that (that n))) = or_right (is_named l) _ (number_passes n)

pub passes : {l : List ℕ} → Float l → is_lexeme l ≡ true
unfolding is_lexeme after_one
passes (both {y = y} absent u) = rw (one_none is_sign y (unsigned_sign u)) (unsigned_passes u)
passes (both (present (one s)) u) = rw s (unsigned_passes u)

-- what passes is a text of the grammar
pub nil_is : (l : List ℕ) → is_nil l ≡ true → l ≡ []
unfolding is_nil
nil_is [] e = refl
nil_is (b ∷ l) e = absurd (false≢true e)

module _ (p : ℕ → Bool) where
  -- a list is its run at the front and what comes after
  runs : (l : List ℕ) → (x : List ℕ) × Many p x × (l ≡ x ++ after_all p l)
  unfolding after_all
  runs [] = ([], none, refl)
  runs (b ∷ l) = go (p b) refl (runs l)
    where
      go : (t : Bool) → p b ≡ t → ((x : List ℕ) × Many p x × (l ≡ x ++ after_all p l)) → (x : List ℕ) × Many p x × (b ∷ l ≡ x ++ cond t (after_all p l) (b ∷ l))
      go true e r = (b ∷ r.0, more e r.1, ap (λ (m : List ℕ). b ∷ m) r.2)
      go false e r = ([], none, refl)

  after_front : (l : List ℕ) → begins p (after_all p l) ≡ false
  unfolding after_all begins
  after_front [] = refl
  after_front (b ∷ l) = go (p b) refl (after_front l)
    where
      go : (t : Bool) → p b ≡ t → begins p (after_all p l) ≡ false → begins p (cond t (after_all p l) (b ∷ l)) ≡ false
      go true e h = h
      go false e h = e

digits_sound : (l : List ℕ) → is_digits is_nil l ≡ true → Digits1 l
unfolding is_digits begins after_all
digits_sound [] e = absurd (false≢true e)
digits_sound (b ∷ l) e =
    let f : is_digit b ≡ true = ((and-eq-true_iff _ _).0 e).0 in
    let z : is_nil (cond (is_digit b) (after_all is_digit l) (b ∷ l)) ≡ true = ((and-eq-true_iff (is_digit b) _).0 e).1 in
    let r = runs is_digit l in
    let q : l ≡ r.0 = r.2 ∙ (ap (λ (m : List ℕ). r.0 ++ m) (nil_is _ (rw f at z)) ∙ append-nil r.0) in
    subst Digits1 (ap (λ (m : List ℕ). b ∷ m) (sym q)) (both (one f) r.1)

sign_digits : (l : List ℕ) → is_digits is_nil (after_one is_sign l) ≡ true → (Maybe Sign then Digits1) l
unfolding after_one
sign_digits [] e = both absent (digits_sound [] e)
sign_digits (b ∷ l) e = go (is_sign b) refl e
  where
    go : (t : Bool) → is_sign b ≡ t → is_digits is_nil (cond t l (b ∷ l)) ≡ true → (Maybe Sign then Digits1) (b ∷ l)
    go true s d = both (present (one s)) (digits_sound l d)
    go false s d = both absent (digits_sound (b ∷ l) d)

exp_sound : (l : List ℕ) → is_exponent is_nil l ≡ true → Maybe Exp l
unfolding is_exponent is_nil begins after_one
exp_sound [] e = absent
exp_sound (b ∷ l) e =
    let f : is_e b ≡ true = ((and-eq-true_iff (is_e b) _).0 e).0 in
    present (both (one f) (sign_digits l (rw f at ((and-eq-true_iff (is_e b) _).0 e).1)))

-- a run is empty, or has a first byte
some_run : (p : ℕ → Bool) {x : List ℕ} → Many p x → (x ≡ []) ⊎ (OneByte p then Many p) x
some_run p none = inl refl
some_run p (more e m) = inr (both (one e) m)

runs_one : (p : ℕ → Bool) (l : List ℕ) → begins p l ≡ true → (x : List ℕ) × (OneByte p then Many p) x × (l ≡ x ++ after_all p l)
unfolding begins after_all
runs_one p [] e = absurd (false≢true e)
runs_one p (b ∷ l) e =
    let r = runs p l in
    (b ∷ r.0, both (one e) r.1, rw e (ap (λ (m : List ℕ). b ∷ m) r.2))

-- digits, then r, where no digit is first
digits_then : (x r : List ℕ) → Digits1 x → begins is_digit r ≡ false → is_exponent is_nil (after_all is_digit (after_one is_point r)) ≡ true → Number (x ++ r)
unfolding begins after_one
digits_then x [] d f e = both (this d) absent
digits_then x (c ∷ r) d f e = go (is_point c) refl e
  where
    go : (t : Bool) → is_point c ≡ t → is_exponent is_nil (after_all is_digit (cond t r (c ∷ r))) ≡ true → Number (x ++ (c ∷ r))
    go true t h =
        let s = runs is_digit r in
        let q : (x ++ c ∷ s.0) ++ after_all is_digit r ≡ x ++ c ∷ r = append_assoc x (c ∷ s.0) (after_all is_digit r) ∙ ap (λ (m : List ℕ). x ++ c ∷ m) (sym s.2) in
        subst Number q (both (that (this (both d (both (one t) s.1)))) (exp_sound (after_all is_digit r) h))
    go false t h = both (this d) (exp_sound (c ∷ r) (rw (all_none is_digit (c ∷ r) f) at h))

-- no digits, then r
none_then : (r : List ℕ) → begins is_digit r ≡ false → begins is_digit (after_one is_point r) ≡ true → is_exponent is_nil (after_all is_digit (after_one is_point r)) ≡ true → Number r
unfolding begins after_one
none_then [] f h e = absurd (false≢true h)
none_then (c ∷ r) f h e = go (is_point c) refl h e
  where
    go : (t : Bool) → is_point c ≡ t → begins is_digit (cond t r (c ∷ r)) ≡ true → is_exponent is_nil (after_all is_digit (cond t r (c ∷ r))) ≡ true → Number (c ∷ r)
    go true t h e =
        let s = runs_one is_digit r h in
        subst Number (ap (λ (m : List ℕ). c ∷ m) (sym s.2)) (both (that (that (both none (both (one t) s.1)))) (exp_sound (after_all is_digit r) e))
    go false t h e = absurd (false≢true (sym f ∙ h))

number_sound : (l : List ℕ) → is_decimal is_nil l ≡ true → Number l
unfolding is_decimal
number_sound l e = go (some_run is_digit (runs is_digit l).1)
  where
    h : has_digit l ≡ true
    h = ((and-eq-true_iff (has_digit l) _).0 e).0

    k : is_exponent is_nil (after_all is_digit (after_whole l)) ≡ true
    k = ((and-eq-true_iff (has_digit l) _).0 e).1

    go : ((runs is_digit l).0 ≡ []) ⊎ Digits1 (runs is_digit l).0 → Number l
    go (inl z) =
        let q : l ≡ after_all is_digit l = (runs is_digit l).2 ∙ ap (λ (m : List ℕ). m ++ after_all is_digit l) z in
        let f : begins is_digit l ≡ false = rw q (after_front is_digit l) in
        none_then l f (rw (f, ← q) at h) (rw (← q) at k)
    go (inr d) = subst Number (sym (runs is_digit l).2) (digits_then (runs is_digit l).0 (after_all is_digit l) d (after_front is_digit l) k)

unsigned_sound : (l : List ℕ) → is_unsigned l ≡ true → Unsigned l
unfolding is_unsigned is_named
unsigned_sound l e =
    or_elim (is_named l) (is_decimal is_nil l)
    (or_elim (same_word l inf || same_word l infinity) (same_word l nan)
    (or_elim (same_word l inf) (same_word l infinity) (λ h. this (named h)) (λ h. that (this (named h))))
    (λ h. that (that (this (named h)))))
    (λ h. that (that (that (number_sound l h))))
    e

pub sound : (l : List ℕ) → is_lexeme l ≡ true → Float l
unfolding is_lexeme after_one
sound [] e = both absent (unsigned_sound [] e)
sound (b ∷ l) e = go (is_sign b) refl e
  where
    go : (t : Bool) → is_sign b ≡ t → is_unsigned (cond t l (b ∷ l)) ≡ true → Float (b ∷ l)
    go true s h = both (present (one s)) (unsigned_sound l h)
    go false s h = both absent (unsigned_sound (b ∷ l) h)
