-- A number's text read where it stands: a text x of inner bytes with a stop y behind it passes each test exactly where x by itself does.
-- Assumes nothing.
use mathlib.Core.Path.{◌≡◌, refl, ap, ◌∙◌}
use mathlib.Core.Bool.{Bool, true, false, cond, not}
use mathlib.Core.List.{List, [], ◌∷◌, ◌++◌}
use Prim.Native.Nat.{ℕ, ◌≤◌}
use lib.Dec.{eqb}
use lib.ListN.{length}
use borrow.Author.Tests.{eqb-true}
use Rattle.scan.specs.Bytes.{is_inner, is_digit, is_sign, is_point}
use Rattle.scan.specs.Front.{rest, part, begins, after_one, after_all, is_nil}
use Rattle.scan.specs.Runs.{first_not, Many, none, more}
use Rattle.scan.proofs.Bytes.{or_elim, not_wider, digit_inner, sign_inner, point_inner}
use Rattle.scan.proofs.Runs.{many_part, rest_split, rest_run}
use Rattle.number.specs.Lexeme.{is_e, at_stop, is_digits, is_exponent, is_decimal}

run_stops : (p : ℕ → Bool) (l : List ℕ) → begins p (after_all p l) ≡ false
unfolding begins after_all
run_stops p [] = refl
run_stops p (b ∷ l) = go (p b) refl (run_stops p l)
  where
    go : (t : Bool) → p b ≡ t → begins p (after_all p l) ≡ false → begins p (cond t (after_all p l) (b ∷ l)) ≡ false
    go true e h = h
    go false e h = e

pub e_inner : (b : ℕ) → is_e b ≡ true → is_inner b ≡ true
e_inner b e = or_elim (eqb b 101) (eqb b 69) (λ h. ap is_inner (eqb-true b 101 h)) (λ h. ap is_inner (eqb-true b 69 h)) e

module _ (p : ℕ → Bool) where
  pub all_none : (l : List ℕ) → begins p l ≡ false → after_all p l ≡ l
  unfolding begins after_all
  all_none [] e = refl
  all_none (b ∷ l) e = rw e

  pub one_none : (l : List ℕ) → begins p l ≡ false → after_one p l ≡ l
  unfolding begins after_one
  one_none [] e = refl
  one_none (b ∷ l) e = rw e

-- for any test that only inner bytes pass
module _ (p : ℕ → Bool) (inner : (b : ℕ) → p b ≡ true → is_inner b ≡ true) where
  many_one : {x : List ℕ} → Many is_inner x → Many is_inner (after_one p x)
  unfolding after_one
  many_one none = none
  many_one (more {b = b} {l = l} e m) = go (p b)
    where
      go : (t : Bool) → Many is_inner (cond t l (b ∷ l))
      go true = m
      go false = more e m

  many_all : {x : List ℕ} → Many is_inner x → Many is_inner (after_all p x)
  unfolding after_all
  many_all none = none
  many_all (more {b = b} {l = l} e m) = go (p b) (many_all m)
    where
      go : (t : Bool) → Many is_inner (after_all p l) → Many is_inner (cond t (after_all p l) (b ∷ l))
      go true r = r
      go false r = more e m

  fails_at_stop : (y : List ℕ) → begins is_inner y ≡ false → begins p y ≡ false
  unfolding begins
  fails_at_stop [] e = refl
  fails_at_stop (b ∷ y) e = not_wider p is_inner inner b e

  module _ (y : List ℕ) (stop : begins is_inner y ≡ false) where
    begins_before : (x : List ℕ) → begins p (x ++ y) ≡ begins p x
    unfolding begins
    begins_before [] = fails_at_stop y stop
    begins_before (b ∷ x) = refl

    one_before : (x : List ℕ) → after_one p (x ++ y) ≡ after_one p x ++ y
    unfolding after_one
    one_before [] = one_none p y (fails_at_stop y stop)
    one_before (b ∷ x) = go (p b)
      where
        go : (t : Bool) → cond t (x ++ y) (b ∷ (x ++ y)) ≡ cond t x (b ∷ x) ++ y
        go true = refl
        go false = refl

    all_before : (x : List ℕ) → after_all p (x ++ y) ≡ after_all p x ++ y
    unfolding after_all
    all_before [] = all_none p y (fails_at_stop y stop)
    all_before (b ∷ x) = go (p b) (all_before x)
      where
        go : (t : Bool) → after_all p (x ++ y) ≡ after_all p x ++ y → cond t (after_all p (x ++ y)) (b ∷ (x ++ y)) ≡ cond t (after_all p x) (b ∷ x) ++ y
        go true e = e
        go false e = refl

module _ (y : List ℕ) (stop : begins is_inner y ≡ false) where
  ends_before : {x : List ℕ} → Many is_inner x → at_stop (x ++ y) ≡ is_nil x
  unfolding at_stop is_nil begins
  ends_before none = ap not stop
  ends_before (more e m) = ap not e

  digits_before : {x : List ℕ} → Many is_inner x → is_digits at_stop (x ++ y) ≡ is_digits is_nil x
  unfolding is_digits
  digits_before {x} m = rw (begins_before is_digit digit_inner y stop x, all_before is_digit digit_inner y stop x, ends_before (many_all is_digit digit_inner m))

  exponent_before : {x : List ℕ} → Many is_inner x → is_exponent at_stop (x ++ y) ≡ is_exponent is_nil x
  unfolding is_exponent
  exponent_before {x} m =
      let past_e = many_one is_e e_inner m in
      rw (ends_before m, begins_before is_e e_inner y stop x, one_before is_e e_inner y stop x, one_before is_sign sign_inner y stop (after_one is_e x), digits_before (many_one is_sign sign_inner past_e))

  decimal_before : {x : List ℕ} → Many is_inner x → is_decimal at_stop (x ++ y) ≡ is_decimal is_nil x
  unfolding is_decimal
  decimal_before {x} m =
      let whole = after_all is_digit x in
      let past_point = after_one is_point whole in
      let left = many_all is_digit digit_inner (many_one is_point point_inner (many_all is_digit digit_inner m)) in
      rw (begins_before is_digit digit_inner y stop x, all_before is_digit digit_inner y stop x, one_before is_point point_inner y stop whole, begins_before is_digit digit_inner y stop past_point, all_before is_digit digit_inner y stop past_point, exponent_before left)

-- what stands in a text from i on, up to a stop, passes exactly where the part up to that stop does
pub decimal_part : (text : List ℕ) (i : ℕ) → i ≤ length text → is_decimal at_stop (rest text i) ≡ is_decimal is_nil (part text i (first_not is_inner text i))
decimal_part text i h =
    ap (is_decimal at_stop) (rest_split is_inner text i h)
    ∙ decimal_before (rest text (first_not is_inner text i)) (ap (begins is_inner) (rest_run is_inner text i) ∙ run_stops is_inner (rest text i)) (many_part is_inner text i h)
