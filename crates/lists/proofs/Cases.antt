-- A choice between two by a test, and a test of two.
-- Assumes nothing.
use mathlib.Core.Path.{◌≡◌, refl}
use mathlib.Core.Bool.{Bool, true, false, false≢true, cond, ◌||◌, ◌&&◌}

-- a choice, by cases
pub either : {A : Type 0} (b : Bool) (Q : A → Type 0) (x y : A) → (b ≡ true → Q x) → (b ≡ false → Q y) → Q (cond b x y)
either true Q x y f g = f refl
either false Q x y f g = g refl

pub and_both : (a b : Bool) → (a && b) ≡ true → (a ≡ true) × (b ≡ true)
and_both true true e = (refl, refl)
and_both true false e = absurd (false≢true e)
and_both false b e = absurd (false≢true e)

pub or_left : (a b : Bool) → a ≡ true → (a || b) ≡ true
or_left a b e = rw e

pub or_right : (a b : Bool) → b ≡ true → (a || b) ≡ true
or_right true b e = refl
or_right false b e = e
