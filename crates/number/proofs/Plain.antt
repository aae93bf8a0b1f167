-- Texts without an exponent and without a word: they are lexemes, and one pass that counts points and other bytes than digits tells them.
-- Assumes nothing.
use mathlib.Core.Path.{◌≡◌, refl, sym, ap, ap₂, ◌∙◌}
use mathlib.Core.Bool.{Bool, true, false, cond, ◌||◌, ◌&&◌, or-true, and-true, and-false, and-eq-true_iff}
use mathlib.Core.List.{List, [], ◌∷◌, ◌++◌}
use Prim.Native.Nat.{ℕ, suc, ◌+◌, ◌≤◌, ◌<◌}
use native.Mathlib.Omega.{arith}
use lib.Dec.{leb, ltb}
use lib.ListN.{length, get_or}
use borrow.Author.Tests.{leb-true, ltb-true, ltb-false, lt-ltb, le-ltb, lt-leb, le-leb, eq-eqb, ne_eqb}
use Rattle.lists.specs.Lists.{every}
use Rattle.scan.specs.Bytes.{is_digit, is_sign, is_point, point}
use Rattle.scan.specs.Front.{rest, begins, after_one, after_all, is_nil}
use Rattle.scan.specs.Runs.{first_not, after_one_at}
use Rattle.scan.proofs.Front.{rest_zero, nil_at}
use Rattle.scan.proofs.Runs.{stop, past, not_before, not_past, moves, first_fails, one_on, one_off, one_end, one_not_past, rest_one, rest_run}
use Rattle.number.specs.Lexeme.{is_named, after_whole, has_digit, is_decimal, is_exponent, is_unsigned, is_lexeme, is_plain}
use Rattle.number.proofs.Equal.{nil_is, sign_digit, sign_point, point_digit}

-- ---- what is plain is a lexeme
pub plain_lexeme : (w : List ℕ) → is_plain w ≡ true → is_lexeme w ≡ true
unfolding is_plain is_lexeme is_unsigned is_decimal is_exponent is_nil
plain_lexeme w e =
    let bare = after_one is_sign w in
    let both = (and-eq-true_iff (has_digit bare) (is_nil (after_all is_digit (after_whole bare)))).0 e in
    rw (both.0, nil_is (after_all is_digit (after_whole bare)) both.1) (or-true (is_named bare))

-- ---- a test of two lists in a row
pub every_append : {A : Type 0} (p : A → Bool) (x y : List A) → every p (x ++ y) ≡ (every p x && every p y)
unfolding every
every_append p [] y = refl
every_append p (a ∷ x) y = go (p a) (every_append p x y)
  where
    go : (t : Bool) → every p (x ++ y) ≡ (every p x && every p y) → (t && every p (x ++ y)) ≡ ((t && every p x) && every p y)
    go true e = e
    go false e = refl

-- ---- one pass
-- what a pass over the bytes that are left comes to, where so many points and so many other bytes than digits were met, of n bytes in all;
-- a sign may stand first
unfoldable pub pass : Bool → ℕ → ℕ → ℕ → List ℕ → Bool
pass first points others n [] = leb points 1 && ltb others n
pass first points others n (b ∷ l) =
    cond (is_digit b) (pass false points others n l)
    (cond (is_point b) (pass false (points + 1) (others + 1) n l)
    (cond (is_sign b && first) (pass false points (others + 1) n l) false))

module _ (first : Bool) (points others n b : ℕ) (l : List ℕ) where
  pass_digit : is_digit b ≡ true → pass first points others n (b ∷ l) ≡ pass false points others n l
  unfolding pass
  pass_digit d = rw d

  pass_point : is_point b ≡ true → pass first points others n (b ∷ l) ≡ pass false (points + 1) (others + 1) n l
  unfolding pass
  pass_point p = rw (point_digit b p, p)

  pass_sign : is_sign b ≡ true → first ≡ true → pass first points others n (b ∷ l) ≡ pass false points (others + 1) n l
  unfolding pass
  pass_sign s f = rw (sign_digit b s, sign_point b s, s, f)

  pass_bare : is_sign b ≡ false → pass first points others n (b ∷ l) ≡ pass false points others n (b ∷ l)
  unfolding pass
  pass_bare s = rw s

  pass_other : is_digit b ≡ false → is_point b ≡ false → (is_sign b && first) ≡ false → pass first points others n (b ∷ l) ≡ false
  unfolding pass
  pass_other d p s = rw (d, p, s)

-- a second point is one too many
two_points_law : (points others n : ℕ) (l : List ℕ) → 1 < points → pass false points others n l ≡ false
unfolding pass
two_points_law points others n [] h = rw (lt-leb points 1 h)
two_points_law points others n (b ∷ l) h = go (is_digit b) (is_point b) (is_sign b) (two_points_law points others n l h) (two_points_law (points + 1) (others + 1) n l (omega arith))
  where
    go : (d p s : Bool) → pass false points others n l ≡ false → pass false (points + 1) (others + 1) n l ≡ false → cond d (pass false points others n l) (cond p (pass false (points + 1) (others + 1) n l) (cond (s && false) (pass false points (others + 1) n l) false)) ≡ false
    go true p s x y = x
    go false true s x y = y
    go false false true x y = refl
    go false false false x y = refl

-- after the point: digits up to the end
after_point : (others n : ℕ) (l : List ℕ) → pass false 1 others n l ≡ (is_nil (after_all is_digit l) && ltb others n)
unfolding pass after_all is_nil
after_point others n [] = refl
after_point others n (b ∷ l) = go (is_digit b) (is_point b) (is_sign b) (after_point others n l)
  where
    go : (d p s : Bool) → pass false 1 others n l ≡ (is_nil (after_all is_digit l) && ltb others n) → cond d (pass false 1 others n l) (cond p (pass false 2 (others + 1) n l) (cond (s && false) (pass false 1 (others + 1) n l) false)) ≡ (is_nil (cond d (after_all is_digit l) (b ∷ l)) && ltb others n)
    go true p s x = x
    go false true s x = two_points_law 2 (others + 1) n l (omega arith)
    go false false true x = refl
    go false false false x = refl

-- what is left is plain after d digits
abbrev After : ℕ → List ℕ → Bool
After d l = (ltb 0 d || has_digit l) && is_nil (after_all is_digit (after_whole l))

module _ (d b : ℕ) (l : List ℕ) where
  after_digit : is_digit b ≡ true → After d (b ∷ l) ≡ After (d + 1) l
  unfolding begins after_all
  after_digit t = rw (t, or-true (ltb 0 d), lt-ltb 0 (d + 1) (omega arith))

  after_one_point : is_point b ≡ true → After d (b ∷ l) ≡ ((ltb 0 d || begins is_digit l) && is_nil (after_all is_digit l))
  unfolding begins after_all after_one
  after_one_point p = rw (point_digit b p, p)

  after_other : is_digit b ≡ false → is_point b ≡ false → After d (b ∷ l) ≡ false
  unfolding begins after_all after_one is_nil
  after_other t p = rw (t, p, t) (and-false (ltb 0 d || false))

-- behind a point all are digits; and if there is one, or was one, then others, the point with them, are fewer than all
pointed : (d others n : ℕ) (l : List ℕ) → n ≡ d + others + suc (length l) → (is_nil (after_all is_digit l) && ltb (others + 1) n) ≡ ((ltb 0 d || begins is_digit l) && is_nil (after_all is_digit l))
unfolding after_all is_nil begins
pointed d others n [] e = go (ltb 0 d) refl
  where
    go : (t : Bool) → ltb 0 d ≡ t → ltb (others + 1) n ≡ ((t || false) && true)
    go true h = lt-ltb (others + 1) n (omega (arith, ltb-true 0 d h))
    go false h = le-ltb (others + 1) n (omega (arith, ltb-false 0 d h))
pointed d others n (b ∷ l) e = go (is_digit b) (ltb 0 d)
  where
    go : (t u : Bool) → (is_nil (cond t (after_all is_digit l) (b ∷ l)) && ltb (others + 1) n) ≡ ((u || t) && is_nil (cond t (after_all is_digit l) (b ∷ l)))
    go true u = rw (lt-ltb (others + 1) n (omega arith), or-true u) (and-true (is_nil (after_all is_digit l)))
    go false true = refl
    go false false = refl

before_point : (d others n : ℕ) (l : List ℕ) → n ≡ d + others + length l → pass false 0 others n l ≡ After d l
unfolding pass after_all after_one is_nil begins
before_point d others n [] e = go (ltb 0 d) refl
  where
    go : (t : Bool) → ltb 0 d ≡ t → ltb others n ≡ ((t || false) && true)
    go true h = lt-ltb others n (omega (arith, ltb-true 0 d h))
    go false h = le-ltb others n (omega (arith, ltb-false 0 d h))
before_point d others n (b ∷ l) e = go (is_digit b) refl (is_point b) refl (before_point (d + 1) others n l (omega arith))
  where
    go : (t : Bool) → is_digit b ≡ t → (p : Bool) → is_point b ≡ p → pass false 0 others n l ≡ After (d + 1) l → pass false 0 others n (b ∷ l) ≡ After d (b ∷ l)
    go true t p q x = pass_digit false 0 others n b l t ∙ x ∙ sym (after_digit d b l t)
    go false t true q x = pass_point false 0 others n b l q ∙ after_point (others + 1) n l ∙ pointed d others n l e ∙ sym (after_one_point d b l q)
    go false t false q x = pass_other false 0 others n b l t q (and-false (is_sign b)) ∙ sym (after_other d b l t q)

nothing : pass true 0 0 0 [] ≡ After 0 []
unfolding pass after_all after_one begins is_nil
nothing = refl

-- a pass over a whole text
pub pass_plain : (w : List ℕ) → pass true 0 0 (length w) w ≡ is_plain w
unfolding is_plain after_one
pass_plain [] = nothing
pass_plain (b ∷ l) = go (is_sign b) refl
  where
    go : (s : Bool) → is_sign b ≡ s → pass true 0 0 (suc (length l)) (b ∷ l) ≡ After 0 (cond s l (b ∷ l))
    go true s = pass_sign true 0 0 (suc (length l)) b l s refl ∙ before_point 0 1 (suc (length l)) l (omega arith)
    go false s = pass_bare true 0 0 (suc (length l)) b l s ∙ before_point 0 0 (suc (length l)) (b ∷ l) (omega arith)

-- a text of one byte
pub alone : (w : List ℕ) → length w ≡ 1 → is_digit (get_or w 0 0) ≡ is_plain w
unfolding pass
alone [] e = absurd (omega arith)
alone (b ∷ []) e = go (is_digit b) (is_point b) (is_sign b) ∙ pass_plain (b ∷ [])
  where
    go : (d p s : Bool) → d ≡ cond d true (cond p false (cond (s && true) false false))
    go true p s = refl
    go false true s = refl
    go false false true = refl
    go false false false = refl
alone (b ∷ a ∷ l) e = absurd (omega arith)

or_false : (t : Bool) → (t || false) ≡ t
or_false true = refl
or_false false = refl

-- ---- by where its parts end: digits, and perhaps a point and digits, behind a sign
module _ (w : List ℕ) (first whole : ℕ) (sign : first ≡ after_one_at is_sign w 0) (digits : whole ≡ first_not is_digit w first) where
  bare : rest w first ≡ after_one is_sign w
  bare = ap (rest w) sign ∙ rest_one is_sign w 0 refl ∙ ap (after_one is_sign) (rest_zero w)

  pub first_within : first ≤ length w
  first_within = rw sign (one_not_past is_sign w 0 refl (omega arith))

  pub whole_behind : first ≤ whole
  whole_behind = rw digits (not_before is_digit w first first_within)

  -- up to the end, one digit among them
  parts : (point end : ℕ) → point ≡ after_one_at is_point w whole → end ≡ first_not is_digit w point → ((ltb first whole || ltb point end) && leb (length w) end) ≡ is_plain w
  unfolding is_plain
  parts point end p f =
      let left : rest w point ≡ after_whole (after_one is_sign w) = ap (rest w) p ∙ rest_one is_point w whole refl ∙ ap (after_one is_point) (ap (rest w) digits ∙ rest_run is_digit w first ∙ ap (after_all is_digit) bare) in
      ap₂ ◌&&◌ (ap₂ ◌||◌ (ap (ltb first) digits ∙ moves is_digit w first ∙ ap (begins is_digit) bare) (ap (ltb point) f ∙ moves is_digit w point ∙ ap (begins is_digit) left)) (nil_at w end ∙ ap is_nil (ap (rest w) f ∙ rest_run is_digit w point ∙ ap (after_all is_digit) left))

  -- no more than digits
  pub digits_only : length w ≤ whole → ltb first whole ≡ is_plain w
  digits_only h =
      let stays : whole ≡ first_not is_digit w whole = omega (arith, past is_digit w whole h, not_past is_digit w first, digits) in
      sym (rw (le-ltb whole whole (omega arith), le-leb (length w) whole h) (and-true (ltb first whole || false) ∙ or_false (ltb first whole))) ∙ parts whole whole (one_end is_point w whole refl h) stays

  module _ (h : whole < length w) where
    -- then a byte that is no point
    pub then_other : (get_or w whole 0 ≡ point → ⊥) → false ≡ is_plain w
    then_other o =
        let none : is_digit (get_or w whole 0) ≡ false = ap (λ (k : ℕ). is_digit (get_or w k 0)) digits ∙ first_fails is_digit w first (omega (arith, h, digits)) in
        let stays : whole ≡ first_not is_digit w whole = sym (stop is_digit w whole h none) in
        sym (rw (lt-leb (length w) whole h) (and-false (ltb first whole || ltb whole whole))) ∙ parts whole whole (one_off is_point w whole (ne_eqb _ point o)) stays

    module _ (end : ℕ) (p : get_or w whole 0 ≡ point) (f : end ≡ first_not is_digit w (whole + 1)) where
      pointed_parts : ((ltb first whole || ltb (whole + 1) end) && leb (length w) end) ≡ is_plain w
      pointed_parts = parts (whole + 1) end (one_on is_point w whole (eq-eqb _ point p)) f

      -- then a point, with a digit on one side of it at least
      pub then_point : first + 1 < length w → leb (length w) end ≡ is_plain w
      then_point some = go (leb (length w) end) refl (ltb first whole) refl ∙ pointed_parts
        where
          go : (t : Bool) → leb (length w) end ≡ t → (u : Bool) → ltb first whole ≡ u → leb (length w) end ≡ ((ltb first whole || ltb (whole + 1) end) && leb (length w) end)
          go false e u l = rw e (sym (and-false (ltb first whole || ltb (whole + 1) end)))
          go true e true l = rw (e, l)
          go true e false l = rw (e, l, lt-ltb (whole + 1) end (omega (arith, leb-true (length w) end e, ltb-false first whole l, some)))

    -- or alone
    pub then_nothing : get_or w whole 0 ≡ point → length w ≤ first + 1 → false ≡ is_plain w
    then_nothing p few =
        let end = first_not is_digit w (whole + 1) in
        let over : length w ≤ whole + 1 = omega (arith, whole_behind, few) in
        let none : ((ltb first whole || ltb (whole + 1) end) && leb (length w) end) ≡ false = rw (le-ltb first whole (omega (arith, few, h)), le-ltb (whole + 1) end (omega (arith, past is_digit w (whole + 1) over, h))) in
        sym none ∙ pointed_parts end p refl
