-- Laws of fields one after the other: one more, the first that is faulty, none left; and a loop over fields that are right.
-- Assumes nothing.
use mathlib.Core.Path.{◌≡◌, refl, ap, sym, ◌∙◌}
use mathlib.Core.Bool.{Bool, true, false}
use mathlib.Core.List.{List, [], ◌∷◌, ◌++◌, append_assoc, append-nil}
use Prim.Native.Nat.{ℕ, zero, suc, ◌+◌, ◌-◌, ◌≤◌, ◌<◌}
use native.Mathlib.Omega.{arith}
use lib.ListN.{length}
use Rattle.stored_form.specs.Reading.{Run, faulty, whole, before, fields_from, Right}

pub whole_one : {X : Type 0} {xs ys : List X} {a b : ℕ} → ◌≡◌ {A = Run X} (whole xs a) (whole ys b) → (xs ≡ ys) × (a ≡ b)
whole_one e = (cc, cc)

-- those after the first
record After {X : Type 0} (x : X) (r : Run X) (xs : List X) (end : ℕ) : Type 0 where
  tail : List X
  is : r ≡ whole tail end
  all : xs ≡ x ∷ tail

after_first : {X : Type 0} (x : X) (r : Run X) {xs : List X} {end : ℕ} → before x r ≡ whole xs end → After x r xs end
after_first x (faulty at) e = let z : ◌≡◌ {A = ℕ} 0 1 = cc in absurd (omega arith)
after_first x (whole tail at) {xs} {end} e = let both = whole_one e in record { tail = tail; is = ap (whole tail) both.1; all = sym both.0 }

-- a loop has told `passed`, and the fields of `rest` are still to come
pub record Telling {X : Type 0} (r : Run X) (passed : List X) (rest : Run X) : Type 0 where
  pub left : List X
  pub end : ℕ
  pub to_come : rest ≡ whole left end
  pub all : r ≡ whole (passed ++ left) end

pub telling_begins : {X : Type 0} {r : Run X} → Right r → Telling r [] r
telling_begins h = record { left = h.items; end = h.end; to_come = h.are; all = h.are }

module _ {X : Type 0} (right : ℕ → Bool) (told : ℕ → X) (next : ℕ → ℕ) where
  abbrev from : ℕ → ℕ → Run X
  from = fields_from right told next

  pub field_on : (at n : ℕ) → right at ≡ true → from at (suc n) ≡ before (told at) (from (next at) n)
  unfolding fields_from
  field_on at n h = rw h

  pub field_off : (at n : ℕ) → right at ≡ false → from at (suc n) ≡ faulty at
  unfolding fields_from
  field_off at n h = rw h

  pub no_field : (at : ℕ) → from at 0 ≡ whole [] at
  unfolding fields_from
  no_field at = refl

  field_right : (at n : ℕ) {xs : List X} {end : ℕ} → from at (suc n) ≡ whole xs end → right at ≡ true
  field_right at n {xs} {end} e = go (right at) refl
    where
      go : (b : Bool) → right at ≡ b → b ≡ true
      go true h = refl
      go false h = let z : ◌≡◌ {A = Run X} (faulty at) (whole xs end) = sym (field_off at n h) ∙ e in let y : ◌≡◌ {A = ℕ} 0 1 = cc in absurd (omega arith)

  -- the first of right fields, and those after it
  pub record First (at n : ℕ) (xs : List X) (end : ℕ) : Type 0 where
    pub is_right : right at ≡ true
    pub tail : List X
    pub rest : from (next at) n ≡ whole tail end
    pub all : xs ≡ told at ∷ tail

  pub first : (at n : ℕ) {xs : List X} {end : ℕ} → from at (suc n) ≡ whole xs end → First at n xs end
  first at n e =
      let h = field_right at n e in
      let a = after_first (told at) (from (next at) n) (sym (field_on at n h) ∙ e) in
      record { is_right = h; tail = a.tail; rest = a.is; all = a.all }

  pub fields_count : (n at : ℕ) (xs : List X) (end : ℕ) → from at n ≡ whole xs end → length xs ≡ n
  fields_count zero at xs end e = ap length (sym (whole_one (sym (no_field at) ∙ e)).0)
  fields_count (suc n) at xs end e = let f = first at n e in ap length f.all ∙ ap suc (fields_count n (next at) f.tail end f.rest)

  -- the first of them alone are right too
  pub fields_fewer : (n m at : ℕ) → n ≤ m → Right (from at m) → Right (from at n)
  fields_fewer zero m at h r = record { items = []; end = at; are = no_field at }
  fields_fewer (suc n) zero at h r = absurd (omega arith)
  fields_fewer (suc n) (suc m) at h r =
      let f = first at m r.are in
      let s = fields_fewer n m (next at) (omega arith) (record { items = f.tail; end = r.end; are = f.rest }) in
      record { items = told at ∷ s.items; end = s.end; are = field_on at n f.is_right ∙ ap (before (told at)) s.are }

  -- ---- a loop over `count` fields that stands before field i, at `at`
  module _ (count i at : ℕ) where
    one_left : i < count → count - i ≡ suc (count - (i + 1))
    one_left h = omega arith

    pub turn_on : i < count → right at ≡ true → from at (count - i) ≡ before (told at) (from (next at) (count - (i + 1)))
    turn_on h r = rw (one_left h) (field_on at (count - (i + 1)) r)

    pub turn_off : i < count → right at ≡ false → from at (count - i) ≡ faulty at
    turn_off h r = rw (one_left h) (field_off at (count - (i + 1)) r)

    pub turn_none : count ≤ i → from at (count - i) ≡ whole [] at
    turn_none h = let z : count - i ≡ 0 = omega arith in rw z (no_field at)

    module _ {r : Run X} {passed : List X} (t : Telling r passed (from at (count - i))) where
      turn_first : i < count → First at (count - (i + 1)) t.left t.end
      turn_first h = first at (count - (i + 1)) (rw (one_left h) at t.to_come)

      pub telling_right : i < count → right at ≡ true
      telling_right h = (turn_first h).is_right

      pub telling_on : i < count → Telling r (passed ++ (told at ∷ [])) (from (next at) (count - (i + 1)))
      telling_on h =
          let f = turn_first h in
          record { left = f.tail; end = t.end; to_come = f.rest; all = t.all ∙ ap (λ l. whole l t.end) (ap (λ l. passed ++ l) f.all ∙ sym (append_assoc passed (told at ∷ []) f.tail)) }

      pub telling_ends : count ≤ i → r ≡ whole passed at
      telling_ends h =
          let b = whole_one (sym (turn_none h) ∙ t.to_come) in
          t.all ∙ rw (← b.0, ← b.1, append-nil passed)
