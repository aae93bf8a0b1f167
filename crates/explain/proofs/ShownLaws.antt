-- Laws of what is shown: of one character, and of the characters of a part one after the other.
-- Assumes nothing.
use mathlib.Core.Path.{◌≡◌, refl, sym, ap, ◌∙◌}
use mathlib.Core.Bool.{Bool, true, false, cond}
use mathlib.Core.List.{List, [], ◌∷◌}
use Prim.Native.Nat.{ℕ, zero, suc, ◌+◌, ◌-◌, ◌≤◌, ◌<◌}
use native.Mathlib.Omega.{arith}
use lib.Dec.{ltb}
use lib.ListN.{length, get_or}
use borrow.Author.Tests.{ltb-true, lt-ltb, le-ltb, ne_eqb}
use Rattle.scan.specs.Front.{part}
use Rattle.scan.proofs.Runs.{not_before}
use Rattle.utf8.specs.Utf8.{first_ill}
use Rattle.printing.specs.declared.Out.{Out}
use Rattle.printing.specs.Printing.{Prints}
use Rattle.printing.proofs.Buffers.{prints_none, prints_then}
use Rattle.line_places.specs.Lines.{goes_on}
use Rattle.explain.specs.declared.characters.Shown.{Shown}
use Rattle.explain.specs.declared.characters.Shown.TheVariants.{Mark, Blank, Tab, WideBlank, Itself}
use Rattle.explain.specs.Shown.{byte_at, is_wide, is_control, wide, control, blank_under, shown_for, piece_of, end_from, piece_at, pieces_from}

module _ (l : List ℕ) (i : ℕ) where
  pub byte_in : i < length l → get_or l i 0 ≡ byte_at l i
  unfolding byte_at
  byte_in h = rw (lt-ltb i (length l) h)

  pub byte_out : length l ≤ i → 0 ≡ byte_at l i
  unfolding byte_at
  byte_out h = rw (le-ltb i (length l) h)

module _ (l : List ℕ) where
  pub wide_is : {a b c : ℕ} → a ≡ byte_at l 0 → b ≡ byte_at l 1 → c ≡ byte_at l 2 → is_wide a b c ≡ wide l
  unfolding wide
  wide_is e f g = rw (e, f, g)

  pub control_is : {a b : ℕ} → a ≡ byte_at l 0 → b ≡ byte_at l 1 → is_control a b ≡ control l
  unfolding control
  control_is e f = rw (e, f)

  module _ {a : ℕ} (e : a ≡ byte_at l 0) where
    pub under_tab : a ≡ 9 → Tab ≡ blank_under l
    unfolding blank_under
    under_tab h = rw (sym e ∙ h)

    pub under_wide : (a ≡ 9 → ⊥) → wide l ≡ true → WideBlank ≡ blank_under l
    unfolding blank_under
    under_wide n w = rw (← e, ne_eqb a 9 n, w)

    pub under_other : (a ≡ 9 → ⊥) → wide l ≡ false → Blank ≡ blank_under l
    unfolding blank_under
    under_other n w = rw (← e, ne_eqb a 9 n, w)

  module _ {i : ℕ} {u : Bool} (e : i ≡ first_ill l) where
    pub ill_under : i < length l → u ≡ true → Blank ≡ shown_for u l
    unfolding shown_for
    ill_under h t = rw (← e, lt-ltb i (length l) h, t)

    pub ill_shown : i < length l → u ≡ false → Mark ≡ shown_for u l
    unfolding shown_for
    ill_shown h t = rw (← e, lt-ltb i (length l) h, t)

    pub whole_under : {r : Shown} → length l ≤ i → u ≡ true → r ≡ blank_under l → r ≡ shown_for u l
    unfolding shown_for
    whole_under h t x = rw (← e, le-ltb i (length l) h, t) x

    pub whole_control : length l ≤ i → u ≡ false → control l ≡ true → Mark ≡ shown_for u l
    unfolding shown_for
    whole_control h t x = rw (← e, le-ltb i (length l) h, t, x)

    pub whole_itself : length l ≤ i → u ≡ false → control l ≡ false → Itself ≡ shown_for u l
    unfolding shown_for
    whole_itself h t x = rw (← e, le-ltb i (length l) h, t, x)

-- a bound that is large enough isn't seen in the pieces
bounds : (m n : ℕ) (u : Bool) (l : List ℕ) (i : ℕ) → length l ≤ m + i → length l ≤ n + i → pieces_from m u l i ≡ pieces_from n u l i
unfolding pieces_from
bounds zero zero u l i a b = refl
bounds zero (suc n) u l i a b = rw (le-ltb i (length l) (omega arith))
bounds (suc m) zero u l i a b = rw (le-ltb i (length l) (omega arith))
bounds (suc m) (suc n) u l i a b =
    go (ltb i (length l)) refl (λ h. let k = not_before goes_on l (i + 1) (omega arith) in bounds m n u l (end_from l i) (omega arith) (omega arith))
  where
    go : (t : Bool) → ltb i (length l) ≡ t → (i < length l → pieces_from m u l (end_from l i) ≡ pieces_from n u l (end_from l i)) →
        cond t (piece_at u l i ∷ pieces_from m u l (end_from l i)) [] ≡ cond t (piece_at u l i ∷ pieces_from n u l (end_from l i)) []
    go true t next = ap (λ (ps : List (List ℕ)). piece_at u l i ∷ ps) (next (ltb-true i (length l) t))
    go false t next = refl

module _ (u : Bool) (l : List ℕ) (i : ℕ) where
  first_piece : i < length l → pieces_from (length l - i) u l i ≡ piece_at u l i ∷ pieces_from (length l - end_from l i) u l (end_from l i)
  unfolding pieces_from
  first_piece h =
      let k = not_before goes_on l (i + 1) (omega arith) in
      let e : length l - i ≡ suc (length l - (i + 1)) = omega arith in
      rw (e, lt-ltb i (length l) h) (ap (λ (ps : List (List ℕ)). piece_at u l i ∷ ps) (bounds (length l - (i + 1)) (length l - end_from l i) u l (end_from l i) (omega arith) (omega arith)))

  -- what a loop still has to put from a place on: with that, all is put
  pub part_start : {a b : Out} → Prints (pieces_from (length l - 0) u l i) a b → Prints (pieces_from (length l) u l i) a b
  part_start p =
      let e : length l - 0 ≡ length l = omega arith in
      rw e at p

  -- a character is put
  pub part_on : {a b c : Out} {next : ℕ} {s : Shown} → i < length l → next ≡ end_from l i → s ≡ shown_for u (part l i next) → Prints (piece_of s (part l i next) ∷ []) a b → Prints (pieces_from (length l - next) u l next) b c → Prints (pieces_from (length l - i) u l i) a c
  part_on h e f x p = rw (first_piece h) (prints_then (rw (f, e) at x) (rw e at p))

  -- none is left
  pub part_end : (a : Out) → length l ≤ i → Prints (pieces_from (length l - i) u l i) a a
  unfolding pieces_from
  part_end a h =
      let e : length l - i ≡ 0 = omega arith in
      rw e (prints_none a)
