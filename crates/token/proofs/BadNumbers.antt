-- What a bad number is refused with: the code's two answers are the definition's; its number is one of two, and its place lies in the number or at its end.
-- Assumes nothing.
use mathlib.Core.Path.{◌≡◌, refl, sym, ap, ap₂, ◌∙◌}
use mathlib.Core.Bool.{Bool, true, false, cond}
use mathlib.Core.List.{List, [], ◌∷◌}
use Prim.Native.Nat.{ℕ, ◌+◌, ◌-◌, ◌≤◌, ◌<◌}
use native.Mathlib.Decide.{dec_lt}
use native.Mathlib.Omega.{arith}
use lib.ListN.{length, get_or, drop, length-drop}
use lib.Seq.{length-take-le}
use Rattle.lists.proofs.Cases.{either}
use borrow.Author.Tests.{eqb-true}
use Rattle.scan.specs.Bytes.{plus, is_inner, is_plus}
use Rattle.scan.specs.Front.{part, after_one, is_nil}
use Rattle.scan.specs.Runs.{after_one_at}
use Rattle.scan.proofs.Bytes.{plus_inner}
use Rattle.scan.proofs.Front.{part_first, part_none}
use Rattle.scan.proofs.Runs.{on, past, not_before, not_past, scan_one, part_one, one_off, one_end, one_not_before}
use Rattle.bad_numbers.specs.Openings.{goes_wrong}
use Rattle.bad_numbers.proofs.Openings.{wrong_within, goes_wrong_at}
use Rattle.token.specs.declared.Refusal.{Refusal}
use Rattle.token.specs.Tokens.{is_bad_number, end_of, text_start, nothing_left, gone_wrong, wrong_number_at, bad_at, number_text, WrongNumber, nothing_left_law, goes_wrong_law}

module _ (text : List ℕ) (p : ℕ) where
  same_end : end_of text (text_start text p) ≡ end_of text p
  same_end = scan_one is_plus is_inner plus_inner text p refl

  -- what is left of a number after its plus
  left_is : after_one is_plus (part text p (end_of text p)) ≡ part text (text_start text p) (end_of text (text_start text p))
  left_is = part_one is_plus is_inner plus_inner text p refl ∙ ap (part text (text_start text p)) (sym same_end)

  module _ (start end : ℕ) (s : start ≡ text_start text p) (e : end ≡ end_of text start) where
    left : after_one is_plus (part text p (end_of text p)) ≡ part text start end
    left = left_is ∙ ap₂ (part text) (sym s) (ap (end_of text) (sym s) ∙ sym e)

    pub nothing_is : end ≤ start → nothing_left p ≡ bad_at text p
    unfolding bad_at wrong_number_at is_nil
    nothing_is h = rw (left, part_none text start end h)

    module _ (h : start < end) where
      inside : p < length text
      inside = go (dec_lt p (length text))
        where
          go : Dec (p < length text) → p < length text
          go (yes l) = l
          go (no l) = absurd (omega (arith, one_end is_plus text p refl (omega arith), past is_inner text p (omega arith), same_end, ap (end_of text) s))

      begun : p < end_of text p
      begun = omega (arith, one_not_before is_plus text p refl, same_end, ap (end_of text) s)

      -- the plus is one byte, in the text as in the number's own bytes
      starts : after_one_at is_plus (part text p (end_of text p)) 0 + p ≡ start
      unfolding after_one_at
      starts = rw (part_first text p (end_of text p) inside begun, s) (go (is_plus (get_or text p 0)))
        where
          go : (b : Bool) → cond b (0 + 1) 0 + p ≡ cond b (p + 1) p
          go true = omega arith
          go false = omega arith

      some_left : is_nil (part text start end) ≡ false
      unfolding is_nil
      some_left = rw (part_first text start end (omega (arith, not_past is_inner text start)) h)

      pub gone_is : (wrong : ℕ) → wrong ≡ goes_wrong (part text start end) → gone_wrong (start + wrong) ≡ bad_at text p
      unfolding bad_at wrong_number_at
      gone_is wrong w = rw (left, some_left, starts, w)

      -- and it stands in the number, or at its end
      pub gone_within : (wrong : ℕ) → wrong ≡ goes_wrong (part text start end) → start + wrong ≤ length text
      gone_within wrong w =
          let l : length (part text start end) ≡ end - start = length-take-le (end - start) (drop start text) (omega (arith, length-drop start text, not_past is_inner text start)) in
          omega (arith, w, wrong_within (part text start end), e, not_past is_inner text start)

-- ---- what the crates above know of it
-- a bad number's refusal, by its own bytes
pub bad_is : (text : List ℕ) (p : ℕ) → bad_at text p ≡ wrong_number_at p (part text p (end_of text p))
unfolding bad_at
bad_is text p = refl

-- it is one of the two, at the number's first byte or a later one, or at its end
abbrev WrongIn : ℕ → List ℕ → Refusal → Type 0
WrongIn p run r = (is_bad_number r.number ≡ true) × (r.place ≤ p + length run)

pub wrong_in : (p : ℕ) (run : List ℕ) → WrongIn p run (wrong_number_at p run)
unfolding wrong_number_at after_one is_nil after_one_at
wrong_in p [] = (refl, omega arith)
wrong_in p (b ∷ l) = go (is_plus b)
  where
    go : (x : Bool) → WrongIn p (b ∷ l) (cond (is_nil (cond x l (b ∷ l))) (nothing_left p) (gone_wrong (cond x (0 + 1) 0 + p + goes_wrong (cond x l (b ∷ l)))))
    go true = either (is_nil l) (WrongIn p (b ∷ l)) _ _ (λ e. (refl, omega arith)) λ e. (refl, omega (arith, wrong_within l))
    go false = (refl, omega (arith, wrong_within (b ∷ l)))

-- ---- and over the grammar: what a number token that is no lexeme is refused with
module _ (text : List ℕ) (p : ℕ) (inner : is_inner (get_or text p 0) ≡ true) (inside : p < length text) where
  more_than_plus : is_plus (get_or text p 0) ≡ false → text_start text p < end_of text (text_start text p)
  more_than_plus n =
      let z : p ≡ text_start text p = one_off is_plus text p n in
      rw (← z) (omega (arith, on is_inner text p inside inner, not_before is_inner text (p + 1) (omega arith)))

  pub told : WrongNumber text p (bad_at text p)
  told = go (dec_lt (text_start text p) (end_of text (text_start text p)))
    where
      some : text_start text p < end_of text (text_start text p) → 0 < length (number_text text p)
      some l = rw (part_first text (text_start text p) (end_of text (text_start text p)) (omega (arith, not_past is_inner text (text_start text p))) l) (omega arith)

      is_plus_law : (b : Bool) → is_plus (get_or text p 0) ≡ b → (text_start text p < end_of text (text_start text p) → ⊥) → get_or text p 0 ≡ plus
      is_plus_law true e l = eqb-true (get_or text p 0) plus e
      is_plus_law false e l = absurd (l (more_than_plus e))

      go : Dec (text_start text p < end_of text (text_start text p)) → WrongNumber text p (bad_at text p)
      go (yes l) = rw (← gone_is text p _ _ refl refl l _ refl) (goes_wrong_law (some l) (goes_wrong_at (number_text text p)))
      go (no l) = rw (← nothing_is text p _ _ refl refl (omega arith)) (nothing_left_law (is_plus_law (is_plus (get_or text p 0)) refl l) (part_none text (text_start text p) (end_of text (text_start text p)) (omega arith)))
