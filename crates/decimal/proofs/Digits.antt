-- The bytes at the front of a list that pass a test, and what is left behind them; in a text, by the byte that stands there.
-- Assumes nothing.
use mathlib.Core.Path.{◌≡◌, refl, ap, ◌∙◌}
use mathlib.Core.Bool.{Bool, true, false, cond}
use mathlib.Core.List.{List, [], ◌∷◌}
use Prim.Native.Nat.{ℕ, ◌+◌, ◌-◌, ◌≤◌, ◌<◌}
use lib.ListN.{length, get_or, length-drop}
use Rattle.lists.specs.Lists.{every}
use Rattle.lists.proofs.Lists.{every_head, every_tail}
use Rattle.scan.specs.Front.{rest, part, after_all}
use Rattle.scan.proofs.Front.{rest_in, rest_past, part_first, part_none}
use Rattle.decimal.specs.Decimal.{leading}

module _ (p : ℕ → Bool) where
  pub leading_nil : leading p [] ≡ []
  unfolding leading
  leading_nil = refl

  pub leading_first : (b : ℕ) (l : List ℕ) → p b ≡ true → leading p (b ∷ l) ≡ b ∷ leading p l
  unfolding leading
  leading_first b l t = rw t

  pub leading_other : (b : ℕ) (l : List ℕ) → p b ≡ false → leading p (b ∷ l) ≡ []
  unfolding leading
  leading_other b l t = rw t

  pub leading_every : (l : List ℕ) → every p (leading p l) ≡ true
  unfolding leading every
  leading_every [] = refl
  leading_every (b ∷ l) = go (p b) refl (leading_every l)
    where
      go : (t : Bool) → p b ≡ t → every p (leading p l) ≡ true → every p (cond t (b ∷ leading p l) []) ≡ true
      go true e h = rw e h
      go false e h = refl

  -- where all pass
  pub leading_all : (l : List ℕ) → every p l ≡ true → leading p l ≡ l
  leading_all [] e = leading_nil
  leading_all (b ∷ l) e = leading_first b l (every_head p b l e) ∙ ap (λ (m : List ℕ). b ∷ m) (leading_all l (every_tail p b l e))

  pub after_all_every : (l : List ℕ) → every p l ≡ true → after_all p l ≡ []
  unfolding after_all
  after_all_every [] e = refl
  after_all_every (b ∷ l) e = rw (every_head p b l e) (after_all_every l (every_tail p b l e))

  -- at a place of a text
  module _ (w : List ℕ) (i : ℕ) where
    pub leading_on : i < length w → p (get_or w i 0) ≡ true → leading p (rest w i) ≡ get_or w i 0 ∷ leading p (rest w (i + 1))
    leading_on h t = ap (leading p) (rest_in w i h) ∙ leading_first (get_or w i 0) (rest w (i + 1)) t

    pub leading_stop : i < length w → p (get_or w i 0) ≡ false → leading p (rest w i) ≡ []
    leading_stop h t = ap (leading p) (rest_in w i h) ∙ leading_other (get_or w i 0) (rest w (i + 1)) t

    pub leading_past : length w ≤ i → leading p (rest w i) ≡ []
    leading_past h = ap (leading p) (rest_past w i h) ∙ leading_nil

    -- in the part up to `end`
    module _ (end : ℕ) where
      pub part_on : i < length w → i < end → p (get_or w i 0) ≡ true → leading p (part w i end) ≡ get_or w i 0 ∷ leading p (part w (i + 1) end)
      part_on h l t = ap (leading p) (part_first w i end h l) ∙ leading_first (get_or w i 0) (part w (i + 1) end) t

      pub part_stop : i < length w → i < end → p (get_or w i 0) ≡ false → leading p (part w i end) ≡ []
      part_stop h l t = ap (leading p) (part_first w i end h l) ∙ leading_other (get_or w i 0) (part w (i + 1) end) t

      pub part_past : end ≤ i → leading p (part w i end) ≡ []
      part_past l = ap (leading p) (part_none w i end l) ∙ leading_nil

pub rest_length : (w : List ℕ) (i : ℕ) → length (rest w i) ≡ length w - i
unfolding rest
rest_length w i = length-drop i w
