-- Well-formed stores, a test of the code at a time, and the walk over them.
-- Assumes nothing.
use mathlib.Core.Path.{◌≡◌, refl, ap, sym, ◌∙◌}
use mathlib.Core.Bool.{Bool, true, false, false≢true, not, ◌&&◌, ◌||◌}
use mathlib.Core.Option.{none}
use mathlib.Core.List.{List}
use Prim.Native.Nat.{ℕ, ◌%◌}
use lib.Dec.{eqb}
use lib.ListN.{length}
use Rattle.store.specs.Rows.{node_width, number_width, number_room}
use Rattle.lists.specs.Options.{is_some}
use Rattle.shape.specs.Numbers.{are_numbers}
use Rattle.shape.specs.Store.{are_whole, well_formed, walk_of}
use Rattle.shape.specs.Walk.{are_rows, whole_walk}
use Rattle.shape.proofs.Stores.{walk_of_law, well_by_walk}

module _ (text nodes numbers : List ℕ) where
  -- a slice whose length is not that of whole rows
  pub ragged : (not (eqb (length nodes % node_width) 0) || not (eqb (length numbers % number_width) 0)) ≡ true → false ≡ are_rows text nodes numbers
  unfolding are_rows are_whole
  ragged t = go (eqb (length nodes % node_width) 0) (eqb (length numbers % number_width) 0) t
    where
      go : (a b : Bool) → (not a || not b) ≡ true → false ≡ ((a && b) && are_numbers text numbers)
      go true true t = absurd (false≢true t)
      go true false t = refl
      go false b t = refl

  pub whole : (not (eqb (length nodes % node_width) 0) || not (eqb (length numbers % number_width) 0)) ≡ false → are_numbers text numbers ≡ are_rows text nodes numbers
  unfolding are_rows are_whole
  whole t = go (eqb (length nodes % node_width) 0) (eqb (length numbers % number_width) 0) t
    where
      go : (a b : Bool) → (not a || not b) ≡ false → are_numbers text numbers ≡ ((a && b) && are_numbers text numbers)
      go true true t = refl
      go true false t = absurd (false≢true (sym t))
      go false b t = absurd (false≢true (sym t))

  -- the walk over a store whose rows are none, and over one whose rows are
  pub no_walk : are_rows text nodes numbers ≡ false → walk_of text nodes numbers ≡ none
  unfolding are_rows
  no_walk e = walk_of_law text nodes numbers ∙ rw e

  pub the_walk : {n : ℕ} → n ≡ number_room numbers → are_rows text nodes numbers ≡ true → walk_of text nodes numbers ≡ whole_walk nodes n
  unfolding are_rows
  the_walk room e = walk_of_law text nodes numbers ∙ rw (e, room)

  -- the check
  pub check_none : are_rows text nodes numbers ≡ false → false ≡ well_formed text nodes numbers
  check_none e = ap is_some (sym (no_walk e)) ∙ sym (well_by_walk text nodes numbers)

  pub check_walk : {n : ℕ} → n ≡ number_room numbers → are_rows text nodes numbers ≡ true → is_some (whole_walk nodes n) ≡ well_formed text nodes numbers
  check_walk room e = ap is_some (sym (the_walk room e)) ∙ sym (well_by_walk text nodes numbers)
