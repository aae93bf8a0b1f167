-- What is made of the things that were met, when one more is met.
-- Assumes nothing.
use mathlib.Core.Path.{◌≡◌, refl}
use mathlib.Core.Bool.{Bool, ◌&&◌}
use mathlib.Core.List.{List, [], ◌∷◌, ◌++◌}
use Prim.Native.Nat.{ℕ}
use lib.IntN.{ℤ}
use Rattle.nodes.specs.declared.Visit.{Visit}
use Rattle.nodes.specs.declared.Met.{Met}
use Rattle.nodes.specs.declared.Met.TheVariants.{Node, End, Done, Ill}
use Rattle.bounds.specs.declared.BoxAnswer.{BoxAnswer}
use Rattle.bounds.specs.Bounds.{closed}
use Rattle.node_boxes.specs.Boxes.{or_first}
use Rattle.node_boxes.specs.Turns.{offence_in, own, entered, good_by, offence_by, table_by}

module _ (text numbers : List ℕ) where
  pub good_both : (g : Bool) (ms ns : List Met) → good_by text numbers g (ms ++ ns) ≡ good_by text numbers (good_by text numbers g ms) ns
  unfolding good_by
  good_both g [] ns = refl
  good_both g (Node v ∷ ms) ns = good_both (g && (own text numbers v).good) ms ns
  good_both g (End i n ∷ ms) ns = good_both g ms ns
  good_both g (Done ∷ ms) ns = good_both g ms ns
  good_both g (Ill ∷ ms) ns = good_both g ms ns

  pub offence_both : (a : BoxAnswer) (ms ns : List Met) → offence_by text numbers a (ms ++ ns) ≡ offence_by text numbers (offence_by text numbers a ms) ns
  unfolding offence_by
  offence_both a [] ns = refl
  offence_both a (Node v ∷ ms) ns = offence_both (or_first a (offence_in (own text numbers v))) ms ns
  offence_both a (End i n ∷ ms) ns = offence_both a ms ns
  offence_both a (Done ∷ ms) ns = offence_both a ms ns
  offence_both a (Ill ∷ ms) ns = offence_both a ms ns

  pub table_both : (t : List ℤ) (ms ns : List Met) → table_by text numbers t (ms ++ ns) ≡ table_by text numbers (table_by text numbers t ms) ns
  unfolding table_by
  table_both t [] ns = refl
  table_both t (Node v ∷ ms) ns = table_both (entered text numbers v t) ms ns
  table_both t (End i n ∷ ms) ns = table_both (closed t i) ms ns
  table_both t (Done ∷ ms) ns = table_both t ms ns
  table_both t (Ill ∷ ms) ns = table_both t ms ns

  -- one more
  pub good_node : (g : Bool) (ms : List Met) (v : Visit) → good_by text numbers g (ms ++ (Node v ∷ [])) ≡ (good_by text numbers g ms && (own text numbers v).good)
  unfolding good_by
  good_node g ms v = good_both g ms (Node v ∷ [])

  pub good_end : (g : Bool) (ms : List Met) (i n : ℕ) → good_by text numbers g (ms ++ (End i n ∷ [])) ≡ good_by text numbers g ms
  unfolding good_by
  good_end g ms i n = good_both g ms (End i n ∷ [])

  pub offence_node : (a : BoxAnswer) (ms : List Met) (v : Visit) → offence_by text numbers a (ms ++ (Node v ∷ [])) ≡ or_first (offence_by text numbers a ms) (offence_in (own text numbers v))
  unfolding offence_by
  offence_node a ms v = offence_both a ms (Node v ∷ [])

  pub offence_end : (a : BoxAnswer) (ms : List Met) (i n : ℕ) → offence_by text numbers a (ms ++ (End i n ∷ [])) ≡ offence_by text numbers a ms
  unfolding offence_by
  offence_end a ms i n = offence_both a ms (End i n ∷ [])

  pub table_node : (t : List ℤ) (ms : List Met) (v : Visit) → table_by text numbers t (ms ++ (Node v ∷ [])) ≡ entered text numbers v (table_by text numbers t ms)
  unfolding table_by
  table_node t ms v = table_both t ms (Node v ∷ [])

  pub table_end : (t : List ℤ) (ms : List Met) (i n : ℕ) → table_by text numbers t (ms ++ (End i n ∷ [])) ≡ closed (table_by text numbers t ms) i
  unfolding table_by
  table_end t ms i n = table_both t ms (End i n ∷ [])
