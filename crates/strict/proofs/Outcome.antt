-- The first fault is what the rules say, node by node.
-- Assumes nothing.
use mathlib.Core.Path.{◌≡◌, refl, ap}
use mathlib.Core.Bool.{Bool, true, false, cond}
use mathlib.Core.List.{List, [], ◌∷◌}
use Prim.Native.Nat.{ℕ}
use Rattle.std.specs.Prelude.{Option, Some, None}
use Rattle.lists.specs.Lists.{All}
use Rattle.nodes.specs.declared.Visit.{Visit}
use Rattle.nodes.specs.declared.Met.{Met}
use Rattle.nodes.specs.declared.Met.TheVariants.{Node, End, Done, Ill}
use Rattle.strict.specs.declared.StrictAnswer.{StrictAnswer}
use Rattle.strict.specs.Rules.{letter_a, letter_b, letter_c, letter_d, fails_a, fails_b, fails_c, fails_d, fault}
use Rattle.strict.specs.Strict.{fault_at, or_else, found, told, first_fault}
use Rattle.strict.specs.Outcome.{RulesHoldAt, a_fails, b_fails, c_fails, d_fails, Outcome, passes, fails}

module _ (text numbers : List ℕ) where
  -- what is met before the nodes: an outcome of the others is one of all
  later : (m : Met) (ms : List Met) (r : StrictAnswer) → RulesHoldAt text numbers m → Outcome text numbers ms r → Outcome text numbers (m ∷ ms) r
  unfolding All
  later m ms r h (passes all) = passes (h, all)
  later m ms r h (fails before v after is all low) = fails (m ∷ before) v after (ap (λ (l : List Met). m ∷ l) is) (h, all) low

  -- a node, by what each rule says of it
  at_node : (v : Visit) (ms : List Met) (a b c d : Bool) → fails_a v ≡ a → fails_b v ≡ b → fails_c text numbers v ≡ c → fails_d v ≡ d → Outcome text numbers ms (first_fault text numbers ms) →
      (letter : Option ℕ) → letter ≡ cond a (Some letter_a) (cond b (Some letter_b) (cond c (Some letter_c) (cond d (Some letter_d) None))) →
      Outcome text numbers (Node v ∷ ms) (told (or_else (fault_at v letter) (found text numbers ms)))
  unfolding All
  at_node v ms true b c d ea eb ec ed rest letter is = rw is (fails [] v ms refl tt (a_fails ea))
  at_node v ms false true c d ea eb ec ed rest letter is = rw is (fails [] v ms refl tt (b_fails ea eb))
  at_node v ms false false true d ea eb ec ed rest letter is = rw is (fails [] v ms refl tt (c_fails ea eb ec))
  at_node v ms false false false true ea eb ec ed rest letter is = rw is (fails [] v ms refl tt (d_fails ea eb ec ed))
  at_node v ms false false false false ea eb ec ed rest letter is = rw is (later (Node v) ms (first_fault text numbers ms) (record { a = ea; b = eb; c = ec; d = ed }) rest)

  -- "First failing rule in node order": the answer names it, and none fails before it or with a lower letter; or all hold
  pub first_fault_law : (ms : List Met) → Outcome text numbers ms (first_fault text numbers ms)
  unfolding found All fault
  first_fault_law [] = passes tt
  first_fault_law (Node v ∷ ms) = at_node v ms (fails_a v) (fails_b v) (fails_c text numbers v) (fails_d v) refl refl refl refl (first_fault_law ms) (fault text numbers v) refl
  first_fault_law (End i n ∷ ms) = later (End i n) ms (first_fault text numbers ms) tt (first_fault_law ms)
  first_fault_law (Done ∷ ms) = later Done ms (first_fault text numbers ms) tt (first_fault_law ms)
  first_fault_law (Ill ∷ ms) = later Ill ms (first_fault text numbers ms) tt (first_fault_law ms)
