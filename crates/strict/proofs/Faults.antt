-- The first fault of the things that were met, when one more is met.
-- Assumes nothing.
use mathlib.Core.Path.{◌≡◌, refl}
use mathlib.Core.List.{List, [], ◌∷◌, ◌++◌}
use Prim.Native.Nat.{ℕ}
use Rattle.std.specs.Prelude.{Option, Some, None}
use Rattle.nodes.specs.declared.Visit.{Visit}
use Rattle.nodes.specs.declared.Met.{Met}
use Rattle.nodes.specs.declared.Met.TheVariants.{Node, End, Done, Ill}
use Rattle.strict.specs.declared.Fault.{Fault}
use Rattle.strict.specs.Rules.{fault}
use Rattle.strict.specs.Strict.{fault_at, or_else, found}

or_none : (a : Option Fault) → or_else a None ≡ a
or_none None = refl
or_none (Some f) = refl

or_assoc : (a b c : Option Fault) → or_else a (or_else b c) ≡ or_else (or_else a b) c
or_assoc None b c = refl
or_assoc (Some f) b c = refl

module _ (text numbers : List ℕ) where
  pub fault_on : (ms : List Met) (v : Visit) → found text numbers (ms ++ (Node v ∷ [])) ≡ or_else (found text numbers ms) (fault_at v (fault text numbers v))
  unfolding found
  fault_on [] v = or_none (fault_at v (fault text numbers v))
  fault_on (Node u ∷ ms) v = rw (fault_on ms v) (or_assoc (fault_at u (fault text numbers u)) (found text numbers ms) (fault_at v (fault text numbers v)))
  fault_on (End i n ∷ ms) v = fault_on ms v
  fault_on (Done ∷ ms) v = fault_on ms v
  fault_on (Ill ∷ ms) v = fault_on ms v

  pub fault_end : (ms : List Met) (i n : ℕ) → found text numbers (ms ++ (End i n ∷ [])) ≡ found text numbers ms
  unfolding found
  fault_end [] i n = refl
  fault_end (Node v ∷ ms) i n = rw (fault_end ms i n)
  fault_end (End a b ∷ ms) i n = fault_end ms i n
  fault_end (Done ∷ ms) i n = fault_end ms i n
  fault_end (Ill ∷ ms) i n = fault_end ms i n
