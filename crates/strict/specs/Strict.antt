-- What the strict check answers for any store (document 01, "Strict check" and "Refusal numbers").
use Rattle.std.specs.Prelude.{Option, Some, None, List, [], ◌∷◌, ℕ}
use Rattle.std.proofs.Math.Option as maybe
use Rattle.std.proofs.Math.Option.{none, some}
use Rattle.refusals.specs.Refusals.{ill_formed_store}
use Rattle.nodes.specs.declared.Visit.{Visit}
use Rattle.nodes.specs.declared.Met.{Met}
use Rattle.nodes.specs.declared.Met.TheVariants.{Node, End, Done, Ill}
use Rattle.shape.specs.Store.{walk_of}
use Rattle.strict.specs.declared.Fault.{Fault}
use Rattle.strict.specs.declared.StrictAnswer.{StrictAnswer}
use Rattle.strict.specs.Rules.{no_letter, fault}

-- "number, letter (its ASCII byte, 0 if none), node row (0 if none)"
abbrev pub answer : ℕ → ℕ → ℕ → StrictAnswer
answer number letter row = record { number = number; letter = letter; row = row }

-- a letter of a node's own row
abbrev pub fault_at : Visit → Option ℕ → Option Fault
fault_at v None = None
fault_at v (Some letter) = Some (record { letter = letter; row = v.row })

-- the first fault of some things, or else that of others
abbrev pub or_else : Option Fault → Option Fault → Option Fault
or_else None b = b
or_else (Some f) b = Some f

-- "First failing rule in node order"; "A, B and C belong to the line string's own row, D to the child's."
unfoldable pub found : List ℕ → List ℕ → List Met → Option Fault
found text numbers [] = None
found text numbers (Node v ∷ ms) = or_else (fault_at v (fault text numbers v)) (found text numbers ms)
found text numbers (End i n ∷ ms) = found text numbers ms
found text numbers (Done ∷ ms) = found text numbers ms
found text numbers (Ill ∷ ms) = found text numbers ms

-- "with number 0"
abbrev pub told : Option Fault → StrictAnswer
told None = answer 0 no_letter 0
told (Some f) = answer 0 f.letter f.row

abbrev pub first_fault : List ℕ → List ℕ → List Met → StrictAnswer
first_fault text numbers ms = told (found text numbers ms)

-- "22 [..] store ill formed [..] letter and row 0"
abbrev pub of_walk : List ℕ → List ℕ → maybe.Option (List Met) → StrictAnswer
of_walk text numbers none = answer ill_formed_store no_letter 0
of_walk text numbers (some ms) = first_fault text numbers ms

unfoldable pub strict_of : List ℕ → List ℕ → List ℕ → StrictAnswer
strict_of text nodes numbers = of_walk text numbers (walk_of text nodes numbers)
