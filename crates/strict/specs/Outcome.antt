-- What an answer of the strict check says of the nodes (document 01, "Strict check"), rule by rule.
use Rattle.std.specs.Prelude.{◌≡◌, true, false, List, ◌∷◌, ◌++◌, ℕ}
use Rattle.lists.specs.Lists.{All}
use Rattle.nodes.specs.declared.Visit.{Visit}
use Rattle.nodes.specs.declared.Met.{Met}
use Rattle.nodes.specs.declared.Met.TheVariants.{Node, End, Done, Ill}
use Rattle.strict.specs.declared.StrictAnswer.{StrictAnswer}
use Rattle.strict.specs.Rules.{letter_a, letter_b, letter_c, letter_d, no_letter, fails_a, fails_b, fails_c, fails_d}
use Rattle.strict.specs.Strict.{answer}

-- all four rules hold at a node
pub record RulesHold (text numbers : List ℕ) (v : Visit) : Type 0 where
  pub a : fails_a v ≡ false
  pub b : fails_b v ≡ false
  pub c : fails_c text numbers v ≡ false
  pub d : fails_d v ≡ false

-- the rules are asked of nodes only
abbrev pub RulesHoldAt : List ℕ → List ℕ → Met → Type 0
RulesHoldAt text numbers (Node v) = RulesHold text numbers v
RulesHoldAt text numbers (End i n) = Unit {0}
RulesHoldAt text numbers Done = Unit {0}
RulesHoldAt text numbers Ill = Unit {0}

-- "Several at one node: lowest letter.": the rule fails at the node, and none with a lower letter does
pub data Lowest (text numbers : List ℕ) (v : Visit) : ℕ → Type 0 where
  a_fails : fails_a v ≡ true → Lowest text numbers v letter_a
  b_fails : fails_a v ≡ false → fails_b v ≡ true → Lowest text numbers v letter_b
  c_fails : fails_a v ≡ false → fails_b v ≡ false → fails_c text numbers v ≡ true → Lowest text numbers v letter_c
  d_fails : fails_a v ≡ false → fails_b v ≡ false → fails_c text numbers v ≡ false → fails_d v ≡ true → Lowest text numbers v letter_d

-- "First failing rule in node order, with number 0": it fails at its row, and at no node before it does one fail; or all hold at every node
pub data Outcome (text numbers : List ℕ) (ms : List Met) : StrictAnswer → Type 0 where
  passes : All (RulesHoldAt text numbers) ms → Outcome text numbers ms (answer 0 no_letter 0)
  fails : {letter : ℕ} (before : List Met) (v : Visit) (after : List Met) → ms ≡ before ++ Node v ∷ after → All (RulesHoldAt text numbers) before → Lowest text numbers v letter → Outcome text numbers ms (answer 0 letter v.row)
