-- `strict::fault_of` meets its contract: a rule at a time.
use mathlib.Core.Path.{sym, ◌∙◌}
use Rattle.strict.specs.Rules.{fault}
use Rattle.strict.proofs.fault_of.Goals as goal

pub returns-then-fails_a : goal.returns-then-fails_a
unfolding fault
returns-then-fails_a c = rw (sym c.fails_a.ensures ∙ c.if-fails_a.true)

pub returns-then-fails_b : goal.returns-then-fails_b
unfolding fault
returns-then-fails_b c = rw (sym c.fails_a.ensures ∙ c.if-fails_a.false, sym c.fails_b.ensures ∙ c.if-fails_b.true)

pub returns-then-fails_c : goal.returns-then-fails_c
unfolding fault
returns-then-fails_c c = rw (sym c.fails_a.ensures ∙ c.if-fails_a.false, sym c.fails_b.ensures ∙ c.if-fails_b.false, sym c.fails_c.ensures ∙ c.if-fails_c.true)

pub returns-then-fails_d : goal.returns-then-fails_d
unfolding fault
returns-then-fails_d c = rw (sym c.fails_a.ensures ∙ c.if-fails_a.false, sym c.fails_b.ensures ∙ c.if-fails_b.false, sym c.fails_c.ensures ∙ c.if-fails_c.false, sym c.fails_d.ensures ∙ c.if-fails_d.true)

pub returns : goal.returns
unfolding fault
returns c = rw (sym c.fails_a.ensures ∙ c.if-fails_a.false, sym c.fails_b.ensures ∙ c.if-fails_b.false, sym c.fails_c.ensures ∙ c.if-fails_c.false, sym c.fails_d.ensures ∙ c.if-fails_d.false)
