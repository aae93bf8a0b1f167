-- `scan::skip_blanks` meets its contract.
use mathlib.Core.Path.{refl, sym, ◌∙◌}
use borrow.Author.Rules.{rules}
use Rattle.scan.specs.Bytes.{is_blank}
use Rattle.scan.proofs.Runs.{on, stop, past}
use Rattle.scan.proofs.skip_blanks.Goals as goal

pub loop-i-init : goal.loop-i-init
loop-i-init c = refl

pub loop-i-preserved : goal.loop-i-preserved
loop-i-preserved c =
    on is_blank _ _ (search rules) (sym c.is_blank.ensures ∙ c.if-is_blank.true) ∙ c.loop-i.invariant

pub returns-then-text-i : goal.returns-then-text-i
returns-then-text-i c = sym (past is_blank _ _ c.if-text-i.true) ∙ c.loop-i.invariant

pub returns-else-is_blank : goal.returns-else-is_blank
returns-else-is_blank c =
    sym (stop is_blank _ _ (search rules) (sym c.is_blank.ensures ∙ c.if-is_blank.false)) ∙ c.loop-i.invariant
