-- `scan::token_end` meets its contract.
use mathlib.Core.Path.{refl, sym, ap, ◌∙◌}
use mathlib.Core.Bool.{not}
use borrow.Author.Rules.{rules}
use Rattle.scan.specs.Bytes.{is_inner}
use Rattle.scan.proofs.Runs.{on, stop, past}
use Rattle.scan.proofs.token_end.Goals as goal

pub scan-init : goal.scan-init
scan-init c = refl

pub scan-preserved : goal.scan-preserved
scan-preserved c =
    on is_inner _ _ (search rules) (ap not (sym c.is_stop.ensures ∙ c.if-is_stop.false)) ∙ c.scan.invariant

pub returns-then-text-i : goal.returns-then-text-i
returns-then-text-i c = sym (past is_inner _ _ c.if-text-i.true) ∙ c.scan.invariant

pub returns-then-is_stop : goal.returns-then-is_stop
returns-then-is_stop c =
    sym (stop is_inner _ _ (search rules) (ap not (sym c.is_stop.ensures ∙ c.if-is_stop.true))) ∙ c.scan.invariant
