-- `plain_numbers::plain_number` meets its contract.
use mathlib.Core.Path.{ap, sym, ◌∙◌}
use Rattle.scan.specs.Bytes.{is_blank, is_stop}
use Rattle.scan.proofs.Runs.{one_on, one_off}
use Rattle.plain_numbers.proofs.Reading.{none_there, none_behind, none_stops, one_stops}
use Rattle.plain_numbers.proofs.plain_number.Goals as goal

pub returns-in_err-end : goal.returns-in_err-end
returns-in_err-end c = c.from_residual.ensures ∙ none_there _ _ c.in_err-end.ensures

pub returns-then-text-end : goal.returns-then-text-end
returns-then-text-end c = none_behind _ _ _ c.in_ok-end.ensures c.if-text-end.true

pub returns-then-b-eq32 : goal.returns-then-b-eq32
returns-then-b-eq32 c = one_stops _ _ _ c.in_ok-end.ensures c.if-text-end.false (ap is_stop c.if-b-eq32.true) (one_on is_blank _ _ (ap is_blank c.if-b-eq32.true))

pub returns-then-b-eq44 : goal.returns-then-b-eq44
returns-then-b-eq44 c = one_stops _ _ _ c.in_ok-end.ensures c.if-text-end.false (ap is_stop c.if-b-eq44.true) (one_off is_blank _ _ (ap is_blank c.if-b-eq44.true))

pub returns-then-is_stop : goal.returns-then-is_stop
returns-then-is_stop c = one_stops _ _ _ c.in_ok-end.ensures c.if-text-end.false (sym c.is_stop.ensures ∙ c.if-is_stop.true) c.after_blank.ensures

pub returns : goal.returns
returns c = none_stops _ _ _ c.in_ok-end.ensures c.if-text-end.false (sym c.is_stop.ensures ∙ c.if-is_stop.false)
