-- `line_at` meets its contract.
use Rattle.std.proofs.Common.{◌≡◌, ◌∙◌, length, arith}
use Rattle.line_places.proofs.Turns.{line_here, line_past, line_on}
use Rattle.line_places.proofs.line_at.Goals as goal

pub returns-then-left-eq0-clause-value : goal.returns-then-left-eq0-clause-value
returns-then-left-eq0-clause-value c = line_here _ _ _ _ c.loop-i.invariant c.loop-i-test.true c.if-left-eq0.true

pub loop-i-preserved : goal.loop-i-preserved
loop-i-preserved c = line_on _ _ _ _ _ c.loop-i-test.true c.if-left-eq0.false c.breaks-left.ensures.value c.loop-i.invariant

pub returns-clause-value : goal.returns-clause-value
returns-clause-value c =
    let e : length c.args.text.now ≡ c.loop-i.i = omega arith in
    e ∙ line_past _ _ _ _ c.loop-i.invariant c.loop-i-test.false
