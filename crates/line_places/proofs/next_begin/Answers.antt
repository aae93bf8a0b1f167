-- `next_begin` meets its contract: no place is past the end.
use Rattle.std.proofs.Common.{rules, ◌≡◌, arith}
use Rattle.scan.specs.Runs.{first_not}
use Rattle.scan.proofs.Runs.{not_past}
use Rattle.line_places.specs.Lines.{goes_on}
use Rattle.line_places.proofs.next_begin.Goals as goal

pub returns-clause-upper_bound : goal.returns-clause-upper_bound
returns-clause-upper_bound c =
    let e : c.first_not.result ≡ first_not goes_on c.args.text.now c.args.place = search rules in
    omega (arith, e, not_past goes_on c.args.text.now c.args.place)
