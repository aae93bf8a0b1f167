-- `line_end` meets its contract: no place is past the end.
use Rattle.std.proofs.Common.{rules, ◌≡◌, arith}
use Rattle.scan.specs.Runs.{first_not}
use Rattle.scan.proofs.Runs.{not_past}
use Rattle.line_places.specs.Lines.{is_in_line}
use Rattle.line_places.proofs.line_end.Goals as goal

pub returns-clause-upper_bound : goal.returns-clause-upper_bound
returns-clause-upper_bound c =
    let e : c.first_not.result ≡ first_not is_in_line c.args.text.now c.args.place = search rules in
    omega (arith, e, not_past is_in_line c.args.text.now c.args.place)
