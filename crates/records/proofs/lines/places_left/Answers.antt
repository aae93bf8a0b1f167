-- `places_left` meets its contract: what the test finds behind the used part is what is left over.
use Rattle.std.proofs.Common.{rules, ◌≡◌, ◌∙◌, sym, ◌-◌, length, take, drop, not, eqb}
use Rattle.std.specs.List.{count_by}
use Rattle.records.proofs.Places.{count_is, left_from}
use Rattle.records.proofs.lines.places_left.Goals as goal

pub returns-clause-value : goal.returns-clause-value
returns-clause-value c =
    let all = c.args.slice.now in
    let e : c.count.result ≡ count_by (λ n. not (eqb n 0)) (take (length all - c.min.result) (drop c.min.result all)) = search rules in
    e ∙ sym (count_is _) ∙ left_from _ _ _ c.min.ensures
