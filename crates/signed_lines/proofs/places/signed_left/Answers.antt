-- `signed_left` meets its contract: what the test finds behind the used part is what is left over.
use Rattle.std.proofs.Common.{rules, ◌≡◌, ◌∙◌, sym, refl, ℤ, pos, ◌-◌, length, take, drop, not, eqb, zero, suc, arith, tests}
use borrow.Author.Tests.{ne_eqb}
use Rattle.std.specs.List.{count_by}
use Rattle.std.specs.Ordering.{int_eq}
use Rattle.std.proofs.Math.IntN.{nat_abs, negsuc}
use Rattle.signed_lines.proofs.Counts.{count_is, left_from}
use Rattle.signed_lines.proofs.places.signed_left.Goals as goal

same : (z : ℤ) → not (int_eq z (pos 0)) ≡ not (eqb (nat_abs z) 0)
same (pos zero) = refl
same (pos (suc n)) = rw (ne_eqb (suc n) 0 (λ e. omega arith)) (search (rules, tests))
same (negsuc n) = rw (ne_eqb (suc n) 0 (λ e. omega arith))

pub returns : goal.returns
returns c =
    let all = c.args.table.now in
    let e : c.count.result ≡ count_by (λ z. not (int_eq z (pos 0))) (take (length all - c.min.result) (drop c.min.result all)) = search rules in
    e ∙ sym (count_is _ same _) ∙ left_from _ _ _ c.min.ensures
