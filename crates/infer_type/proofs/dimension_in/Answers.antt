-- `infer_type::dimension_in` meets its contract. The loop's invariant: what was seen and what is left decide.
use mathlib.Core.Path.{sym, ◌∙◌}
use borrow.Author.Rules.{rules}
use Rattle.infer_type.proofs.Dimension.{dim_start, dim_on, dim_zm, dim_z, dim_m, dim_none}
use Rattle.infer_type.proofs.Search.{starts_tail}
use Rattle.infer_type.proofs.dimension_in.Goals as goal

pub loop-i-init : goal.loop-i-init
loop-i-init c = dim_start _

pub returns-then-starts_with_ending : goal.returns-then-starts_with_ending
returns-then-starts_with_ending c =
    let at = c.loop-i in
    dim_zm _ _ _ at.i (search rules) (starts_tail _ _ at.i (sym c.if-starts_with_ending.true ∙ c.starts_with_ending.ensures)) ∙ at.invariant

pub loop-i-preserved : goal.loop-i-preserved
loop-i-preserved c =
    let at = c.loop-i in
    dim_on _ _ _ at.i (search rules)
    (starts_tail _ _ at.i (sym c.if-starts_with_ending.false ∙ c.starts_with_ending.ensures))
    (starts_tail _ _ at.i c.starts_with_ending-has_z.ensures)
    (starts_tail _ _ at.i c.starts_with_ending-has_m.ensures)
    ∙ at.invariant

pub returns-then-has_z : goal.returns-then-has_z
returns-then-has_z c = dim_z _ _ _ _ c.loop-i-test.false c.if-has_z.true ∙ c.loop-i.invariant

pub returns-then-has_m : goal.returns-then-has_m
returns-then-has_m c = dim_m _ _ _ _ c.loop-i-test.false c.if-has_z.false c.if-has_m.true ∙ c.loop-i.invariant

pub returns-else-has_m : goal.returns-else-has_m
returns-else-has_m c = dim_none _ _ _ _ c.loop-i-test.false c.if-has_z.false c.if-has_m.false ∙ c.loop-i.invariant
