-- What `infer_type::dimension_in` keeps true in its loop.
use mathlib.Core.Path.{◌≡◌}
use lib.ListN.{drop}
use Rattle.infer_type.specs.Infer.{dimension_in}
use Rattle.infer_type.proofs.Dimension.{dim_from}
use Rattle.infer_type.proofs.dimension_in.Given as goal

abbrev pub invariant-loop-i : goal.invariant-loop-i
invariant-loop-i l = dim_from l.has_z l.has_m (drop l.i l.part) ≡ dimension_in l.part
