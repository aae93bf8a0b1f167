-- `pieces::needs_plus` meets its contract: by the first byte, or that there is none.
use native.Mathlib.Omega.{arith}
use Rattle.pieces.proofs.Canonical.{plus_first, plus_none}
use Rattle.pieces.proofs.needs_plus.Goals as goal

pub returns-in-Some : goal.returns-in-Some
returns-in-Some c =
    let first = c.in-Some.ensures.item.3 in
    rw c.is_ascii_alphabetic.ensures.value (plus_first c.args.w.now _ first.0 (first.1 0) (omega (arith, first.1 0, c.type_inv.w 0)))

pub returns-in-None : goal.returns-in-None
returns-in-None c = plus_none _ c.in-None.ensures.value
