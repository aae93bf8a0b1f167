-- `pieces::put_letters` meets its contract.
use native.Mathlib.Omega.{arith}
use mathlib.Core.Path.{◌≡◌}
use Prim.Native.Nat.{◌-◌}
use Rattle.pieces.proofs.put_letters.Goals as goal

pub returns : goal.returns
returns c =
    let n = c.args.length in
    let z : n - 0 ≡ n = omega arith in
    rw z at c.put.ensures
