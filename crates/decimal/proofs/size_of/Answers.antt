-- `decimal::size_of` meets its contract: by whether more tens stand below the line than above it.
use mathlib.Core.Path.{◌≡◌, ap}
use mathlib.Core.Bool.{not, ◌||◌}
use Prim.Native.Nat.{ℕ, ◌-◌, ◌*◌, ◌/◌, ◌%◌, ◌^◌, ◌≤◌, ◌<◌, min}
use borrow.Author.Tests.{le-leb, lt-leb}
use lib.Dec.{eqb}
use Rattle.decimal.specs.declared.Kept.{Kept}
use Rattle.decimal.specs.declared.Size.{Size}
use Rattle.decimal.specs.Code.{held, size, size_of}
use Rattle.decimal.proofs.size_of.Goals as goal

raises : (k : Kept) (up down whole : ℕ) → down ≤ up → whole ≡ min (k.value * 10 ^ (up - down)) held → size whole k.rest ≡ size_of k up down
raises k up down whole h e = rw (le-leb down up h) (ap (λ (w : ℕ). size w k.rest) e)

lowers : (k : Kept) (up down : ℕ) (s : Size) → up < down → s ≡ size (k.value / 10 ^ (down - up)) (k.rest || not (eqb (k.value % 10 ^ (down - up)) 0)) → s ≡ size_of k up down
lowers k up down s h e = rw (lt-leb down up h) e

pub returns-then-below-above : goal.returns-then-below-above
returns-then-below-above c =
    let a = c.args in
    raises a.k a.above a.below _ c.if-below-above.true c.raised.ensures

pub returns : goal.returns
returns c =
    let a = c.args in
    lowers a.k a.above a.below _ c.if-below-above.false c.lowered.ensures
