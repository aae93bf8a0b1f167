-- What `strict::first_fault` keeps true in its loops, and what falls.
use mathlib.Core.Path.{◌≡◌}
use Rattle.shape.proofs.Stepped.{ahead_of}
use Rattle.shape.proofs.Loops.{Walking}
use Rattle.strict.specs.Strict.{found}
use Rattle.strict.proofs.first_fault.Given as goal

abbrev pub invariant-loop-v : goal.invariant-loop-v
invariant-loop-v l = Walking l.nodes l.count l.frames l.w (λ ms. l.found ≡ found l.text l.numbers ms)

abbrev pub decreases-loop-v : goal.decreases-loop-v
decreases-loop-v l = ahead_of l.nodes l.w
