-- `pen::put_byte` meets its contract: a piece of one byte.
use mathlib.Core.Path.{refl}
use mathlib.Core.List.{[], ◌∷◌}
use Rattle.pen.proofs.Puts.{puts_in, puts_out}
use Rattle.pen.proofs.put_byte.Goals as goal

pub returns-in-Some : goal.returns-in-Some
returns-in-Some c = puts_in (c.args.b ∷ []) _ _ refl _ _ c.in-Some.ensures refl

pub returns-in-None : goal.returns-in-None
returns-in-None c = puts_out (c.args.b ∷ []) _ _ refl c.in-None.ensures
