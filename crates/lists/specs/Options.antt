-- What may be there, and may not.
use Rattle.std.specs.Prelude.{Bool, true, false}
use Rattle.std.proofs.Math.Option.{Option, none, some}

abbrev pub is_some : {X : Type 0} → Option X → Bool
is_some none = false
is_some (some x) = true

abbrev pub map_o : {X Y : Type 0} → (X → Y) → Option X → Option Y
map_o f none = none
map_o f (some x) = some (f x)
