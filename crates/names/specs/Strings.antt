-- The word that stands in the place of parts, which is no name.
use Rattle.std.specs.Prelude.{ℕ, List}
use Rattle.scan.specs.Text.{bytes}

abbrev pub empty : List ℕ
empty = bytes "EMPTY"
