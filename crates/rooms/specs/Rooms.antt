-- How many rows are enough for a text. That neither 3 nor 4 is then answered is proved in crate demands (proofs/Rooms).
use Rattle.std.specs.Prelude.{ℕ, ◌/◌}

-- half as many as the text has bytes
abbrev pub enough_rows : ℕ → ℕ
enough_rows bytes = bytes / 2
