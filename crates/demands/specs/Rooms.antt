-- How many rows are always enough: a caller who lends half as many as the text has bytes (`enough_rows` of crate rooms) never sees 3 or 4.
use Rattle.std.specs.Prelude.{◌≡◌, List, ℕ, ◌≤◌, length}
use Rattle.rooms.specs.Rooms.{enough_rows}
use Rattle.store.specs.Rows.{node_room, number_room}
use Rattle.store.specs.declared.ReadAnswer.{ReadAnswer}
use Rattle.demands.specs.Calls.{Read}

abbrev pub EnoughNodes : Type 0
EnoughNodes = (text ns ms : List ℕ) (a : ReadAnswer) (ns' ms' : List ℕ) → Read text ns ms a ns' ms' → enough_rows (length text) ≤ node_room ns → a.number ≡ 3 → ⊥

abbrev pub EnoughNumbers : Type 0
EnoughNumbers = (text ns ms : List ℕ) (a : ReadAnswer) (ns' ms' : List ℕ) → Read text ns ms a ns' ms' → enough_rows (length text) ≤ number_room ms → a.number ≡ 4 → ⊥
