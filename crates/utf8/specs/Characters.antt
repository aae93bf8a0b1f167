-- Well-formed UTF-8 as a grammar: whole characters, one after the other. `is_utf8` is proved to be just this.
use Rattle.std.specs.Prelude.{◌≡◌, true, ℕ}
use mathlib.Core.List.{List, [], ◌∷◌, ◌++◌, Memᴰ}
use Rattle.utf8.specs.Utf8.{Range, holds, table}

-- a byte of each range of the row, and nothing more
pub data Fills : List Range → List ℕ → Type 0 where
  full : Fills [] []
  byte : {r : Range} {rs : List Range} {b : ℕ} {l : List ℕ} → holds r b ≡ true → Fills rs l → Fills (r ∷ rs) (b ∷ l)

-- a character fills a row of the table
pub data Char : List ℕ → Type 0 where
  char : {row : List Range} {c : List ℕ} → Memᴰ row table → Fills row c → Char c

pub data Whole : List ℕ → Type 0 where
  empty : Whole []
  then : {c l : List ℕ} → Char c → Whole l → Whole (c ++ l)
