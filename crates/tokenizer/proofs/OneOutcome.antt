-- Two answers that a public function's contract allows for one input are one answer.
-- Assumes nothing.
use Prim.Native.Nat.{ℕ}
use mathlib.Core.Path.{◌≡◌}
use mathlib.Core.List.{List}
use Rattle.lists.specs.One.{One}
use Rattle.lists.proofs.One.{one}
use Rattle.token.specs.declared.Found.{Found}
use Rattle.tokenizer.specs.declared.Cursor.{Cursor}
use Rattle.tokenizer.specs.Tokens.{cursor_at, hold, take_at, look_at, pass_comma, pass_open, closes_at}

pub new_one : (place : ℕ) → One (λ r. r ≡ cursor_at place)
new_one place = one

pub take_one : (text : List ℕ) (self : Cursor) → One (λ r. r ≡ take_at text self)
take_one text self = one

pub look_one : (text : List ℕ) (self : Cursor) → One (λ r. r ≡ look_at text self)
look_one text self = one

pub pass_comma_one : (text : List ℕ) (self : Cursor) → One (λ r. r ≡ pass_comma text self)
pass_comma_one text self = one

pub pass_open_one : (text : List ℕ) (self : Cursor) → One (λ r. r ≡ pass_open text self)
pass_open_one text self = one

pub closes_one : (text : List ℕ) (self : Cursor) → One (λ r. r ≡ closes_at text self)
closes_one text self = one

pub from_one : (found : Found) → One (λ held. held ≡ hold found)
from_one found = one
