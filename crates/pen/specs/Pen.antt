-- A pen puts pieces one after the other into a slice, and turns full where one has no room.
use Rattle.std.specs.Prelude.{◌≡◌, Bool, true, false, cond, not, ◌&&◌, List, ◌++◌, ℕ, ◌+◌, ◌≤◌, ◌<◌, leb, length, take, Option, Some, None}
use Rattle.std.proofs.lemmas.List.Edits.{sets}
use Rattle.pen.specs.declared.Pen.{Pen}

abbrev pub pen : ℕ → Bool → Pen
pen at full = record { at = at; full = full }

-- there is room for n bytes, and where they end; for the piece
abbrev pub room_for : Pen → List ℕ → ℕ → Bool
room_for p out n = not p.full && leb (p.at + n) (length out)

abbrev pub end_of : Pen → List ℕ → ℕ → Option ℕ
end_of p out n = cond (room_for p out n) (Some (p.at + n)) None

unfoldable pub has_room : Pen → List ℕ → List ℕ → Bool
has_room p out piece = room_for p out (length piece)

unfoldable pub pen_after : Pen → List ℕ → List ℕ → Pen
pen_after p out piece = cond (has_room p out piece) (pen (p.at + length piece) false) (pen p.at true)

unfoldable pub out_after : Pen → List ℕ → List ℕ → List ℕ
out_after p out piece = cond (has_room p out piece) (sets out p.at piece) out

-- a piece is put: what the pen and the slice are after it
pub record Puts (piece : List ℕ) (p : Pen) (out : List ℕ) (r : Pen) (out' : List ℕ) : Type 0 where
  pub stands : r ≡ pen_after p out piece
  pub bytes : out' ≡ out_after p out piece

-- ---- a pen owes the rest of a text
-- what stands and what is still to be put are the text; or the text has no room
abbrev pub HasPut : Bool → List ℕ → List ℕ → ℕ → List ℕ → Type 0
HasPut false goal rest at out = take at out ++ rest ≡ goal
HasPut true goal rest at out = length out < length goal

-- of the text `goal`, `rest` is still to be put
pub record ToPut (goal rest : List ℕ) (p : Pen) (out : List ℕ) : Type 0 where
  pub within : p.at ≤ length out
  pub held : HasPut p.full goal rest p.at out

-- of any text, what X puts in front of a rest was owed, and what Y does is owed now
pub record Owes (X Y : List ℕ → List ℕ) (p : Pen) (out : List ℕ) (r : Pen) (out' : List ℕ) : Type 0 where
  pub same : length out' ≡ length out
  pub to : (goal rest : List ℕ) → ToPut goal (X rest) p out → ToPut goal (Y rest) r out'

-- what X puts in front of a rest is put
abbrev pub Emits : (List ℕ → List ℕ) → Pen → List ℕ → Pen → List ℕ → Type 0
Emits X p out r out' = Owes X (λ rest. rest) p out r out'
