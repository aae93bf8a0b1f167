-- What the writer answers, and what it leaves in the room, for any store and room (document 01, "Refusal numbers").
use Rattle.std.proofs.Math.Option.{Option, none, some}
use Rattle.std.specs.Prelude.{List, ℕ, ◌+◌, ◌*◌, ◌^◌, ◌≤◌, ◌<◌}
use Rattle.store.specs.declared.WriteAnswer.{WriteAnswer}
use Rattle.store.specs.Answers.{Output, bytes, refusal, Writes}
use Rattle.refusals.specs.Refusals.{ill_formed_store}
use Rattle.to_wkt.specs.Canonical.{store_text}

-- "The writer tests 22, then 23."
abbrev pub output_of : Option (List ℕ) → Output
output_of none = refusal ill_formed_store
output_of (some b) = bytes b

abbrev pub Written : List ℕ → List ℕ → List ℕ → ℕ → WriteAnswer → List ℕ → Type 0
Written text nodes numbers room r out = Writes (output_of (store_text text nodes numbers)) room r out

-- ---- what private functions ask
-- w indexes from i on fit
pub record HasCoordinate (i w : ℕ) : Type 0 where
  pub some : 1 ≤ w
  pub fits : i + w < 2 ^ 64

-- n times w indexes from i on fit
pub record HasCoordinates (i w n : ℕ) : Type 0 where
  pub wide : 1 ≤ w
  pub some : 1 ≤ n
  pub fits : i + n * w < 2 ^ 64
