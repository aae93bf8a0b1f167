-- What the writer's loop leaves: the text of all that a walk meets is put, or the rows are no tree.
use Rattle.std.specs.Prelude.{◌≡◌, List, [], ℕ, Option, Some, None}
use Rattle.std.proofs.Math.Option.{Option as Maybe, none, some}
use Rattle.pen.specs.declared.Pen.{Pen}
use Rattle.pen.specs.Pen.{ToPut}
use Rattle.nodes.specs.declared.Met.{Met}
use Rattle.to_wkt.specs.Canonical.{put_all}

-- the text is put, as far as there is room
pub record PutText (goal : List ℕ) (r : Option Pen) (out : List ℕ) : Type 0 where
  pub pen : Pen
  pub is : r ≡ Some pen
  pub put : ToPut goal [] pen out

abbrev pub PutRows : List ℕ → List ℕ → Maybe (List Met) → Option Pen → List ℕ → Type 0
PutRows text numbers none r out = r ≡ None
PutRows text numbers (some ms) r out = PutText (put_all text numbers ms []) r out
