-- A move comes to what is made of its reading, and that to what is made of its writing.
-- Assumes nothing.
use mathlib.Core.Path.{◌≡◌, ap, ◌∙◌}
use mathlib.Core.List.{List}
use Prim.Native.Nat.{ℕ}
use Rattle.store.specs.Rows.{Row, Span, flat_rows, flat_spans}
use Rattle.store.specs.Answers.{Outcome, filled, Output}
use Rattle.stored_form.specs.declared.Version.{Version}
use Rattle.stored_form.specs.Form.{stored_of}
use Rattle.stored_form.specs.Reading.{reading_of}
use Rattle.stored_moves.specs.Moving.{after_writing, after_reading, moving_of}

module _ (v w : Version) (N M room : ℕ) (source : List ℕ) where
  pub after_reading_law : {o : Outcome} → reading_of v N M source ≡ o → moving_of v w N M room source ≡ after_reading w room source o
  unfolding moving_of
  after_reading_law e = ap (after_reading w room source) e

  pub after_writing_law : (rs : List Row) (ss : List Span) {o : Output} → reading_of v N M source ≡ filled rs ss → stored_of w source (flat_rows rs) (flat_spans ss) ≡ o → moving_of v w N M room source ≡ after_writing room rs ss o
  after_writing_law rs ss e f = after_reading_law e ∙ ap (after_writing room rs ss) f
