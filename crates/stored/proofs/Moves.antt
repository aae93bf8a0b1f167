-- A move is one of a tree: what is read is its stored bytes in the one version, and what is written its stored bytes in the other. And stored bytes of a tree in two versions
-- differ in length by their heads and nodes alone.
-- Assumes nothing.
use mathlib.Core.Path.{◌≡◌, refl, ap, ◌∙◌}
use mathlib.Core.Bool.{Bool, true, false, cond}
use mathlib.Core.Option.{some}
use mathlib.Core.List.{List}
use Prim.Native.Nat.{ℕ, ◌+◌, ◌≤◌, ◌<◌}
use native.Mathlib.Omega.{arith}
use lib.Dec.{leb}
use lib.ListN.{length}
use borrow.Author.Tests.{le-leb, leb-true, leb-false}
use Rattle.limits.specs.Limits.{depth_limit}
use Rattle.refusals.specs.Refusals.{no_room, does_not_fit}
use Rattle.store.specs.Rows.{Row, Span, flat_rows, flat_spans}
use Rattle.store.specs.Answers.{Outcome, filled, Output, bytes, refusal}
use Rattle.store.specs.Answers as outcome
use Rattle.tree.specs.Tree.{Tree, GoodTree, rows, texts}
use Rattle.shape.specs.Store.{tree_of}
use Rattle.stored_form.specs.declared.Version.{Version}
use Rattle.stored_form.specs.Form.{Known, stored_rows, node_place, stored_bytes, fits_tree, stored_tree, stored_of}
use Rattle.stored_form.specs.Reading.{reading_of}
use Rattle.stored_moves.specs.Moving.{Moving, moved, refused, after_writing, moving_of}
use Rattle.stored_moves.proofs.Comes.{after_reading_law, after_writing_law}
use Rattle.stored_writing.proofs.Measures.{stored_length}
use Rattle.stored_reading.proofs.Accepted.{ReadTree, accepted_tree}
use Rattle.stored.proofs.Back.{stored_back}

-- ---- lengths
pub versions_length : (v w : Version) (rs : List Row) (ns : List (List ℕ)) → length (stored_rows w rs ns) + node_place v.width (length rs) ≡ length (stored_rows v rs ns) + node_place w.width (length rs)
versions_length v w rs ns = omega (arith, stored_length v rs ns, stored_length w rs ns)

-- ---- what a store of a tree comes to in a version
pub of_tree : (w : Version) (text nodes numbers : List ℕ) (t : Tree depth_limit) → tree_of text nodes numbers ≡ some t → stored_of w text nodes numbers ≡ cond (fits_tree w t) (bytes (stored_bytes w t)) (refusal does_not_fit)
unfolding stored_of
of_tree w text nodes numbers t e = ap (stored_tree w) e

module _ (v w : Version) (N M room : ℕ) (source : List ℕ) where
  -- ---- the tree that is read is written, if it fits and there is room
  module _ (rs : List Row) (ss : List Span) (e : reading_of v N M source ≡ filled rs ss) where
    abbrev its : ReadTree source rs ss
    its = accepted_tree v N M source rs ss e

    pub moves_tree : moving_of v w N M room source ≡ after_writing room rs ss (cond (fits_tree w its.tree) (bytes (stored_bytes w its.tree)) (refusal does_not_fit))
    moves_tree = after_writing_law v w N M room source rs ss e (of_tree w source (flat_rows rs) (flat_spans ss) its.tree its.is)

  -- ---- what a move comes to, in all: "the reading side's first, then 27, then 23"
  pub data Comes : Moving → Type 0 where
    unread : (number place : ℕ) → reading_of v N M source ≡ outcome.refused number place → Comes (refused number place)
    unfit : (rs : List Row) (ss : List Span) (e : reading_of v N M source ≡ filled rs ss) → fits_tree w (accepted_tree v N M source rs ss e).tree ≡ false → Comes (refused does_not_fit 0)
    roomless : (rs : List Row) (ss : List Span) (e : reading_of v N M source ≡ filled rs ss) → fits_tree w (accepted_tree v N M source rs ss e).tree ≡ true → room < length (stored_bytes w (accepted_tree v N M source rs ss e).tree) → Comes (refused no_room 0)
    moves : (rs : List Row) (ss : List Span) (e : reading_of v N M source ≡ filled rs ss) → fits_tree w (accepted_tree v N M source rs ss e).tree ≡ true → length (stored_bytes w (accepted_tree v N M source rs ss e).tree) ≤ room → Comes (moved rs ss (stored_bytes w (accepted_tree v N M source rs ss e).tree))

  pub comes : Comes (moving_of v w N M room source)
  comes = go (reading_of v N M source) refl
    where
      by_room : (rs : List Row) (ss : List Span) (e : reading_of v N M source ≡ filled rs ss) → fits_tree w (its rs ss e).tree ≡ true → (g : Bool) → leb (length (stored_bytes w (its rs ss e).tree)) room ≡ g → Comes (cond g (moved rs ss (stored_bytes w (its rs ss e).tree)) (refused no_room 0))
      by_room rs ss e f true l = moves rs ss e f (leb-true _ room l)
      by_room rs ss e f false l = roomless rs ss e f (leb-false _ room l)

      by_fit : (rs : List Row) (ss : List Span) (e : reading_of v N M source ≡ filled rs ss) → (f : Bool) → fits_tree w (its rs ss e).tree ≡ f → Comes (after_writing room rs ss (cond f (bytes (stored_bytes w (its rs ss e).tree)) (refusal does_not_fit)))
      by_fit rs ss e false f = unfit rs ss e f
      by_fit rs ss e true f = by_room rs ss e f (leb (length (stored_bytes w (its rs ss e).tree)) room) refl

      go : (o : Outcome) → reading_of v N M source ≡ o → Comes (moving_of v w N M room source)
      go (filled rs ss) e = rw (moves_tree rs ss e) (by_fit rs ss e (fits_tree w (its rs ss e).tree) refl)
      go (outcome.refused number place) e = rw (after_reading_law v w N M room source e) (unread number place e)

-- ---- the stored bytes of a tree that fits both versions move from the one to the other
module _ (v w : Version) (known : Known v) (t : Tree depth_limit) (g : GoodTree depth_limit t) (fv : fits_tree v t ≡ true) (fw : fits_tree w t ≡ true) where
  pub tree_moves : (N M room : ℕ) (hn : length (rows depth_limit t) ≤ N) (hm : length (texts depth_limit t) ≤ M) → length (stored_bytes w t) ≤ room → moving_of v w N M room (stored_bytes v t) ≡ moved (rows depth_limit t) (stored_back v known t g fv N M hn hm).spans (stored_bytes w t)
  tree_moves N M room hn hm h =
      let b = stored_back v known t g fv N M hn hm in
      after_writing_law v w N M room (stored_bytes v t) (rows depth_limit t) b.spans b.reads (of_tree w (stored_bytes v t) (flat_rows (rows depth_limit t)) (flat_spans b.spans) t b.tree)
      ∙ rw (fw, le-leb (length (stored_bytes w t)) room h)
