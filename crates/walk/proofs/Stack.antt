-- Laws of the frames in a lent array: the open ones from a place on, before a put and after it.
-- Assumes nothing.
use mathlib.Core.Path.{◌≡◌, ◌∙◌}
use mathlib.Core.List.{List, [], ◌∷◌}
use Prim.Native.Nat.{ℕ, ◌+◌, ◌≤◌, ◌<◌}
use native.Mathlib.Omega.{arith}
use native.Mathlib.Numerals.{add-one}
use lib.ListN.{length, set, drop, drop_of_length-le, length-set}
use lib.Seq.{drop-cons}
use Rattle.std.proofs.lemmas.List.{drop-set}
use Rattle.nodes.specs.declared.Frame.{Frame}
use Rattle.nodes.specs.Nodes.{onward}
use Rattle.walk.specs.Walk.{frames, no_frame, frame_at, next_in, put_next}

module _ (s : List Frame) (long : length s ≡ frames) (t : ℕ) where
  pub open_past : frames ≤ t → drop t s ≡ []
  open_past h = drop_of_length-le s {i = t} (omega (arith, long))

  module _ (h : t < frames) where
    pub open_cut : drop t s ≡ frame_at s t ∷ drop (t + 1) s
    open_cut = drop-cons s t no_frame (omega (arith, long)) ∙ rw add-one

    -- a frame is put
    module _ (f : Frame) where
      pub open_put : drop t (set s t f) ≡ f ∷ drop (t + 1) s
      open_put = drop-set s t f (omega (arith, long))

      pub long_put : length (set s t f) ≡ frames
      long_put = length-set s t f ∙ long

    -- the next child of a frame is put
    module _ (n : ℕ) where
      pub open_next : n ≡ (frame_at s t).next + 1 → drop t (put_next s t n) ≡ onward (frame_at s t) ∷ drop (t + 1) s
      unfolding put_next
      open_next e = open_put (next_in (frame_at s t) n) ∙ rw e

      pub long_next : length (put_next s t n) ≡ frames
      unfolding put_next
      long_next = long_put (next_in (frame_at s t) n)
