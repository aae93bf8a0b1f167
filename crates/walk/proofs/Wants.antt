-- The search for the innermost open node that wants a child: a frame at a time, and what is told of the one that it finds.
-- Assumes nothing.
use mathlib.Core.Path.{◌≡◌, refl, ◌∙◌}
use mathlib.Core.Bool.{Bool, true, false, cond}
use mathlib.Core.List.{List, [], ◌∷◌}
use Prim.Native.Nat.{ℕ, zero, suc, ◌+◌, ◌-◌, ◌≤◌, ◌<◌}
use native.Mathlib.Omega.{arith}
use lib.Dec.{eqb}
use lib.ListN.{length, drop}
use borrow.Author.Tests.{eq-eqb, ne_eqb, le-leb, lt-leb, eqb-true}
use Rattle.nodes.specs.declared.Frame.{Frame}
use Rattle.nodes.specs.Nodes.{no_kind, is_spent, still_open}
use Rattle.std.specs.Prelude.{Option, Some, None}
use Rattle.walk.specs.Walk.{frames, frame_at, wanted_in, wanted_from}
use Rattle.walk.proofs.Stack.{open_cut, open_past}
use Rattle.walk.proofs.Nested.{Nested, nested_outer, outermost}

-- ---- a frame at a time
module _ (s : List Frame) (t : ℕ) where
  pub no_frame_left : frames ≤ t → wanted_from s t ≡ None
  unfolding wanted_in
  no_frame_left h = let z : frames - t ≡ 0 = omega arith in rw z

  module _ (f : Frame) (is : f ≡ frame_at s t) (h : t < frames) where
    some : frames - t ≡ suc (frames - (t + 1))
    some = omega arith

    pub wants_here : f.next < f.parts → wanted_from s t ≡ Some t
    unfolding wanted_in
    wants_here u = rw (some, ← is, lt-leb f.parts f.next u)

    module _ (spent : f.parts ≤ f.next) where
      pub above_spent : f.kind ≡ no_kind → wanted_from s t ≡ None
      unfolding wanted_in
      above_spent k = rw (some, ← is, le-leb f.parts f.next spent, eq-eqb f.kind no_kind k)

      pub node_spent : (f.kind ≡ no_kind → ⊥) → wanted_from s t ≡ wanted_from s (t + 1)
      unfolding wanted_in
      node_spent k = rw (some, ← is, le-leb f.parts f.next spent, ne_eqb f.kind no_kind k)

-- ---- the node that wants a child: those inside it have ended
pub record WantsBelow (s : List Frame) (t u : ℕ) : Type 0 where
  pub inside : u < frames
  pub unspent : is_spent (frame_at s u) ≡ false
  pub nested : Nested (drop t s) → Nested (drop u s)
  pub open_still : still_open (drop t s) ≡ still_open (drop u s)

-- where none does, all have ended
abbrev pub Wants : List Frame → ℕ → Option ℕ → Type 0
Wants s t (Some u) = WantsBelow s t u
Wants s t None = Nested (drop t s) → still_open (drop t s) ≡ []

module _ (s : List Frame) (long : length s ≡ frames) where
  wants_in : (n t : ℕ) → n ≡ frames - t → Wants s t (wanted_in s n t)
  unfolding wanted_in still_open
  wants_in zero t e = λ o. rw (open_past s long t (omega arith))
  wants_in (suc n) t e = go (is_spent (frame_at s t)) refl (eqb (frame_at s t).kind no_kind) refl (wanted_in s n (t + 1)) (wants_in n (t + 1) (omega arith))
    where
      inside : t < frames
      inside = omega arith

      cut : drop t s ≡ frame_at s t ∷ drop (t + 1) s
      cut = open_cut s long t inside

      ended : is_spent (frame_at s t) ≡ true → still_open (drop t s) ≡ still_open (drop (t + 1) s)
      ended x = rw (cut, x)

      go : (a : Bool) → is_spent (frame_at s t) ≡ a → (b : Bool) → eqb (frame_at s t).kind no_kind ≡ b → (x : Option ℕ) → Wants s (t + 1) x → Wants s t (cond a (cond b None x) (Some t))
      go false p b q x ih = record { inside = inside; unspent = p; nested = λ o. o; open_still = refl }
      go true p true q x ih = λ o. ended p ∙ rw (outermost (rw cut at o) (eqb-true (frame_at s t).kind no_kind q))
      go true p false q (Some u) ih = record {
        inside = ih.inside;
        unspent = ih.unspent;
        nested = λ o. ih.nested (nested_outer (rw cut at o));
        open_still = ended p ∙ ih.open_still;
      }
      go true p false q None ih = λ o. ended p ∙ ih (nested_outer (rw cut at o))

  pub wants : (t : ℕ) → Wants s t (wanted_from s t)
  wants t = wants_in (frames - t) t refl

  pub wants_below : {t u : ℕ} → wanted_from s t ≡ Some u → WantsBelow s t u
  wants_below {t} {u} e = let z : Wants s t (wanted_from s t) = wants t in rw e at z
