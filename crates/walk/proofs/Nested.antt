-- The frames suffice: below a collection stand at most two open nodes that are none, and at most 32 collections are open.
-- Assumes nothing.
use mathlib.Core.Path.{◌≡◌, refl, sym}
use mathlib.Core.Bool.{Bool, true, false, false≢true, cond, not, ◌||◌, and-eq-true_iff}
use mathlib.Core.List.{List, [], ◌∷◌}
use Prim.Native.Nat.{ℕ, ◌+◌, ◌≤◌, ◌<◌}
use native.Mathlib.Omega.{arith}
use lib.Dec.{eqb, leb, ltb}
use borrow.Author.Tests.{ne_eqb, eqb-true, leb-true, ltb-true}
use lib.ListN.{length}
use Rattle.limits.specs.Limits.{depth_limit}
use Rattle.kinds.specs.Kinds.{kind_point, kind_line_string, kind_multi_point, kind_multi_polygon, kind_geometry_collection}
use Rattle.nodes.specs.declared.Frame.{Frame}
use Rattle.nodes.specs.declared.Visit.{Visit}
use Rattle.nodes.specs.Nodes.{no_kind, above, is_free, child_kind, is_geometry, is_child, is_allowed, is_leaf, is_collection, may_open, frame_of, onward}
use Rattle.walk.specs.Walk.{frames}

-- how many open nodes may stand below one of this kind, collections aside: in a collection a multipolygon and its polygon
abbrev below : ℕ → ℕ
below kind = cond (is_free kind) 2 (cond (eqb kind kind_multi_polygon) 1 0)

-- one more collection
abbrev one : ℕ → ℕ
one kind = cond (eqb kind kind_geometry_collection) 1 0

pub data Nested : List Frame → Type 0 where
  outer : Nested []
  inner : (f : Frame) (fs : List Frame) → (f.kind ≡ no_kind → fs ≡ []) → length fs + 1 + below f.kind ≤ f.depth + 3 → f.depth ≤ depth_limit → Nested fs → Nested (f ∷ fs)

pub depth_limit_law : {f : Frame} {fs : List Frame} → Nested (f ∷ fs) → f.depth ≤ depth_limit
depth_limit_law (inner f fs o a b n) = b

pub nested_above : Nested (above ∷ [])
nested_above = inner above [] (λ _. refl) (omega arith) (omega arith) outer

-- a child has been met
pub nested_onward : {f : Frame} {fs : List Frame} → Nested (f ∷ fs) → Nested (onward f ∷ fs)
nested_onward (inner f fs o a b n) = inner (onward f) fs o a b n

-- the innermost node has ended
pub nested_outer : {f : Frame} {fs : List Frame} → Nested (f ∷ fs) → Nested fs
nested_outer (inner f fs o a b n) = n

-- what stands above the root is the outermost
pub outermost : {f : Frame} {fs : List Frame} → Nested (f ∷ fs) → f.kind ≡ no_kind → fs ≡ []
outermost (inner f fs o a b n) = o

free_fits : (k : ℕ) → 1 ≤ k → below k + 1 ≤ 2 + one k
free_fits k h = rw (ne_eqb k no_kind (λ e. omega arith)) (go (eqb k kind_geometry_collection) (eqb k kind_multi_polygon))
  where
    go : (a b : Bool) → cond (false || a) 2 (cond b 1 0) + 1 ≤ 2 + cond a 1 0
    go true b = omega arith
    go false true = omega arith
    go false false = omega arith

child_fits : (p k : ℕ) → is_free p ≡ false → k ≡ child_kind p → (leb k kind_line_string ≡ true → ⊥) → below k + 1 ≤ below p + one k
unfolding child_kind
child_fits p k free e leaf = rw free (go (eqb p kind_multi_point) (eqb p kind_multi_polygon) e)
  where
    go : (a b : Bool) → k ≡ cond a kind_point (cond b 3 kind_line_string) → below k + 1 ≤ cond b 1 0 + one k
    go true b z = absurd (leaf (rw z))
    go false true z = rw z (omega arith)
    go false false z = absurd (leaf (rw z))

or_left : (a b : Bool) → (a || b) ≡ false → a ≡ true → ⊥
or_left true b e z = false≢true (sym e)
or_left false b e z = false≢true z

-- a node whose children follow, below its parent
node_fits : (v : Visit) → is_allowed v ≡ true → is_leaf v ≡ false → below v.kind + 1 ≤ below v.parent.kind + one v.kind
unfolding is_allowed
node_fits v ok leaf = go (is_free v.parent.kind) refl ok
  where
    go : (b : Bool) → is_free v.parent.kind ≡ b → cond b (is_geometry v) (is_child v) ≡ true → below v.kind + 1 ≤ below v.parent.kind + one v.kind
    go true free e = rw free (free_fits v.kind (leb-true 1 v.kind ((and-eq-true_iff _ _).0 ((and-eq-true_iff _ _).0 ((and-eq-true_iff _ _).0 e).0).0).0))
    go false free e = child_fits v.parent.kind v.kind free (eqb-true _ _ ((and-eq-true_iff _ _).0 ((and-eq-true_iff _ _).0 e).0).0) (or_left (leb v.kind kind_line_string) _ leaf)

-- the depth below a node
module _ (v : Visit) (may : may_open v ≡ true) (ok : v.parent.depth ≤ depth_limit) where
  depth_fits : (b : Bool) → (not b || ltb v.parent.depth depth_limit) ≡ true → cond b (v.parent.depth + 1) v.parent.depth ≤ depth_limit
  depth_fits true e = omega (arith, ltb-true v.parent.depth depth_limit e)
  depth_fits false e = ok

  -- a collection is one deeper
  depth_one : (b : Bool) → cond b (v.parent.depth + 1) v.parent.depth ≡ v.parent.depth + cond b 1 0
  depth_one true = refl
  depth_one false = omega arith

  -- a node is opened: it is nested, and there is a frame for it
  pub nested_open : {fs : List Frame} → is_allowed v ≡ true → is_leaf v ≡ false → Nested (v.parent ∷ fs) → Nested (frame_of v ∷ onward v.parent ∷ fs) × (length fs + 1 < frames)
  nested_open a l (inner f fs o x y n) =
      let h = node_fits v a l in
      let e = depth_one (is_collection v) in
      let d = depth_fits (is_collection v) may in
      (inner (frame_of v) (onward f ∷ fs) (λ z. absurd (or_left (leb v.kind kind_line_string) _ l (rw z))) (omega (arith, x, h, e)) d (inner (onward f) fs o x y n), omega (arith, x, h, e, d))
