-- Request 2026-03: what calls of `node_boxes::boxes` answer and leave.
-- Assumes nothing.
use mathlib.Core.Path.{◌≡◌, refl, ap, sym, ◌∙◌, subst}
use mathlib.Core.Bool.{Bool, true, false, false≢true, cond}
use mathlib.Core.Logic.{inl, inr}
use mathlib.Core.Option.{Option, none, some, some-injective}
use mathlib.Core.List.{List, [], ◌∷◌, flat_map}
use Prim.Native.Nat.{ℕ, ◌-◌, ◌*◌, ◌≤◌}
use native.Mathlib.Omega.{arith}
use borrow.Author.Tests.{ltb-true, ltb-false, ne_eqb}
use lib.Dec.{ltb}
use lib.IntN.{ℤ, pos}
use lib.ListN.{length, drop, get_or}
use Rattle.lists.specs.Lists.{All}
use Rattle.lists.specs.Options.{is_some}
use Rattle.limits.specs.Limits.{depth_limit}
use Rattle.refusals.specs.Refusals.{ill_formed_store, no_room}
use Rattle.store.specs.Rows.{node_room}
use Rattle.tree.specs.Tree.{Coord, Tree, rows}
use Rattle.shape.specs.Store.{tree_of, well_formed, walk_root}
use Rattle.shape.proofs.Stores.{store_tree, is_well_formed}
use Rattle.shape.proofs.Slices.{node_count_law}
use Rattle.bounds.specs.declared.BoxAnswer.{BoxAnswer}
use Rattle.bounds.specs.Bounds.{BoxRow, no_box, box_width, box_room, five_of, zeros, padded, box_answer}
use Rattle.node_boxes.specs.Boxes as def
use Rattle.node_boxes.specs.Boxes.{box_around, coords, boxes, Outcome, first_offence, unless_offence, boxes_if, boxes_of, FillsTable, fills_one}
use Rattle.node_boxes.specs.Holds.{Placed, HoldsEach, NearEach, InParent, each_coords, row_at}
use Rattle.node_boxes.specs.Faults.{Offence, not_finite, too_far, too_large, AtFault, in_x, in_y, CleanCoord, FirstAtFault}
use Rattle.node_boxes.proofs.Trees.{as_many}
use Rattle.node_boxes.proofs.Holds.{box_holds, box_near, box_none, box_some, box_same}
use Rattle.node_boxes.proofs.Beside.{box_at, coords_at, row_at_law, zeros_long, padded_long, padded_rest, in_parents, in_rows}
use Rattle.node_boxes.proofs.Faults.{tree_numeric, all_mem, Says, no_fault, a_fault, says, fault_first, clean_none, clean_placed}
use Rattle.demands.specs.Boxes.{NodeBoxes, OneBoxes, BoxesOutcome, no_store, too_few, at_fault, boxed, BoxesAnswer, OfCoordinates, BoxesExactly, BoxesRefuseExactly, LeftOver, BoxesLeave, BoxesHold, BoxesNear, ChildInParent, NoCoordinatesZeros, SameBox}

pub one_boxes : OneBoxes
one_boxes text nodes numbers t a t' c t'' x y = fills_one x y

-- ---- what is answered
all_zero : (n : ℕ) → padded [] n ≡ zeros n
all_zero n = let z : n - 0 ≡ n = omega arith in ap zeros z

module _ (text nodes numbers : List ℕ) (t : List ℤ) where
  refuses : (number place : ℕ) → BoxesOutcome text nodes numbers t (box_answer number place) (zeros (length t)) → (a : BoxAnswer) (t' : List ℤ) → FillsTable (def.refused number place) t a t' → BoxesOutcome text nodes numbers t a t'
  refuses number place o a t' f = rw (f.answer, f.table, all_zero (length t)) o

  module _ (x : Tree depth_limit) (is : tree_of text nodes numbers ≡ some x) where
    many_rows : length (rows depth_limit x) ≡ node_room nodes
    many_rows = node_count_law text nodes numbers x is

    said : Says numbers (coords depth_limit x) (first_offence numbers 0 (coords depth_limit x))
    said = says numbers (coords depth_limit x) (tree_numeric depth_limit x (store_tree text nodes numbers x is).good)

  abbrev Filled : BoxAnswer → List ℤ → Type 0
  Filled a t' = BoxesOutcome text nodes numbers t a t'

  by_fault : (x : Tree depth_limit) → tree_of text nodes numbers ≡ some x → node_room nodes ≤ box_room t → (o : BoxAnswer) → Says numbers (coords depth_limit x) o → (a : BoxAnswer) (t' : List ℤ) → FillsTable (unless_offence o (boxes depth_limit x)) t a t' → Filled a t'
  by_fault x is room _ (no_fault k p) a t' f = rw (f.answer, f.table) (boxed x is room k)
  by_fault x is room _ (a_fault {number} {place} q n) a t' f =
      refuses number place (at_fault x number place is room q) a t' (subst (λ b. FillsTable (cond b (def.boxed (boxes depth_limit x)) (def.refused number place)) t a t') (ne_eqb number 0 n) f)

  by_room : (x : Tree depth_limit) → tree_of text nodes numbers ≡ some x → (b : Bool) → ltb (box_room t) (length (rows depth_limit x)) ≡ b → (a : BoxAnswer) (t' : List ℤ)
      → FillsTable (cond b (def.refused no_room 0) (unless_offence (first_offence numbers 0 (coords depth_limit x)) (boxes depth_limit x))) t a t' → Filled a t'
  by_room x is true e a t' f = let h = ltb-true (box_room t) (length (rows depth_limit x)) e in let n = many_rows x is in refuses no_room 0 (too_few (is_well_formed text nodes numbers x is) (omega (arith, h, n))) a t' f
  by_room x is false e a t' f = let h = ltb-false (box_room t) (length (rows depth_limit x)) e in let n = many_rows x is in by_fault x is (omega (arith, h, n)) (first_offence numbers 0 (coords depth_limit x)) (said x is) a t' f

  by_tree : (o : Option (Tree depth_limit)) → tree_of text nodes numbers ≡ o → (a : BoxAnswer) (t' : List ℤ) → FillsTable (boxes_if numbers (box_room t) o) t a t' → Filled a t'
  unfolding well_formed
  by_tree none e a t' f = refuses ill_formed_store 0 (no_store (ap is_some e)) a t' f
  by_tree (some x) e a t' f = by_room x e (ltb (box_room t) (length (rows depth_limit x))) refl a t' f

pub boxes_answer : BoxesAnswer
unfolding boxes_of
boxes_answer text nodes numbers t a t' f = by_tree text nodes numbers t (tree_of text nodes numbers) refl a t' f

-- ---- each exactly when
of_offence : {l : List ℕ} {number : ℕ} → Offence l number → OfCoordinates number
of_offence (not_finite x) = inl refl
of_offence (too_far x y) = inr refl
of_offence (too_large x y z) = inr refl

of_fault : {numbers : List ℕ} {k : ℕ} {c : Coord} {number place : ℕ} → AtFault numbers k c number place → OfCoordinates number
of_fault (in_x o) = of_offence o
of_fault (in_y k o) = of_offence o

no_other : {number : ℕ} → OfCoordinates number → (n : ℕ) → n ≤ 23 → number ≡ n → ⊥
no_other (inl e) n h f = omega (arith, e, f, h)
no_other (inr e) n h f = omega (arith, e, f, h)

module _ (text nodes numbers : List ℕ) (t : List ℤ) where
  one_tree : (x y : Tree depth_limit) → tree_of text nodes numbers ≡ some x → tree_of text nodes numbers ≡ some y → x ≡ y
  one_tree x y e f = some-injective x y (sym e ∙ f)

  well : (x : Tree depth_limit) → tree_of text nodes numbers ≡ some x → well_formed text nodes numbers ≡ true
  well x e = is_well_formed text nodes numbers x e

  exactly : (a : BoxAnswer) (t' : List ℤ) → BoxesOutcome text nodes numbers t a t' → BoxesExactly text nodes numbers t a
  exactly _ _ (no_store w) = record {
    ill = ((λ e. w), λ e. refl);
    roomless = ((λ e. absurd (omega (arith, e))), λ e. absurd (false≢true (sym w ∙ e.0)));
    fault = λ number place. ((λ e. absurd (no_other e.1 22 (omega arith) (sym (ap (λ (b : BoxAnswer). b.number) e.0)))), λ e. absurd (false≢true (sym w ∙ well e.0 e.1)));
    accepted = ((λ e. absurd (omega (arith, e))), λ e. absurd (false≢true (sym w ∙ well e.0 e.1)));
  }
  exactly _ _ (too_few w h) = record {
    ill = ((λ e. absurd (omega (arith, e))), λ e. absurd (false≢true (sym e ∙ w)));
    roomless = ((λ e. (w, h)), λ e. refl);
    fault = λ number place. ((λ e. absurd (no_other e.1 23 (omega arith) (sym (ap (λ (b : BoxAnswer). b.number) e.0)))), λ e. let k = e.2 in absurd (omega (arith, h, k)));
    accepted = ((λ e. absurd (omega (arith, e))), λ e. let k = e.2 in absurd (omega (arith, h, k)));
  }
  exactly _ _ (at_fault x number place is room f) = record {
    ill = ((λ e. absurd (no_other (of_fault f.fault) 22 (omega arith) e)), λ e. absurd (false≢true (sym e ∙ well x is)));
    roomless = ((λ e. absurd (no_other (of_fault f.fault) 23 (omega arith) e)), λ e. let k = e.1 in absurd (omega (arith, room, k)));
    fault = λ n p. ((λ e. (x, is, room, subst (λ (b : BoxAnswer). FirstAtFault numbers (coords depth_limit x) b.number b.place) e.0 f)), λ e. (sym (first (x) is) ∙ ap (λ y. first_offence numbers 0 (coords depth_limit y)) (one_tree x e.0 is e.1) ∙ other e.0 e.1 n p e.3, of_fault e.3.fault));
    accepted = ((λ e. absurd (no_other (of_fault f.fault) 0 (omega arith) e)), λ e. absurd (spotless e.0 e.1 e.3));
  }
    where
      other : (y : Tree depth_limit) → tree_of text nodes numbers ≡ some y → (n p : ℕ) → FirstAtFault numbers (coords depth_limit y) n p → first_offence numbers 0 (coords depth_limit y) ≡ box_answer n p
      other y e n p g = fault_first numbers (coords depth_limit y) (tree_numeric depth_limit y (store_tree text nodes numbers y e).good) n p g

      first : (y : Tree depth_limit) → tree_of text nodes numbers ≡ some y → first_offence numbers 0 (coords depth_limit y) ≡ box_answer number place
      first y e = ap (λ z. first_offence numbers 0 (coords depth_limit z)) (one_tree y x e is) ∙ other x is number place f

      spotless : (y : Tree depth_limit) → tree_of text nodes numbers ≡ some y → All CleanCoord (coords depth_limit y) → ⊥
      spotless y e k = no_other (of_fault f.fault) 0 (omega arith) (ap (λ (b : BoxAnswer). b.number) (sym (first y e) ∙ clean_none numbers (coords depth_limit y) k))
  exactly _ _ (boxed x is room k) = record {
    ill = ((λ e. absurd (omega (arith, e))), λ e. absurd (false≢true (sym e ∙ well x is)));
    roomless = ((λ e. absurd (omega (arith, e))), λ e. let h = e.1 in absurd (omega (arith, room, h)));
    fault = λ n p. ((λ e. absurd (no_other e.1 0 (omega arith) (sym (ap (λ (b : BoxAnswer). b.number) e.0)))), λ e. absurd (faulty e.0 e.1 n p e.3));
    accepted = ((λ e. (x, is, room, k)), λ e. refl);
  }
    where
      faulty : (y : Tree depth_limit) → tree_of text nodes numbers ≡ some y → (n p : ℕ) → FirstAtFault numbers (coords depth_limit y) n p → ⊥
      faulty y e n p g =
          no_other (of_fault g.fault) 0 (omega arith)
          (ap (λ (b : BoxAnswer). b.number)
          (sym (fault_first numbers (coords depth_limit y) (tree_numeric depth_limit y (store_tree text nodes numbers y e).good) n p g)
          ∙ ap (λ z. first_offence numbers 0 (coords depth_limit z)) (one_tree y x e is)
          ∙ clean_none numbers (coords depth_limit x) k))

pub boxes_refuse_exactly : BoxesRefuseExactly
boxes_refuse_exactly text nodes numbers t a t' f = exactly text nodes numbers t a t' (boxes_answer text nodes numbers t a t' f)

-- ---- boxes that are not refused
record Kept (x : Tree depth_limit) (numbers : List ℕ) (nodes : List ℕ) (t t' : List ℤ) : Type 0 where
  table : t' ≡ padded (flat_map five_of (boxes depth_limit x)) (length t)
  fits : length (boxes depth_limit x) * box_width ≤ length t
  count : length (boxes depth_limit x) ≡ node_room nodes
  placed : All Placed (coords depth_limit x)

kept : (text nodes numbers : List ℕ) (t : List ℤ) (a : BoxAnswer) (t' : List ℤ) → NodeBoxes text nodes numbers t a t' → a.number ≡ 0 → (x : Tree depth_limit) → tree_of text nodes numbers ≡ some x → Kept x numbers nodes t t'
kept text nodes numbers t a t' f z x is = go a t' z (boxes_answer text nodes numbers t a t' f)
  where
    go : (a : BoxAnswer) (t' : List ℤ) → a.number ≡ 0 → BoxesOutcome text nodes numbers t a t' → Kept x numbers nodes t t'
    go _ _ z (no_store w) = absurd (omega (arith, z))
    go _ _ z (too_few w h) = absurd (omega (arith, z))
    go _ _ z (at_fault y number place e room g) = absurd (no_other (of_fault g.fault) 0 (omega arith) z)
    go _ _ z (boxed y e room k) =
        let same = one_tree text nodes numbers t y x e is in
        let n = as_many depth_limit x ∙ node_count_law text nodes numbers x is in
        record {
          table = ap (λ v. padded (flat_map five_of (boxes depth_limit v)) (length t)) same;
          fits = omega (arith, n, room);
          count = n;
          placed = clean_placed (coords depth_limit x) (tree_numeric depth_limit x (store_tree text nodes numbers x is).good) (subst (λ v. All CleanCoord (coords depth_limit v)) same k);
        }

module _ (text nodes numbers : List ℕ) (t : List ℤ) (a : BoxAnswer) (t' : List ℤ) (call : NodeBoxes text nodes numbers t a t') (z : a.number ≡ 0) (x : Tree depth_limit) (is : tree_of text nodes numbers ≡ some x) where
  its : Kept x numbers nodes t t'
  its = kept text nodes numbers t a t' call z x is

  its_row : (i : ℕ) → row_at t' i ≡ get_or (boxes depth_limit x) i no_box
  its_row i = ap (λ l. row_at l i) its.table ∙ row_at_law (boxes depth_limit x) (length t) its.fits i

  row_is : (i : ℕ) → row_at t' i ≡ box_around (get_or (each_coords depth_limit x) i [])
  row_is i = its_row i ∙ box_at depth_limit x i

  holds : (i : ℕ) → HoldsEach (get_or (each_coords depth_limit x) i []) (row_at t' i)
  holds i = subst (HoldsEach (get_or (each_coords depth_limit x) i [])) (sym (row_is i)) (box_holds (get_or (each_coords depth_limit x) i []) (λ c m. all_mem Placed (coords depth_limit x) its.placed c (coords_at depth_limit x i c m)))

  near : (i : ℕ) → NearEach (get_or (each_coords depth_limit x) i []) (row_at t' i)
  near i = subst (NearEach (get_or (each_coords depth_limit x) i [])) (sym (row_is i)) (box_near (get_or (each_coords depth_limit x) i []) (λ c m. all_mem Placed (coords depth_limit x) its.placed c (coords_at depth_limit x i c m)))

  inside : All (InParent (row_at t')) (walk_root x)
  inside = in_rows (λ i. get_or (boxes depth_limit x) i no_box) (row_at t') (λ i. sym (its_row i)) (walk_root x) (in_parents depth_limit x)

  nothing_or_one : (i : ℕ) → (get_or (each_coords depth_limit x) i [] ≡ [] → row_at t' i ≡ no_box) × ((get_or (each_coords depth_limit x) i [] ≡ [] → ⊥) → (row_at t' i).first ≡ pos 1)
  nothing_or_one i = ((λ e. row_is i ∙ ap box_around e ∙ box_none), λ h. ap (λ (r : BoxRow). r.first) (row_is i) ∙ some_one (get_or (each_coords depth_limit x) i []) h)
    where
      some_one : (cs : List Coord) → (cs ≡ [] → ⊥) → (box_around cs).first ≡ pos 1
      some_one [] h = absurd (h refl)
      some_one (c ∷ cs) h = box_some c cs

-- "so the box holds the shape"
pub boxes_hold : BoxesHold
boxes_hold = holds

-- "and is less than one unit too wide on each side"
pub boxes_near : BoxesNear
boxes_near = near

pub child_in_parent : ChildInParent
child_in_parent = inside

-- "all 0 without coordinates"
pub no_coordinates_zeros : NoCoordinatesZeros
no_coordinates_zeros = nothing_or_one

-- ---- what is left in the table
pub boxes_leave : BoxesLeave
boxes_leave text nodes numbers t a t' f = go a t' (boxes_answer text nodes numbers t a t' f)
  where
    after : (a : BoxAnswer) → (a.number ≡ 0 → ⊥) → LeftOver nodes t a (zeros (length t))
    after a h = record { as_long = zeros_long (length t); refused = λ k. refl; unused = λ k. absurd (h k) }

    go : (a : BoxAnswer) (t' : List ℤ) → BoxesOutcome text nodes numbers t a t' → LeftOver nodes t a t'
    go _ _ (no_store w) = after (box_answer ill_formed_store 0) (λ e. omega (arith, e))
    go _ _ (too_few w h) = after (box_answer no_room 0) (λ e. omega (arith, e))
    go _ _ (at_fault x number place e room g) = after (box_answer number place) (λ e. no_other (of_fault g.fault) 0 (omega arith) e)
    go _ _ (boxed x e room k) =
        let n : length (boxes depth_limit x) ≡ node_room nodes = as_many depth_limit x ∙ node_count_law text nodes numbers x e in
        let fits : length (boxes depth_limit x) * box_width ≤ length t = omega (arith, n, room) in
        record {
          as_long = padded_long (boxes depth_limit x) (length t) fits;
          refused = λ h. absurd (h refl);
          unused = λ h. subst (λ m. drop (m * box_width) (padded (flat_map five_of (boxes depth_limit x)) (length t)) ≡ zeros (length t - m * box_width)) n (padded_rest (boxes depth_limit x) (length t) fits);
        }

-- ---- equal decimals spelt otherwise give the same box
pub same_box : SameBox
same_box text nodes numbers t a t' call z x is text₁ nodes₁ numbers₁ t₁ a₁ t₁' call₁ z₁ x₁ is₁ i h =
    row_is text nodes numbers t a t' call z x is i
    ∙ box_same (get_or (each_coords depth_limit x) i []) (get_or (each_coords depth_limit x₁) i []) h
    ∙ sym (row_is text₁ nodes₁ numbers₁ t₁ a₁ t₁' call₁ z₁ x₁ is₁ i)
