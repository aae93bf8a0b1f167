-- The laws of the loops: over X and Y of a coordinate, what was made of them; over a node's coordinates, what is still to be made of them is what was to be made; over a walk, what was made of the things met so far
-- is what is to be made of them.
-- Assumes nothing.
use mathlib.Core.Path.{◌≡◌, refl, ap, ap₂, sym, ◌∙◌, subst}
use mathlib.Core.Bool.{Bool, true, cond, ◌&&◌}
use mathlib.Core.Option.{Option, none, some}
use mathlib.Core.List.{List, [], ◌∷◌, ◌++◌}
use Prim.Native.Nat.{ℕ, ◌+◌, ◌-◌, ◌*◌, ◌≤◌, ◌<◌}
use native.Mathlib.Omega.{arith}
use borrow.Author.Tests.{lt-leb}
use lib.IntN.{ℤ}
use lib.ListN.{length}
use Rattle.kinds.specs.Kinds.{kind_line_string, width}
use Rattle.kinds.proofs.Widths.{width_some}
use Rattle.store.specs.Rows.{number_room}
use Rattle.nodes.specs.declared.Visit.{Visit}
use Rattle.nodes.specs.declared.Met.{Met}
use Rattle.nodes.specs.declared.Met.TheVariants.{Node, End}
use Rattle.walk.specs.Walk.{CoordinatesIn}
use Rattle.refusals.specs.Refusals.{ill_formed_store}
use Rattle.rounding.specs.Rounding.{Reckoned}
use Rattle.bounds.specs.declared.BoxAnswer.{BoxAnswer}
use Rattle.bounds.specs.declared.Bounds.{Bounds}
use Rattle.bounds.specs.Bounds.{opened, settled, closed, box_answer}
use Rattle.node_boxes.specs.declared.Seen.{Seen}
use Rattle.node_boxes.specs.Boxes.{fine, or_first}
use Rattle.node_boxes.specs.Turns.{reckoned_at, offence_in, seen_next, seen_up_to, seen_one, seen_on, axis_next, sided_up_to, around_on, own, own_box, ended_leaf, entered, good_by, offence_by, table_by, verdict, FilledBy}
use Rattle.node_boxes.proofs.Numbers.{seen_on_law, around_on_law, seen_end, around_end, one_more, seen_next_law, sided_next}
use Rattle.node_boxes.proofs.Offences.{good_node, good_end, offence_node, offence_end, table_node, table_end}

-- ---- X and Y of a coordinate
pub record Axes (text numbers : List ℕ) (at : ℕ) (s₀ : Seen) (b₀ : Bounds) (s : Seen) (axis : ℕ) (b : Bounds) : Type 0 where
  pub seen_so : s ≡ seen_up_to text numbers at axis s₀
  pub sided_so : b ≡ sided_up_to text numbers at axis b₀
  pub inside : axis ≤ 2

pub axes_start : (text numbers : List ℕ) (at : ℕ) (s : Seen) (b : Bounds) → Axes text numbers at s b s 0 b
unfolding seen_up_to sided_up_to
axes_start text numbers at s b = record { seen_so = refl; sided_so = refl; inside = omega arith }

module _ {text numbers : List ℕ} {at : ℕ} {s₀ : Seen} {b₀ : Bounds} {s : Seen} {axis : ℕ} {b : Bounds} (l : Axes text numbers at s₀ b₀ s axis b) where
  -- one more, by what it comes to
  pub axes_on : {x : Reckoned} {s' : Seen} {b' : Bounds} → x ≡ reckoned_at text numbers (at + axis) → s' ≡ seen_next numbers (at + axis) x s → b' ≡ axis_next axis x b → axis < 2 → Axes text numbers at s₀ b₀ s' (axis + 1) b'
  axes_on {x} is seen_on_law sided-on h =
      record {
        seen_so = seen_next_law text numbers at axis s₀ (seen_on_law ∙ ap₂ (seen_next numbers (at + axis)) is l.seen_so);
        sided_so = sided_next text numbers at axis b₀ (sided-on ∙ ap₂ (axis_next axis) is l.sided_so);
        inside = omega arith;
      }

  pub axes_end : 2 ≤ axis → (s ≡ seen_up_to text numbers at 2 s₀) × (b ≡ sided_up_to text numbers at 2 b₀)
  axes_end h = let z : axis ≡ 2 = omega (arith, l.inside) in (l.seen_so ∙ ap (λ n. seen_up_to text numbers at n s₀) z, l.sided_so ∙ ap (λ n. sided_up_to text numbers at n b₀) z)

-- ---- coordinates
pub record Looking (text numbers : List ℕ) (w : ℕ) (s₀ : Seen) (at₀ n₀ : ℕ) (b₀ : Bounds) (s : Seen) (at n : ℕ) (b : Bounds) : Type 0 where
  pub same_seen : seen_on text numbers w at n s ≡ seen_on text numbers w at₀ n₀ s₀
  pub same_around : around_on text numbers w at n b ≡ around_on text numbers w at₀ n₀ b₀
  pub within : at + n * w ≤ number_room numbers
  pub wide : 2 ≤ w

pub looking_start : (text numbers : List ℕ) (s : Seen) (v : Visit) (b : Bounds) {w : ℕ} → w ≡ width v.dimension → CoordinatesIn (number_room numbers) v → Looking text numbers w s v.number v.parts b s v.number v.parts b
looking_start text numbers s v b is h = record { same_seen = refl; same_around = refl; within = rw is h; wide = rw is (width_some v.dimension) }

module _ {text numbers : List ℕ} {w : ℕ} {s₀ : Seen} {at₀ n₀ : ℕ} {b₀ : Bounds} {s : Seen} {at n : ℕ} {b : Bounds} (l : Looking text numbers w s₀ at₀ n₀ b₀ s at n b) where
  pub looking_fits : 0 < n → at + w ≤ number_room numbers
  looking_fits h = let z = one_more n w h in omega (arith, z, l.within)

  pub looking_both : 0 < n → at + 2 ≤ number_room numbers
  looking_both h = let z = looking_fits h in omega (arith, z, l.wide)

  pub looking_on : 0 < n → {s' : Seen} {b' : Bounds} → s' ≡ seen_one text numbers w at s → b' ≡ sided_up_to text numbers at 2 b → Looking text numbers w s₀ at₀ n₀ b₀ s' (at + w) (n - 1) b'
  looking_on h es eb =
      record {
        same_seen = ap (seen_on text numbers w (at + w) (n - 1)) es ∙ seen_on_law text numbers w at n s h ∙ l.same_seen;
        same_around = ap (around_on text numbers w (at + w) (n - 1)) eb ∙ around_on_law text numbers w at n b h ∙ l.same_around;
        within = let z = one_more n w h in omega (arith, z, l.within);
        wide = l.wide;
      }

  pub looking_seen : n ≤ 0 → s ≡ seen_on text numbers w at₀ n₀ s₀
  looking_seen h = seen_end text numbers w at n s h ∙ l.same_seen

  pub looking_around : n ≤ 0 → b ≡ around_on text numbers w at₀ n₀ b₀
  looking_around h = around_end text numbers w at n b h ∙ l.same_around

-- ---- things met
-- a node that has no coordinates itself
pub entered_other : (text numbers : List ℕ) (v : Visit) (t : List ℤ) {t₁ t₂ : List ℤ} → kind_line_string < v.kind → t₁ ≡ opened t v.row v.parent.row → t₂ ≡ ended_leaf v t₁ → t₂ ≡ entered text numbers v t
unfolding entered
entered_other text numbers v t h e f =
    let open_row : List ℤ = ended_leaf v (opened t v.row v.parent.row) in
    f ∙ ap (ended_leaf v) e ∙ sym (ap (λ b. cond b (settled t v.row v.parent.row (own_box text numbers v)) open_row) (lt-leb v.kind kind_line_string h))

pub record Filling (text numbers : List ℕ) (t₀ : List ℤ) (good : Bool) (found : BoxAnswer) (t : List ℤ) (ms : List Met) : Type 0 where
  pub good_is : good ≡ good_by text numbers true ms
  pub found_is : found ≡ offence_by text numbers fine ms
  pub table_is : t ≡ table_by text numbers t₀ ms
  pub long : length t ≡ length t₀

pub filling_start : (text numbers : List ℕ) (t : List ℤ) → Filling text numbers t true fine t []
unfolding good_by offence_by table_by
filling_start text numbers t = record { good_is = refl; found_is = refl; table_is = refl; long = refl }

module _ (text numbers : List ℕ) {t₀ : List ℤ} {good : Bool} {found : BoxAnswer} {t : List ℤ} (ms : List Met) (f : Filling text numbers t₀ good found t ms) where
  pub filling_node : (v : Visit) {s : Seen} {found' : BoxAnswer} {t' : List ℤ} → s ≡ own text numbers v → found' ≡ or_first found (offence_in s) → t' ≡ entered text numbers v t → length t' ≡ length t →
      Filling text numbers t₀ (good && s.good) found' t' (ms ++ (Node v ∷ []))
  filling_node v is found-on table_on long-on =
      record {
        good_is = ap₂ (λ (a : Bool) (b : Bool). a && b) f.good_is (ap (λ (z : Seen). z.good) is) ∙ sym (good_node text numbers true ms v);
        found_is = found-on ∙ ap₂ (λ (a : BoxAnswer) (b : Seen). or_first a (offence_in b)) f.found_is is ∙ sym (offence_node text numbers fine ms v);
        table_is = table_on ∙ ap (entered text numbers v) f.table_is ∙ sym (table_node text numbers t₀ ms v);
        long = long-on ∙ f.long;
      }

  pub filling_end : (i n : ℕ) {t' : List ℤ} → t' ≡ closed t i → length t' ≡ length t → Filling text numbers t₀ good found t' (ms ++ (End i n ∷ []))
  filling_end i n table_on long-on =
      record {
        good_is = f.good_is ∙ sym (good_end text numbers true ms i n);
        found_is = f.found_is ∙ sym (offence_end text numbers fine ms i n);
        table_is = table_on ∙ ap (λ (l : List ℤ). closed l i) f.table_is ∙ sym (table_end text numbers t₀ ms i n);
        long = long-on ∙ f.long;
      }

  -- all was met
  pub filling_done : {a : BoxAnswer} {o : Option (List Met)} → a ≡ verdict good found → o ≡ some ms → FilledBy text numbers t₀ a t o
  filling_done {a} {o} is e = subst (λ (x : Option (List Met)). FilledBy text numbers t₀ a t x) (sym e) (is ∙ ap₂ verdict f.good_is f.found_is, f.table_is)

pub filling_ill : (text numbers : List ℕ) (t₀ t : List ℤ) {a : BoxAnswer} {o : Option (List Met)} → a ≡ box_answer ill_formed_store 0 → o ≡ none → FilledBy text numbers t₀ a t o
filling_ill text numbers t₀ t {a} is e = subst (λ (x : Option (List Met)). FilledBy text numbers t₀ a t x) (sym e) is
