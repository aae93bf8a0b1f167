-- A table as rows and what lies behind them: a row is put and read by its place among the rows, and a node's row is opened, widened and closed there.
-- Assumes nothing.
use mathlib.Core.Path.{◌≡◌, refl, ap, ap₂, sym, ◌∙◌}
use mathlib.Core.Bool.{Bool, true, false, cond}
use mathlib.Core.List.{List, [], ◌∷◌, ◌++◌, append_assoc}
use Prim.Native.Nat.{ℕ, suc, ◌+◌, ◌*◌, ◌≤◌, ◌<◌}
use native.Mathlib.Omega.{arith}
use borrow.Author.Tests.{lt-ltb, le-ltb, ltb-true, ltb-false}
use lib.Dec.{ltb}
use lib.IntN.{ℤ, pos, nat_abs}
use lib.Signed.{non_neg}
use lib.ListN.{length, get_or, drop, length-append}
use lib.Seq.{sets}
use Rattle.bounds.specs.declared.Bounds.{Bounds}
use Rattle.bounds.specs.Bounds.{BoxRow, box, box_row, merge, nothing, box_width, box_room, five, five_of, done_row, put_five, box_cell, first_at, bounds_at, opened, widened, widened_above, settled, closed}

-- rows, and what lies behind them
abbrev pub over : List BoxRow → List ℤ → List ℤ
over [] t = t
over (r ∷ rs) t = r.first ∷ r.bounds.left ∷ r.bounds.right ∷ r.bounds.bottom ∷ r.bounds.top ∷ over rs t

pub over_append : (xs ys : List BoxRow) (t : List ℤ) → over (xs ++ ys) t ≡ over xs (over ys t)
over_append [] ys t = refl
over_append (x ∷ xs) ys t = rw (over_append xs ys t)

-- ---- one row more in front
module _ (r : BoxRow) (t : List ℤ) where
  deeper : (i : ℕ) → suc i * box_width ≡ suc (suc (suc (suc (suc (i * box_width)))))
  deeper i = omega arith

  inside : (i : ℕ) → ltb i (box_room t) ≡ true → ltb (suc i) (box_room (over (r ∷ []) t)) ≡ true
  inside i e = let h = ltb-true i (box_room t) e in lt-ltb (suc i) (box_room (over (r ∷ []) t)) (omega (arith, h))

  outside : (i : ℕ) → ltb i (box_room t) ≡ false → ltb (suc i) (box_room (over (r ∷ []) t)) ≡ false
  outside i e = let h = ltb-false i (box_room t) e in le-ltb (suc i) (box_room (over (r ∷ []) t)) (omega (arith, h))

  put_deeper : (i : ℕ) (s : BoxRow) → put_five (over (r ∷ []) t) (suc i) (five_of s) ≡ over (r ∷ []) (put_five t i (five_of s))
  unfolding put_five
  put_deeper i s = go (ltb i (box_room t)) refl
    where
      go : (b : Bool) → ltb i (box_room t) ≡ b → put_five (over (r ∷ []) t) (suc i) (five_of s) ≡ over (r ∷ []) (cond b (sets t (i * box_width) (five_of s)) t)
      go true e = rw (inside i e, deeper i)
      go false e = rw (outside i e)

  cell_deeper : (i c : ℕ) → box_cell (over (r ∷ []) t) (suc i) c ≡ box_cell t i c
  unfolding box_cell
  cell_deeper i c = go (ltb i (box_room t)) refl
    where
      place : suc i * box_width + c ≡ suc (suc (suc (suc (suc (i * box_width + c)))))
      place = omega arith

      go : (b : Bool) → ltb i (box_room t) ≡ b → box_cell (over (r ∷ []) t) (suc i) c ≡ cond b (get_or t (i * box_width + c) (pos 0)) (pos 0)
      go true e = rw (inside i e, place)
      go false e = rw (outside i e)

  here : ltb 0 (box_room (over (r ∷ []) t)) ≡ true
  here = lt-ltb 0 (box_room (over (r ∷ []) t)) (omega arith)

  put_here : (s : BoxRow) → put_five (over (r ∷ []) t) 0 (five_of s) ≡ over (s ∷ []) t
  unfolding put_five
  put_here s = rw here

  first_here : first_at (over (r ∷ []) t) 0 ≡ r.first
  unfolding box_cell
  first_here = rw here

  bounds_here : bounds_at (over (r ∷ []) t) 0 ≡ r.bounds
  unfolding box_cell
  bounds_here = rw here

-- ---- a row behind others
pub put_at : (xs : List BoxRow) (r s : BoxRow) (ys : List BoxRow) (t : List ℤ) → put_five (over (xs ++ (r ∷ ys)) t) (length xs) (five_of s) ≡ over (xs ++ (s ∷ ys)) t
put_at [] r s ys t = put_here r (over ys t) s
put_at (x ∷ xs) r s ys t = put_deeper x (over (xs ++ (r ∷ ys)) t) (length xs) s ∙ ap (over (x ∷ [])) (put_at xs r s ys t)

pub first_of : (xs : List BoxRow) (r : BoxRow) (ys : List BoxRow) (t : List ℤ) → first_at (over (xs ++ (r ∷ ys)) t) (length xs) ≡ r.first
first_of [] r ys t = first_here r (over ys t)
first_of (x ∷ xs) r ys t = cell_deeper x (over (xs ++ (r ∷ ys)) t) (length xs) 0 ∙ first_of xs r ys t

pub bounds_of : (xs : List BoxRow) (r : BoxRow) (ys : List BoxRow) (t : List ℤ) → bounds_at (over (xs ++ (r ∷ ys)) t) (length xs) ≡ r.bounds
bounds_of [] r ys t = bounds_here r (over ys t)
bounds_of (x ∷ xs) r ys t =
    let u : List ℤ = over (xs ++ (r ∷ ys)) t in
    rw (cell_deeper x u (length xs) 1, cell_deeper x u (length xs) 2, cell_deeper x u (length xs) 3, cell_deeper x u (length xs) 4) (bounds_of xs r ys t)

-- ---- a row is widened
abbrev pub wider : BoxRow → Bounds → BoxRow
wider r b = box_row r.first (merge r.bounds b)

pub widen_at : (xs : List BoxRow) (r : BoxRow) (ys : List BoxRow) (t : List ℤ) (b : Bounds) → widened (over (xs ++ (r ∷ ys)) t) (length xs) b ≡ over (xs ++ (wider r b ∷ ys)) t
unfolding widened
widen_at xs r ys t b =
    ap₂ (λ f c. put_five (over (xs ++ (r ∷ ys)) t) (length xs) (five f (merge c b))) (first_of xs r ys t) (bounds_of xs r ys t)
    ∙ put_at xs r (wider r b) ys t

-- ---- the first row behind all: any five numbers are a row
pub data Fronted : List ℤ → Type 0 where
  fronted : (r : BoxRow) (t : List ℤ) → Fronted (over (r ∷ []) t)

pub front_row_law : (t : List ℤ) → box_width ≤ length t → Fronted t
front_row_law [] h = absurd (omega arith)
front_row_law (a ∷ []) h = absurd (omega arith)
front_row_law (a ∷ b ∷ []) h = absurd (omega arith)
front_row_law (a ∷ b ∷ c ∷ []) h = absurd (omega arith)
front_row_law (a ∷ b ∷ c ∷ d ∷ []) h = absurd (omega arith)
front_row_law (a ∷ b ∷ c ∷ d ∷ e ∷ t) h = fronted (box_row a (box b c d e)) t

pub room_over : (xs : List BoxRow) (t : List ℤ) → box_room (over xs t) ≡ length xs + box_room t
room_over [] t = omega arith
room_over (x ∷ xs) t = let ih = room_over xs t in omega (arith, ih)

pub length_over : (xs : List BoxRow) (t : List ℤ) → length (over xs t) ≡ length xs * box_width + length t
length_over [] t = omega arith
length_over (x ∷ xs) t = let ih = length_over xs t in omega (arith, ih)

-- a node is opened behind the rows
pub open_at : (xs : List BoxRow) (t : List ℤ) (p : ℕ) → box_width ≤ length t → p ≤ length xs → opened (over xs t) (length xs) p ≡ over (xs ++ (box_row (pos p) nothing ∷ [])) (drop box_width t)
unfolding opened
open_at xs t p h below = go t (front_row_law t h) h
  where
    go : (t : List ℤ) → Fronted t → box_width ≤ length t → opened (over xs t) (length xs) p ≡ over (xs ++ (box_row (pos p) nothing ∷ [])) (drop box_width t)
    go u (fronted r t) h =
        let room : p < box_room (over xs (over (r ∷ []) t)) = let e = room_over xs (over (r ∷ []) t) in omega (arith, e) in
        rw (lt-ltb p (box_room (over xs (over (r ∷ []) t))) room)
        (ap (λ u. put_five u (length xs) (five (pos p) nothing)) (sym (over_append xs (r ∷ []) t)) ∙ put_at xs r (box_row (pos p) nothing) [] t)

-- ---- the rows before a node's, of which that of its parent is widened when it ends; the root's node has none before it
pub record Above (p : ℕ) (before : List BoxRow) (after : Bounds → List BoxRow) : Type 0 where
  pub same : (b : Bounds) → length (after b) ≡ length before
  pub below : p ≤ length before
  pub wide : (behind : List BoxRow) (t : List ℤ) (b : Bounds) → widened_above (over (before ++ behind) t) (length before) p b ≡ over (after b ++ behind) t

pub above_root : Above 0 [] (λ b. [])
above_root = record { same = λ b. refl; below = omega arith; wide = λ behind t b. refl }

pub above_row : (xs : List BoxRow) (r : BoxRow) (ys : List BoxRow) → Above (length xs) (xs ++ (r ∷ ys)) (λ b. xs ++ (wider r b ∷ ys))
above_row xs r ys = record {
  same = λ b. simp length-append;
  below = simp length-append (omega arith);
  wide = λ behind t b.
      let l : length xs < length (xs ++ (r ∷ ys)) = simp length-append (omega arith) in
      rw (lt-ltb (length xs) (length (xs ++ (r ∷ ys))) l, append_assoc xs (r ∷ ys) behind, append_assoc xs (wider r b ∷ ys) behind) (widen_at xs r (ys ++ behind) t b);
}

-- a node's row is closed
pub close_at : {p : ℕ} {before : List BoxRow} {after : Bounds → List BoxRow} → Above p before after → (b : Bounds) (behind : List BoxRow) (t : List ℤ)
    → closed (over (before ++ (box_row (pos p) b ∷ behind)) t) (length before) ≡ over (after b ++ (done_row b ∷ behind)) t
unfolding closed
close_at {p} {before} {after} a b behind t =
    let u : List ℤ = over (before ++ (box_row (pos p) b ∷ behind)) t in
    ap₂ (λ f c. cond (non_neg f) (settled u (length before) (nat_abs f) c) u) (first_of before (box_row (pos p) b) behind t) (bounds_of before (box_row (pos p) b) behind t)
    ∙ ap (λ v. put_five v (length before) (five_of (done_row b))) (a.wide (box_row (pos p) b ∷ behind) t b)
    ∙ ap (λ n. put_five (over (after b ++ (box_row (pos p) b ∷ behind)) t) n (five_of (done_row b))) (sym (a.same b))
    ∙ put_at (after b) (box_row (pos p) b) (done_row b) behind t

-- a node that has ended as soon as it was met: its row is put behind the others
pub settle_at : {p : ℕ} {before : List BoxRow} {after : Bounds → List BoxRow} → Above p before after → (b : Bounds) (t : List ℤ) → box_width ≤ length t
    → settled (over before t) (length before) p b ≡ over (after b ++ (done_row b ∷ [])) (drop box_width t)
settle_at {p} {before} {after} a b t h = go t (front_row_law t h)
  where
    go : (t : List ℤ) → Fronted t → settled (over before t) (length before) p b ≡ over (after b ++ (done_row b ∷ [])) (drop box_width t)
    go u (fronted r t) =
        ap (λ v. settled v (length before) p b) (sym (over_append before (r ∷ []) t))
        ∙ ap (λ v. put_five v (length before) (five_of (done_row b))) (a.wide (r ∷ []) t b)
        ∙ ap (λ n. put_five (over (after b ++ (r ∷ [])) t) n (five_of (done_row b))) (sym (a.same b))
        ∙ put_at (after b) r (done_row b) [] t
