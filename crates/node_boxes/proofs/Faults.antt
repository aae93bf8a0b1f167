-- The first offence of coordinates is that of the first of them whose X or Y offends; and where none offends, each has its sides.
-- Assumes nothing.
use mathlib.Core.Path.{◌≡◌, refl, ap, sym, ◌∙◌, subst}
use mathlib.Core.Bool.{Bool, true, false, cond}
use mathlib.Core.Logic.{⊎_elim}
use mathlib.Core.List.Memᴰ
use mathlib.Core.List.{List, [], ◌∷◌, ◌++◌, flat_map, append-nil, Memᴰ}
use Prim.Native.Nat.{ℕ, ◌+◌, ◌≤◌}
use native.Mathlib.Omega.{arith}
use borrow.Author.Tests.{ne_eqb}
use lib.ListN.{length, length-append}
use Rattle.lists.specs.Lists.{All}
use Rattle.scan.specs.Bytes.{is_sign}
use Rattle.scan.specs.Front.{after_one}
use Rattle.number.specs.Lexeme.{is_named, is_lexeme}
use Rattle.store.specs.Rows.{span_start_at}
use Rattle.tree.specs.Tree.{Coord, Tree, Lexeme, coord_texts, GoodTree}
use Rattle.std.specs.Prelude.{Ok, Err}
use Rattle.rounding.specs.declared.NoSides.TheVariants.{Named, Beyond, NoNumber}
use Rattle.rounding.specs.Rounding.{sides}
use Rattle.decimal.specs.Decimal.{written}
use Rattle.decimal.specs.Units.{low, high, is_far, is_large}
use Rattle.decimal.specs.Reckon.{sides_of, reckoned}
use Rattle.decimal.specs.Spellings.{is_sides}
use Rattle.bounds.specs.declared.BoxAnswer.{BoxAnswer}
use Rattle.bounds.specs.Bounds.{box_answer}
use Rattle.node_boxes.specs.Boxes.{x_text, y_text, offence_of, fine, offence_at, or_first, first_offence, coords}
use Rattle.node_boxes.specs.Holds.{Placed}
use Rattle.node_boxes.specs.Faults.{Offence, not_finite, too_far, too_large, Clean, AtFault, in_x, in_y, CleanCoord, FirstAtFault}
use Rattle.node_boxes.proofs.Tallies.{coords_texts, wide_coords}

-- ---- one number's text
data Told (l : List ℕ) : ℕ → Type 0 where
  clean : Clean l → is_sides (reckoned l) ≡ true → Told l 0
  offends : {number : ℕ} → Offence l number → (number ≡ 0 → ⊥) → Told l number

told : (l : List ℕ) → Lexeme l → Told l (offence_of (reckoned l))
unfolding reckoned sides_of
told l e = rw e (go (is_named (after_one is_sign l)) refl (is_far (written l)) refl (is_large (written l)) refl)
  where
    go : (b : Bool) → is_named (after_one is_sign l) ≡ b → (c : Bool) → is_far (written l) ≡ c → (d : Bool) → is_large (written l) ≡ d → Told l (offence_of (cond b (Err Named) (cond c (Err Beyond) (cond d (Err Beyond) (Ok (sides (low (written l)) (high (written l))))))))
    go true x c y d z = offends (not_finite x) (λ n. omega (arith, n))
    go false x true y d z = offends (too_far x y) (λ n. omega (arith, n))
    go false x false y true z = offends (too_large x y z) (λ n. omega (arith, n))
    go false x false y false z = clean (record { no_word = x; near = y; small = z }) (rw (e, x, y, z))

-- the other way
pub clean_number : (l : List ℕ) → Clean l → offence_of (reckoned l) ≡ 0
unfolding reckoned sides_of
clean_number l c = go (is_lexeme l)
  where
    go : (b : Bool) → offence_of (cond b (cond (is_named (after_one is_sign l)) (Err Named) (cond (is_far (written l)) (Err Beyond) (cond (is_large (written l)) (Err Beyond) (Ok (sides (low (written l)) (high (written l))))))) (Err NoNumber)) ≡ 0
    go true = rw (c.no_word, c.near, c.small)
    go false = refl

pub offence_number : (l : List ℕ) → Lexeme l → (number : ℕ) → Offence l number → offence_of (reckoned l) ≡ number
unfolding reckoned sides_of
offence_number l e _ (not_finite x) = rw (e, x)
offence_number l e _ (too_far x y) = rw (e, x, y)
offence_number l e _ (too_large x y z) = rw (e, x, y, z)

pub offence_some : {l : List ℕ} {number : ℕ} → Offence l number → (number ≡ 0 → ⊥)
offence_some (not_finite x) n = omega (arith, n)
offence_some (too_far x y) n = omega (arith, n)
offence_some (too_large x y z) n = omega (arith, n)

-- ---- coordinates whose X and Y are numbers' texts
pub record Numeric (c : Coord) : Type 0 where
  pub x : Lexeme (x_text c)
  pub y : Lexeme (y_text c)

all_part : (c : Coord) (ts : List (List ℕ)) → 2 ≤ length c → All Lexeme (c ++ ts) → Numeric c × All Lexeme ts
unfolding All
all_part [] ts h a = absurd (omega arith)
all_part (x ∷ []) ts h a = absurd (omega arith)
all_part (x ∷ y ∷ c) ts h a = (record { x = a.0; y = a.1.0 }, behind c a.1.1)
  where
    behind : (c : Coord) → All Lexeme (c ++ ts) → All Lexeme ts
    behind [] a = a
    behind (z ∷ c) a = behind c a.1

all_numeric : (cs : List Coord) → All (λ (c : Coord). 2 ≤ length c) cs → All Lexeme (flat_map coord_texts cs) → All Numeric cs
unfolding All flat_map
all_numeric [] h a = tt
all_numeric (c ∷ cs) h a = let p = all_part c (flat_map coord_texts cs) h.0 a in (p.0, all_numeric cs h.1 p.1)

pub tree_numeric : (d : ℕ) (t : Tree d) → GoodTree d t → All Numeric (coords d t)
tree_numeric d t g = all_numeric (coords d t) (wide_coords d t g.shape) (rw (coords_texts d t) g.lexemes)

-- ---- the first offence
pub data Offended (numbers : List ℕ) (j : ℕ) (cs : List Coord) : BoxAnswer → Type 0 where
  none : All CleanCoord cs → All Placed cs → Offended numbers j cs fine
  first : {number place : ℕ} (before : List Coord) (one : Coord) (after : List Coord) → cs ≡ before ++ one ∷ after → All CleanCoord before → AtFault numbers (j + length (flat_map coord_texts before)) one number place → (number ≡ 0 → ⊥) → Offended numbers j cs (box_answer number place)

module _ (numbers : List ℕ) where
  offended : (j : ℕ) (cs : List Coord) → All Numeric cs → Offended numbers j cs (first_offence numbers j cs)
  unfolding All first_offence flat_map
  offended j [] h = none tt tt
  offended j (c ∷ cs) h = in_first (offence_of (reckoned (x_text c))) (told (x_text c) h.0.x) (offence_of (reckoned (y_text c))) (told (y_text c) h.0.y) (first_offence numbers (j + length c) cs) (offended (j + length c) cs h.1)
    where
      z : j + 0 ≡ j
      z = omega arith

      -- it stands behind one more coordinate
      behind : CleanCoord c → Placed c → (a : BoxAnswer) → Offended numbers (j + length c) cs a → Offended numbers j (c ∷ cs) a
      behind k p _ (none ks ps) = none (k, ks) (p, ps)
      behind k p _ (first {number} {place} before one after e ks f n) =
          let l : j + length c + length (flat_map coord_texts before) ≡ j + length (c ++ flat_map coord_texts before) = simp length-append (omega arith) in
          first (c ∷ before) one after (ap (λ r. c ∷ r) e) (k, ks) (subst (λ m. AtFault numbers m one number place) l f) n

      in_first : (n : ℕ) → Told (x_text c) n → (m : ℕ) → Told (y_text c) m → (a : BoxAnswer) → Offended numbers (j + length c) cs a → Offended numbers j (c ∷ cs) (or_first (offence_at numbers j n) (or_first (offence_at numbers (j + 1) m) a))
      in_first n (offends o k) m y a r = rw (ne_eqb n 0 k, ne_eqb n 0 k) (first [] c cs refl tt (subst (λ i. AtFault numbers i c n (span_start_at numbers j)) (sym z) (in_x o)) k)
      in_first _ (clean k p) m (offends o q) a r = rw (ne_eqb m 0 q, ne_eqb m 0 q) (first [] c cs refl tt (subst (λ i. AtFault numbers i c m (span_start_at numbers (j + 1))) (sym z) (in_y k o)) q)
      in_first _ (clean k p) _ (clean l q) a r = behind (record { x = k; y = l }) (record { x = p; y = q }) a r

  -- the other way: behind coordinates that are clean
  skips : (j : ℕ) (before rest : List Coord) → All CleanCoord before → first_offence numbers j (before ++ rest) ≡ first_offence numbers (j + length (flat_map coord_texts before)) rest
  unfolding All first_offence flat_map
  skips j [] rest h = let z : j + 0 ≡ j = omega arith in ap (λ i. first_offence numbers i rest) (sym z)
  skips j (c ∷ before) rest h =
      let l : j + length c + length (flat_map coord_texts before) ≡ j + length (c ++ flat_map coord_texts before) = simp length-append (omega arith) in
      rw (clean_number (x_text c) h.0.x, clean_number (y_text c) h.0.y) (skips (j + length c) before rest h.1 ∙ ap (λ i. first_offence numbers i rest) l)

  stops : (j : ℕ) (c : Coord) (cs : List Coord) → Numeric c → (number place : ℕ) → AtFault numbers j c number place → first_offence numbers j (c ∷ cs) ≡ box_answer number place
  unfolding first_offence
  stops j c cs h number _ (in_x o) = rw (offence_number (x_text c) h.x number o, ne_eqb number 0 (offence_some o), ne_eqb number 0 (offence_some o))
  stops j c cs h number _ (in_y k o) = rw (clean_number (x_text c) k, offence_number (y_text c) h.y number o, ne_eqb number 0 (offence_some o), ne_eqb number 0 (offence_some o))

  numeric_at : (before : List Coord) (c : Coord) (after : List Coord) → All Numeric (before ++ c ∷ after) → Numeric c
  unfolding All
  numeric_at [] c after h = h.0
  numeric_at (b ∷ before) c after h = numeric_at before c after h.1

  pub fault_first : (cs : List Coord) → All Numeric cs → (number place : ℕ) → FirstAtFault numbers cs number place → first_offence numbers 0 cs ≡ box_answer number place
  fault_first cs h number place f =
      let z : 0 + length (flat_map coord_texts f.before) ≡ length (flat_map coord_texts f.before) = omega arith in
      ap (first_offence numbers 0) f.is
      ∙ skips 0 f.before (f.one ∷ f.after) f.clean
      ∙ ap (λ i. first_offence numbers i (f.one ∷ f.after)) z
      ∙ stops (length (flat_map coord_texts f.before)) f.one f.after (numeric_at f.before f.one f.after (subst (All Numeric) f.is h)) number place f.fault

  pub clean_none : (cs : List Coord) → All CleanCoord cs → first_offence numbers 0 cs ≡ fine
  unfolding first_offence
  clean_none cs h = ap (first_offence numbers 0) (sym (append-nil cs)) ∙ skips 0 cs [] h

  -- ---- what the first offence of a tree's coordinates says
  pub data Says (cs : List Coord) : BoxAnswer → Type 0 where
    no_fault : All CleanCoord cs → All Placed cs → Says cs fine
    a_fault : {number place : ℕ} → FirstAtFault numbers cs number place → (number ≡ 0 → ⊥) → Says cs (box_answer number place)

  pub says : (cs : List Coord) → All Numeric cs → Says cs (first_offence numbers 0 cs)
  says cs h = go (first_offence numbers 0 cs) (offended 0 cs h)
    where
      go : (a : BoxAnswer) → Offended numbers 0 cs a → Says cs a
      go _ (none k p) = no_fault k p
      go _ (first {number} {place} before one after e k f n) =
          let z : 0 + length (flat_map coord_texts before) ≡ length (flat_map coord_texts before) = omega arith in
          a_fault (record { before = before; one = one; after = after; is = e; clean = k; fault = subst (λ i. AtFault numbers i one number place) z f }) n

-- of each of the coordinates
pub all_mem : {A : Type 0} (Q : A → Type 0) (l : List A) → All Q l → (a : A) → Memᴰ a l → Q a
unfolding All
all_mem Q [] h a m = absurd (Memᴰ.not-nil m)
all_mem Q (b ∷ l) h a m = ⊎_elim (λ e. subst Q (sym e) h.0) (λ n. all_mem Q l h.1 a n) (Memᴰ.cases_cons m)

clean_sides : (l : List ℕ) → Lexeme l → Clean l → is_sides (reckoned l) ≡ true
unfolding reckoned sides_of
clean_sides l e c = rw (e, c.no_word, c.near, c.small)

pub clean_placed : (cs : List Coord) → All Numeric cs → All CleanCoord cs → All Placed cs
unfolding All
clean_placed [] h k = tt
clean_placed (c ∷ cs) h k = (record { x = clean_sides (x_text c) h.0.x k.0.x; y = clean_sides (y_text c) h.0.y k.0.y }, clean_placed cs h.1 k.1)
