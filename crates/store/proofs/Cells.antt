-- Laws of rows of any width: one number of a row after a put, and the first rows together.
-- Assumes nothing.
use mathlib.Core.Path.{◌≡◌, refl, sym, ap, ap₂, ◌∙◌}
use mathlib.Core.List.{List, [], ◌∷◌, ◌++◌, append_assoc, append-nil, flat_map}
use Prim.Native.Nat.{ℕ, zero, suc, ◌+◌, ◌*◌, ◌/◌, ◌≤◌, ◌<◌}
use native.Mathlib.Omega.{arith}
use native.Mathlib.Numerals.{add-one}
use native.Mathlib.Nat.{zero-mul, suc-mul, mul_comm, mul-le-mul_left, mul-le-mul_right, mul-div-le}
use native.Mathlib.Decide.{dec_lt}
use borrow.Author.Tests.{lt-ltb, le-ltb, le-leb, lt-leb}
use lib.ListN.{length, get_or, set, take, drop, length-append, length-drop, get_or-append}
use lib.Seq.{sets, length-sets, sets-eq, get_or-set_other, get_or-append-add, length-take-le, take-suc, take-add, get_or-drop}
use Rattle.store.specs.Rows.{places_of, cell, put, firsts}

-- a row that there is room for lies in the slice
pub row_fits : (w : ℕ) (s : List ℕ) (i : ℕ) → i < length s / w → i * w + w ≤ length s
row_fits w s i h =
    let e : i * w + w ≡ w * suc i = sym (suc-mul i w) ∙ mul_comm (suc i) w in
    omega (arith, mul-le-mul_left w h, mul-div-le (length s) w)

-- the places of the first rows: those of as many, or all of them
module _ (w : ℕ) (s : List ℕ) (n : ℕ) where
  pub places_some : n ≤ length s / w → (n * w ≡ places_of w s n) × (n * w ≤ length s)
  unfolding places_of
  places_some h = (rw (le-leb n (length s / w) h), omega (arith, mul-le-mul_right w h, mul_comm (length s / w) w, mul-div-le (length s) w))

  pub places_all : length s / w < n → (length s ≡ places_of w s n) × (length s ≤ length s)
  unfolding places_of
  places_all h = (rw (lt-leb n (length s / w) h), omega arith)

-- the places of another row lie before a row or after it
apart : (w i j c : ℕ) → (j ≡ i → ⊥) → c < w → i * w ≤ j * w + c → i * w + w ≤ j * w + c
apart w i j c o h l = go (dec_lt j i)
  where
    go : Dec (j < i) → i * w + w ≤ j * w + c
    go (yes b) = let e = suc-mul j w in absurd (omega (arith, mul-le-mul_right w b))
    go (no b) =
        let e = suc-mul i w in
        let m : i < j = omega (arith, o) in
        omega (arith, mul-le-mul_right w m)

sets_other : (vs l : List ℕ) (a x : ℕ) → (a ≤ x → a + length vs ≤ x) → get_or (sets l a vs) x 0 ≡ get_or l x 0
sets_other [] l a x o = refl
sets_other (v ∷ vs) l a x o = sets_other vs (set l a v) (suc a) x (λ h. omega (arith, o (omega arith))) ∙ get_or-set_other l a x v 0 (λ z. omega (arith, o (omega arith)))

sets_same : (vs l : List ℕ) (a k : ℕ) → a + length vs ≤ length l → k < length vs → get_or (sets l a vs) (a + k) 0 ≡ get_or vs k 0
sets_same vs l a k h m =
    let t : length (take a l) ≡ a = length-take-le a l (omega arith) in
    let m₂ : a + k < length (take a l ++ vs) = simp length-append (omega arith) in
    ap (λ r. get_or r (a + k) 0) (sets-eq vs l a h) ∙ get_or-append (take a l ++ vs) (drop (a + length vs) l) 0 (a + k) m₂ ∙ ap (λ n. get_or (take a l ++ vs) (n + k) 0) (sym t) ∙ get_or-append-add (take a l) vs k 0

module _ (w : ℕ) (s : List ℕ) (i c : ℕ) where
  pub cell_in : i < length s / w → cell w s i c ≡ get_or s (i * w + c) 0
  unfolding cell
  cell_in h = rw lt-ltb

  pub cell_out : length s / w ≤ i → cell w s i c ≡ 0
  unfolding cell
  cell_out h = rw le-ltb

module _ (w : ℕ) (s : List ℕ) (i c : ℕ) (vs : List ℕ) where
  pub put_in : i < length s / w → put w s i c vs ≡ sets s (i * w + c) vs
  unfolding put
  put_in h = rw lt-ltb

  pub put_out : length s / w ≤ i → put w s i c vs ≡ s
  unfolding put
  put_out h = rw le-ltb

  pub put_length : length (put w s i c vs) ≡ length s
  put_length = go (dec_lt i (length s / w))
    where
      go : Dec (i < length s / w) → length (put w s i c vs) ≡ length s
      go (yes h) = ap length (put_in h) ∙ length-sets s (i * w + c) vs
      go (no h) = ap length (put_out (omega arith))

  -- a number that is not among those put stays
  put_keeps : (j b : ℕ) → (i * w + c ≤ j * w + b → i * w + c + length vs ≤ j * w + b) → cell w (put w s i c vs) j b ≡ cell w s j b
  unfolding cell
  put_keeps j b o = go (dec_lt i (length s / w))
    where
      go : Dec (i < length s / w) → cell w (put w s i c vs) j b ≡ cell w s j b
      go (yes h) = rw (put_length, put_in h, sets_other vs s (i * w + c) (j * w + b) o)
      go (no h) = ap (λ r. cell w r j b) (put_out (omega arith))

  -- the columns before those put stay
  pub put_before : (b : ℕ) → b < c → cell w (put w s i c vs) i b ≡ cell w s i b
  put_before b h = put_keeps i b (λ l. absurd (omega arith))

  module _ (fits : c + length vs ≤ w) where
    pub put_here : i < length s / w → (k : ℕ) → k < length vs → cell w (put w s i c vs) i (c + k) ≡ get_or vs k 0
    put_here h k m =
        let f : i * w + c + length vs ≤ length s = omega (arith, row_fits w s i h) in
        let e : i * w + (c + k) ≡ i * w + c + k = omega arith in
        let h₂ : i < length (put w s i c vs) / w = rw put_length h in
        cell_in w (put w s i c vs) i (c + k) h₂ ∙ rw (e, put_in h) (sets_same vs s (i * w + c) k f m)

    pub put_there : (j : ℕ) → (j ≡ i → ⊥) → (b : ℕ) → b < w → cell w (put w s i c vs) j b ≡ cell w s j b
    put_there j o b h = put_keeps j b (λ l. omega (arith, apart w i j b o h (omega arith)))

module _ {A : Type 0} where
  pub snoc : {l m : List A} {a b : A} → l ≡ m → a ≡ b → l ++ (a ∷ []) ≡ m ++ (b ∷ [])
  snoc e f = ap₂ (λ l a. l ++ (a ∷ [])) e f

  pub firsts_length : (f : ℕ → A) (n : ℕ) → length (firsts f n) ≡ n
  unfolding firsts
  firsts_length f zero = refl
  firsts_length f (suc n) = simp (length-append, firsts_length f n) (add-one n)

  pub firsts_same : (f g : ℕ → A) (n : ℕ) → ((i : ℕ) → i < n → g i ≡ f i) → firsts g n ≡ firsts f n
  unfolding firsts
  firsts_same f g zero e = refl
  firsts_same f g (suc n) e = snoc (firsts_same f g n (λ i h. e i (omega arith))) (e n (omega arith))

  -- one more than the first n, where no other changed
  pub firsts_put : (f g : ℕ → A) (n : ℕ) (a : A) → ((j : ℕ) → (j ≡ n → ⊥) → g j ≡ f j) → g n ≡ a → firsts g (n + 1) ≡ firsts f n ++ (a ∷ [])
  unfolding firsts
  firsts_put f g n a o e = rw add-one (snoc (firsts_same f g n (λ j h. o j (λ z. omega arith))) e)

  flat_snoc : (g : A → List ℕ) (l : List A) (a : A) → flat_map g (l ++ (a ∷ [])) ≡ flat_map g l ++ g a
  unfolding flat_map
  flat_snoc g [] a = append-nil (g a)
  flat_snoc g (b ∷ l) a = rw (flat_snoc g l a, append_assoc)

module _ (w : ℕ) (s : List ℕ) where
  -- the numbers of a row, column by column
  row_take : (i : ℕ) → i < length s / w → (c : ℕ) → c ≤ w → firsts (cell w s i) c ≡ take c (drop (i * w) s)
  unfolding firsts
  row_take i h zero l = refl
  row_take i h (suc c) l =
      let f : c < length (drop (i * w) s) = simp length-drop (omega (arith, row_fits w s i h)) in
      snoc (row_take i h c (omega arith)) (cell_in w s i c h ∙ sym (get_or-drop (i * w) s c 0)) ∙ sym (take-suc (drop (i * w) s) c 0 f)

  -- what the first rows are as numbers, where g gives the numbers of the row f i
  pub firsts_flat : {A : Type 0} (g : A → List ℕ) (f : ℕ → A) → ((i : ℕ) → g (f i) ≡ firsts (cell w s i) w) → (n : ℕ) → n ≤ length s / w → flat_map g (firsts f n) ≡ take (n * w) s
  unfolding firsts flat_map
  firsts_flat g f e zero h = rw (zero-mul w)
  firsts_flat g f e (suc n) h =
      flat_snoc g (firsts f n) (f n) ∙ ap₂ (λ a b. a ++ b) (firsts_flat g f e n (omega arith)) (e n ∙ row_take n (omega arith) w (omega arith)) ∙ sym (rw (suc-mul n w) (take-add (n * w) w s))
