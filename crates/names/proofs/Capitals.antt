-- Capital letters are compared without the bit that tells a letter's case, one by one and four at a time: it is the comparison of words.
-- Assumes nothing.
use Prim.Native.Nat.{ℕ, zero, suc, ◌+◌, ◌-◌, ◌*◌, ◌≤◌, ◌<◌}
use native.Mathlib.Nat.{le_of_suc-le-suc}
use native.Mathlib.Omega.{arith}
use mathlib.Core.Path.{◌≡◌, refl, sym, ap, ◌∙◌}
use mathlib.Core.Bool.{Bool, true, false, cond, not, and-eq-true_iff}
use mathlib.Core.List.{List, [], ◌∷◌}
use borrow.Author.Tests.{leb-true, eqb-true, eq-eqb, ne_eqb, not-true}
use lib.Bits.{bit_and, and_block, and_lt}
use lib.Dec.{eqb, leb}
use lib.ListN.{length, get_or, take, drop}
use lib.Seq.{length-take-le, get_or-take}
use Rattle.lists.specs.Lists.{every}
use Rattle.lists.proofs.Lists.{every_head, every_tail}
use Rattle.lists.proofs.Ranges.{all_from, all_from_law}
use Rattle.words.specs.Words.{same_byte, starts_word}
use Rattle.words.proofs.Words.{too_short, starts_on, starts_off, starts_end}
use Rattle.names.specs.Letters.{is_capital, packed_of, four_at}

-- a byte without the bit that tells the case of an ASCII letter (223 is 0xDF), and four of them in one number (0xDFDFDFDF)
abbrev pub no_case : ℕ → ℕ
no_case a = bit_and a 223

abbrev pub no_cases : ℕ → ℕ
no_cases n = bit_and n 3755991007

-- ---- a byte: one test over all bytes and capital letters

abbrev agree : ℕ → ℕ → Bool
agree n a = cond (same_byte a n) (eqb (no_case a) n) (not (eqb (no_case a) n))

all_agree : all_from (λ n. all_from (agree n) 0 256) 65 26 ≡ true
unfolding all_from
all_agree = refl

pub byte_same : (a n : ℕ) → a < 256 → is_capital n ≡ true → eqb (no_case a) n ≡ same_byte a n
byte_same a n h c =
    let both = (and-eq-true_iff (leb 65 n) (leb n 90)).0 c in
    let low : 65 ≤ n = leb-true 65 n both.0 in
    let high : n ≤ 90 = leb-true n 90 both.1 in
    go (same_byte a n) refl (all_from_law (agree n) 0 256 a (all_from_law (λ k. all_from (agree k) 0 256) 65 26 n all_agree low (omega arith)) (omega arith) (omega arith))
  where
    go : (t : Bool) → same_byte a n ≡ t → cond t (eqb (no_case a) n) (not (eqb (no_case a) n)) ≡ true → eqb (no_case a) n ≡ t
    go true e k = k
    go false e k = not-true _ k

-- ---- four of them as one number
module _ (a b c d : ℕ) (ha : a < 256) (hb : b < 256) (hc : c < 256) (hd : d < 256) where
  -- the bits of each are taken from its own eight
  masked : no_cases (packed_of a b c d) ≡ packed_of (no_case a) (no_case b) (no_case c) (no_case d)
  masked =
      and_block 8 ((d * 256 + c) * 256 + b) 14671839 a 223 ha (omega arith)
      ∙ ap (λ x. x * 256 + no_case a) (and_block 8 (d * 256 + c) 57311 b 223 hb (omega arith))
      ∙ ap (λ x. (x * 256 + no_case b) * 256 + no_case a) (and_block 8 d 223 c 223 hc (omega arith))

  module _ (x y z t : ℕ) (kx : is_capital x ≡ true) (ky : is_capital y ≡ true) (kz : is_capital z ≡ true) (kt : is_capital t ≡ true) where
    small : (n : ℕ) → is_capital n ≡ true → n < 256
    small n k = let high : n ≤ 90 = leb-true n 90 ((and-eq-true_iff (leb 65 n) (leb n 90)).0 k).1 in omega arith

    is_same : (e n : ℕ) → e < 256 → is_capital n ≡ true → no_case e ≡ n → same_byte e n ≡ true
    is_same e n h k q = sym (byte_same e n h k) ∙ eq-eqb _ _ q

    -- equal numbers are four letters that are the same
    four_same : no_cases (packed_of a b c d) ≡ packed_of x y z t → (same_byte a x ≡ true) × (same_byte b y ≡ true) × (same_byte c z ≡ true) × (same_byte d t ≡ true)
    four_same e =
        let q : packed_of (no_case a) (no_case b) (no_case c) (no_case d) ≡ packed_of x y z t = sym masked ∙ e in
        let la : no_case a < 256 = and_lt 8 a 223 ha (omega arith) in
        let lb : no_case b < 256 = and_lt 8 b 223 hb (omega arith) in
        let lc : no_case c < 256 = and_lt 8 c 223 hc (omega arith) in
        let ld : no_case d < 256 = and_lt 8 d 223 hd (omega arith) in
        let sx : x < 256 = small x kx in
        let sy : y < 256 = small y ky in
        let sz : z < 256 = small z kz in
        let st : t < 256 = small t kt in
        (is_same a x ha kx (omega (arith, q)), is_same b y hb ky (omega (arith, q)), is_same c z hc kz (omega (arith, q)), is_same d t hd kt (omega (arith, q)))

    -- and four letters that are the same are equal numbers
    same_four : same_byte a x ≡ true → same_byte b y ≡ true → same_byte c z ≡ true → same_byte d t ≡ true → no_cases (packed_of a b c d) ≡ packed_of x y z t
    same_four p q r s =
        let ea : no_case a ≡ x = eqb-true _ _ (byte_same a x ha kx ∙ p) in
        let eb : no_case b ≡ y = eqb-true _ _ (byte_same b y hb ky ∙ q) in
        let ec : no_case c ≡ z = eqb-true _ _ (byte_same c z hc kz ∙ r) in
        let ed : no_case d ≡ t = eqb-true _ _ (byte_same d t hd kt ∙ s) in
        masked ∙ rw (ea, eb, ec, ed)

-- ---- words
-- what is left of the word w and the name m from i on decides
pub record LeftAt (w m : List ℕ) (i : ℕ) : Type 0 where
  pub within : i ≤ length m
  pub told : starts_word (drop i w) (drop i m) ≡ starts_word w m

pub capital_at : (m : List ℕ) → every is_capital m ≡ true → (i : ℕ) → i < length m → is_capital (get_or m i 0) ≡ true
capital_at [] k i h = absurd (omega arith)
capital_at (b ∷ m) k zero h = every_head is_capital b m k
capital_at (b ∷ m) k (suc i) h = capital_at m (every_tail is_capital b m k) i (le_of_suc-le-suc h)

pub left_start : (w m : List ℕ) → LeftAt w m 0
left_start w m = record { within = omega arith; told = refl }

left_end : (w m : List ℕ) (i : ℕ) → length m ≤ i → LeftAt w m i → true ≡ starts_word w m
left_end w m i h at = starts_end w m i h ∙ at.told

module _ (w m : List ℕ) (fits : length m ≤ length w) (capital : every is_capital m ≡ true) (bytes : (j : ℕ) → get_or w j 0 < 256) where
  abbrev same_at : ℕ → Bool
  same_at i = same_byte (get_or w i 0) (get_or m i 0)

  told_byte : (i : ℕ) → i < length m → eqb (no_case (get_or w i 0)) (get_or m i 0) ≡ same_at i
  told_byte i h = byte_same _ _ (bytes i) (capital_at m capital i h)

  on : (i j : ℕ) → i + 1 ≡ j → LeftAt w m i → i < length m → same_at i ≡ true → LeftAt w m j
  on i j e at h t = rw (← e) (record { within = omega arith; told = starts_on w m i (omega arith) h t ∙ at.told })

  off : (i : ℕ) → LeftAt w m i → i < length m → same_at i ≡ false → false ≡ starts_word w m
  off i at h t = starts_off w m i (omega arith) h t ∙ at.told

  module _ (i : ℕ) (at : LeftAt w m i) where
    -- a letter that is the same, and one that isn't
    left_on : i < length m → no_case (get_or w i 0) ≡ get_or m i 0 → LeftAt w m (i + 1)
    left_on h e = on i (i + 1) refl at h (sym (told_byte i h) ∙ eq-eqb _ _ e)

    left_off : i < length m → (no_case (get_or w i 0) ≡ get_or m i 0 → ⊥) → false ≡ starts_word w m
    left_off h ne = off i at h (sym (told_byte i h) ∙ ne_eqb _ _ ne)

    -- four of them
    module _ (h : i + 4 ≤ length m) where
      capitals : (j : ℕ) → j < i + 4 → is_capital (get_or m j 0) ≡ true
      capitals j l = capital_at m capital j (omega arith)

      left_four : no_cases (four_at w i) ≡ four_at m i → LeftAt w m (i + 4)
      left_four e =
          let s = four_same _ _ _ _ (bytes i) (bytes (i + 1)) (bytes (i + 2)) (bytes (i + 3)) _ _ _ _ (capitals i (omega arith)) (capitals (i + 1) (omega arith)) (capitals (i + 2) (omega arith)) (capitals (i + 3) (omega arith)) e in
          on (i + 3) (i + 4) (omega arith) (on (i + 2) (i + 3) (omega arith) (on (i + 1) (i + 2) (omega arith) (on i (i + 1) refl at (omega arith) s.0) (omega arith) s.1) (omega arith) s.2) (omega arith) s.3

      left_four_off : (no_cases (four_at w i) ≡ four_at m i → ⊥) → false ≡ starts_word w m
      left_four_off ne = first (same_at i) refl
        where
          same : same_at i ≡ true → same_at (i + 1) ≡ true → same_at (i + 2) ≡ true → same_at (i + 3) ≡ true → no_cases (four_at w i) ≡ four_at m i
          same p q r s = same_four _ _ _ _ (bytes i) (bytes (i + 1)) (bytes (i + 2)) (bytes (i + 3)) _ _ _ _ (capitals i (omega arith)) (capitals (i + 1) (omega arith)) (capitals (i + 2) (omega arith)) (capitals (i + 3) (omega arith)) p q r s

          fourth : same_at i ≡ true → same_at (i + 1) ≡ true → same_at (i + 2) ≡ true → LeftAt w m (i + 3) → (t : Bool) → same_at (i + 3) ≡ t → false ≡ starts_word w m
          fourth p q r l true s = absurd (ne (same p q r s))
          fourth p q r l false s = off (i + 3) l (omega arith) s

          third : same_at i ≡ true → same_at (i + 1) ≡ true → LeftAt w m (i + 2) → (t : Bool) → same_at (i + 2) ≡ t → false ≡ starts_word w m
          third p q l true r = fourth p q r (on (i + 2) (i + 3) (omega arith) l (omega arith) r) (same_at (i + 3)) refl
          third p q l false r = off (i + 2) l (omega arith) r

          second : same_at i ≡ true → LeftAt w m (i + 1) → (t : Bool) → same_at (i + 1) ≡ t → false ≡ starts_word w m
          second p l true q = third p q (on (i + 1) (i + 2) (omega arith) l (omega arith) q) (same_at (i + 2)) refl
          second p l false q = off (i + 1) l (omega arith) q

          first : (t : Bool) → same_at i ≡ t → false ≡ starts_word w m
          first true p = second p (on i (i + 1) refl at (omega arith) p) (same_at (i + 1)) refl
          first false p = off i at (omega arith) p

-- ---- the first n of some letters, as the code has a name
module _ (w letters : List ℕ) (n : ℕ) (inside : n ≤ length letters) where
  abbrev name : List ℕ
  name = take n letters

  sized : length name ≡ n
  sized = length-take-le n letters inside

  pub letters_short : length w < n → false ≡ starts_word w name
  letters_short h = too_short w name (omega (arith, sized))

  module _ (i : ℕ) (at : LeftAt w name i) where
    pub letters_within : i ≤ n
    letters_within = omega (arith, sized, at.within)

    pub letters_end : n ≤ i → true ≡ starts_word w name
    letters_end h = left_end w name i (omega (arith, sized)) at

    module _ (fits : n ≤ length w) (capital : every is_capital name ≡ true) (bytes : (j : ℕ) → get_or w j 0 < 256) where
      fits_name : length name ≤ length w
      fits_name = omega (arith, sized)

      pub letters_on : i < n → no_case (get_or w i 0) ≡ get_or letters i 0 → LeftAt w name (i + 1)
      letters_on h e = left_on w name fits_name capital bytes i at (omega (arith, sized)) (e ∙ sym (get_or-take n letters i 0 h))

      pub letters_off : i < n → (no_case (get_or w i 0) ≡ get_or letters i 0 → ⊥) → false ≡ starts_word w name
      letters_off h ne = left_off w name fits_name capital bytes i at (omega (arith, sized)) (λ e. ne (e ∙ get_or-take n letters i 0 h))

      module _ (h : 4 ≤ n - i) where
        same_letters : four_at name i ≡ four_at letters i
        same_letters = rw (get_or-take n letters i 0 (omega arith), get_or-take n letters (i + 1) 0 (omega arith), get_or-take n letters (i + 2) 0 (omega arith), get_or-take n letters (i + 3) 0 (omega arith))

        pub letters_four : no_cases (four_at w i) ≡ four_at letters i → LeftAt w name (i + 4)
        letters_four e = left_four w name fits_name capital bytes i at (omega (arith, sized)) (e ∙ sym same_letters)

        pub letters_four_off : (no_cases (four_at w i) ≡ four_at letters i → ⊥) → false ≡ starts_word w name
        letters_four_off ne = left_four_off w name fits_name capital bytes i at (omega (arith, sized)) (λ e. ne (e ∙ same_letters))
