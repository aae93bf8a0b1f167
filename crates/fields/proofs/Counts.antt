-- Laws of counts in bytes, over any number of bytes.
-- Assumes nothing.
use mathlib.Core.Path.{◌≡◌, refl, sym, ◌∙◌}
use mathlib.Core.List.{List, [], ◌∷◌, ◌++◌, append_assoc, append-nil}
use Prim.Native.Nat.{ℕ, zero, suc, ◌+◌, ◌-◌, ◌*◌, ◌/◌, ◌%◌, ◌^◌, ◌≤◌, ◌<◌}
use native.Mathlib.Omega.{arith}
use native.Mathlib.Numerals.{add-one}
use native.Mathlib.Nat.{add-zero, zero-add, pow-suc, div-add-mod', div-lt_iff_lt-mul, mod-lt, mul-le-mul_right, mod-eq_of_lt, lt_of_lt_of_le, pow-le-pow_right}
use lib.Arith.{lt-one, digits_div, digits_mod}
use lib.Dec.{lit<}
use lib.ListN.{length, get_or, take, drop, length-append, length-take}
use lib.Seq.{take-suc}
use Rattle.lists.specs.Lists.{All}
use Rattle.fields.specs.Counts.{byte, IsByte, count_after, count_in, count_bytes}

-- ---- lists of bytes
pub all_append : (l m : List ℕ) → All IsByte l → All IsByte m → All IsByte (l ++ m)
unfolding All
all_append [] m a b = b
all_append (x ∷ l) m a b = (a.0, all_append l m a.1 b)

-- each entry of what is lent is a byte
pub all_bytes : (l : List ℕ) → ((i : ℕ) → get_or l i 0 < byte) → All IsByte l
unfolding All
all_bytes [] h = tt
all_bytes (x ∷ l) h = (h 0, all_bytes l (λ i. h (suc i)))

pub all_take : (n : ℕ) (l : List ℕ) → All IsByte l → All IsByte (take n l)
unfolding All
all_take zero l a = tt
all_take (suc n) [] a = tt
all_take (suc n) (x ∷ l) a = (a.0, all_take n l a.1)

pub all_drop : (n : ℕ) (l : List ℕ) → All IsByte l → All IsByte (drop n l)
unfolding All
all_drop zero l a = a
all_drop (suc n) [] a = tt
all_drop (suc n) (x ∷ l) a = all_drop n l a.1

-- ---- the bytes of a count
pub bytes_length : (w n : ℕ) → length (count_bytes w n) ≡ w
unfolding count_bytes
bytes_length zero n = refl
bytes_length (suc w) n = simp (length-append, bytes_length w (n / byte)) (add-one w)

pub bytes_are : (w n : ℕ) → All IsByte (count_bytes w n)
unfolding count_bytes All
bytes_are zero n = tt
bytes_are (suc w) n = all_append (count_bytes w (n / byte)) (n % byte ∷ []) (bytes_are w (n / byte)) (mod-lt n (lit< tt), tt)

-- ---- the count that bytes say
pub after_append : (n : ℕ) (l m : List ℕ) → count_after n (l ++ m) ≡ count_after (count_after n l) m
unfolding count_after
after_append n [] m = refl
after_append n (b ∷ l) m = after_append (n * byte + b) l m

pub after_one : (n b : ℕ) → count_after n (b ∷ []) ≡ n * byte + b
unfolding count_after
after_one n b = refl

-- one byte more
pub count_snoc : (l : List ℕ) (b : ℕ) → count_in (l ++ (b ∷ [])) ≡ count_in l * byte + b
count_snoc l b = after_append 0 l (b ∷ []) ∙ after_one (count_in l) b

pub count_of_bytes : (w n : ℕ) → n < byte ^ w → count_in (count_bytes w n) ≡ n
unfolding count_bytes count_after
count_of_bytes zero n h = sym (lt-one h)
count_of_bytes (suc w) n h =
    let l : n < byte ^ w * byte = rw (pow-suc byte w) at h in
    let z : count_in (count_bytes w (n / byte)) ≡ n / byte = count_of_bytes w (n / byte) ((div-lt_iff_lt-mul (lit< tt)).1 l) in
    count_snoc (count_bytes w (n / byte)) (n % byte) ∙ rw z (div-add-mod' n byte)

bound_on : (n b p x : ℕ) → b < byte → x < (n * byte + b + 1) * p → x < (n + 1) * (p * byte)
bound_on n b p x l h =
    let m : n * byte + b + 1 ≤ (n + 1) * byte = omega arith in
    omega (arith, mul-le-mul_right p m)

after_bound : (n : ℕ) (bs : List ℕ) → All IsByte bs → count_after n bs < (n + 1) * byte ^ length bs
unfolding count_after All
after_bound n [] a = omega arith
after_bound n (b ∷ bs) a = rw (pow-suc byte (length bs)) (bound_on n b (byte ^ length bs) _ a.0 (after_bound (n * byte + b) bs a.1))

pub count_bound : (bs : List ℕ) → All IsByte bs → count_in bs < byte ^ length bs
count_bound bs a = omega (arith, after_bound 0 bs a)

-- the bytes of a count that bytes say after others
bytes_after : (w n : ℕ) (bs : List ℕ) → All IsByte bs → count_bytes (w + length bs) (count_after n bs) ≡ count_bytes w n ++ bs
unfolding count_after count_bytes All
bytes_after w n [] a = rw (add-zero, append-nil)
bytes_after w n (b ∷ bs) a =
    let e : w + suc (length bs) ≡ suc w + length bs = omega arith in
    let z : count_bytes (suc w) (n * byte + b) ≡ count_bytes w n ++ (b ∷ []) = rw (digits_div n a.0, digits_mod n a.0) in
    rw e (bytes_after (suc w) (n * byte + b) bs a.1 ∙ rw (z, append_assoc))

pub bytes_of_count : (bs : List ℕ) → All IsByte bs → count_bytes (length bs) (count_in bs) ≡ bs
unfolding count_bytes
bytes_of_count bs a = rw zero-add at (bytes_after 0 0 bs a)

-- ---- of the last four bytes
-- one byte more, where only what fits is kept
keep_on : (n b : ℕ) → b < byte → n % 2 ^ 32 % 2 ^ 24 * byte + b ≡ (n * byte + b) % 2 ^ 32
keep_on n b h = omega arith

pub kept_on : (bytes : List ℕ) (i count b : ℕ) → i < length bytes → get_or bytes i 0 ≡ b → b < byte → count ≡ count_in (take i bytes) % 2 ^ 32 → count % 2 ^ 24 * byte + b ≡ count_in (take (i + 1) bytes) % 2 ^ 32
kept_on bytes i count b h e l z =
    let t : take (i + 1) bytes ≡ take i bytes ++ (b ∷ []) = rw (add-one i, ← e) (take-suc bytes i 0 h) in
    rw (z, t, count_snoc (take i bytes) b) (keep_on (count_in (take i bytes)) b l)

-- four bytes say what fits
four_fit : (bs : List ℕ) → All IsByte bs → length bs ≤ 4 → count_in bs < 2 ^ 32
four_fit bs a h = lt_of_lt_of_le (count_bound bs a) (pow-le-pow_right {n = byte} (lit< tt) h)

pub kept_all : (bs : List ℕ) → All IsByte bs → length bs ≤ 4 → count_in bs % 2 ^ 32 ≡ count_in bs
kept_all bs a h = mod-eq_of_lt (four_fit bs a h)

-- ---- of two bytes and of four, taken two at a time
pub two_count : (l : List ℕ) → length l ≡ 2 → {r : ℕ} → r ≡ get_or l 0 0 * byte + get_or l 1 0 → r < 65536 → r ≡ count_in l % 2 ^ 32
unfolding count_after
two_count [] e z h = absurd (omega (arith, e))
two_count (a ∷ []) e z h = absurd (omega (arith, e))
two_count (a ∷ b ∷ []) e z h = omega (arith, z, h)
two_count (a ∷ b ∷ c ∷ l) e z h = absurd (omega (arith, e))

pub four_count : (l : List ℕ) → length l ≡ 4 → {high low : ℕ} → high ≡ get_or l 0 0 * byte + get_or l 1 0 → high < 65536 → low ≡ get_or l 2 0 * byte + get_or l 3 0 → low < 65536 → high * 65536 + low ≡ count_in l % 2 ^ 32
unfolding count_after
four_count [] e y g z h = absurd (omega (arith, e))
four_count (a ∷ []) e y g z h = absurd (omega (arith, e))
four_count (a ∷ b ∷ []) e y g z h = absurd (omega (arith, e))
four_count (a ∷ b ∷ c ∷ []) e y g z h = absurd (omega (arith, e))
four_count (a ∷ b ∷ c ∷ d ∷ []) e y g z h = omega (arith, y, g, z, h)
four_count (a ∷ b ∷ c ∷ d ∷ x ∷ l) e y g z h = absurd (omega (arith, e))

-- ---- the count that a part of lent bytes says
module _ (bytes : List ℕ) (all : (i : ℕ) → get_or bytes i 0 < byte) where
  part_bytes : (start w : ℕ) → All IsByte (take w (drop start bytes))
  part_bytes start w = all_take w (drop start bytes) (all_drop start bytes (all_bytes bytes all))

  part_short : (start w : ℕ) → w ≤ 4 → length (take w (drop start bytes)) ≤ 4
  part_short start w h = simp length-take (omega arith)

  pub count_fits : (start w : ℕ) → w ≤ 4 → count_in (take w (drop start bytes)) < 2 ^ 32
  count_fits start w h = four_fit (take w (drop start bytes)) (part_bytes start w) (part_short start w h)

  pub count_read : (start end w : ℕ) → end - start ≡ w → w ≤ 4 → count_in (take (end - start) (drop start bytes)) % 2 ^ 32 ≡ count_in (take w (drop start bytes))
  count_read start end w e h = rw e (kept_all (take w (drop start bytes)) (part_bytes start w) (part_short start w h))
