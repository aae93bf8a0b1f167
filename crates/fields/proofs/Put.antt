-- Laws of putting: a count from its last byte to its first, and a field from its tag on.
-- Assumes nothing.
use mathlib.Core.Path.{◌≡◌, refl, ap, ◌∙◌}
use mathlib.Core.List.{List, [], ◌∷◌, ◌++◌, append_assoc, append-nil}
use Prim.Native.Nat.{ℕ, zero, suc, ◌+◌, ◌-◌, ◌/◌, ◌%◌, ◌≤◌, ◌<◌}
use native.Mathlib.Omega.{arith}
use native.Mathlib.Numerals.{add-one}
use lib.ListN.{length, take, drop, set, get_or, length-set}
use lib.Seq.{sets, length-sets, set_split, drop_at, drop-length, length-take-le}
use Rattle.lists.proofs.Pasted.{pasted}
use borrow.Rule.Slice.PartMut.{mid_of, put_mid, mid_len}
use Rattle.fields.specs.Counts.{byte, count_bytes}
use Rattle.fields.specs.Fields.{length_width, head_length, longest, field}
use Rattle.fields.proofs.Counts.{bytes_length}

-- ---- a count
drop_set : (l : List ℕ) (i a : ℕ) → i < length l → drop i (set l i a) ≡ a ∷ drop (suc i) l
drop_set l i a h = ap (drop i) (set_split l i a h) ∙ drop_at (take i l) (a ∷ drop (suc i) l) i (length-take-le i l (omega arith))

-- the last byte that is still to be put is put: those before it are the count without it
pub count_on : (bytes : List ℕ) (rest i : ℕ) → 0 < i → i ≤ length bytes → count_bytes (i - 1) (rest / byte) ++ drop (i - 1) (set bytes (i - 1) (rest % byte)) ≡ count_bytes i rest ++ drop i bytes
unfolding count_bytes
count_on bytes rest zero h l = absurd (omega arith)
count_on bytes rest (suc i) h l =
    let z : suc i - 1 ≡ i = omega arith in
    rw (z, drop_set bytes i (rest % byte) l, append_assoc)

-- before the first byte that is put, and after the last
module _ (bytes : List ℕ) where
  pub count_none : (n : ℕ) → count_bytes (length bytes) n ++ drop (length bytes) bytes ≡ count_bytes (length bytes) n
  count_none n = rw (drop-length bytes, append-nil)

  pub count_all : (rest i : ℕ) → i ≤ 0 → count_bytes i rest ++ drop i bytes ≡ bytes
  unfolding count_bytes
  count_all rest i h = let z : i ≡ 0 = omega arith in rw z

-- ---- a field
-- a length's lowest two bytes are those of what they can say of it
pub low_length : (n : ℕ) → count_bytes length_width (n % (longest + 1)) ≡ count_bytes length_width n
unfolding count_bytes
low_length n =
    let a : n % (longest + 1) / byte % byte ≡ n / byte % byte = omega arith in
    let b : n % (longest + 1) % byte ≡ n % byte = omega arith in
    rw (a, b)

sets_after : (a b l : List ℕ) (i : ℕ) → sets (sets l i a) (i + length a) b ≡ sets l i (a ++ b)
sets_after [] b l i = let z : i + 0 ≡ i = omega arith in rw z
sets_after (x ∷ a) b l i = let z : i + suc (length a) ≡ suc i + length a = omega arith in rw z (sets_after a b (set l i x) (suc i))

sets_one : (content l : List ℕ) (i : ℕ) → length content ≡ 1 → set l i (get_or content 0 0) ≡ sets l i content
sets_one [] l i e = absurd (omega arith)
sets_one (b ∷ []) l i e = refl
sets_one (b ∷ a ∷ content) l i e = absurd (omega arith)

-- the tag and the length are put, and there is room for the content
module _ (out content counted : List ℕ) (at tag : ℕ) (fits : at + head_length + length content ≤ length out)
    (is : counted ≡ count_bytes (length (mid_of (at + 1) (at + head_length - (at + 1)) (set out at tag))) (length content % (longest + 1))) where
  abbrev pub headed : List ℕ
  headed = put_mid (at + 1) (at + head_length - (at + 1)) (set out at tag) counted

  its_count : counted ≡ count_bytes length_width (length content)
  its_count =
      let l = length-set out at tag in
      let n : length (mid_of (at + 1) (at + head_length - (at + 1)) (set out at tag)) ≡ length_width = mid_len (at + 1) (at + head_length) (set out at tag) (omega arith) ∙ omega arith in
      is ∙ rw n (low_length (length content))

  is_headed : headed ≡ sets (set out at tag) (at + 1) counted
  is_headed = let l = length-set out at tag in pasted (set out at tag) counted counted (at + 1) (at + head_length) refl (omega (arith, ap length its_count, bytes_length length_width (length content))) (omega arith)

  pub headed_length : length headed ≡ length out
  headed_length = ap length is_headed ∙ length-sets (set out at tag) (at + 1) counted ∙ length-set out at tag

  -- then all of the content is put
  pub field_all : sets headed (at + head_length) content ≡ sets out at (field tag content)
  unfolding field
  field_all =
      let n : at + head_length ≡ at + 1 + length counted = omega (arith, ap length its_count, bytes_length length_width (length content)) in
      ap (λ (l : List ℕ). sets l (at + head_length) content) is_headed
      ∙ ap (λ (i : ℕ). sets (sets (set out at tag) (at + 1) counted) i content) n
      ∙ sets_after counted content (set out at tag) (at + 1)
      ∙ rw (its_count, add-one at)

  pub field_one : length content ≡ 1 → set headed (at + head_length) (get_or content 0 0) ≡ sets out at (field tag content)
  field_one e = sets_one content headed (at + head_length) e ∙ field_all

-- ---- two bytes and four, put two at a time
pub two_put : (l : List ℕ) (n : ℕ) → length l ≡ 2 → {r : List ℕ} → r ≡ set (set l 0 (n / byte % byte)) 1 (n % byte) → r ≡ count_bytes (length l) n
unfolding count_bytes
two_put [] n e is = absurd (omega (arith, e))
two_put (a ∷ []) n e is = absurd (omega (arith, e))
two_put (a ∷ b ∷ []) n e is = is
two_put (a ∷ b ∷ c ∷ l) n e is = absurd (omega (arith, e))

four_bytes : (n : ℕ) → count_bytes 4 n ≡ n / 65536 / byte % byte ∷ n / 65536 % byte ∷ n / byte % byte ∷ n % byte ∷ []
unfolding count_bytes
four_bytes n =
    let h : n / byte / byte / byte % byte ≡ n / 65536 / byte % byte = omega arith in
    let l : n / byte / byte % byte ≡ n / 65536 % byte = omega arith in
    rw (h, l)

pub four_put : (l : List ℕ) (n : ℕ) → length l ≡ 4 → {m r : List ℕ} → m ≡ set (set l 0 (n / 65536 / byte % byte)) 1 (n / 65536 % byte) → r ≡ set (set m 2 (n / byte % byte)) 3 (n % byte) → r ≡ count_bytes (length l) n
four_put [] n e y z = absurd (omega (arith, e))
four_put (a ∷ []) n e y z = absurd (omega (arith, e))
four_put (a ∷ b ∷ []) n e y z = absurd (omega (arith, e))
four_put (a ∷ b ∷ c ∷ []) n e y z = absurd (omega (arith, e))
four_put (a ∷ b ∷ c ∷ d ∷ []) n e y z = z ∙ rw (y, four_bytes n)
four_put (a ∷ b ∷ c ∷ d ∷ x ∷ l) n e y z = absurd (omega (arith, e))
