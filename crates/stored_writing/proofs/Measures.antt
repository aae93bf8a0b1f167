-- Laws of measuring: a number text at a time, and all of a tree's fields.
-- Assumes nothing.
use mathlib.Core.Path.{◌≡◌, refl, ap, sym, ◌∙◌}
use mathlib.Core.Bool.{Bool, true, false, false≢true, cond, ◌&&◌, ◌||◌}
use mathlib.Core.List.{List, [], ◌∷◌, ◌++◌, map, flat_map}
use Prim.Native.Nat.{ℕ, ◌+◌, ◌*◌, ◌^◌, ◌≤◌, ◌<◌}
use native.Mathlib.Omega.{arith}
use native.Mathlib.Nat.{mul-le-mul_left, zero-mul, suc-mul}
use native.Mathlib.Decide.{dec_lt}
use lib.Dec.{leb, ltb}
use lib.ListN.{length, drop, length-append, length-map}
use borrow.Author.Tests.{le-leb, lt-leb, leb-true, leb-false, ltb-false, lt-ltb, le-ltb}
use Rattle.lists.specs.Lists.{every}
use Rattle.lists.proofs.Cases.{either, and_both}
use Rattle.store.specs.Rows.{Row, node_room, number_room, span_length_at}
use Rattle.store.proofs.Cells.{firsts_length}
use Rattle.walk.proofs.Firsts.{firsts_cut, firsts_past}
use Rattle.fields.specs.Counts.{count_bytes}
use Rattle.fields.specs.Fields.{head_length, longest, field}
use Rattle.fields.proofs.Counts.{bytes_length}
use Rattle.fields.proofs.Fields.{field_length}
use Rattle.stored_form.specs.declared.Version.{Version}
use Rattle.stored_form.specs.Form.{head_tag, node_tag, number_tag, node_size, head_field, node_field, number_field, stored_rows, first_node, node_place, fits_rows}
use Rattle.stored_writing.specs.Writing.{lengths_in, fields_length, numbers_measure, measure_of}

-- ---- a text at a time
-- what is measured where `bytes` are, and texts of the lengths ns are still to come
pub measure_from : ℕ → ℕ → List ℕ → ℕ
measure_from limit bytes ns = cond (every (λ (n : ℕ). leb n longest) ns && leb (bytes + fields_length ns) limit) (bytes + fields_length ns) (limit + 1)

no_and : (b : Bool) → (b && false) ≡ false
no_and true = refl
no_and false = refl

module _ (limit bytes n : ℕ) (ns : List ℕ) where
  from_long : longest < n → measure_from limit bytes (n ∷ ns) ≡ limit + 1
  unfolding measure_from every
  from_long h = rw (lt-leb n longest h)

  from_over : limit < bytes + head_length + n → measure_from limit bytes (n ∷ ns) ≡ limit + 1
  unfolding measure_from fields_length
  from_over h = rw (lt-leb (bytes + (head_length + n + fields_length ns)) limit (omega arith), no_and (every (λ (n : ℕ). leb n longest) (n ∷ ns)))

  from_on : n ≤ longest → measure_from limit bytes (n ∷ ns) ≡ measure_from limit (bytes + head_length + n) ns
  unfolding measure_from fields_length every
  from_on h = let z : bytes + (head_length + n + fields_length ns) ≡ bytes + head_length + n + fields_length ns = omega arith in rw (le-leb n longest h, z)

from_none : (limit bytes : ℕ) → bytes ≤ limit → measure_from limit bytes [] ≡ bytes
unfolding measure_from fields_length every
from_none limit bytes h = let z : bytes + 0 ≡ bytes = omega arith in rw (z, le-leb bytes limit h)

-- the first i texts of number rows have been measured
pub record Measuring (limit : ℕ) (numbers : List ℕ) (bytes i : ℕ) : Type 0 where
  pub few : bytes ≤ limit
  pub whole : measure_from limit bytes (drop i (lengths_in numbers)) ≡ numbers_measure limit (lengths_in numbers)

pub measuring_none : (limit : ℕ) (numbers : List ℕ) → Measuring limit numbers 0 0
unfolding measure_from numbers_measure
measuring_none limit numbers = let z : 0 + fields_length (lengths_in numbers) ≡ fields_length (lengths_in numbers) = omega arith in record { few = omega arith; whole = rw z }

module _ {limit : ℕ} {numbers : List ℕ} {bytes i : ℕ} (m : Measuring limit numbers bytes i) where
  module _ (l : i < number_room numbers) where
    next : drop i (lengths_in numbers) ≡ span_length_at numbers i ∷ drop (i + 1) (lengths_in numbers)
    next = firsts_cut (span_length_at numbers) (number_room numbers) i l

    pub measuring_long : longest < span_length_at numbers i → limit + 1 ≡ numbers_measure limit (lengths_in numbers)
    measuring_long h = sym (from_long limit bytes (span_length_at numbers i) (drop (i + 1) (lengths_in numbers)) h) ∙ ap (measure_from limit bytes) (sym next) ∙ m.whole

    pub measuring_over : limit < bytes + head_length + span_length_at numbers i → limit + 1 ≡ numbers_measure limit (lengths_in numbers)
    measuring_over h = sym (from_over limit bytes (span_length_at numbers i) (drop (i + 1) (lengths_in numbers)) h) ∙ ap (measure_from limit bytes) (sym next) ∙ m.whole

    pub measuring_on : span_length_at numbers i ≤ longest → bytes + head_length + span_length_at numbers i ≤ limit → Measuring limit numbers (bytes + head_length + span_length_at numbers i) (i + 1)
    measuring_on h f = record { few = f; whole = sym (from_on limit bytes (span_length_at numbers i) (drop (i + 1) (lengths_in numbers)) h) ∙ ap (measure_from limit bytes) (sym next) ∙ m.whole }

  pub measuring_all : number_room numbers ≤ i → bytes ≡ numbers_measure limit (lengths_in numbers)
  measuring_all h = sym (from_none limit bytes m.few) ∙ ap (measure_from limit bytes) (sym (firsts_past (span_length_at numbers) (number_room numbers) i h)) ∙ m.whole

pub numbers_few : (limit : ℕ) (ns : List ℕ) → numbers_measure limit ns ≤ limit + 1
unfolding numbers_measure
numbers_few limit ns =
    either (every (λ (n : ℕ). leb n longest) ns && leb (fields_length ns) limit) (λ (x : ℕ). x ≤ limit + 1) (fields_length ns) (limit + 1)
    (λ e. omega (arith, leb-true (fields_length ns) limit (and_both (every (λ (n : ℕ). leb n longest) ns) (leb (fields_length ns) limit) e).1))
    λ e. omega arith

-- ---- all fields
neither : (a b : Bool) → (a || b) ≡ false → (a ≡ false) × (b ≡ false)
neither true b e = absurd (false≢true (sym e))
neither false b e = (refl, e)

-- the bytes of a version's nodes are counted without loss
pub few_bytes : (w n : ℕ) → w ≤ 4 → n < 2 ^ 32 → n * (head_length + 2 + w) < 2 ^ 36
few_bytes w n h l = let z : head_length + 2 + w ≤ 9 = omega arith in omega (arith, mul-le-mul_left n z)

module _ (v : Version) (nodes numbers : List ℕ) {n m : ℕ} (en : n ≡ node_room nodes) (em : m ≡ number_room numbers) where
  all_lengths : length (lengths_in numbers) ≡ m
  all_lengths = firsts_length (span_length_at numbers) (number_room numbers) ∙ sym em

  -- a count doesn't fit
  pub measured_over : (ltb v.largest n || ltb v.largest m) ≡ true → v.limit + 1 ≡ measure_of v (node_room nodes) (lengths_in numbers)
  unfolding measure_of
  measured_over e = rw (all_lengths, ← en, e)

  -- the counts fit
  pub both_fit : (ltb v.largest n || ltb v.largest m) ≡ false → (n ≤ v.largest) × (m ≤ v.largest)
  both_fit e =
      let u = neither (ltb v.largest n) (ltb v.largest m) e in
      (ltb-false v.largest n u.0, ltb-false v.largest m u.1)

  pub measured_sum : (ltb v.largest n || ltb v.largest m) ≡ false → {k : ℕ} → k ≡ numbers_measure v.limit (lengths_in numbers) → node_place v.width n + k ≡ measure_of v (node_room nodes) (lengths_in numbers)
  unfolding measure_of
  measured_sum e is = rw (all_lengths, ← en, e, is)

-- ---- of rows and number texts
map_every : {A B : Type 0} (p : B → Bool) (f : A → B) (l : List A) → every p (map f l) ≡ every (λ (a : A). p (f a)) l
unfolding every
map_every p f [] = refl
map_every p f (a ∷ l) = ap (λ (b : Bool). p (f a) && b) (map_every p f l)

pub nodes_length : (w : ℕ) (rs : List Row) → length (flat_map (node_field w) rs) ≡ length rs * (head_length + node_size w)
unfolding flat_map node_field
nodes_length w [] = sym (zero-mul (head_length + node_size w))
nodes_length w (r ∷ rs) =
    let f = field_length node_tag (r.kind ∷ r.dimension ∷ count_bytes w r.parts) in
    let c = bytes_length w r.parts in
    length-append (field node_tag (r.kind ∷ r.dimension ∷ count_bytes w r.parts)) (flat_map (node_field w) rs) ∙ omega (arith, f, c, nodes_length w rs, suc-mul (length rs) (head_length + node_size w))

numbers_length : (ns : List (List ℕ)) → length (flat_map number_field ns) ≡ fields_length (map length ns)
unfolding flat_map number_field fields_length
numbers_length [] = refl
numbers_length (x ∷ ns) = length-append (field number_tag x) (flat_map number_field ns) ∙ omega (arith, field_length number_tag x, numbers_length ns)

pub head_length_law : (v : Version) (n m : ℕ) → length (head_field v n m) ≡ first_node v.width
unfolding head_field
head_length_law v n m =
    field_length head_tag (v.number ∷ (count_bytes v.width n ++ count_bytes v.width m))
    ∙ omega (arith, length-append (count_bytes v.width n) (count_bytes v.width m), bytes_length v.width n, bytes_length v.width m)

pub stored_length : (v : Version) (rs : List Row) (ns : List (List ℕ)) → length (stored_rows v rs ns) ≡ node_place v.width (length rs) + fields_length (map length ns)
unfolding stored_rows
stored_length v rs ns =
    length-append (head_field v (length rs) (length ns)) (flat_map (node_field v.width) rs ++ flat_map number_field ns)
    ∙ omega (arith, head_length_law v (length rs) (length ns), length-append (flat_map (node_field v.width) rs) (flat_map number_field ns), nodes_length v.width rs, numbers_length ns)

-- what is measured says whether all fits, and is then the length
pub record Measured (v : Version) (rs : List Row) (ns : List (List ℕ)) (measure : ℕ) : Type 0 where
  pub fits : fits_rows v rs ns ≡ leb measure v.limit
  pub length : leb measure v.limit ≡ true → measure ≡ lib.ListN.length (stored_rows v rs ns)

module _ (v : Version) (rs : List Row) (ns : List (List ℕ)) (parts : length rs ≤ v.largest → length ns ≤ v.largest → every (λ (r : Row). leb r.parts v.largest) rs ≡ true) where
  abbrev measure : ℕ
  measure = measure_of v (length rs) (map length ns)

  over : (m : ℕ) → v.limit < m → fits_rows v rs ns ≡ false → Measured v rs ns m
  over m h e = let o = lt-leb m v.limit h in record { fits = e ∙ sym o; length = λ t. absurd (false≢true (sym o ∙ t)) }

  nodes_over : v.largest < length rs → Measured v rs ns measure
  unfolding measure_of fits_rows
  nodes_over h = rw (lt-ltb v.largest (length rs) h) (over (v.limit + 1) (omega arith) (rw (lt-leb (length rs) v.largest h)))

  numbers_over : length rs ≤ v.largest → v.largest < length ns → Measured v rs ns measure
  unfolding measure_of fits_rows
  numbers_over h g =
      let n : length (map length ns) ≡ length ns = length-map ns length in
      rw (le-ltb v.largest (length rs) h, n, lt-ltb v.largest (length ns) g) (over (v.limit + 1) (omega arith) (rw (le-leb (length rs) v.largest h, lt-leb (length ns) v.largest g)))

  -- the counts fit: what is left are the texts and the whole
  module _ (h : length rs ≤ v.largest) (g : length ns ≤ v.largest) where
    abbrev fields_of : ℕ
    fields_of = fields_length (map length ns)

    short_texts : Bool
    short_texts = every (λ (x : List ℕ). leb (length x) longest) ns

    fits_is : fits_rows v rs ns ≡ (short_texts && leb (node_place v.width (length rs) + fields_of) v.limit)
    unfolding fits_rows short_texts
    fits_is = rw (le-leb (length rs) v.largest h, le-leb (length ns) v.largest g, parts h g, stored_length v rs ns)

    measure_is : measure ≡ node_place v.width (length rs) + cond (short_texts && leb fields_of v.limit) fields_of (v.limit + 1)
    unfolding measure_of numbers_measure short_texts
    measure_is =
        let n : length (map length ns) ≡ length ns = length-map ns length in
        rw (le-ltb v.largest (length rs) h, n, le-ltb v.largest (length ns) g, map_every (λ (k : ℕ). leb k longest) length ns)

    counts_fit : Measured v rs ns measure
    counts_fit = rw measure_is (go short_texts refl (leb fields_of v.limit) refl)
      where
        go : (t : Bool) → short_texts ≡ t → (f : Bool) → leb fields_of v.limit ≡ f → Measured v rs ns (node_place v.width (length rs) + cond (t && f) fields_of (v.limit + 1))
        go false e f e' = over (node_place v.width (length rs) + (v.limit + 1)) (omega arith) (fits_is ∙ rw e)
        go true e true e' = record { fits = fits_is ∙ rw e; length = λ _. sym (stored_length v rs ns) }
        go true e false e' =
            let l = leb-false fields_of v.limit e' in
            over (node_place v.width (length rs) + (v.limit + 1)) (omega arith) (fits_is ∙ rw (e, lt-leb (node_place v.width (length rs) + fields_of) v.limit (omega arith)))

  pub measured : Measured v rs ns measure
  measured = go (dec_lt v.largest (length rs)) (dec_lt v.largest (length ns))
    where
      go : Dec (v.largest < length rs) → Dec (v.largest < length ns) → Measured v rs ns measure
      go (yes h) g = nodes_over h
      go (no h) (yes g) = numbers_over (omega (arith, h)) g
      go (no h) (no g) = counts_fit (omega (arith, h)) (omega (arith, g))

-- counts of what is measured within the limit fit
pub counts_small : (v : Version) (nodes numbers : List ℕ) → measure_of v (node_room nodes) (lengths_in numbers) ≤ v.limit → (node_room nodes ≤ v.largest) × (number_room numbers ≤ v.largest)
counts_small v nodes numbers h = go (ltb v.largest (node_room nodes) || ltb v.largest (number_room numbers)) refl
  where
    go : (b : Bool) → (ltb v.largest (node_room nodes) || ltb v.largest (number_room numbers)) ≡ b → (node_room nodes ≤ v.largest) × (number_room numbers ≤ v.largest)
    go true e = absurd (omega (arith, measured_over v nodes numbers refl refl e))
    go false e = both_fit v nodes numbers refl refl e
