-- Laws of the head: each of its tests, and what it tells.
-- Assumes nothing.
use mathlib.Core.Path.{◌≡◌, refl}
use mathlib.Core.Bool.{Bool, true, false, cond, not, ◌&&◌}
use mathlib.Core.List.{List}
use Prim.Native.Nat.{ℕ, ◌+◌, ◌-◌, ◌%◌, ◌^◌, ◌≤◌, ◌<◌}
use native.Mathlib.Omega.{arith}
use lib.Dec.{eqb, ltb}
use lib.ListN.{length, get_or, take, drop}
use borrow.Author.Tests.{lt-ltb, le-ltb, ltb-false}
use Rattle.refusals.specs.Refusals.{text_too_long, faulty_field, unknown_version}
use Rattle.fields.specs.Counts.{byte, count_in}
use Rattle.fields.specs.Fields.{is_sized}
use Rattle.fields.proofs.Counts.{count_read, count_fits}
use Rattle.fields.proofs.Fields.{has_room, sized_field}
use Rattle.stored_form.specs.declared.Version.{Version}
use Rattle.stored_form.specs.declared.Counts.{Counts}
use Rattle.std.specs.Prelude.{Ok}
use Rattle.stored_form.specs.Form.{Known, head_tag, head_size, first_node}
use Rattle.stored_form.specs.Reading.{refusal_at, version_at, counts_at, is_other_version, counts_read, head_in}
use Rattle.stored_reading.specs.Looks.{Headed}

-- a head of the right length lies in the bytes
pub head_room : (w : ℕ) (bytes : List ℕ) → is_sized head_tag (head_size w) bytes 0 ≡ true → first_node w ≤ length bytes
head_room w bytes h = let b = sized_field head_tag (head_size w) bytes 0 h in omega (arith, has_room head_tag bytes 0 b.0, b.1)

module _ (v : Version) (bytes : List ℕ) where
  -- ---- the version
  pub other_none : length bytes ≤ version_at → is_other_version v bytes ≡ false
  unfolding is_other_version
  other_none h = rw (le-ltb version_at (length bytes) h)

  pub other_by : {b : Bool} → version_at < length bytes → (eqb (get_or bytes 0 0) head_tag && not (eqb (get_or bytes version_at 0) v.number)) ≡ b → is_other_version v bytes ≡ b
  unfolding is_other_version
  other_by h e = rw (lt-ltb version_at (length bytes) h) e

  -- ---- the tests, one after the other
  pub head_long : v.limit < length bytes → refusal_at text_too_long v.limit ≡ head_in v bytes
  unfolding head_in
  head_long h = rw (lt-ltb v.limit (length bytes) h)

  module _ (short : length bytes ≤ v.limit) where
    pub head_other : is_other_version v bytes ≡ true → refusal_at unknown_version version_at ≡ head_in v bytes
    unfolding head_in
    head_other o = rw (le-ltb v.limit (length bytes) short, o)

    module _ (known : is_other_version v bytes ≡ false) where
      pub head_faulty : is_sized head_tag (head_size v.width) bytes 0 ≡ false → refusal_at faulty_field 0 ≡ head_in v bytes
      unfolding head_in
      head_faulty s = rw (le-ltb v.limit (length bytes) short, known, s)

      module _ (all : (i : ℕ) → get_or bytes i 0 < byte) (narrow : v.width ≤ 4) (n m : ℕ) where
        abbrev middle : ℕ
        middle = counts_at + v.width

        -- the counts as the code reads them
        pub head_told : is_sized head_tag (head_size v.width) bytes 0 ≡ true → n ≡ count_in (take (middle - counts_at) (drop counts_at bytes)) % 2 ^ 32 → m ≡ count_in (take (middle + v.width - middle) (drop middle bytes)) % 2 ^ 32 → Ok (record { nodes = n; numbers = m }) ≡ head_in v bytes
        unfolding head_in
        head_told s e f = rw (le-ltb v.limit (length bytes) short, known, s, e, f, count_read bytes all counts_at middle v.width (omega arith) narrow, count_read bytes all middle (middle + v.width) v.width (omega arith) narrow)

-- ---- what a head that was told says
record Passed (v : Version) (bytes : List ℕ) (c : Counts) : Type 0 where
  short : length bytes ≤ v.limit
  sized : is_sized head_tag (head_size v.width) bytes 0 ≡ true
  counts : counts_read v.width bytes ≡ c

passed : (v : Version) (bytes : List ℕ) {c : Counts} → head_in v bytes ≡ Ok c → Passed v bytes c
unfolding head_in
passed v bytes {c} e = go (ltb v.limit (length bytes)) refl (is_other_version v bytes) (is_sized head_tag (head_size v.width) bytes 0) refl e
  where
    go : (l : Bool) → ltb v.limit (length bytes) ≡ l → (o s : Bool) → is_sized head_tag (head_size v.width) bytes 0 ≡ s
        → cond l (refusal_at text_too_long v.limit) (cond o (refusal_at unknown_version version_at) (cond s (Ok (counts_read v.width bytes)) (refusal_at faulty_field 0))) ≡ Ok c → Passed v bytes c
    go true x o s y z = let u : ◌≡◌ {A = ℕ} 0 1 = cc in absurd (omega arith)
    go false x true s y z = let u : ◌≡◌ {A = ℕ} 0 1 = cc in absurd (omega arith)
    go false x false false y z = let u : ◌≡◌ {A = ℕ} 0 1 = cc in absurd (omega arith)
    go false x false true y z = record { short = ltb-false v.limit (length bytes) x; sized = y; counts = cc }

pub headed : {v : Version} {bytes : List ℕ} {c : Counts} → Known v → ((i : ℕ) → get_or bytes i 0 < byte) → head_in v bytes ≡ Ok c → Headed v.width bytes c
headed {v} {bytes} {c} k all e =
    let p = passed v bytes e in
    record {
      narrow = k.narrow;
      short = omega (arith, p.short, k.limited);
      told = head_room v.width bytes p.sized;
      counted = rw (← p.counts) (count_fits bytes all counts_at v.width k.narrow);
    }
