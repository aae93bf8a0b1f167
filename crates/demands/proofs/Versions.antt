-- Request 2026-05 over calls of two versions: all that is proved of any version, of version 1 and of version 2; each refuses the other's bytes; and a number's text of more than
-- 65,535 bytes fits neither.
-- Assumes nothing.
use mathlib.Core.Path.{◌≡◌, refl, ap, sym, ◌∙◌}
use mathlib.Core.Bool.{Bool, true, false}
use mathlib.Core.List.{List, [], ◌∷◌, ◌++◌}
use Prim.Native.Nat.{ℕ, ◌≤◌, ◌<◌}
use native.Mathlib.Decide.{dec_lt}
use native.Mathlib.Omega.{arith}
use lib.Dec.{leb}
use lib.ListN.{length, get_or}
use lib.Seq.{take_at}
use borrow.Author.Tests.{leb-true}
use Rattle.lists.specs.Lists.{every}
use Rattle.lists.proofs.Lists.{every_head, every_tail}
use Rattle.refusals.specs.Refusals.{text_too_long, unknown_version}
use Rattle.store.specs.declared.WriteAnswer.{WriteAnswer}
use Rattle.store.specs.Rows.{Row}
use Rattle.shape.specs.Store.{all_rows, all_texts}
use Rattle.fields.specs.Counts.{count_bytes}
use Rattle.fields.specs.Fields.{longest, field}
use Rattle.stored_form.specs.declared.Version.{Version}
use Rattle.stored_form.specs.declared.Edition.TheVariants.{First, Second}
use Rattle.stored_form.specs.Form.{version1, version2, Known, head_tag, head_field, stored_rows}
use Rattle.stored_form.specs.Reading.{version_at}
use Rattle.stored_form.proofs.Known.{known_of}
use Rattle.stored_form.proofs.Fits.{fits_each}
use Rattle.stored.specs.Faults.{OtherVersion, too_long, other_version}
use Rattle.demands.specs.Stored.{stored_in, store_fits, store_bytes, Storing, no_store, unfit, kept}
use Rattle.demands.specs.Stored as demand
use Rattle.demands.specs.Versions.{VersionKeeps, EachItsOwn, LongTextUnfit}
use Rattle.demands.proofs.Stored.{one_stored_write, one_stored_read, stored_one_writing_of_trees, stored_one_writing, stored_equal, stored_reads_back, stored_again, stored_taken, stored_round, stored_read_accepts, stored_read_refuses, stored_read_exactly, stored_write_answers, stored_write_refuses}

-- ---- any version, and the two that there are
pub any_version_keeps : (v : Version) → Known v → VersionKeeps v
any_version_keeps v known = record {
  one_write = one_stored_write v known;
  one_read = one_stored_read v known;
  one_writing_of_trees = stored_one_writing_of_trees v known;
  one_writing = stored_one_writing v known;
  equal = stored_equal v known;
  reads_back = stored_reads_back v known;
  again = stored_again v known;
  taken = stored_taken v known;
  round = stored_round v known;
  read_accepts = stored_read_accepts v known;
  read_refuses = stored_read_refuses v known;
  read_exactly = stored_read_exactly v known;
  write_answers = stored_write_answers v known;
  write_refuses = stored_write_refuses v known;
}

pub version_1_keeps : VersionKeeps version1
version_1_keeps = any_version_keeps version1 (known_of First)

pub version_2_keeps : VersionKeeps version2
version_2_keeps = any_version_keeps version2 (known_of Second)

-- ---- each its own
-- what stands in front: the head's tag, two bytes of its length, the version
begins : (v : Version) (rs : List Row) (ns : List (List ℕ)) → (x : ℕ) × (y : ℕ) × (l : List ℕ) × (stored_rows v rs ns ≡ head_tag ∷ x ∷ y ∷ v.number ∷ l)
unfolding stored_rows head_field field count_bytes
begins v rs ns = (_, _, _, refl)

module _ (v w : Version) (other : v.number ≡ w.number → ⊥) (rs : List Row) (ns : List (List ℕ)) where
  is_other : OtherVersion w (stored_rows v rs ns)
  is_other =
      let e = (begins v rs ns).3 in
      record {
        first = ap (λ (l : List ℕ). get_or l 0 0) e;
        there = rw e (omega arith);
        other = λ z. other (sym (ap (λ (l : List ℕ). get_or l version_at 0) e) ∙ z);
      }

-- a call of the writer that isn't refused says that it wrote the bytes of the rows
written_are : (v : Version) {text nodes numbers : List ℕ} {room : ℕ} {r : WriteAnswer} {out : List ℕ} → Storing v text nodes numbers room r out → r.number ≡ 0 → stored_in r out ≡ store_bytes v text nodes numbers
written_are v (no_store e) z = absurd (omega (arith, z))
written_are v (unfit e f) z = absurd (omega (arith, z))
written_are v (demand.too_long e f l) z = absurd (omega (arith, z))
written_are v {text = text} {nodes = nodes} {numbers = numbers} (kept e f l) z = take_at (store_bytes v text nodes numbers) _ _ refl

module _ (v w : Version) (known_v : Known v) (known_w : Known w) (other : v.number ≡ w.number → ⊥) where
  pub each_its_own : EachItsOwn v w
  each_its_own text nodes numbers room r out ns ms a ns' ms' write z read = record {
    first = first;
    else = else;
    nodes_zero = (stored_read_refuses w known_w b ns ms a ns' ms' read (refuses (dec_lt w.limit (length b)))).nodes_zero;
    numbers_zero = (stored_read_refuses w known_w b ns ms a ns' ms' read (refuses (dec_lt w.limit (length b)))).numbers_zero;
  }
    where
      b : List ℕ
      b = stored_in r out

      its_other : OtherVersion w b
      its_other = rw (written_are v (stored_write_answers v known_v text nodes numbers room r out write) z) (is_other v w other (all_rows nodes) (all_texts text numbers))

      first : w.limit < length b → (a.number ≡ text_too_long) × (a.place ≡ w.limit)
      first l = (stored_read_exactly w known_w b ns ms a ns' ms' read text_too_long w.limit (λ x. omega (arith, x))).1 (too_long l)

      else : length b ≤ w.limit → (a.number ≡ unknown_version) × (a.place ≡ version_at)
      else h = (stored_read_exactly w known_w b ns ms a ns' ms' read unknown_version version_at (λ x. omega (arith, x))).1 (other_version h its_other)

      refuses : Dec (w.limit < length b) → a.number ≡ 0 → ⊥
      refuses (yes l) x = omega (arith, x, (first l).0)
      refuses (no h) x = omega (arith, x, (else (omega (arith, h))).0)

pub version_2_refuses_1 : EachItsOwn version1 version2
version_2_refuses_1 = each_its_own version1 version2 (known_of First) (known_of Second) (λ z. omega (arith, z))

pub version_1_refuses_2 : EachItsOwn version2 version1
version_1_refuses_2 = each_its_own version2 version1 (known_of Second) (known_of First) (λ z. omega (arith, z))

-- ---- a text that no length says
pub every_inside : {A : Type 0} (p : A → Bool) (before : List A) (x : A) (after : List A) → every p (before ++ (x ∷ after)) ≡ true → p x ≡ true
every_inside p [] x after h = every_head p x after h
every_inside p (y ∷ before) x after h = every_inside p before x after (every_tail p y (before ++ (x ∷ after)) h)

pub long_text_unfit : (v : Version) → Known v → LongTextUnfit v
long_text_unfit v known text nodes numbers room r out write well before x after e l =
    (stored_write_refuses v known text nodes numbers room r out write).fit.1 (well, go (store_fits v text nodes numbers) refl)
  where
    go : (t : Bool) → store_fits v text nodes numbers ≡ t → t ≡ false
    go false f = refl
    go true f =
        let every_text : every (λ (x : List ℕ). leb (length x) longest) (before ++ (x ∷ after)) ≡ true = rw e at (fits_each v (all_rows nodes) (all_texts text numbers) f).texts in
        absurd (omega (arith, l, leb-true (length x) longest (every_inside (λ (x : List ℕ). leb (length x) longest) before x after every_text)))

pub fits_neither : LongTextUnfit version1 × LongTextUnfit version2
fits_neither = (long_text_unfit version1 (known_of First), long_text_unfit version2 (known_of Second))
