-- Laws of the loop that looks at number fields: what was seen so far and what is still to come are the whole.
-- Assumes nothing.
use mathlib.Core.Path.{◌≡◌, refl, ap, sym, ◌∙◌}
use mathlib.Core.Bool.{Bool, true, false, cond, ◌&&◌, and-true}
use mathlib.Core.List.{List, []}
use Prim.Native.Nat.{ℕ, ◌+◌, ◌-◌, ◌≤◌, ◌<◌}
use native.Mathlib.Omega.{arith}
use native.Mathlib.Nat.{sub-zero}
use lib.Dec.{ltb}
use lib.ListN.{length, take, drop}
use borrow.Author.Tests.{lt-ltb, le-ltb}
use Rattle.lists.specs.Lists.{every}
use Rattle.number.specs.Lexeme.{is_lexeme}
use Rattle.store.specs.Rows.{Span}
use Rattle.tree.specs.TreeIn.{span_texts}
use Rattle.fields.specs.Fields.{head_length, length_in, content_end, content_in, is_field, field_at}
use Rattle.std.specs.Prelude.{Result, Some, None}
use Rattle.fields.proofs.Fields.{has_room}
use Rattle.fields.proofs.Looks.{whole_field, faulty_field_law}
use Rattle.stored_form.specs.Form.{number_tag}
use Rattle.refusals.specs.Refusals.{faulty_field}
use Rattle.stored_form.specs.declared.Refusal.{Refusal}
use Rattle.stored_form.specs.declared.Seen.{Seen}
use Rattle.stored_form.specs.Reading.{Run, faulty, whole, refusal_at, seen, before, span_told, numbers_from}
use Rattle.stored_form.proofs.Runs.{turn_on, turn_off, turn_none}
use Rattle.stored_numbers.specs.Looks.{numbers_well, numbers_seen}

-- what those still to come make of it, where all so far were lexemes or not
abbrev pub numbers_on : List ℕ → Bool → Run Span → Result Seen Refusal
numbers_on bytes good (faulty at) = refusal_at faulty_field at
numbers_on bytes good (whole ss at) = cond (ltb at (length bytes)) (refusal_at faulty_field at) (seen (good && every is_lexeme (span_texts ss)) at)

numbers_all : (bytes : List ℕ) (r : Run Span) → numbers_on bytes true r ≡ numbers_well bytes r
numbers_all bytes (faulty at) = refl
numbers_all bytes (whole ss at) = refl

numbers_one : (bytes : List ℕ) (good : Bool) (at : ℕ) (r : Run Span) → numbers_on bytes good (before (span_told bytes at) r) ≡ numbers_on bytes (good && is_lexeme (content_in bytes at)) r
unfolding every
numbers_one bytes good at (faulty a) = refl
numbers_one bytes good at (whole ss a) = ap (λ b. cond (ltb a (length bytes)) (refusal_at faulty_field a) (seen b a)) (go good)
  where
    go : (b : Bool) → (b && (is_lexeme (content_in bytes at) && every is_lexeme (span_texts ss))) ≡ ((b && is_lexeme (content_in bytes at)) && every is_lexeme (span_texts ss))
    go true = refl
    go false = refl

pub record LookingNumbers (bytes : List ℕ) (start count : ℕ) (good : Bool) (at i : ℕ) : Type 0 where
  pub within : i ≤ count
  pub same : numbers_on bytes good (numbers_from bytes at (count - i)) ≡ numbers_seen bytes start count

pub numbers_begin : (bytes : List ℕ) (start count : ℕ) → LookingNumbers bytes start count true start 0
numbers_begin bytes start count = record { within = omega arith; same = rw sub-zero (numbers_all bytes (numbers_from bytes start count)) }

module _ {bytes : List ℕ} {start count : ℕ} {good : Bool} {at i : ℕ} (l : LookingNumbers bytes start count good at i) where
  module _ (h : i < count) where
    pub number_faulty : field_at number_tag bytes at ≡ None → refusal_at faulty_field at ≡ numbers_seen bytes start count
    number_faulty e = rw (turn_off (is_field number_tag bytes) (span_told bytes) (content_end bytes) count i at h (faulty_field_law number_tag bytes at e)) at l.same

    module _ {end : ℕ} (e : field_at number_tag bytes at ≡ Some end) where
      pub number_room_law : (at + head_length ≤ end) × (end ≤ length bytes)
      number_room_law = let b = whole_field number_tag bytes at e in (omega (arith, b.1), omega (arith, b.1, has_room number_tag bytes at b.0))

      its_text_law : content_in bytes at ≡ take (end - (at + head_length)) (drop (at + head_length) bytes)
      its_text_law = let z : length_in bytes at ≡ end - (at + head_length) = omega (arith, (whole_field number_tag bytes at e).1) in rw z

      number_on : {next : Bool} → next ≡ (good && is_lexeme (take (end - (at + head_length)) (drop (at + head_length) bytes))) → LookingNumbers bytes start count next end (i + 1)
      number_on n =
          let b = whole_field number_tag bytes at e in
          record {
            within = omega arith;
            same = rw (n, ← its_text_law, ← b.1) (sym (numbers_one bytes good at (numbers_from bytes (content_end bytes at) (count - (i + 1)))) ∙ rw (turn_on (is_field number_tag bytes) (span_told bytes) (content_end bytes) count i at h b.0) at l.same);
          }

      pub number_lexeme : {lexeme : Bool} → lexeme ≡ is_lexeme (take (end - (at + head_length)) (drop (at + head_length) bytes)) → LookingNumbers bytes start count (good && lexeme) end (i + 1)
      number_lexeme p = number_on (ap (λ b. good && b) p)

  module _ (h : count ≤ i) where
    numbers_end : numbers_on bytes good (whole [] at) ≡ numbers_seen bytes start count
    numbers_end = rw (turn_none (is_field number_tag bytes) (span_told bytes) (content_end bytes) count i at h) at l.same

    pub numbers_extra : at < length bytes → refusal_at faulty_field at ≡ numbers_seen bytes start count
    numbers_extra m = rw (lt-ltb at (length bytes) m) at numbers_end

    pub numbers_whole : length bytes ≤ at → seen good at ≡ numbers_seen bytes start count
    unfolding every
    numbers_whole m = rw (le-ltb at (length bytes) m, and-true good) at numbers_end
