-- Laws of the loops that look at fields before a row is asked for: what was seen so far and what is still to come are the whole.
-- Assumes nothing.
use mathlib.Core.Path.{◌≡◌, refl, ap, sym, ◌∙◌}
use mathlib.Core.Bool.{Bool, true, false, false≢true, ◌&&◌}
use mathlib.Core.Option.{none}
use mathlib.Core.List.{List, [], ◌∷◌}
use Prim.Native.Nat.{ℕ, ◌+◌, ◌-◌, ◌%◌, ◌^◌, ◌≤◌, ◌<◌}
use native.Mathlib.Omega.{arith}
use native.Mathlib.Nat.{sub-zero}
use lib.ListN.{length, get_or, take, drop}
use Rattle.store.specs.Rows.{Row, row}
use Rattle.lists.specs.Options.{is_some}
use Rattle.walk.specs.declared.Walk.{Walk}
use Rattle.std.specs.Prelude.{Option, Some, None}
use Rattle.nodes.specs.declared.Frame.{Frame}
use Rattle.walk.specs.Walk.{frames, beginning, entering, advancing, has_ended, ahead_by}
use Rattle.walk.proofs.Steps.{taken_on, not_taken_on}
use Rattle.walk.proofs.Fed.{Reached, Begun, given_begin, Gone, given_to, given_ill, given_last}
use Rattle.fields.specs.Counts.{byte, count_in}
use Rattle.fields.specs.Fields.{head_length, is_sized}
use Rattle.fields.proofs.Counts.{count_read}
use Rattle.fields.proofs.Fields.{has_room, sized_field}
use Rattle.stored_form.specs.Form.{node_tag, node_size}
use Rattle.stored_form.specs.declared.Seen.{Seen}
use Rattle.std.specs.Prelude.{Result}
use Rattle.refusals.specs.Refusals.{faulty_field}
use Rattle.stored_form.specs.declared.Refusal.{Refusal}
use Rattle.stored_form.specs.Reading.{refusal_at, seen, Run, faulty, whole, before, row_told, node_after, nodes_from}
use Rattle.stored_reading.specs.Looks.{nodes_well, nodes_seen}
use Rattle.stored_form.proofs.Runs.{turn_on, turn_off, turn_none}

-- ---- node fields
-- what those still to come make of it, where all so far were met by the walk or not
abbrev pub nodes_on : ℕ → Bool → List Frame → Walk → Run Row → Result Seen Refusal
nodes_on numbers well s w (faulty at) = refusal_at faulty_field at
nodes_on numbers well s w (whole rs at) = seen (well && is_some (ahead_by numbers s w rs)) at

nodes_all : (numbers : ℕ) {s : List Frame} {w : Walk} → Begun s w → (r : Run Row) → nodes_on numbers true s w r ≡ nodes_well numbers r
nodes_all numbers b (faulty at) = refl
nodes_all numbers b (whole rs at) = rw (b.whole numbers rs)

-- none is a tree's any more, whatever comes
nodes_none : (numbers : ℕ) (s s' : List Frame) (w w' : Walk) (x : Row) (r : Run Row) → nodes_on numbers false s' w' r ≡ nodes_on numbers false s w (before x r)
nodes_none numbers s s' w w' x (faulty at) = refl
nodes_none numbers s s' w w' x (whole rs at) = refl

module _ (numbers : ℕ) (s : List Frame) (w : Walk) (x : Row) where
  nodes_to : {s' : List Frame} {w' : Walk} → Gone numbers s w x s' w' → (r : Run Row) → nodes_on numbers true s' w' r ≡ nodes_on numbers true s w (before x r)
  nodes_to g (faulty at) = refl
  nodes_to g (whole rs at) = ap (λ b. seen b at) (sym (g.same rs))

  nodes_ill : (s' : List Frame) (w' : Walk) → ((rs : List Row) → ahead_by numbers s w (x ∷ rs) ≡ none) → (r : Run Row) → nodes_on numbers false s' w' r ≡ nodes_on numbers true s w (before x r)
  nodes_ill s' w' g (faulty at) = refl
  nodes_ill s' w' g (whole rs at) = rw (g rs)

pub record LookingNodes (width : ℕ) (bytes : List ℕ) (start count numbers : ℕ) (s : List Frame) (w : Walk) (well : Bool) (at i : ℕ) : Type 0 where
  pub within : i ≤ count
  pub same : nodes_on numbers well s w (nodes_from width bytes at (count - i)) ≡ nodes_seen width bytes start count numbers
  pub reached : well ≡ true → Reached s w × (w.row ≡ i)

pub nodes_begin : (width : ℕ) (bytes : List ℕ) (start count numbers : ℕ) (s₀ : List Frame) {s : List Frame} {w : Walk} → length s₀ ≡ frames → (w, s) ≡ beginning s₀ → LookingNodes width bytes start count numbers s w true start 0
nodes_begin width bytes start count numbers s₀ long e =
    let b = given_begin s₀ long e in
    record { within = omega arith; same = rw sub-zero (nodes_all numbers b (nodes_from width bytes start count)); reached = λ z. (b.reached, b.row) }

-- a field of this length lies in the bytes
pub node_room_law : (width : ℕ) (bytes : List ℕ) (at : ℕ) → is_sized node_tag (node_size width) bytes at ≡ true → node_after width at ≤ length bytes
node_room_law width bytes at h = let b = sized_field node_tag (node_size width) bytes at h in omega (arith, has_room node_tag bytes at b.0, b.1)

module _ {width : ℕ} {bytes : List ℕ} {start count numbers : ℕ} {s : List Frame} {w : Walk} {well : Bool} {at i : ℕ} (l : LookingNodes width bytes start count numbers s w well at i) where
  module _ (h : i < count) where
    pub node_faulty : is_sized node_tag (node_size width) bytes at ≡ false → refusal_at faulty_field at ≡ nodes_seen width bytes start count numbers
    node_faulty e = rw (turn_off (is_sized node_tag (node_size width) bytes) (row_told width bytes) (node_after width) count i at h e) at l.same

    module _ (e : is_sized node_tag (node_size width) bytes at ≡ true) where
      abbrev rest : Run Row
      rest = nodes_from width bytes (at + head_length + 2 + width) (count - (i + 1))

      its_field : nodes_on numbers well s w (before (row_told width bytes at) rest) ≡ nodes_seen width bytes start count numbers
      its_field =
          let z : at + head_length + 2 + width ≡ node_after width at = omega arith in
          rw z (rw (turn_on (is_sized node_tag (node_size width) bytes) (row_told width bytes) (node_after width) count i at h e) at l.same)

      -- the row isn't given any more
      pub node_passed : well ≡ false → LookingNodes width bytes start count numbers s w well (at + head_length + 2 + width) (i + 1)
      node_passed z = record {
        within = omega arith;
        same = rw z (nodes_none numbers s s w w (row_told width bytes at) rest) ∙ rw z at its_field;
        reached = λ y. absurd (false≢true (sym z ∙ y));
      }

      module _ (z : well ≡ true) (narrow : width ≤ 4) (few : count < 2 ^ 32) (all : (i : ℕ) → get_or bytes i 0 < byte) {n : ℕ}
          (told : n ≡ count_in (take (at + head_length + 2 + width - (at + head_length + 2)) (drop (at + head_length + 2) bytes)) % 2 ^ 32) where
        abbrev given : Row
        given = row (get_or bytes (at + head_length) 0) (get_or bytes (at + head_length + 1) 0) n

        its_row : given ≡ row_told width bytes at
        its_row = rw (told, count_read bytes all (at + head_length + 2) (at + head_length + 2 + width) width (omega arith) narrow)

        module _ {met : Option Walk} {s' : List Frame} (entered : (met, s') ≡ entering s numbers w given) where
          counted : w.row + 1 < 2 ^ 64
          counted = omega (arith, (l.reached z).1)

          pub node_to : {w' : Walk} → met ≡ Some w' → LookingNodes width bytes start count numbers s' w' true (at + head_length + 2 + width) (i + 1)
          node_to {w'} m =
              let g = given_to numbers (l.reached z).0 given counted (rw m at (sym entered)) in
              record {
                within = omega arith;
                same = nodes_to numbers s w given g rest ∙ rw (its_row, ← z) its_field;
                reached = λ y. (g.reached, g.row ∙ ap (λ k. k + 1) (l.reached z).1);
              }

          pub node_ill : met ≡ None → (w' : Walk) → LookingNodes width bytes start count numbers s' w' false (at + head_length + 2 + width) (i + 1)
          node_ill m w' =
              let g = given_ill numbers (l.reached z).0 given counted (rw m at (sym entered)) in
              record {
                within = omega arith;
                same = nodes_ill numbers s w given s' w' g rest ∙ rw (its_row, ← z) its_field;
                reached = λ y. absurd (false≢true y);
              }

        -- the row is given: it is met, or none is given any more
        pub node_met : {met : Bool} {w' : Walk} {s' : List Frame} → (met, w', s') ≡ advancing s numbers w given → LookingNodes width bytes start count numbers s' w' met (at + head_length + 2 + width) (i + 1)
        unfolding advancing
        node_met {met = true} e = node_to (taken_on _ _ e) refl
        node_met {met = false} {w' = w'} e = node_ill (not_taken_on _ _ e) refl w'

  pub nodes_end : count ≤ i → seen (well && has_ended s numbers w) at ≡ nodes_seen width bytes start count numbers
  nodes_end h = rw (go well (λ z. (l.reached z).0)) (rw (turn_none (is_sized node_tag (node_size width) bytes) (row_told width bytes) (node_after width) count i at h) at l.same)
    where
      go : (b : Bool) → (b ≡ true → Reached s w) → (b && has_ended s numbers w) ≡ (b && is_some (ahead_by numbers s w []))
      go true f = given_last numbers (f refl)
      go false f = refl
