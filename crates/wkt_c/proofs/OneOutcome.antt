-- Two answers that a public function's contract allows for one input are one answer, and so are two slices that are left.
-- Assumes nothing.
use Prim.Native.Nat.{ℕ}
use mathlib.Core.Path.{◌≡◌, sym, ◌∙◌}
use mathlib.Core.List.{List}
use lib.IntN.{ℤ}
use lib.ListN.{length}
use Rattle.store.specs.Rows.{node_room, number_room}
use Rattle.store.specs.Answers.{Outcome, Output}
use Rattle.grammar.specs.Reading.{reading}
use Rattle.wkt.specs.Leaves.{outcome_of}
use Rattle.to_wkt.specs.Canonical.{store_text}
use Rattle.to_wkt.specs.Write.{output_of}
use Rattle.stored_form.specs.Form.{version1, version2, stored_of}
use Rattle.stored_form.specs.Reading.{reading_of}
use Rattle.stored_moves.specs.Moving.{Moving, moving_of}
use Rattle.lists.specs.One.{One}
use Rattle.lists.proofs.One.{one}
use Rattle.rooms.specs.Rooms.{enough_rows}
use Rattle.strict.specs.Strict.{strict_of}
use Rattle.infer_type.specs.Infer.{infer_type}
use Rattle.token.specs.Tokens.{read_at}
use Rattle.expected.specs.Expected.{expected_of}
use Rattle.bounds.specs.declared.BoxAnswer.{BoxAnswer}
use Rattle.bounds.specs.Bounds.{box_room}
use Rattle.node_boxes.specs.Boxes.{boxes_of, answer_of, used_boxes}
use Rattle.c_answers.specs.Answers.{strict_places, infer_places, token_places, ReadsInto, WritesInto, MovesInto, BoxesInto}

pub doorhollow_enough_rows_one : (bytes : ℕ) → One (λ r. r ≡ enough_rows bytes)
doorhollow_enough_rows_one bytes = one

-- both slices and the answer
pub reads_one : {o : Outcome} {ns ms ns' ns'' ms' ms'' answer answer' : List ℕ} → ReadsInto o ns ms ns' ms' answer → ReadsInto o ns ms ns'' ms'' answer' → (ns' ≡ ns'') × (ms' ≡ ms'') × (answer ≡ answer')
reads_one x y = (x.rows.nodes ∙ sym y.rows.nodes, x.rows.numbers ∙ sym y.rows.numbers, x.places ∙ sym y.places)

-- the room and the answer
pub writes_one : {o : Output} {room : ℕ} {out' out'' answer answer' : List ℕ} → WritesInto o room out' answer → WritesInto o room out'' answer' → (out' ≡ out'') × (answer ≡ answer')
writes_one x y = (x.bytes.bytes ∙ sym y.bytes.bytes, x.places ∙ sym y.places)

-- both slices, the room and the answer
pub moves_one : {m : Moving} {ns ms : List ℕ} {room : ℕ} {ns' ns'' ms' ms'' out' out'' answer answer' : List ℕ} → MovesInto m ns ms room ns' ms' out' answer → MovesInto m ns ms room ns'' ms'' out'' answer' → (ns' ≡ ns'') × (ms' ≡ ms'') × (out' ≡ out'') × (answer ≡ answer')
moves_one x y = (x.left.nodes ∙ sym y.left.nodes, x.left.numbers ∙ sym y.left.numbers, x.left.output ∙ sym y.left.output, x.places ∙ sym y.places)

-- the table and the answer
pub fills_one : {a : BoxAnswer} {used t t' t'' : List ℤ} {answer answer' : List ℕ} → BoxesInto a used t t' answer → BoxesInto a used t t'' answer' → (t' ≡ t'') × (answer ≡ answer')
fills_one x y = (x.table ∙ sym y.table, x.places ∙ sym y.places)

module _ (text ns ms : List ℕ) {ns' ns'' ms' ms'' answer answer' : List ℕ} where
  pub doorhollow_read_one : ReadsInto (outcome_of (reading (node_room ns) (number_room ms) text)) ns ms ns' ms' answer → ReadsInto (outcome_of (reading (node_room ns) (number_room ms) text)) ns ms ns'' ms'' answer' → (ns' ≡ ns'') × (ms' ≡ ms'') × (answer ≡ answer')
  doorhollow_read_one = reads_one

  pub doorhollow_read_stored_1_one : ReadsInto (reading_of version1 (node_room ns) (number_room ms) text) ns ms ns' ms' answer → ReadsInto (reading_of version1 (node_room ns) (number_room ms) text) ns ms ns'' ms'' answer' → (ns' ≡ ns'') × (ms' ≡ ms'') × (answer ≡ answer')
  doorhollow_read_stored_1_one = reads_one

  pub doorhollow_read_stored_2_one : ReadsInto (reading_of version2 (node_room ns) (number_room ms) text) ns ms ns' ms' answer → ReadsInto (reading_of version2 (node_room ns) (number_room ms) text) ns ms ns'' ms'' answer' → (ns' ≡ ns'') × (ms' ≡ ms'') × (answer ≡ answer')
  doorhollow_read_stored_2_one = reads_one

module _ (text nodes numbers out : List ℕ) {out' out'' answer answer' : List ℕ} where
  pub doorhollow_write_one : WritesInto (output_of (store_text text nodes numbers)) (length out) out' answer → WritesInto (output_of (store_text text nodes numbers)) (length out) out'' answer' → (out' ≡ out'') × (answer ≡ answer')
  doorhollow_write_one = writes_one

  pub doorhollow_write_stored_1_one : WritesInto (stored_of version1 text nodes numbers) (length out) out' answer → WritesInto (stored_of version1 text nodes numbers) (length out) out'' answer' → (out' ≡ out'') × (answer ≡ answer')
  doorhollow_write_stored_1_one = writes_one

  pub doorhollow_write_stored_2_one : WritesInto (stored_of version2 text nodes numbers) (length out) out' answer → WritesInto (stored_of version2 text nodes numbers) (length out) out'' answer' → (out' ≡ out'') × (answer ≡ answer')
  doorhollow_write_stored_2_one = writes_one

module _ (bytes ns ms out : List ℕ) {ns' ns'' ms' ms'' out' out'' answer answer' : List ℕ} where
  pub doorhollow_move_stored_1_to_2_one : MovesInto (moving_of version1 version2 (node_room ns) (number_room ms) (length out) bytes) ns ms (length out) ns' ms' out' answer → MovesInto (moving_of version1 version2 (node_room ns) (number_room ms) (length out) bytes) ns ms (length out) ns'' ms'' out'' answer' → (ns' ≡ ns'') × (ms' ≡ ms'') × (out' ≡ out'') × (answer ≡ answer')
  doorhollow_move_stored_1_to_2_one = moves_one

  pub doorhollow_move_stored_2_to_1_one : MovesInto (moving_of version2 version1 (node_room ns) (number_room ms) (length out) bytes) ns ms (length out) ns' ms' out' answer → MovesInto (moving_of version2 version1 (node_room ns) (number_room ms) (length out) bytes) ns ms (length out) ns'' ms'' out'' answer' → (ns' ≡ ns'') × (ms' ≡ ms'') × (out' ≡ out'') × (answer ≡ answer')
  doorhollow_move_stored_2_to_1_one = moves_one

module _ (text nodes numbers : List ℕ) (t : List ℤ) {t' t'' : List ℤ} {answer answer' : List ℕ} where
  pub doorhollow_boxes_one : BoxesInto (answer_of (boxes_of text nodes numbers (box_room t))) (used_boxes (boxes_of text nodes numbers (box_room t))) t t' answer → BoxesInto (answer_of (boxes_of text nodes numbers (box_room t))) (used_boxes (boxes_of text nodes numbers (box_room t))) t t'' answer' → (t' ≡ t'') × (answer ≡ answer')
  doorhollow_boxes_one = fills_one

pub doorhollow_strict_one : (text nodes numbers : List ℕ) → One (λ answer. answer ≡ strict_places (strict_of text nodes numbers))
doorhollow_strict_one text nodes numbers = one

pub doorhollow_infer_type_one : (text : List ℕ) → One (λ answer. answer ≡ infer_places (infer_type text))
doorhollow_infer_type_one text = one

pub doorhollow_expected_one : (text : List ℕ) (number place : ℕ) → One (λ r. r ≡ expected_of text number place)
doorhollow_expected_one text number place = one

-- the place to ask from next, and the answer
pub doorhollow_token_one : (text : List ℕ) (from : ℕ) {r r' : ℕ} {answer answer' : List ℕ} → (r ≡ (read_at text from).at) × (answer ≡ token_places (read_at text from).found) → (r' ≡ (read_at text from).at) × (answer' ≡ token_places (read_at text from).found) → (r ≡ r') × (answer ≡ answer')
doorhollow_token_one text from x y = (x.0 ∙ sym y.0, x.1 ∙ sym y.1)
