-- Two answers that a public function's contract allows for one input are one answer, and so are two slices that are left.
-- Assumes nothing.
use Prim.Native.Nat.{ℕ}
use mathlib.Core.Path.{◌≡◌, sym, ◌∙◌}
use mathlib.Core.List.{List, [], ◌∷◌}
use Rattle.lists.specs.One.{One}
use Rattle.lists.proofs.One.{one}
use Rattle.store.specs.declared.WriteAnswer.{WriteAnswer}
use Rattle.store.specs.Answers.{refusal, Writes, writes_one}
use Rattle.pen.specs.declared.Pen.{Pen}
use Rattle.pen.specs.Pen.{end_of, Puts}

pub end_of_one : (p : Pen) (out : List ℕ) (count : ℕ) → One (λ r. r ≡ end_of p out count)
end_of_one p out count = one

-- two outcomes of `put`: the pen and the slice
pub put_one : {piece out left left' : List ℕ} {p r r' : Pen} → Puts piece p out r left → Puts piece p out r' left' → (r ≡ r') × (left ≡ left')
put_one x y = (x.stands ∙ sym y.stands, x.bytes ∙ sym y.bytes)

pub put_byte_one : {b : ℕ} {out left left' : List ℕ} {p r r' : Pen} → Puts (b ∷ []) p out r left → Puts (b ∷ []) p out r' left' → (r ≡ r') × (left ≡ left')
put_byte_one x y = put_one x y

pub put_led_one : {lead : ℕ} {piece out left left' : List ℕ} {p r r' : Pen} → Puts (lead ∷ piece) p out r left → Puts (lead ∷ piece) p out r' left' → (r ≡ r') × (left ≡ left')
put_led_one x y = put_one x y

pub refuse_one : {number room : ℕ} {r r' : WriteAnswer} {out out' : List ℕ} → Writes (refusal number) room r out → Writes (refusal number) room r' out' → (r ≡ r') × (out ≡ out')
refuse_one x y = writes_one x y
