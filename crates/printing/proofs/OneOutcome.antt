-- Two answers that a public function's contract allows for one input are one answer, and so are two buffers that are left.
-- Assumes nothing.
use Prim.Native.Nat.{ℕ}
use mathlib.Core.Path.{◌≡◌, sym, ◌∙◌}
use mathlib.Core.List.{List}
use Rattle.lists.specs.One.{One}
use Rattle.lists.proofs.One.{one}
use Rattle.printing.specs.declared.Out.{Out}
use Rattle.printing.specs.Printing.{Buffer, buffer, put_in, put_all_in, decimal, spaced, held, Prints}

-- what lent bytes hold after the texts, and which bytes they are
pub prints_one_outcome : {texts : List (List ℕ)} {o a b : Out} → Prints texts o a → Prints texts o b → (held a ≡ held b) × (a.bytes.ghost_name ≡ b.bytes.ghost_name)
prints_one_outcome p q = (p.holds ∙ sym q.holds, p.same_bytes ∙ sym q.same_bytes)

-- a new one over the bytes that are lent: l stands in them, and they are those of o
module _ (o : Out) (l : List ℕ) (a b : Out) where
  pub new_one : a.bytes.ghost_name ≡ o.bytes.ghost_name → b.bytes.ghost_name ≡ o.bytes.ghost_name → held a ≡ buffer l 0 → held b ≡ buffer l 0 → (held a ≡ held b) × (a.bytes.ghost_name ≡ b.bytes.ghost_name)
  new_one n m p q = (p ∙ sym q, n ∙ sym m)

-- the bytes and the count together
module _ (b : Buffer) where
  pub put_one : (text : List ℕ) → One (λ left. left ≡ put_in text b)
  put_one text = one

  pub put_number_one : (number : ℕ) → One (λ left. left ≡ put_in (decimal number) b)
  put_number_one number = one

  pub put_spaced_one : (number : ℕ) → One (λ left. left ≡ put_all_in (spaced number) b)
  put_spaced_one number = one
