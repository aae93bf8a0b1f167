-- Two answers that a public function's contract allows for one input are one answer.
-- Assumes nothing.
use Prim.Native.Nat.{ℕ}
use mathlib.Core.Path.{◌≡◌, sym, ◌∙◌}
use mathlib.Core.Bool.{Bool, false}
use mathlib.Core.List.{List}
use Rattle.lists.specs.One.{One}
use Rattle.lists.proofs.One.{one}
use Rattle.scan.specs.Bytes.{is_blank, is_stop, is_inner, is_digit, is_sign, is_plus, is_point, is_numberlike}
use Rattle.scan.specs.Runs.{Tells, first_not, after_one_at}

module _ (b : ℕ) where
  pub is_blank_one : One (λ r. r ≡ is_blank b)
  is_blank_one = one

  pub is_stop_one : One (λ r. r ≡ is_stop b)
  is_stop_one = one

  pub is_digit_one : One (λ r. r ≡ is_digit b)
  is_digit_one = one

  pub is_sign_one : One (λ r. r ≡ is_sign b)
  is_sign_one = one

  pub is_numberlike_one : One (λ r. r ≡ is_numberlike b)
  is_numberlike_one = one

module _ (text : List ℕ) (i : ℕ) where
  pub skip_blanks_one : One (λ r. r ≡ first_not is_blank text i)
  skip_blanks_one = one

  pub token_end_one : One (λ r. r ≡ first_not is_inner text i)
  token_end_one = one

  pub digits_end_one : One (λ r. r ≡ first_not is_digit text i)
  digits_end_one = one

  pub after_blank_one : One (λ r. r ≡ after_one_at is_blank text i)
  after_blank_one = one

  pub after_sign_one : One (λ r. r ≡ after_one_at is_sign text i)
  after_sign_one = one

  pub after_plus_one : One (λ r. r ≡ after_one_at is_plus text i)
  after_plus_one = one

  pub after_point_one : One (λ r. r ≡ after_one_at is_point text i)
  after_point_one = one

-- those that take a test: what its calls answer is told by p
module _ (answers : ℕ → Bool → Type 0) (p : ℕ → Bool) (tells : Tells answers p) (text : List ℕ) where
  pub first_not_one : (from : ℕ) → One (λ r. (q : ℕ → Bool) → Tells answers q → r ≡ first_not q text from)
  first_not_one from r s f g = f p tells ∙ sym (g p tells)

  pub after_one_one : p 0 ≡ false → (at : ℕ) → One (λ r. (q : ℕ → Bool) → Tells answers q → q 0 ≡ false → r ≡ after_one_at q text at)
  after_one_one z at r s f g = f p tells z ∙ sym (g p tells z)
