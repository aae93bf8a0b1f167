-- Two answers that a public function's contract allows for one input are one answer.
-- Assumes nothing.
use Prim.Native.Nat.{ℕ}
use mathlib.Core.Path.{◌≡◌}
use mathlib.Core.List.{List}
use Rattle.lists.specs.One.{One}
use Rattle.lists.proofs.One.{one}
use Rattle.words.specs.Words.{starts_word}
use Rattle.names.specs.Names.{endings, string_of, meaning, ending, is_empty_word, front}

module _ (w : List ℕ) where
  pub ending_of_one : One (λ r. r ≡ ending w)
  ending_of_one = one

  pub is_empty_word_one : One (λ r. r ≡ is_empty_word w)
  is_empty_word_one = one

  pub front_of_one : One (λ r. r ≡ front w)
  front_of_one = one

  pub name_of_one : One (λ r. r ≡ meaning w)
  name_of_one = one

  pub starts_with_ending_one : (dimension : ℕ) → One (λ r. r ≡ starts_word w (string_of endings dimension))
  starts_with_ending_one dimension = one
