-- Two answers that a public function's contract allows for one input are one answer.
-- Assumes nothing.
use Prim.Native.Nat.{ℕ}
use mathlib.Core.Path.{◌≡◌}
use mathlib.Core.List.{List}
use Rattle.lists.specs.One.{One}
use Rattle.lists.proofs.One.{one}
use Rattle.words.specs.Words.{upper, same_word, starts_word}

pub to_upper_one : (b : ℕ) → One (λ r. r ≡ upper b)
to_upper_one b = one

pub starts_with_word_one : (w name : List ℕ) → One (λ r. r ≡ starts_word w name)
starts_with_word_one w name = one

pub same_word_one : (w name : List ℕ) → One (λ r. r ≡ same_word w name)
same_word_one w name = one
