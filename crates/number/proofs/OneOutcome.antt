-- Two answers that a public function's contract allows for one input are one answer.
-- Assumes nothing.
use Prim.Native.Nat.{ℕ}
use mathlib.Core.Path.{◌≡◌}
use mathlib.Core.List.{List}
use Rattle.lists.specs.One.{One}
use Rattle.lists.proofs.One.{one}
use Rattle.lists.specs.Lists.{every}
use Rattle.scan.specs.Bytes.{is_digit}
use Rattle.number.specs.Lexeme.{is_lexeme, is_plain, up_to_stop}

pub read_lexeme_one : (text : List ℕ) (from : ℕ) → One (λ r. r ≡ up_to_stop is_lexeme text from)
read_lexeme_one text from = one

pub are_digits_one : (few : List ℕ) → One (λ r. r ≡ every is_digit few)
are_digits_one few = one

pub is_plain_one : (w : List ℕ) → One (λ r. r ≡ is_plain w)
is_plain_one w = one

pub is_lexeme_one : (w : List ℕ) → One (λ r. r ≡ is_lexeme w)
is_lexeme_one w = one
