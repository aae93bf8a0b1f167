-- Two answers that a public function's contract allows for one input are one answer.
-- Assumes nothing.
use Prim.Native.Nat.{ℕ}
use mathlib.Core.Path.{◌≡◌}
use mathlib.Core.Bool.{cond}
use mathlib.Core.List.{List}
use lib.Dec.{eqb}
use Rattle.lists.specs.One.{One}
use Rattle.lists.proofs.One.{one}
use Rattle.tokenizer.specs.declared.Cursor.{Cursor}
use Rattle.token.specs.Tokens.{bad_at}
use Rattle.tokenizer.specs.Tokens.{cursor_at}
use Rattle.grammar.specs.Tokens.{sort_bad}
use Rattle.grammar.specs.Grammar.{refusal}
use Rattle.sorts.specs.Taken.{taken_at}

pub take_at_one : (text : List ℕ) (i : ℕ) → One (λ r. r ≡ taken_at text (cursor_at i))
take_at_one text i = one

pub take_one : (text : List ℕ) (c : Cursor) → One (λ r. r ≡ taken_at text c)
take_one text c = one

pub refusal_at_one : (text : List ℕ) (e sort place : ℕ) → One (λ r. r ≡ cond (eqb sort sort_bad) (bad_at text place) (refusal e place))
refusal_at_one text e sort place = one
