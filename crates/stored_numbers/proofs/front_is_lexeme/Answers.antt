-- `stored_numbers::front_is_lexeme` meets its contract.
use mathlib.Core.Path.{◌≡◌, sym, ◌∙◌}
use Prim.Native.Nat.{◌-◌}
use native.Mathlib.Omega.{arith}
use lib.Seq.{take_all}
use Rattle.number.proofs.Plain.{plain_lexeme}
use Rattle.stored_numbers.proofs.front_is_lexeme.Goals as goal

pub returns-then-is_told_plain : goal.returns-then-is_told_plain
returns-then-is_told_plain c = sym (plain_lexeme _ (c.is_told_plain.ensures c.if-is_told_plain.true))

pub returns-then-text-len : goal.returns-then-text-len
returns-then-text-len c = c.is_lexeme.ensures ∙ rw (take_all c.args.len c.args.text.now (omega (arith, c.if-text-len.true)))

pub returns : goal.returns
returns c =
    let len = c.args.len in
    let all : len - 0 ≡ len = omega arith in
    rw all at c.is_lexeme-2.ensures
