-- `infer_type::find_word` meets its contract. The loop's invariant: the word first stands as far after `i` as in what is left.
use mathlib.Core.Path.{◌≡◌, sym, ◌∙◌}
use native.Mathlib.Nat.{zero-add}
use native.Mathlib.Omega.{arith}
use borrow.Author.Rules.{rules}
use lib.ListN.{length}
use Rattle.infer_type.proofs.Search.{starts_tail, first_here, first_on, first_past}
use Rattle.infer_type.proofs.find_word.Goals as goal

pub loop-i-init : goal.loop-i-init
loop-i-init c = zero-add _

pub returns-then-starts_with_word : goal.returns-then-starts_with_word
returns-then-starts_with_word c =
    let at = c.loop-i in
    first_here _ _ at.i (search rules) (starts_tail _ _ at.i (sym c.if-starts_with_word.true ∙ c.starts_with_word.ensures)) ∙ at.invariant

pub loop-i-preserved : goal.loop-i-preserved
loop-i-preserved c =
    let at = c.loop-i in
    first_on _ _ at.i (search rules) (starts_tail _ _ at.i (sym c.if-starts_with_word.false ∙ c.starts_with_word.ensures)) ∙ at.invariant

pub returns : goal.returns
returns c =
    let end : length c.args.part.now ≡ c.loop-i.i = omega arith in
    end ∙ first_past _ _ c.loop-i.i c.loop-i-test.false ∙ c.loop-i.invariant
