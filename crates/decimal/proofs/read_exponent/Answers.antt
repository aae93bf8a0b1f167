-- `decimal::read_exponent` meets its contract: by whether an `e` stands there, and digits up to the end behind it.
use mathlib.Core.Path.{◌≡◌, ◌∙◌}
use Prim.Native.Nat.{◌+◌}
use borrow.Author.Tests.{le-ltb}
use Rattle.scan.specs.Front.{rest, begins}
use Rattle.scan.specs.Runs.{after_one_at}
use Rattle.scan.proofs.Front.{begins_at, begins_past}
use Rattle.scan.proofs.Runs.{one_on}
use Rattle.number.specs.Lexeme.{is_e}
use Rattle.decimal.specs.Decimal.{is_minus}
use Rattle.decimal.proofs.Texts.{exponent_past, exponent_other, exponent_bad, exponent_at, sign_inside}
use Rattle.decimal.proofs.read_exponent.Goals as goal
use Rattle.decimal.proofs.read_exponent.Goals.{then-sign-w, else-sign-w}

pub returns-then-w-at : goal.returns-then-w-at
returns-then-w-at c = exponent_past _ _ c.if-w-at.true

pub returns-then-not-is_e : goal.returns-then-not-is_e
returns-then-not-is_e c = exponent_other _ _ c.if-w-at.false c.if-not-is_e.true

pub held_number-digits-requires : goal.held_number-digits-requires
held_number-digits-requires c =
    let past_e : c.args.at + 1 ≡ after_one_at is_e c.args.w.now c.args.at = one_on is_e _ _ c.if-not-is_e.false in
    sign_inside _ _ c.if-w-at.false _ _ past_e c.after_sign-first.ensures

pub returns-then-first-digits : goal.returns-then-first-digits
returns-then-first-digits c =
    let past_e : c.args.at + 1 ≡ after_one_at is_e c.args.w.now c.args.at = one_on is_e _ _ c.if-not-is_e.false in
    let a_minus : c.if-sign-w.lowers ≡ begins is_minus (rest c.args.w.now (c.args.at + 1)) = elim c.if-sign-w.branch [ then-sign-w w ↦ w.lowers-is ∙ begins_at is_minus _ _ w.if-sign-w.true | else-sign-w w ↦ w.lowers-is ∙ le-ltb _ _ w.if-sign-w.false ∙ begins_past is_minus _ _ w.if-sign-w.false ] in
    exponent_at _ _ c.if-w-at.false c.if-not-is_e.false _ _ _ past_e c.after_sign-first.ensures c.held_number-digits.ensures.end _ _ a_minus c.held_number-digits.ensures.size c.if-first-digits.true

pub returns-else-first-digits : goal.returns-else-first-digits
returns-else-first-digits c =
    let past_e : c.args.at + 1 ≡ after_one_at is_e c.args.w.now c.args.at = one_on is_e _ _ c.if-not-is_e.false in
    exponent_bad _ _ c.if-w-at.false c.if-not-is_e.false _ _ _ past_e c.after_sign-first.ensures c.held_number-digits.ensures.end c.if-first-digits.false
