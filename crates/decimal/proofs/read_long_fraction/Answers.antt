-- `decimal::read_long_fraction` meets its contract: by whether seven bytes and those behind them are digits.
use mathlib.Core.Path.{◌≡◌, ap, ◌∙◌}
use Prim.Native.Nat.{ℕ, ◌+◌, ◌-◌}
use mathlib.Core.List.{List}
use native.Mathlib.Omega.{arith}
use lib.ListN.{take, drop}
use Rattle.decimal.specs.Code.{number_of}
use Rattle.decimal.proofs.Texts.{long_other, long_tail, long_is}
use Rattle.decimal.proofs.read_long_fraction.Goals as goal

seven : (w : List ℕ) (first : ℕ) → take (first + 7 - first) (drop first w) ≡ take 7 (drop first w)
seven w first =
    let n : first + 7 - first ≡ 7 = omega arith in
    ap (λ (k : ℕ). take k (drop first w)) n

pub returns-in_err-whole : goal.returns-in_err-whole
returns-in_err-whole c = c.from_residual.ensures ∙ long_other _ _ c.requires (c.in_err-whole.ensures ∙ ap number_of (seven c.args.w.now c.args.first))

pub returns-in_err-rest : goal.returns-in_err-rest
returns-in_err-rest c = c.from_residual-in_err-rest.ensures ∙ long_tail _ _ c.requires _ (c.in_ok-whole.ensures ∙ ap number_of (seven c.args.w.now c.args.first)) c.in_err-rest.ensures

pub returns : goal.returns
returns c = long_is _ _ c.requires _ (c.in_ok-whole.ensures ∙ ap number_of (seven c.args.w.now c.args.first)) _ c.in_ok-rest.ensures
