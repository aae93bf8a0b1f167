-- `names::starts_with_ending` meets its contract, by the row that has the dimension for its number.
use native.Mathlib.Omega.{arith}
use mathlib.Core.Path.{◌≡◌}
use Prim.Native.Nat.{◌-◌}
use lib.ListN.{get_or}
use Rattle.words.specs.Words.{starts_word}
use Rattle.names.proofs.Rows.{ending_lengths, ending_row_law, no_ending}
use Rattle.names.proofs.starts_with_ending.Goals as goal

pub returns-then-row-ge-ENDING_COUNT : goal.returns-then-row-ge-ENDING_COUNT
unfolding starts_word
returns-then-row-ge-ENDING_COUNT c = rw (no_ending _ c.if-row-ge-ENDING_COUNT.true)

pub slice_bounds-starts_with_word-end : goal.slice_bounds-starts_with_word-end
slice_bounds-starts_with_word-end c = (ending_row_law _ c.if-row-ge-ENDING_COUNT.false).small

pub returns : goal.returns
returns c =
    let n = get_or ending_lengths c.args.dimension 0 in
    let z : n - 0 ≡ n = omega arith in
    rw (ending_row_law _ c.if-row-ge-ENDING_COUNT.false).string (rw z at c.starts_with_word.ensures)
