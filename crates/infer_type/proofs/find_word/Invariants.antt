-- What `infer_type::find_word` keeps true in its loop.
use mathlib.Core.Path.{◌≡◌}
use Prim.Native.Nat.{◌+◌}
use lib.ListN.{drop}
use Rattle.infer_type.specs.Search.{first_word}
use Rattle.infer_type.proofs.find_word.Given as goal

abbrev pub invariant-loop-i : goal.invariant-loop-i
invariant-loop-i l = l.i + first_word l.word (drop l.i l.part) ≡ first_word l.word l.part
