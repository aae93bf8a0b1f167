-- What `records::put_bytes` keeps true in its loop: the bytes so far are put.
use Rattle.std.proofs.Common.{[], ◌++◌}
use Rattle.printing.specs.Printing.{Prints}
use Rattle.records.specs.Lines.{each_of, hex_byte}
use Rattle.records.proofs.lines.put_bytes.Given as goal

abbrev pub invariant-loop-b : goal.invariant-loop-b
invariant-loop-b l = Prints ([] ++ each_of hex_byte l.bytes l.b-index) l.fn.out l.out
