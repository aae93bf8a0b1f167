-- `put_bytes` meets its contract: byte after byte is put.
use Rattle.std.proofs.Common.{[]}
use Rattle.printing.proofs.Buffers.{prints_none}
use Rattle.records.specs.Lines.{hex_byte}
use Rattle.records.proofs.Pieces.{each_none, each_on, each_all}
use Rattle.records.proofs.lines.put_bytes.Goals as goal

pub loop-b-init : goal.loop-b-init
loop-b-init c = each_none [] hex_byte _ (prints_none _)

pub loop-b-preserved : goal.loop-b-preserved
loop-b-preserved c = each_on [] hex_byte _ _ c.loop-b-test.true c.loop-b.invariant c.put_byte.ensures

pub returns : goal.returns
returns c = each_all [] hex_byte c.args.output.now _ _ _ c.min.ensures c.loop-b-test.false c.loop-b.invariant
