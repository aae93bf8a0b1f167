-- `wkt::coord::number` meets its contract: the token taken is the one that the grammar asks for, and its span goes into the next number row.
use native.Mathlib.Omega.{arith}
use Rattle.sorts.proofs.Tokens.{takes}
use Rattle.wkt.proofs.Numbers.{number_done, number_full, number_no}
use Rattle.wkt.proofs.coord.number.Goals as goal

pub returns-then-token-ne-NUMBER : goal.returns-then-token-ne-NUMBER
returns-then-token-ne-NUMBER c = rw c.new.ensures (number_no _ c.requires (takes c.take-token.ensures) c.if-token-ne-NUMBER.true c.refusal_at.ensures)

pub overflow_cast-token : goal.overflow_cast-token
overflow_cast-token c = omega (arith, (takes c.take-token.ensures).first.fits, c.requires.short)

pub overflow_cast-token-then-used-number_room : goal.overflow_cast-token-then-used-number_room
overflow_cast-token-then-used-number_room c = omega (arith, (takes c.take-token.ensures).first.fits, c.requires.short)

pub returns-then-used-number_room : goal.returns-then-used-number_room
returns-then-used-number_room c = rw c.put_number.ensures (number_done _ c.requires (takes c.take-token.ensures) c.if-token-ne-NUMBER.false (rw c.number_room.ensures at c.if-used-number_room.true))

pub returns : goal.returns
returns c = rw c.new-2.ensures (number_full _ c.requires (takes c.take-token.ensures) c.if-token-ne-NUMBER.false (rw c.number_room.ensures at c.if-used-number_room.false))
