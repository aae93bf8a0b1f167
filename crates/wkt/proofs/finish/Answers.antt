-- `wkt::finish` meets its contract: each way of the answer leaves the slices as the grammar's answer asks.
use Rattle.wkt.proofs.Returns.{finish_done, finish_refused}
use Rattle.wkt.proofs.finish.Goals as goal

pub returns-in-Ok : goal.returns-in-Ok
returns-in-Ok c = finish_done c.in-Ok.is c.requires c.accept.ensures

pub returns-in-Err-Refused : goal.returns-in-Err-Refused
returns-in-Err-Refused c =
    let a = c.in-Err-Refused.is in
    finish_refused (rw (rw a at c.in-Err-Refused.field-0-is) at a) c.refuse.ensures
