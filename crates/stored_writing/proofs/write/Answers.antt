-- `stored_writing::write` meets its contract: by whether the store is well formed, by what is measured of it, and by the room.
use mathlib.Core.Path.{sym, ◌∙◌}
use Prim.Native.Nat.{◌≤◌}
use native.Mathlib.Omega.{arith}
use Rattle.store.specs.Rows.{node_room}
use Rattle.stored_form.specs.Form.{version_of}
use Rattle.stored_form.proofs.Stores.{not_well}
use Rattle.stored_writing.specs.Writing.{lengths_in, measure_of}
use Rattle.stored_writing.proofs.Written.{does_not_fit_law, does_fit, its_length, no_room_law, rows_fit, tree_put}
use Rattle.stored_writing.proofs.write.Goals as goal

pub returns-then-not-check : goal.returns-then-not-check
returns-then-not-check c =
    let s = c.args in
    rw (not_well (version_of s.edition) s.text.now s.nodes.now s.numbers.now (sym c.check.ensures ∙ c.if-not-check.true)) c.refuse.ensures

pub returns-then-version_of-bytes : goal.returns-then-version_of-bytes
returns-then-version_of-bytes c =
    let s = c.args in
    let well = sym c.check.ensures ∙ c.if-not-check.false in
    rw (does_not_fit_law (version_of s.edition) s.text.now s.nodes.now s.numbers.now well (rw (c.version_of.ensures, c.measure-bytes.ensures) at c.if-version_of-bytes.true)) c.refuse-then-version_of-bytes.ensures

pub returns-then-out-bytes : goal.returns-then-out-bytes
returns-then-out-bytes c =
    let s = c.args in
    let v = version_of s.edition in
    let well = sym c.check.ensures ∙ c.if-not-check.false in
    let few : measure_of v (node_room s.nodes.now) (lengths_in s.numbers.now) ≤ v.limit = rw (c.version_of.ensures, c.measure-bytes.ensures) at c.if-version_of-bytes.false in
    rw (does_fit v s.text.now s.nodes.now s.numbers.now well few) (no_room_law (omega (arith, c.measure-bytes.ensures, c.if-out-bytes.true, its_length v s.text.now s.nodes.now s.numbers.now well few)) c.refuse-then-out-bytes.ensures)

pub put_rows-p-requires : goal.put_rows-p-requires
put_rows-p-requires c =
    let s = c.args in
    rows_fit (version_of s.edition) s.text.now s.nodes.now s.numbers.now (sym c.check.ensures ∙ c.if-not-check.false) (rw (c.version_of.ensures, c.measure-bytes.ensures) at c.if-version_of-bytes.false)

pub returns : goal.returns
returns c =
    let s = c.args in
    let v = version_of s.edition in
    let well = sym c.check.ensures ∙ c.if-not-check.false in
    let few : measure_of v (node_room s.nodes.now) (lengths_in s.numbers.now) ≤ v.limit = rw (c.version_of.ensures, c.measure-bytes.ensures) at c.if-version_of-bytes.false in
    rw (does_fit v s.text.now s.nodes.now s.numbers.now well few)
    (tree_put v s.text.now s.nodes.now s.numbers.now c.put_rows-p.ensures c.put_numbers-q.ensures (omega (arith, c.measure-bytes.ensures, c.if-out-bytes.false, its_length v s.text.now s.nodes.now s.numbers.now well few)) c.finish.ensures.answer c.finish.ensures.bytes)
