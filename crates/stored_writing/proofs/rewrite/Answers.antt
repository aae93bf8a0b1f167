-- `stored_writing::rewrite` meets its contract: by whether the counts fit, by the whole, and by the room.
use mathlib.Core.Path.{◌≡◌, ◌∙◌}
use native.Mathlib.Omega.{arith}
use Rattle.store.specs.Rows.{node_room}
use Rattle.stored_form.specs.Form.{version_of, node_place}
use Rattle.stored_form.proofs.Known.{known_of}
use Rattle.stored_writing.proofs.Written.{no_room_law, tree_put}
use Rattle.stored_writing.proofs.Rewritten.{few_nodes, numbers_from_law, other_length, counts_over, whole_over, does_fit, rows_fit, emits_numbers}
use Rattle.stored_writing.proofs.rewrite.Goals as goal

pub returns-then-v-node_count : goal.returns-then-v-node_count
returns-then-v-node_count c =
    let s = c.args in
    let v = version_of s.from in
    let w = version_of s.to in
    rw (counts_over v w s.source.now s.nodes.now s.numbers.now c.requires (known_of s.from) c.node_room-node_count.ensures c.number_room-number_count.ensures (rw c.version_of-v.ensures at c.if-v-node_count.true)) c.refuse.ensures

pub nodes_end-middle-requires : goal.nodes_end-middle-requires
nodes_end-middle-requires c =
    let s = c.args in
    let v = version_of s.from in
    let w = version_of s.to in
    (rw c.version_of.ensures (known_of s.from).narrow, omega (arith, c.node_room-node_count.ensures, few_nodes v w s.source.now s.nodes.now s.numbers.now c.requires (known_of s.from)))

pub nodes_end-requires : goal.nodes_end-requires
nodes_end-requires c =
    let s = c.args in
    let v = version_of s.from in
    let w = version_of s.to in
    (rw c.version_of-v.ensures (known_of s.to).narrow, omega (arith, c.node_room-node_count.ensures, few_nodes v w s.source.now s.nodes.now s.numbers.now c.requires (known_of s.from)))

pub overflow_sub-length : goal.overflow_sub-length
overflow_sub-length c =
    let s = c.args in
    let v = version_of s.from in
    let w = version_of s.to in
    let m : c.nodes_end-middle.result ≡ node_place v.width (node_room s.nodes.now) = c.nodes_end-middle.ensures.value ∙ rw (c.version_of.ensures, c.node_room-node_count.ensures) in
    omega (arith, m, (numbers_from_law v w s.source.now s.nodes.now s.numbers.now c.requires (known_of s.from)).within)

pub returns-then-v-length : goal.returns-then-v-length
returns-then-v-length c =
    let s = c.args in
    let v = version_of s.from in
    let w = version_of s.to in
    let m : c.nodes_end-middle.result ≡ node_place v.width (node_room s.nodes.now) = c.nodes_end-middle.ensures.value ∙ rw (c.version_of.ensures, c.node_room-node_count.ensures) in
    let n : c.nodes_end.result ≡ node_place w.width (node_room s.nodes.now) = c.nodes_end.ensures.value ∙ rw (c.version_of-v.ensures, c.node_room-node_count.ensures) in
    let few = rw c.version_of-v.ensures at c.if-v-node_count.false in
    rw (whole_over v w s.source.now s.nodes.now s.numbers.now c.requires (known_of s.from) c.node_room-node_count.ensures c.number_room-number_count.ensures few (rw (c.version_of-v.ensures, m, n) at c.if-v-length.true)) c.refuse-then-v-length.ensures

pub returns-then-out-length : goal.returns-then-out-length
returns-then-out-length c =
    let s = c.args in
    let v = version_of s.from in
    let w = version_of s.to in
    let m : c.nodes_end-middle.result ≡ node_place v.width (node_room s.nodes.now) = c.nodes_end-middle.ensures.value ∙ rw (c.version_of.ensures, c.node_room-node_count.ensures) in
    let n : c.nodes_end.result ≡ node_place w.width (node_room s.nodes.now) = c.nodes_end.ensures.value ∙ rw (c.version_of-v.ensures, c.node_room-node_count.ensures) in
    let few = rw c.version_of-v.ensures at c.if-v-node_count.false in
    rw (does_fit v w s.source.now s.nodes.now s.numbers.now c.requires (known_of s.from) c.node_room-node_count.ensures c.number_room-number_count.ensures few (rw (c.version_of-v.ensures, m, n) at c.if-v-length.false)) (no_room_law (omega (arith, m, n, c.if-out-length.true, other_length v w s.source.now s.nodes.now s.numbers.now c.requires (known_of s.from))) c.refuse-then-out-length.ensures)

pub put_rows-p-requires : goal.put_rows-p-requires
put_rows-p-requires c =
    let s = c.args in
    let v = version_of s.from in
    let w = version_of s.to in
    let m : c.nodes_end-middle.result ≡ node_place v.width (node_room s.nodes.now) = c.nodes_end-middle.ensures.value ∙ rw (c.version_of.ensures, c.node_room-node_count.ensures) in
    let n : c.nodes_end.result ≡ node_place w.width (node_room s.nodes.now) = c.nodes_end.ensures.value ∙ rw (c.version_of-v.ensures, c.node_room-node_count.ensures) in
    let few = rw c.version_of-v.ensures at c.if-v-node_count.false in
    rows_fit v w s.source.now s.nodes.now s.numbers.now c.requires (known_of s.from) c.node_room-node_count.ensures c.number_room-number_count.ensures few (rw (c.version_of-v.ensures, m, n) at c.if-v-length.false)

pub slice_bounds-put-count : goal.slice_bounds-put-count
slice_bounds-put-count c =
    let s = c.args in
    let v = version_of s.from in
    let w = version_of s.to in
    let m : c.nodes_end-middle.result ≡ node_place v.width (node_room s.nodes.now) = c.nodes_end-middle.ensures.value ∙ rw (c.version_of.ensures, c.node_room-node_count.ensures) in
    omega (arith, m, (numbers_from_law v w s.source.now s.nodes.now s.numbers.now c.requires (known_of s.from)).within)

pub slice_bounds-put-start : goal.slice_bounds-put-start
slice_bounds-put-start c =
    let s = c.args in
    let v = version_of s.from in
    let w = version_of s.to in
    let m : c.nodes_end-middle.result ≡ node_place v.width (node_room s.nodes.now) = c.nodes_end-middle.ensures.value ∙ rw (c.version_of.ensures, c.node_room-node_count.ensures) in
    omega (arith, m, (numbers_from_law v w s.source.now s.nodes.now s.numbers.now c.requires (known_of s.from)).within)

pub returns : goal.returns
returns c =
    let s = c.args in
    let v = version_of s.from in
    let w = version_of s.to in
    let m : c.nodes_end-middle.result ≡ node_place v.width (node_room s.nodes.now) = c.nodes_end-middle.ensures.value ∙ rw (c.version_of.ensures, c.node_room-node_count.ensures) in
    let n : c.nodes_end.result ≡ node_place w.width (node_room s.nodes.now) = c.nodes_end.ensures.value ∙ rw (c.version_of-v.ensures, c.node_room-node_count.ensures) in
    let few = rw c.version_of-v.ensures at c.if-v-node_count.false in
    rw (does_fit v w s.source.now s.nodes.now s.numbers.now c.requires (known_of s.from) c.node_room-node_count.ensures c.number_room-number_count.ensures few (rw (c.version_of-v.ensures, m, n) at c.if-v-length.false))
    (tree_put w s.source.now s.nodes.now s.numbers.now c.put_rows-p.ensures (emits_numbers _ s.source.now s.numbers.now (rw m (numbers_from_law v w s.source.now s.nodes.now s.numbers.now c.requires (known_of s.from))) c.put-q.ensures) (omega (arith, m, n, c.if-out-length.false, other_length v w s.source.now s.nodes.now s.numbers.now c.requires (known_of s.from))) c.finish.ensures.answer c.finish.ensures.bytes)
