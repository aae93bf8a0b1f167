-- `stored_writing::move_between` meets its contract: by what reading comes to, and by what writing comes to.
use mathlib.Core.Path.{◌∙◌}
use Rattle.store.proofs.Zeros.{cleared_all}
use Rattle.fields.proofs.Counts.{all_bytes}
use Rattle.stored_form.specs.Form.{version_of}
use Rattle.stored_form.proofs.Known.{known_of}
use Rattle.stored_writing.proofs.Moved.{unread, store_stored, unwritten, written}
use Rattle.stored_writing.proofs.move_between.Goals as goal

pub returns-then-read-ne0 : goal.returns-then-read-ne0
returns-then-read-ne0 c =
    let s = c.args in
    unread (version_of s.from) (version_of s.to) s.bytes.now s.nodes.now s.numbers.now _ _ _ c.read-read.ensures (λ z. c.if-read-ne0.true z) c.refused_move.ensures (c.clear_any.ensures ∙ cleared_all _)

pub rewrite-wrote-requires : goal.rewrite-wrote-requires
rewrite-wrote-requires c =
    let s = c.args in
    store_stored (version_of s.from) (version_of s.to) s.bytes.now s.nodes.now s.numbers.now _ _ _ c.read-read.ensures c.if-read-ne0.false c.node_places-node_places.ensures.value c.number_places-number_places.ensures.value (known_of s.from) (all_bytes s.bytes.now (λ i. (c.type_inv.bytes i).fits))

pub returns-then-wrote-ne0 : goal.returns-then-wrote-ne0
returns-then-wrote-ne0 c =
    let s = c.args in
    let m = unwritten (version_of s.from) (version_of s.to) s.bytes.now s.nodes.now s.numbers.now _ _ _ c.read-read.ensures c.if-read-ne0.false c.node_places-node_places.ensures.value c.number_places-number_places.ensures.value c.rewrite-wrote.ensures (λ z. c.if-wrote-ne0.true z) c.refused_move-then-wrote-ne0.ensures in
    rw (c.clear.ensures, c.clear-then-wrote-ne0.ensures) m

pub returns : goal.returns
returns c =
    let s = c.args in
    written (version_of s.from) (version_of s.to) s.bytes.now s.nodes.now s.numbers.now _ _ _ c.read-read.ensures c.if-read-ne0.false c.node_places-node_places.ensures.value c.number_places-number_places.ensures.value c.rewrite-wrote.ensures c.if-wrote-ne0.false
