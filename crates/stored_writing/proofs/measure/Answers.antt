-- `stored_writing::measure` meets its contract: by whether the counts fit.
use mathlib.Core.Path.{ap, ◌∙◌}
use Prim.Native.Nat.{ℕ, ◌+◌}
use native.Mathlib.Omega.{arith}
use Rattle.stored_form.specs.Form.{Known}
use Rattle.stored_form.proofs.Known.{known_of, largest_fits}
use Rattle.stored_writing.specs.Writing.{lengths_in}
use Rattle.stored_writing.proofs.Measures.{numbers_few, measured_over, both_fit, measured_sum}
use Rattle.stored_writing.proofs.measure.Goals as goal

pub returns-then-v-node_count : goal.returns-then-v-node_count
returns-then-v-node_count c = rw (← c.version_of-v.ensures) (measured_over c.version_of-v.result c.args.nodes.now c.args.numbers.now c.node_room-node_count.ensures c.number_room-number_count.ensures c.if-v-node_count.true)

pub nodes_end-requires : goal.nodes_end-requires
nodes_end-requires c =
    let f = both_fit c.version_of-v.result c.args.nodes.now c.args.numbers.now c.node_room-node_count.ensures c.number_room-number_count.ensures c.if-v-node_count.false in
    let k : Known c.version_of-v.result = rw c.version_of-v.ensures (known_of c.args.edition) in
    (k.narrow, omega (arith, f.0, largest_fits k))

pub overflow_add-result-2 : goal.overflow_add-result-2
overflow_add-result-2 c =
    let k : Known c.version_of-v.result = rw c.version_of-v.ensures (known_of c.args.edition) in
    omega (arith, k.limited, c.measure_numbers.ensures, numbers_few c.version_of-v.result.limit (lengths_in c.args.numbers.now), c.nodes_end.ensures.upper_bound)

pub returns : goal.returns
returns c =
    rw (← c.version_of-v.ensures) (ap (λ (k : ℕ). k + c.measure_numbers.result) c.nodes_end.ensures.value
    ∙ measured_sum c.version_of-v.result c.args.nodes.now c.args.numbers.now c.node_room-node_count.ensures c.number_room-number_count.ensures c.if-v-node_count.false c.measure_numbers.ensures)
