-- `stored_writing::put_head` meets its contract: what stands in the array is the content of the head's field.
use mathlib.Core.Path.{refl, sym}
use Prim.Native.Nat.{◌+◌, ◌≤◌}
use native.Mathlib.Omega.{arith}
use lib.ListN.{replicate}
use lib.Seq.{length-take-le}
use Rattle.pen.proofs.Puts.{emits, emits_as}
use Rattle.stored_form.proofs.Known.{known_of, largest_fits}
use Rattle.stored_writing.proofs.Putting.{one_count_length, two_counts_length, head_content_law, head_is}
use Rattle.stored_writing.proofs.put_head.Goals as goal

pub overflow_cast-nodes : goal.overflow_cast-nodes
overflow_cast-nodes c = omega (arith, largest_fits (known_of c.args.edition), c.requires.0)

pub slice_bounds-content-end-2 : goal.slice_bounds-content-end-2
slice_bounds-content-end-2 c =
    let v = c.version_of-v.result in
    let narrow : v.width ≤ 4 = rw c.version_of-v.ensures (known_of c.args.edition).narrow in
    let l = one_count_length (replicate 8 0) v.number v.width c.args.nodes c.args.numbers refl narrow c.put_count.ensures in
    omega (arith, l, narrow)

pub overflow_cast-numbers : goal.overflow_cast-numbers
overflow_cast-numbers c = omega (arith, largest_fits (known_of c.args.edition), c.requires.1)

pub slice_bounds-content-end-3 : goal.slice_bounds-content-end-3
slice_bounds-content-end-3 c =
    let v = c.version_of-v.result in
    let narrow : v.width ≤ 4 = rw c.version_of-v.ensures (known_of c.args.edition).narrow in
    let l = two_counts_length (replicate 8 0) v.number v.width c.args.nodes c.args.numbers refl narrow c.put_count.ensures c.put_count-2.ensures in
    omega (arith, l, narrow)

pub slice_bounds-put_field-end : goal.slice_bounds-put_field-end
slice_bounds-put_field-end c =
    let v = c.version_of-v.result in
    let narrow : v.width ≤ 4 = rw c.version_of-v.ensures (known_of c.args.edition).narrow in
    let l = two_counts_length (replicate 8 0) v.number v.width c.args.nodes c.args.numbers refl narrow c.put_count.ensures c.put_count-2.ensures in
    sym (length-take-le (1 + v.width + v.width) _ (omega (arith, l, narrow)))

pub returns : goal.returns
returns c =
    let v = c.version_of-v.result in
    let narrow : v.width ≤ 4 = rw c.version_of-v.ensures (known_of c.args.edition).narrow in
    rw (← c.version_of-v.ensures) (emits_as (emits c.put_field.ensures) (head_is v c.args.nodes c.args.numbers (head_content_law (replicate 8 0) v.number v.width c.args.nodes c.args.numbers refl narrow c.put_count.ensures c.put_count-2.ensures)))
