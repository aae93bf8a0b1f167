-- `stored_reading::look_at_fields` meets its contract: a refusal is what reading comes to, by the test that it fails; and else the fields are one tree.
use mathlib.Core.Path.{refl, sym, ◌∙◌}
use native.Mathlib.Omega.{arith}
use Rattle.std.proofs.lemmas.Result.{err_from_is_err_and}
use Rattle.stored_form.proofs.Known.{known_of}
use Rattle.stored_reading.proofs.Heads.{headed}
use Rattle.stored_reading.proofs.Outcomes.{refused_head, told_head, nodes_fault, numbers_fault, fields_ill, good_fields, fields_good, fewer_numbers, node_inside, no_node_row_law, no_number_row_law}
use Rattle.stored_reading.proofs.look_at_fields.Goals as goal

pub returns-in_err-counts : goal.returns-in_err-counts
returns-in_err-counts c =
    let p = err_from_is_err_and c.from_residual.result c.from_residual.ensures.1 in
    rw (p.1, p.2) (refused_head _ _ _ _ (sym c.in_err-counts.ensures))

pub look_at_nodes-requires : goal.look_at_nodes-requires
look_at_nodes-requires c =
    let h = headed (known_of c.args.edition) (λ i. (c.type_inv.bytes i).fits) (sym c.in_ok-counts.ensures) in
    (rw c.version_of-width.ensures h.narrow, h.counted)

pub returns-in_err-nodes : goal.returns-in_err-nodes
returns-in_err-nodes c =
    let p = err_from_is_err_and c.from_residual-in_err-nodes.result c.from_residual-in_err-nodes.ensures.1 in
    rw (p.1, p.2) (told_head _ _ _ _ (sym c.in_ok-counts.ensures) ∙ nodes_fault _ _ _ _ _ (rw c.version_of-width.ensures at (sym c.in_err-nodes.ensures)))

pub returns-in_err-numbers : goal.returns-in_err-numbers
returns-in_err-numbers c =
    let p = err_from_is_err_and c.from_residual-in_err-numbers.result c.from_residual-in_err-numbers.ensures.1 in
    rw (p.1, p.2) (told_head _ _ _ _ (sym c.in_ok-counts.ensures) ∙ numbers_fault _ _ _ (rw c.version_of-width.ensures at (sym c.in_ok-nodes.ensures)) _ _ (sym c.in_err-numbers.ensures))

pub returns-then-not-nodes-numbers : goal.returns-then-not-nodes-numbers
returns-then-not-nodes-numbers c =
    told_head _ _ _ _ (sym c.in_ok-counts.ensures) ∙ fields_ill _ _ _ (rw c.version_of-width.ensures at (sym c.in_ok-nodes.ensures)) (sym c.in_ok-numbers.ensures) _ _ c.if-not-nodes-numbers.true

pub overflow_mul-result : goal.overflow_mul-result
overflow_mul-result c =
    let g = good_fields _ _ _ _ _ (rw c.version_of-width.ensures at (sym c.in_ok-nodes.ensures)) (sym c.in_ok-numbers.ensures) c.if-not-nodes-numbers.false in
    let h = headed (known_of c.args.edition) (λ i. (c.type_inv.bytes i).fits) (sym c.in_ok-counts.ensures) in
    rw c.version_of-width.ensures (omega (arith, node_inside (fields_good g.0 g.1) h.told c.if-node_room-counts.true))

pub overflow_add-result-then-node_room-counts-2 : goal.overflow_add-result-then-node_room-counts-2
overflow_add-result-then-node_room-counts-2 c =
    let g = good_fields _ _ _ _ _ (rw c.version_of-width.ensures at (sym c.in_ok-nodes.ensures)) (sym c.in_ok-numbers.ensures) c.if-not-nodes-numbers.false in
    let h = headed (known_of c.args.edition) (λ i. (c.type_inv.bytes i).fits) (sym c.in_ok-counts.ensures) in
    rw (c.first_node.ensures, c.version_of-width.ensures) (omega (arith, node_inside (fields_good g.0 g.1) h.told c.if-node_room-counts.true))

pub returns-then-node_room-counts : goal.returns-then-node_room-counts
returns-then-node_room-counts c =
    let g = good_fields _ _ _ _ _ (rw c.version_of-width.ensures at (sym c.in_ok-nodes.ensures)) (sym c.in_ok-numbers.ensures) c.if-not-nodes-numbers.false in
    rw (c.first_node.ensures, c.version_of-width.ensures) (told_head _ _ _ _ (sym c.in_ok-counts.ensures) ∙ no_node_row_law (fields_good g.0 g.1) _ _ refl c.if-node_room-counts.true)

pub place_after-requires : goal.place_after-requires
place_after-requires c =
    let g = good_fields _ _ _ _ _ (rw c.version_of-width.ensures at (sym c.in_ok-nodes.ensures)) (sym c.in_ok-numbers.ensures) c.if-not-nodes-numbers.false in
    fewer_numbers (fields_good g.0 g.1) c.if-number_room-counts.true

pub returns-then-number_room-counts : goal.returns-then-number_room-counts
returns-then-number_room-counts c =
    let g = good_fields _ _ _ _ _ (rw c.version_of-width.ensures at (sym c.in_ok-nodes.ensures)) (sym c.in_ok-numbers.ensures) c.if-not-nodes-numbers.false in
    told_head _ _ _ _ (sym c.in_ok-counts.ensures) ∙ no_number_row_law (fields_good g.0 g.1) _ _ refl refl c.if-node_room-counts.false c.place_after.ensures c.if-number_room-counts.true

pub returns : goal.returns
returns c =
    let g = good_fields _ _ _ _ _ (rw c.version_of-width.ensures at (sym c.in_ok-nodes.ensures)) (sym c.in_ok-numbers.ensures) c.if-not-nodes-numbers.false in
    record {
      headed = headed (known_of c.args.edition) (λ i. (c.type_inv.bytes i).fits) (sym c.in_ok-counts.ensures);
      reading = told_head _ _ _ _ (sym c.in_ok-counts.ensures);
      nodes = g.0;
      numbers = g.1;
      node_rows = c.if-node_room-counts.false;
      number_rows = c.if-number_room-counts.false;
    }
