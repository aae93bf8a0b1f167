-- `node_boxes::look_at_all` meets its contract: what is still to be seen is what was to be seen, and so is what the box is still to hold.
use mathlib.Core.Path.{◌≡◌, ap, ◌∙◌}
use Prim.Native.Nat.{◌+◌, ◌-◌, ◌≤◌, ◌<◌}
use native.Mathlib.Omega.{arith}
use Rattle.bounds.specs.Bounds.{nothing, settled}
use Rattle.node_boxes.specs.Turns.{around_on}
use Rattle.node_boxes.proofs.Numbers.{seen_one_law, seen_two}
use Rattle.node_boxes.proofs.Loops.{looking_start, looking_fits, looking_both, looking_on, looking_seen, looking_around}
use Rattle.node_boxes.proofs.look_at_all.Goals as goal
use Rattle.node_boxes.proofs.look_at_all.Goals.{then-width-gt-AXES, else-width-gt-AXES}

pub loop-init : goal.loop-init
loop-init c =
    let z : c.args.v.parts - 0 ≡ c.args.v.parts = omega arith in
    rw z (looking_start _ _ _ c.args.v _ c.width_of-width.ensures c.requires)

pub look_at_both-s-requires : goal.look_at_both-s-requires
look_at_both-s-requires c = looking_both c.loop.invariant (omega (arith, c.loop-test.true))

pub are_good-requires : goal.are_good-requires
are_good-requires c =
    let more : 0 < c.args.v.parts - c.loop.counter = omega (arith, c.loop-test.true) in
    let h = looking_fits c.loop.invariant more in
    omega (arith, h, c.loop.invariant.wide)

pub loop-preserved : goal.loop-preserved
loop-preserved c =
    let both = c.look_at_both-s.ensures in
    let more : 0 < c.args.v.parts - c.loop.counter = omega (arith, c.loop-test.true) in
    let e : c.args.v.parts - c.loop.counter - 1 ≡ c.args.v.parts - (c.loop.counter + 1) = omega arith in
    rw (← e)
    (looking_on c.loop.invariant more (elim c.if-width-gt-AXES.branch [
      | then-width-gt-AXES w ↦ w.s-is ∙ seen_one_law _ _ _ _ _ w.are_good.ensures both.seen
      | else-width-gt-AXES w ↦ w.s-is ∙ seen_two _ _ _ _ _ w.if-width-gt-AXES.false both.seen
    ]) both.around)

pub returns : goal.returns
returns c =
    let l = c.loop.invariant in
    let h : c.args.v.parts - c.loop.counter ≤ 0 = omega (arith, c.loop-test.false) in
    let w = c.width_of-width.ensures in
    record {
      seen = looking_seen l h ∙ rw (w, c.nothing_seen-s.ensures);
      table = c.settle.ensures
          ∙ ap (settled c.args.table.now c.args.v.row c.args.v.parent.row)
          (looking_around l h ∙ ap (λ n. around_on c.args.text.now c.args.numbers.now n c.args.v.number c.args.v.parts nothing) w);
    }
