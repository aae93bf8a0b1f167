-- `stored_reading::look_at_head` meets its contract: by the length, the version byte, and whether the head is there whole.
use mathlib.Core.Path.{◌≡◌, sym, ◌∙◌}
use mathlib.Core.Bool.{false}
use native.Mathlib.Omega.{arith}
use Rattle.stored_form.specs.Reading.{is_other_version}
use Rattle.stored_form.proofs.Known.{known_of}
use Rattle.stored_reading.proofs.Heads.{head_room, other_none, other_by, head_long, head_other, head_faulty, head_told}
use Rattle.stored_reading.proofs.look_at_head.Goals as goal
use Rattle.stored_reading.proofs.look_at_head.Goals.{then-len-gt-VERSION_AT+else-bytes-v, else-len-gt-VERSION_AT}

pub returns-then-v-len : goal.returns-then-v-len
returns-then-v-len c = rw (← c.version_of-v.ensures) (head_long _ _ c.if-v-len.true)

pub returns-then-bytes-v : goal.returns-then-bytes-v
returns-then-bytes-v c = rw (← c.version_of-v.ensures) (head_other _ _ c.if-v-len.false (other_by _ _ c.if-len-gt-VERSION_AT.true c.if-bytes-v.true))

pub returns-then-not-is_sized : goal.returns-then-not-is_sized
returns-then-not-is_sized c =
    let same : is_other_version c.version_of-v.result c.args.bytes.now ≡ false =
    elim c.if-len-gt-VERSION_AT.branch [
      | then-len-gt-VERSION_AT+else-bytes-v w ↦ other_by _ _ w.if-len-gt-VERSION_AT.true w.if-bytes-v.false
      | else-len-gt-VERSION_AT w ↦ other_none _ _ w.if-len-gt-VERSION_AT.false
    ] in
    rw (← c.version_of-v.ensures) (head_faulty _ _ c.if-v-len.false same (sym c.is_sized.ensures ∙ c.if-not-is_sized.true))

pub slice_bounds-count_in-end : goal.slice_bounds-count_in-end
slice_bounds-count_in-end c = omega (arith, head_room _ _ (sym c.is_sized.ensures ∙ c.if-not-is_sized.false))

pub slice_bounds-count_in-end-2 : goal.slice_bounds-count_in-end-2
slice_bounds-count_in-end-2 c = omega (arith, head_room _ _ (sym c.is_sized.ensures ∙ c.if-not-is_sized.false))

pub returns : goal.returns
returns c =
    let same : is_other_version c.version_of-v.result c.args.bytes.now ≡ false =
    elim c.if-len-gt-VERSION_AT.branch [
      | then-len-gt-VERSION_AT+else-bytes-v w ↦ other_by _ _ w.if-len-gt-VERSION_AT.true w.if-bytes-v.false
      | else-len-gt-VERSION_AT w ↦ other_none _ _ w.if-len-gt-VERSION_AT.false
    ] in
    rw (← c.version_of-v.ensures) (head_told _ _ c.if-v-len.false same (λ i. (c.type_inv.bytes i).fits) (rw c.version_of-v.ensures (known_of c.args.edition).narrow) _ _ (sym c.is_sized.ensures ∙ c.if-not-is_sized.false) c.count_in.ensures c.count_in-2.ensures)
