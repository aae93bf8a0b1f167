-- `fields::put_field` meets its contract: the tag, the length, and the content put after them, where there is room.
use mathlib.Core.Path.{sym, ◌∙◌}
use native.Mathlib.Omega.{arith}
use Rattle.fields.specs.Fields.{field}
use Rattle.fields.proofs.Fields.{field_length}
use Rattle.fields.proofs.Put.{headed_length, field_all, field_one}
use Rattle.pen.proofs.Puts.{ends_in, puts_in, puts_out, put_whole}
use Rattle.fields.proofs.put_field.Goals as goal

pub returns-in-len1 : goal.returns-in-len1
returns-in-len1 c =
    let s = c.args in
    let r = ends_in s.p s.out.now _ _ c.in-Some.ensures in
    puts_in (field s.tag s.content.now) _ _ (sym (field_length s.tag s.content.now)) _ _ c.in-Some.ensures (field_one s.out.now s.content.now _ s.p.at s.tag (omega (arith, r.2)) c.put_count.ensures (omega arith))

pub returns-in_default : goal.returns-in_default
returns-in_default c =
    let s = c.args in
    let r = ends_in s.p s.out.now _ _ c.in-Some.ensures in
    let l = headed_length s.out.now s.content.now _ s.p.at s.tag (omega (arith, r.2)) c.put_count.ensures in
    puts_in (field s.tag s.content.now) _ _ (sym (field_length s.tag s.content.now)) _ _ c.in-Some.ensures ((put_whole c.put.ensures (omega (arith, l, r.2))).1 ∙ field_all s.out.now s.content.now _ s.p.at s.tag (omega (arith, r.2)) c.put_count.ensures)

pub returns-in-None : goal.returns-in-None
returns-in-None c = puts_out (field c.args.tag c.args.content.now) _ _ (sym (field_length c.args.tag c.args.content.now)) c.in-None.ensures
