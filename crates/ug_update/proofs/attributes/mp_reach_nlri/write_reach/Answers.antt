use Rattle.std.proofs.Common.{List, ℕ, ◌+◌, ◌++◌, ap, ◌∙◌}
use Rattle.ug_message.specs.Attribute.{optional}
use Rattle.ug_message.specs.Heads.{head}
use Rattle.ug_update.proofs.ValueParts.{reach_joined}
use Rattle.ug_update.proofs.attributes.mp_reach_nlri.write_reach.Goals as goal

pub returns-clause-ok : goal.returns-clause-ok
returns-clause-ok c =
    let old = c.args.out.now.items in
    let one = c.put_head.ensures.items ∙ ap (λ (x : List ℕ). x ++ head optional 14 (21 + c.args.routes)) c.in_ok-reserve.ensures.items in
    reach_joined old c.put_head.new.out.items c.put.new.out.items c.put-2.new.out.items c.put-3.new.out.items c.put-4.new.out.items c.sixteen_bytes.result c.args.next_hop.now c.args.routes
    one c.put.ensures.items c.put-2.ensures.items c.put-3.ensures.items c.put-4.ensures.items c.sixteen_bytes.ensures
