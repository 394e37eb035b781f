use Rattle.std.proofs.Common.{◌+◌, List, [], ◌∷◌, ◌++◌, drop, ap, sym, ◌∙◌, append_assoc}
use Rattle.ug_commands.specs.declared.member.Member.{Member}
use Rattle.ug_commands.specs.Groups.{member_in, members_of}
use Rattle.ug_commands.proofs.Places.{next_is}
use Rattle.ug_commands.proofs.members.members_of.Goals as goal

pub loop-id-preserved : goal.loop-id-preserved
loop-id-preserved c =
    let w = c.args.world.now in
    let id = c.loop-id.id in
    let before = c.loop-id.members.items in
    let m = c.in_ok-member_at.field-0 in
    ap (λ (xs : List Member). xs ++ drop (id + 1) (members_of w)) c.in_ok-push.ensures.items
    ∙ append_assoc before (m ∷ []) (drop (id + 1) (members_of w))
    ∙ ap (λ (xs : List Member). before ++ xs) (sym (next_is (member_in w) w.peers id m c.in_ok-member_at.ensures))
    ∙ c.loop-id.invariant
