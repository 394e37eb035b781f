use Rattle.std.proofs.Common.{◌<◌, length, arith, sym, ap, ◌∙◌}
use Rattle.std.specs.Option.{option_map}
use Rattle.ug_speaker.specs.Counts.{has}
use Rattle.ug_group_rules.specs.Machine.{has_unlost}
use Rattle.ug_groups.specs.declared.member.Member.{Member}
use Rattle.ug_groups.specs.Members.{member_of}
use Rattle.ug_groups.proofs.ListFacts.{get_none, get-inside}
use Rattle.ug_groups.proofs.MemberViews.{member-get}
use Rattle.ug_groups.proofs.lanes.may_lose.Goals as goal

pub returns-then-place-members : goal.returns-then-place-members
returns-then-place-members c = λ rows.
    sym (ap (has_unlost c.args.session) (member-get rows c.args.place c.args.members.now ∙ ap (option_map (member_of rows c.args.place)) (get_none c.args.members.now c.args.place (omega arith))))

pub returns : goal.returns
returns c = λ rows.
    let inside : c.args.place < length c.args.members.now = omega arith in
    c.has_unlost.ensures ∙ ap (λ (m : Member). has m.unlost.items c.args.session) c.index-members-place.is ∙ sym (ap (has_unlost c.args.session) (member-get rows c.args.place c.args.members.now ∙ ap (option_map (member_of rows c.args.place)) (get-inside c.args.members.now c.args.place c.index-members-place.result inside)))
