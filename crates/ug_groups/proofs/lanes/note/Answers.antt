use Rattle.std.proofs.Common.{◌<◌, List, sym, subst, length, slice_index_or}
use Rattle.ug_groups.specs.declared.member.Member.{Member}
use Rattle.ug_groups.specs.Steps.{IsNoted}
use Rattle.ug_groups.proofs.ListFacts.{get-inside, set-inside}
use Rattle.ug_groups.proofs.Lost.{noted-by}
use Rattle.ug_groups.proofs.lanes.note.Goals as goal

pub returns : goal.returns
returns c =
    let inside : c.args.place < length c.args.members.now = c.requires in
    let d = c.index-members-place.result in
    let e = c.forget.ensures in
    subst (λ (l : List Member). IsNoted c.args.place c.args.session c.args.members.now l) (sym (set-inside c.args.members.now c.args.place c.forget.new.member inside))
    (noted-by c.args.place c.args.session c.args.members.now (slice_index_or c.args.members.now c.args.place d) c.forget.new.member (get-inside c.args.members.now c.args.place d inside) e.begun e.unlost e.spare e.handed e.sub)
