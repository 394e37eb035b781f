use Rattle.std.proofs.Common.{List, slice_get, sym, ap, subst, ◌∙◌, arith}
use Rattle.ug_groups.specs.Rows.{Rows}
use Rattle.ug_groups.specs.declared.member.Member.{Member}
use Rattle.std.proofs.lemmas.Bool.{eq-eqb}
use Rattle.ug_speaker.specs.Counts.{sessions_at}
use Rattle.ug_groups.specs.Changes.{left_rows}
use Rattle.ug_groups.proofs.Queued.{apart-test}
use Rattle.ug_groups.specs.Members.{is_sub, sub_at}
use Rattle.ug_groups.specs.Steps.{IsLost}
use Rattle.ug_groups.proofs.Lost.{lost-none, lost-earlier, lost-present}
use Rattle.ug_groups.proofs.Stepping.{had}
use Rattle.ug_groups.proofs.lanes.lose.Goals as goal

pub returns-then-place-members : goal.returns-then-place-members
returns-then-place-members c = lost-none c.args.world.now c.args.peer c.args.session c.args.subgroups.now c.args.members.now (omega arith)

pub leave-requires : goal.leave-requires
leave-requires c = λ p g. c.requires.2.seated p g ∙ ap (is_sub g) (sym (c.note.ensures.subs p))

pub returns-then-session-sessions : goal.returns-then-session-sessions
returns-then-session-sessions c =
    let same = had (slice_get c.args.world.now.peers c.args.peer) c.session-sessions.result c.session-sessions.ensures in
    let present = eq-eqb c.args.session (sessions_at c.args.peer c.args.world.now) (omega (arith, same)) in
    let lost = lost-present c.args.world.now c.args.peer c.args.session c.args.subgroups.now c.args.members.now c.know_rows.ensures c.requires c.note.new.members c.note.ensures present in
    subst (λ (rows : Rows). IsLost c.args.world.now c.args.peer c.args.session c.args.subgroups.now c.args.members.now rows c.leave.new.members) (sym c.leave.ensures.rows)
    (subst (λ (l : List Member). IsLost c.args.world.now c.args.peer c.args.session c.args.subgroups.now c.args.members.now (left_rows c.args.peer (sub_at c.args.peer c.note.new.members) c.args.subgroups.now) l) (sym c.leave.ensures.members) lost)

pub returns-else-session-sessions : goal.returns-else-session-sessions
returns-else-session-sessions c =
    let same = had (slice_get c.args.world.now.peers c.args.peer) c.session-sessions.result c.session-sessions.ensures in
    let other = c.if-session-sessions.false in
    let earlier = apart-test c.args.session (sessions_at c.args.peer c.args.world.now) (λ e. absurd (omega (arith, same, e, other))) in
    lost-earlier c.args.world.now c.args.peer c.args.session c.args.subgroups.now c.args.members.now c.know_rows.ensures c.requires c.note.new.members c.note.ensures earlier
