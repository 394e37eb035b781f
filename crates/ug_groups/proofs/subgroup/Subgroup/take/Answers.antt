use Rattle.std.specs.Prelude.{[], Some, slice_get}
use Rattle.std.proofs.Common.{◌≡◌, sym, subst, ap, ◌∙◌, arith, true}
use Rattle.ug_message.specs.Spellable.{is_address}
use Rattle.ug_queue.specs.Queues.{Queued, past_next, rest_of, shed}
use Rattle.ug_group_rules.specs.Packets.{Packet}
use Rattle.ug_groups.specs.Packets.{Packed}
use Rattle.ug_groups.specs.Sent.{session_of, IsSent}
use Rattle.ug_groups.specs.Subgroups.{Grouped, said_queue, IsHanded}
use Rattle.ug_groups.proofs.SaidQueues.{shed_said, next_said, nothing_left, next_left, first_left}
use Rattle.ug_groups.proofs.HandedTexts.{own_family, handed}
use Rattle.ug_groups.proofs.subgroup.Subgroup.take.Goals as goal

pub returns-in_default-clause-none : goal.returns-in_default-clause-none
returns-in_default-clause-none c =
    let first = ap (λ m. slice_get (rest_of c.self.inside.queue m) 0) (sym c.stand-stand.ensures.member) ∙ sym c.in_default.ensures in
    subst (λ (g : Grouped). rest_of g.queue c.args.member ≡ []) c.self.view_is (nothing_left c.self.inside.queue c.args.member first)

pub send-len-requires-clause-room : goal.send-len-requires-clause-room
send-len-requires-clause-room c =
    let sent = first_left (IsSent (session_of c.self.inside.point.key)) c.self.inside.queue c.stand-stand.result.member c.in-Some.packet.now c.self.invariant (sym c.in-Some.ensures) in
    let short = sent.short in omega (arith, short, c.requires.room)

pub send-len-requires-clause-family : goal.send-len-requires-clause-family
send-len-requires-clause-family c =
    let sent = first_left (IsSent (session_of c.self.inside.point.key)) c.self.inside.queue c.stand-stand.result.member c.in-Some.packet.now c.self.invariant (sym c.in-Some.ensures) in
    sent.raw ∙ sym (own_family c.self.inside.point.key.family c.args.ends.now.local (subst (λ (g : Grouped). is_address g.point.key.family c.args.ends.now.local ≡ true) (sym c.self.view_is) c.requires.own))

pub returns-clause-some : goal.returns-clause-some
returns-clause-some c =
    let i = c.self.inside in let ends = c.args.ends.now in let p = c.in-Some.packet.now in
    let first = c.in-Some.ensures ∙ ap (λ m. slice_get (rest_of i.queue m) 0) c.stand-stand.ensures.member in
    let sent = first_left (IsSent (session_of i.point.key)) i.queue c.args.member p c.self.invariant (sym first) in
    let short = sent.short in
    subst (λ (g : Grouped). IsHanded g.point.key ends (rest_of g.queue c.args.member) c.send-len.new.buf (record { made = c.made-made.result; len = c.send-len.result })) c.self.view_is
    (handed i.point.key ends (subst (λ (g : Grouped). is_address g.point.key.family ends.local ≡ true) (sym c.self.view_is) c.requires.own) p sent
    (rest_of (said_queue i.queue) c.args.member) (next_left i.queue c.args.member (Some p) first) c.args.buf.now c.send-len.new.buf (record { made = c.made-made.result; len = c.send-len.result })
    c.made-made.ensures c.send-len.ensures.size (omega (arith, short, c.requires.room)) c.send-len.ensures.kept c.send-len.ensures.bytes)

pub returns-clause-queue : goal.returns-clause-queue
returns-clause-queue c =
    let i = c.self.inside in
    ap (λ (q : Queued Packed). record { point = i.point; queue = said_queue q }) (c.advance.ensures ∙ ap (λ m. shed (past_next i.queue m)) c.stand-stand.ensures.member)
    ∙ ap (λ (q : Queued Packet). record { point = i.point; queue = q }) (shed_said (past_next i.queue c.args.member) ∙ ap shed (next_said i.queue c.args.member))
    ∙ ap (λ (g : Grouped). record { point = g.point; queue = shed (past_next g.queue c.args.member) }) c.self.view_is
