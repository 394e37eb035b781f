use Rattle.ug_groups.specs.Sent.{session_of}
use Rattle.ug_groups.proofs.PlainPackets.{sent_as, sent_eor}
use Rattle.ug_groups.proofs.plain.end_of_rib.Goals as goal

pub returns-clause-sent : goal.returns-clause-sent
returns-clause-sent c = sent_as (session_of c.args.key.now) c.in_ok-packet.packet _ c.in_ok-packet.ensures (sent_eor c.args.key.now c.args.made c.in_ok-eor.eor c.in_ok-eor.ensures.plain c.in_ok-eor.ensures.text)
