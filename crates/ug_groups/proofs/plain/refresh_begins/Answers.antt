use Rattle.ug_groups.specs.Sent.{session_of}
use Rattle.ug_groups.proofs.PlainPackets.{sent_as, sent_mark}
use Rattle.ug_groups.proofs.plain.refresh_begins.Goals as goal

pub returns-clause-sent : goal.returns-clause-sent
returns-clause-sent c = sent_as (session_of c.args.key.now) c.in_ok-packet.packet _ c.in_ok-packet.ensures (sent_mark c.args.key.now c.args.made c.in_ok-mark.mark c.in_ok-mark.ensures.plain c.in_ok-mark.ensures.text)
