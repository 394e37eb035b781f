use Rattle.std.proofs.Common.{◌≡◌, ◌++◌, ap, ◌∙◌, length, drop, rules}
use Rattle.ug_types.specs.Ip.{IpAddress}
use Rattle.ug_message.specs.NextHops.{next_hop}
use Rattle.ug_message.specs.Packets.{with_address}
use Rattle.ug_message.proofs.Spliced.{patched}
use Rattle.ug_message.proofs.packet.patch.Goals as goal

pub returns-in-Some-clause-bytes : goal.returns-in-Some-clause-bytes
returns-in-Some-clause-bytes c =
    let packet = c.args.packet.now in
    let hop : c.next_hop-hop.result ≡ next_hop packet.kind packet.raw c.args.ends.now = search rules in
    patched c.in-Some.place c.next_hop-hop.result packet.place packet.bytes c.args.buf.now c.put.new.buf c.put_address.new.buf (search rules) (search rules) (search rules) (search rules)
    ∙ ap (λ (h : IpAddress). with_address packet.place h packet.bytes ++ drop (length packet.bytes) c.args.buf.now) hop
