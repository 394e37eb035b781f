use Rattle.std.proofs.Common.{rules}
use Rattle.ug_message.proofs.Spliced.{sixteen_put}
use Rattle.ug_message.proofs.packet.put_address.Goals as goal

pub returns-in-V6 : goal.returns-in-V6
returns-in-V6 c = sixteen_put c.args.place c.args.address.now c.to_be_bytes-in-V6.result c.args.buf.now c.put-in-V6.new.buf (search rules) (search rules) (search rules)
