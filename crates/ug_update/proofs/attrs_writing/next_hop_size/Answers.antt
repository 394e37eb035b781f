use Rattle.std.proofs.Common.{lit<, ◌∙◌}
use Rattle.ug_types.specs.Attributes.{attributes_of}
use Rattle.ug_message.proofs.AttributeParts.{length_next_hop}
use Rattle.ug_update.proofs.attrs_writing.next_hop_size.Goals as goal

pub size-requires-clause-fits : goal.size-requires-clause-fits
size-requires-clause-fits c = rw (length_next_hop (attributes_of c.args.parts.now)) (lit< tt)

pub returns-clause-small : goal.returns-clause-small
returns-clause-small c = c.size.ensures ∙ length_next_hop (attributes_of c.args.parts.now)
