use Rattle.ug_outbound.proofs.Bounds.{out_bytes, out_bytes_but_next_hop}
use Rattle.ug_outbound.proofs.Consequences.{no_advertise, no_export, no_export_subconfed, external, first, reflection}
use Rattle.ug_outbound.proofs.laws.outbound_laws.Goals as goal

pub returns-clause-short : goal.returns-clause-short
returns-clause-short c = out_bytes

pub returns-clause-short_but_next_hop : goal.returns-clause-short_but_next_hop
returns-clause-short_but_next_hop c = out_bytes_but_next_hop

pub returns-clause-no_advertise : goal.returns-clause-no_advertise
returns-clause-no_advertise c = no_advertise

pub returns-clause-no_export : goal.returns-clause-no_export
returns-clause-no_export c = no_export

pub returns-clause-no_export_subconfed : goal.returns-clause-no_export_subconfed
returns-clause-no_export_subconfed c = no_export_subconfed

pub returns-clause-external : goal.returns-clause-external
returns-clause-external c = external

pub returns-clause-first : goal.returns-clause-first
returns-clause-first c = first

pub returns-clause-reflection : goal.returns-clause-reflection
returns-clause-reflection c = reflection
