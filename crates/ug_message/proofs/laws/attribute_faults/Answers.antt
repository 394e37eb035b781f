use Rattle.ug_message.proofs.WorkedFaults as faults
use Rattle.ug_message.proofs.laws.attribute_faults.Goals as goal

pub returns-clause-cut_short : goal.returns-clause-cut_short
returns-clause-cut_short c = faults.cut_short

pub returns-clause-twice : goal.returns-clause-twice
returns-clause-twice c = faults.twice

pub returns-clause-other_flags : goal.returns-clause-other_flags
returns-clause-other_flags c = faults.other_flags

pub returns-clause-partial : goal.returns-clause-partial
returns-clause-partial c = faults.partial

pub returns-clause-other_length : goal.returns-clause-other_length
returns-clause-other_length c = faults.other_length

pub returns-clause-fourth_origin : goal.returns-clause-fourth_origin
returns-clause-fourth_origin c = faults.fourth_origin

pub returns-clause-empty_segment : goal.returns-clause-empty_segment
returns-clause-empty_segment c = faults.empty_segment

pub returns-clause-missing : goal.returns-clause-missing
returns-clause-missing c = faults.missing

pub returns-clause-unknown : goal.returns-clause-unknown
returns-clause-unknown c = faults.unknown

pub returns-clause-unknown_optional : goal.returns-clause-unknown_optional
returns-clause-unknown_optional c = faults.unknown_optional

pub returns-clause-other_family : goal.returns-clause-other_family
returns-clause-other_family c = faults.other_family

pub returns-clause-short_next_hop : goal.returns-clause-short_next_hop
returns-clause-short_next_hop c = faults.short_next_hop
