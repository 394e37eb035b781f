use Rattle.ug_message.proofs.WholeMessages.{one_stream, one_fault, no_fault_there}
use Rattle.ug_message.proofs.laws.streams.Goals as goal

pub returns-clause-messages_once : goal.returns-clause-messages_once
returns-clause-messages_once c = one_stream

pub returns-clause-fault_once : goal.returns-clause-fault_once
returns-clause-fault_once c = one_fault

pub returns-clause-never_both : goal.returns-clause-never_both
returns-clause-never_both c = no_fault_there
