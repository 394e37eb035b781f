use Rattle.ug_message.specs.Streams.{IsUpdate, IsHeeded}
use Rattle.ug_message.proofs.Sent.{sent_is_received, cut_update}
use Rattle.ug_message.proofs.laws.sent_and_received.Goals as goal

pub returns-clause-updates : goal.returns-clause-updates
returns-clause-updates c = λ session. sent_is_received session IsUpdate

pub returns-clause-heeded : goal.returns-clause-heeded
returns-clause-heeded c = λ session. sent_is_received session IsHeeded

pub returns-clause-rest : goal.returns-clause-rest
returns-clause-rest c = cut_update
