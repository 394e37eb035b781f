use Rattle.ug_message.proofs.OneText.{same_text, text_within}
use Rattle.ug_message.proofs.laws.one_text.Goals as goal

pub returns-clause-same : goal.returns-clause-same
returns-clause-same c = same_text

pub returns-clause-within : goal.returns-clause-within
returns-clause-within c = text_within
