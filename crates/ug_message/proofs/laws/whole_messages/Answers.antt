use Rattle.ug_message.proofs.WholeMessages.{no_proper_prefix, says_or_fails, says_once, fails_once, never_both}
use Rattle.ug_message.proofs.laws.whole_messages.Goals as goal

pub returns-clause-no_proper_prefix : goal.returns-clause-no_proper_prefix
returns-clause-no_proper_prefix c = no_proper_prefix

pub returns-clause-either : goal.returns-clause-either
returns-clause-either c = says_or_fails

pub returns-clause-says_once : goal.returns-clause-says_once
returns-clause-says_once c = says_once

pub returns-clause-fails_once : goal.returns-clause-fails_once
returns-clause-fails_once c = fails_once

pub returns-clause-never_both : goal.returns-clause-never_both
returns-clause-never_both c = never_both
