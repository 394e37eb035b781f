use Rattle.ug_events.specs.Grammar.{verb_of, routes_verb_of}
use Rattle.ug_commands.proofs.EventLines.{line_sound}
use Rattle.ug_commands.proofs.laws.lines_are_sound.Goals as goal

pub returns-clause-lines : goal.returns-clause-lines
returns-clause-lines c = line_sound verb_of

pub returns-clause-routes : goal.returns-clause-routes
returns-clause-routes c = line_sound routes_verb_of
