use Rattle.ug_commands.specs.Texts.{capability_text}
use Rattle.ug_commands.proofs.lines.write_capabilities.Goals as goal

pub returns : goal.returns
unfolding capability_text
returns c = rw (← c.yes_or_no-extended.ensures, ← c.yes_or_no-enhanced_refresh.ensures) c.in_ok-write.ensures.bytes
