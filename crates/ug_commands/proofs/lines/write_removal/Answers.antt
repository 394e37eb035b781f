use Rattle.ug_commands.specs.Texts.{removal_text}
use Rattle.ug_commands.proofs.lines.write_removal.Goals as goal

pub returns : goal.returns
unfolding removal_text
returns c = rw (← c.yes_or_no-remove_private.ensures, ← c.yes_or_no-send_community.ensures) c.in_ok-write.ensures.bytes
