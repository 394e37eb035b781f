use Rattle.std.proofs.Common.{◌≤◌, [], length, ap, ◌∙◌, arith}
use Rattle.std.proofs.lemmas.Grind.{common_steps}
use Rattle.ug_types.specs.declared.family.Family.{Family}
use Rattle.ug_types.specs.Sessions.{message_limit}
use Rattle.ug_message.specs.Texts.{framed, withdrawing}
use Rattle.ug_message.proofs.Spelled.{mark_fits}
use Rattle.ug_update.proofs.Texts.{written_nothing, ipv4_nothing}
use Rattle.ug_update.proofs.writing.write_eor.Goals as goal

pub returns-clause-text : goal.returns-clause-text
returns-clause-text c = λ session family.
    let items = c.write_size-2.new.out.items in
    let size : length items ≤ message_limit session = let fits = mark_fits session in grind (arith, common_steps) in
    written_nothing session items (ap (λ (f : Family). framed 2 (withdrawing f [])) family ∙ ipv4_nothing items (grind (arith, common_steps))) size
