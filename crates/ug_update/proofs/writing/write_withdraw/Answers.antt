use Rattle.std.proofs.Common.{◌≤◌, length, arith}
use Rattle.std.proofs.lemmas.Grind.{common_steps}
use Rattle.ug_types.specs.declared.family.Family.TheVariants.{V4}
use Rattle.ug_types.specs.Sessions.{message_limit}
use Rattle.ug_update.proofs.Texts.{written_withdrawing, ipv4_withdrawal}
use Rattle.ug_update.proofs.writing.write_withdraw.Goals as goal

pub returns-clause-text : goal.returns-clause-text
returns-clause-text c = λ session is_session le.
    let items = c.write_size-2.new.out.items in
    let size : length items ≤ message_limit session = grind (arith, common_steps) in
    written_withdrawing V4 c.args.keys.now items c.requires.alike c.requires.family c.in_ok-write_routes.ensures.formed
    (ipv4_withdrawal c.args.keys.now items (grind (arith, common_steps))) session is_session size
