use Rattle.std.proofs.Common.{◌≤◌, ℕ, [], ap, sym, subst, ◌∙◌, arith}
use Rattle.std.proofs.lemmas.Grind.{common_steps}
use Rattle.ug_types.specs.declared.family.Family.{Family}
use Rattle.ug_types.specs.Sessions.{message_limit}
use Rattle.ug_message.specs.Texts.{framed, withdrawing}
use Rattle.ug_update.proofs.Texts.{written_nothing}
use Rattle.ug_update.proofs.Texts6.{ipv6_withdrawal, withdrawal_length, eor_fits}
use Rattle.ug_update.proofs.writing6.write_eor6.Goals as goal

pub returns-clause-size : goal.returns-clause-size
returns-clause-size c = let items = c.write_unreach.new.out.items in withdrawal_length [] items (ipv6_withdrawal [] items (grind (arith, common_steps)))

pub returns-clause-text : goal.returns-clause-text
returns-clause-text c = λ session family.
    let items = c.write_unreach.new.out.items in
    let is = ipv6_withdrawal [] items (grind (arith, common_steps)) in
    written_nothing session items (ap (λ (f : Family). framed 2 (withdrawing f [])) family ∙ is)
    (subst (λ (n : ℕ). n ≤ message_limit session) (sym (withdrawal_length [] items is)) (eor_fits session))
