use Rattle.std.proofs.Common.{◌≤◌, ◌+◌, ℕ, arith, sym, ap, subst, ◌∙◌}
use Rattle.std.proofs.lemmas.Grind.{common_steps}
use Rattle.ug_types.specs.declared.family.Family.TheVariants.{V6}
use Rattle.ug_types.specs.Sessions.{message_limit}
use Rattle.ug_message.specs.Heads.{size_around}
use Rattle.ug_update.specs.Updates.{own_routes}
use Rattle.ug_update.proofs.Texts.{written_withdrawing}
use Rattle.ug_update.proofs.Texts6.{ipv6_withdrawal, withdrawal_length}
use Rattle.ug_update.proofs.writing6.write_withdraw6.Goals as goal

pub returns-clause-size : goal.returns-clause-size
returns-clause-size c =
    let routes = own_routes c.args.keys.now in
    let items = c.write_routes.new.out.items in
    let weighed = sym c.routes_size-routes.ensures.length ∙ c.routes_size-routes.ensures.weight in
    withdrawal_length routes items (ipv6_withdrawal routes items (grind (arith, common_steps))) ∙ ap (λ (n : ℕ). 23 + size_around (3 + n)) weighed

pub returns-clause-text : goal.returns-clause-text
returns-clause-text c = λ session is_session le.
    let routes = own_routes c.args.keys.now in
    let items = c.write_routes.new.out.items in
    let weighed = sym c.routes_size-routes.ensures.length ∙ c.routes_size-routes.ensures.weight in
    let is = ipv6_withdrawal routes items (grind (arith, common_steps)) in
    let size = withdrawal_length routes items is ∙ ap (λ (n : ℕ). 23 + size_around (3 + n)) weighed in
    written_withdrawing V6 c.args.keys.now items c.requires.alike c.requires.family c.in_ok-write_routes.ensures.formed is session is_session
    (subst (λ (n : ℕ). n ≤ message_limit session) (sym size) le)
