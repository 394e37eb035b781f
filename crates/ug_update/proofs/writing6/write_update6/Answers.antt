use Rattle.std.proofs.Common.{◌≡◌, ◌≤◌, ◌+◌, ℕ, length, take, drop, true, arith, sym, ap, subst, ◌∙◌}
use Rattle.std.proofs.lemmas.Grind.{common_steps}
use Rattle.ug_types.specs.declared.family.Family.{Family}
use Rattle.ug_types.specs.declared.family.Family.TheVariants.{V6}
use Rattle.ug_types.specs.Sessions.{message_limit}
use Rattle.ug_message.specs.Spelling.{attributes_but_next_hop}
use Rattle.ug_message.specs.Heads.{size_around, reach_place}
use Rattle.ug_message.specs.Spellable.{can_be_spelled}
use Rattle.ug_message.proofs.ShortValues.{short_but_next_hop}
use Rattle.ug_update.specs.Updates.{own_routes}
use Rattle.ug_update.proofs.Texts.{written_announcing}
use Rattle.ug_update.proofs.Texts6.{ipv6_announcement, announcement_length, next_hop_there}
use Rattle.ug_update.proofs.NextHops6.{rewritten}
use Rattle.ug_update.proofs.writing6.write_update6.Goals as goal

pub size_but_next_hop-requires : goal.size_but_next_hop-requires
size_but_next_hop-requires c = short_but_next_hop c.args.attrs.now (omega (arith, c.requires.short))

pub write_but_next_hop-requires : goal.write_but_next_hop-requires
write_but_next_hop-requires c = short_but_next_hop c.args.attrs.now (omega (arith, c.requires.short))

pub returns-clause-size : goal.returns-clause-size
returns-clause-size c =
    let attrs = c.args.attrs.now in
    let routes = own_routes c.args.keys.now in
    let items = c.write_routes.new.out.items in
    let weighed = sym c.routes_size-routes.ensures.length ∙ c.routes_size-routes.ensures.weight in
    announcement_length attrs routes items (ipv6_announcement attrs routes items (grind (arith, common_steps)))
    ∙ ap (λ (n : ℕ). 23 + (length (attributes_but_next_hop attrs) + size_around (21 + n))) weighed

pub returns-clause-text : goal.returns-clause-text
returns-clause-text c = λ session is_session le.
    let attrs = c.args.attrs.now in
    let spelled = subst (λ (f : Family). can_be_spelled f attrs ≡ true) c.requires.next_hop (c.in_ok-write_but_next_hop.ensures.formed c.requires.addresses) in
    let routes = own_routes c.args.keys.now in
    let items = c.write_routes.new.out.items in
    let weighed = sym c.routes_size-routes.ensures.length ∙ c.routes_size-routes.ensures.weight in
    let is = ipv6_announcement attrs routes items (grind (arith, common_steps)) in
    let size = announcement_length attrs routes items is ∙ ap (λ (n : ℕ). 23 + (length (attributes_but_next_hop attrs) + size_around (21 + n))) weighed in
    written_announcing V6 attrs c.args.keys.now items c.requires.some c.requires.alike c.requires.family c.in_ok-write_routes.ensures.formed spelled is session is_session
    (subst (λ (n : ℕ). n ≤ message_limit session) (sym size) le)

pub returns-clause-next_hop : goal.returns-clause-next_hop
returns-clause-next_hop c =
    let attrs = c.args.attrs.now in
    let routes = own_routes c.args.keys.now in
    let items = c.write_routes.new.out.items in
    let weighed = sym c.routes_size-routes.ensures.length ∙ c.routes_size-routes.ensures.weight in
    let place : ℕ = 23 + (length (attributes_but_next_hop attrs) + reach_place (length routes)) in
    let placed : c.in_ok-place.place ≡ place = grind (arith, common_steps, weighed) in
    ap (λ (n : ℕ). take 16 (drop n items)) placed ∙ next_hop_there attrs routes items (grind (arith, common_steps))

pub returns-clause-rewritten : goal.returns-clause-rewritten
returns-clause-rewritten c = λ session hop is_session le is_hop.
    let attrs = c.args.attrs.now in
    let spelled = subst (λ (f : Family). can_be_spelled f attrs ≡ true) c.requires.next_hop (c.in_ok-write_but_next_hop.ensures.formed c.requires.addresses) in
    let routes = own_routes c.args.keys.now in
    let items = c.write_routes.new.out.items in
    let weighed = sym c.routes_size-routes.ensures.length ∙ c.routes_size-routes.ensures.weight in
    let is = ipv6_announcement attrs routes items (grind (arith, common_steps)) in
    let size = announcement_length attrs routes items is ∙ ap (λ (n : ℕ). 23 + (length (attributes_but_next_hop attrs) + size_around (21 + n))) weighed in
    let place : ℕ = 23 + (length (attributes_but_next_hop attrs) + reach_place (length routes)) in
    let placed : c.in_ok-place.place ≡ place = grind (arith, common_steps, weighed) in
    rewritten attrs c.args.keys.now hop items c.in_ok-place.place c.requires.some c.requires.alike c.requires.family c.in_ok-write_routes.ensures.formed spelled is_hop is placed session is_session
    (subst (λ (n : ℕ). n ≤ message_limit session) (sym size) le)
