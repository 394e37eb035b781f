use Rattle.std.proofs.Common.{◌≡◌, ◌+◌, ◌≤◌, length, true, arith, subst}
use Rattle.std.proofs.lemmas.Grind.{common_steps}
use Rattle.ug_types.specs.declared.family.Family.{Family}
use Rattle.ug_types.specs.declared.family.Family.TheVariants.{V4}
use Rattle.ug_types.specs.Sessions.{message_limit}
use Rattle.ug_message.specs.Spelling.{next_hop_place}
use Rattle.ug_message.specs.Texts.{attributes_place}
use Rattle.ug_message.specs.Spellable.{can_be_spelled}
use Rattle.ug_message.proofs.Formed.{family_is}
use Rattle.ug_message.proofs.ShortValues.{short_values}
use Rattle.ug_update.proofs.Texts.{written_announcing, ipv4_announcement}
use Rattle.ug_update.proofs.NextHops.{rewritten}
use Rattle.ug_update.proofs.writing.write_update.Goals as goal

pub size_of-attrs_size-requires : goal.size_of-attrs_size-requires
size_of-attrs_size-requires c = short_values c.args.attrs.now (omega (arith, c.requires.short))

pub write_attrs-requires : goal.write_attrs-requires
write_attrs-requires c = short_values c.args.attrs.now (omega (arith, c.requires.short))

pub returns-clause-text : goal.returns-clause-text
returns-clause-text c = λ session is_session le.
    let attrs = c.args.attrs.now in
    let family = family_is attrs.next_hop.family V4 c.requires.next_hop in
    let spelled = subst (λ (f : Family). can_be_spelled f attrs ≡ true) family (c.in_ok-place.ensures.formed c.requires.addresses) in
    let items = c.write_routes.new.out.items in
    let size : length items ≤ message_limit session = grind (arith, common_steps) in
    written_announcing V4 attrs c.args.keys.now items c.requires.some c.requires.alike c.requires.family c.in_ok-write_routes.ensures.formed spelled
    (ipv4_announcement attrs c.args.keys.now items (grind (arith, common_steps))) session is_session size

pub returns-clause-rewritten : goal.returns-clause-rewritten
returns-clause-rewritten c = λ session hop is_session le is_hop.
    let attrs = c.args.attrs.now in
    let family = family_is attrs.next_hop.family V4 c.requires.next_hop in
    let spelled = subst (λ (f : Family). can_be_spelled f attrs ≡ true) family (c.in_ok-place.ensures.formed c.requires.addresses) in
    let items = c.write_routes.new.out.items in
    let size : length items ≤ message_limit session = grind (arith, common_steps) in
    let placed : c.in_ok-place.place ≡ attributes_place + next_hop_place attrs = grind (arith, common_steps) in
    rewritten attrs c.args.keys.now hop items c.in_ok-place.place c.requires.some c.requires.alike c.requires.family c.in_ok-write_routes.ensures.formed spelled is_hop
    (ipv4_announcement attrs c.args.keys.now items (grind (arith, common_steps))) placed session is_session size
