use Rattle.std.proofs.Common.{List, Option, Some, ap, sym, ◌∙◌}
use Rattle.ug_types.specs.declared.route.Path.{Path}
use Rattle.ug_types.specs.declared.route.PeerEnds.{PeerEnds}
use Rattle.ug_types.specs.declared.route.OutAttrs.{OutAttrs}
use Rattle.std.specs.Option.{option_map}
use Rattle.ug_message.specs.NextHops.{told_to}
use Rattle.ug_outbound.specs.Outbound.{out}
use Rattle.ug_outbound.specs.Keys.{ends_of}
use Rattle.ug_outbound.specs.Tables.{Tables}
use Rattle.ug_outbound.specs.declared.settings.Local.{Local}
use Rattle.ug_world.specs.Private.{path_at}
use Rattle.ug_audit_rules.proofs.Told.{down_is, no_path_is, answer_is}
use Rattle.ug_audit_rules.proofs.routes.route_of.Goals as goal

pub returns-then-not-is_up-clause-route : goal.returns-then-not-is_up-clause-route
returns-then-not-is_up-clause-route g c =
    sym (down_is c.args.world.now c.args.key.now c.args.id (c.is_up.ensures ∙ ap (λ b. Some b) c.if-not-is_up.true))

pub returns-in_default-clause-route : goal.returns-in_default-clause-route
returns-in_default-clause-route g c =
    sym (no_path_is c.args.world.now c.args.key.now c.args.id c.peer-peer.result.now c.peer-peer.ensures
    (ap (λ (paths : List Path). path_at c.peer-peer.result.now.add_path c.args.key.now.id paths) (sym c.paths.ensures) ∙ sym c.path_at.ensures ∙ ap (option_map (λ p. p.now)) c.in_default.is))

pub returns-clause-route : goal.returns-clause-route
returns-clause-route g c =
    let w = c.args.world.now in
    let key = c.args.key.now in
    let group = c.args.group.now in
    let peer = c.peer-peer.result.now in
    let path = c.in-Some.path.now in
    c.told_to.ensures ∙ ap (λ (ends : PeerEnds). option_map (told_to ends) c.in_ok-out.out) c.ends.ensures
    ∙ ap (λ (o : Option OutAttrs). option_map (told_to (ends_of peer)) o)
    (c.in_ok-out.ensures.exact ∙ ap (λ (t : Tables). out group t c.local-local.result.now key.prefix path) c.policies-policies.ensures
    ∙ ap (λ (l : Local). out group w.tables l key.prefix path) c.local-local.ensures)
    ∙ answer_is w key c.args.id peer path group (c.is_up.ensures ∙ ap (λ b. Some b) c.if-not-is_up.false) c.peer-peer.ensures c.requires.group
    (ap (λ (paths : List Path). path_at peer.add_path key.id paths) (sym c.paths.ensures) ∙ sym c.path_at.ensures ∙ ap (option_map (λ p. p.now)) c.in-Some.is)
