use Rattle.std.proofs.Common.{◌≡◌, ◌∙◌, ap, false, List, None, map, sym, subst}
use Rattle.std.specs.BTreeMap.{insert_entry}
use Rattle.ug_types.specs.Keys.{prefix_cmp}
use Rattle.ug_types.specs.declared.route.Path.{Path}
use Rattle.ug_events.specs.declared.event.Event.{Event}
use Rattle.ug_events.specs.Views.{event_of}
use Rattle.ug_world.specs.After.{told_row}
use Rattle.ug_world.specs.Verdicts.{is_overfull, path_of, verdict}
use Rattle.ug_world.proofs.Starting.{room}
use Rattle.ug_world.proofs.world.World.take_row.Goals as goal

pub set_row-requires-clause-room : goal.set_row-requires-clause-room
set_row-requires-clause-room c =
    let w = c.args.self.now in
    let row : c.args.row ≡ map (path_of w) c.in-Paths.paths.items = c.requires.row ∙ ap (λ (e : Event). told_row w (event_of e)) c.in-Paths.is in
    subst (λ (r : List Path). is_overfull (insert_entry prefix_cmp w.routes c.in-Paths.prefix r) ≡ false) (sym row)
    (room w c.in-Paths.prefix c.in-Paths.paths.items (subst (λ (e : Event). verdict w (event_of e) ≡ None) c.in-Paths.is c.requires.accepted))
