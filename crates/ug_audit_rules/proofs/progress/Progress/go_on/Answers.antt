use Rattle.std.proofs.Common.{List, ◌++◌, slice_get, ap, ◌∙◌, arith}
use Rattle.ug_types.specs.declared.key.Key.{Key}
use Rattle.ug_events.specs.Views.{event_of}
use Rattle.ug_world.specs.declared.peer_state.PeerState.{PeerState}
use Rattle.ug_world.specs.World.{World}
use Rattle.ug_audit_rules.specs.Touched.{keys_at}
use Rattle.ug_audit_rules.proofs.Coming.{comes-by, asked_for, as-many, version-after, some_there}
use Rattle.ug_audit_rules.proofs.progress.Progress.go_on.Goals as goal

pub keys_at-requires-2 : goal.keys_at-requires-2
keys_at-requires-2 g c = let n = as-many (event_of c.args.event.now) c.args.world.now c.take.new.self c.in_ok-take.ensures.ok in let inside = c.requires.id in omega (arith, n, inside)

pub note-requires-clause-id : goal.note-requires-clause-id
note-requires-clause-id g c = let n = as-many (event_of c.args.event.now) c.args.world.now c.take.new.self c.in_ok-take.ensures.ok in let inside = c.requires.id in omega (arith, n, inside)

pub note-requires-clause-version : goal.note-requires-clause-version
note-requires-clause-version g c = let v = ap (λ (x : World). x.version) c.in_ok-take.ensures.ok ∙ version-after (event_of c.args.event.now) c.args.world.now in let few = c.requires.version in omega (arith, v, few)

pub mark-requires-clause-id : goal.mark-requires-clause-id
mark-requires-clause-id g c = let n = as-many (event_of c.args.event.now) c.args.world.now c.take.new.self c.in_ok-take.ensures.ok in let inside = c.requires.id in omega (arith, n, inside)

pub mark-requires-clause-version : goal.mark-requires-clause-version
mark-requires-clause-version g c = let v = ap (λ (x : World). x.version) c.in_ok-take.ensures.ok ∙ version-after (event_of c.args.event.now) c.args.world.now in let few = c.requires.version in omega (arith, v, few)

pub returns-clause-stands : goal.returns-clause-stands
returns-clause-stands g c = λ ws h.
    let e = event_of c.args.event.now in
    let w = c.args.world.now in
    let w' = c.take.new.self in
    let led = c.in_ok-take.ensures.ok in
    let n = as-many e w w' led in
    let inside = c.requires.id in
    let peer = some_there w'.peers c.args.id (omega (arith, n, inside)) in
    let keys = c.deref.ensures.value ∙ c.in_ok-append.ensures.items in
    comes-by e c.args.id ws w w' peer.0 c.deref.result.now c.args.self.now c.note.new.self c.mark.new.self c.requires.accepted led h
    (λ s there later.
    keys
    ∙ (ap (λ (ks : List Key). ks ++ c.in_ok-now.now.items) (asked_for (λ (t : PeerState). keys_at e t.peer w) (slice_get w.peers c.args.id) s c.in_ok-keys.keys.items c.in_ok-keys.ensures there)
    ∙ ap (λ (ks : List Key). keys_at e s.peer w ++ ks) (asked_for (λ (t : PeerState). keys_at e t.peer w') (slice_get w'.peers c.args.id) peer.0 c.in_ok-now.now.items c.in_ok-now.ensures later)))
    peer.1 c.in_ok-note.ensures.noted c.in_ok-note.ensures.begun c.in_ok-note.ensures.ended (c.in_ok-mark.ensures peer.0 peer.1)
