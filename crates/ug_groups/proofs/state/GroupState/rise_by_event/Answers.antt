use Rattle.std.proofs.Common.{◌≡◌, true, false, Option, Some, None, refl, sym, ◌∙◌}
use Rattle.std.specs.Prelude.{is_some}
use Rattle.std.specs.Option.{option_map}
use Rattle.ug_events.specs.Views.{event_of}
use Rattle.ug_groups.proofs.StateJobs.{take-open}
use Rattle.ug_groups.proofs.TakeDues.{routes-rise}
use Rattle.ug_groups.proofs.state.GroupState.rise_by_event.Goals as goal

none-named : {T U : Type 0} (f : T → U) (o : Option T) → is_some o ≡ false → option_map f o ≡ None
none-named f None e = refl
none-named f (Some x) e = absurd cc

pub prove-unreachable-requires : goal.prove-unreachable-requires
prove-unreachable-requires c =
    let i = c.self.inside in
    let open_ : i.closed ≡ false = take-open i.world i.closed i.made i.subgroups i.members.items c.args.self.now c.self.view_is (event_of c.args.event.now) c.requires in
    let closed : i.closed ≡ true = c.if-prove.true in
    absurd cc

pub returns : goal.returns
returns c =
    let i = c.self.inside in
    routes-rise i.world i.closed i.made i.subgroups i.members.items c.args.self.now c.self.view_is c.self.invariant c.if-prove.false (event_of c.args.event.now)
    (sym c.peer_of.ensures ∙ none-named _ c.peer_of.result (sym c.is_some.ensures ∙ c.if-is_some.false))
