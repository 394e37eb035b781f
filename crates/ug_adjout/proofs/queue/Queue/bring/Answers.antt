use Rattle.std.proofs.Common.{ap, ◌∙◌}
use Rattle.std.specs.Ordering.{nat_cmp}
use Rattle.std.specs.Map.{remove_entry}
use Rattle.std.specs.BTreeMap.{is_at}
use Rattle.ug_adjout.specs.Seats.{seat_in}
use Rattle.ug_adjout.proofs.Handles.{nobody_waits, waits_by_handle, still_there, lined_put, lined_removed, named_put, named_removed, same_names, lined_same, key_some}
use Rattle.ug_adjout.proofs.queue.Queue.bring.Goals as goal

pub add-requires : goal.add-requires
add-requires g c = nobody_waits (seat_in c.self.inside.rows) c.self.inside.line c.args.place c.self.invariant (rw (← c.self.view_is) at c.requires.free)

pub remove-requires : goal.remove-requires
remove-requires g c =
    let own = waits_by_handle (seat_in c.self.inside.rows) c.self.inside.line c.args.was c.args.waiting c.in-Some.handle c.self.invariant.in_line (λ other e. c.in-Some.ensures.only other e) (rw (← c.self.view_is) at c.requires.waits) in
    let free = nobody_waits (seat_in c.self.inside.rows) c.self.inside.line c.args.place c.self.invariant (rw (← c.self.view_is) at c.requires.free) in
    rw c.in_ok-add.ensures.ok (still_there c.self.inside.line c.args.was c.args.place _ _ own free)

pub invariant_of-self-2 : goal.invariant_of-self-2
invariant_of-self-2 g c =
    let lined = lined_put (seat_in c.self.inside.rows) c.self.inside.line c.args.place c.in-Some.handle c.args.waiting.value c.self.invariant (key_some ((seat_in c.self.inside.rows) c.in-Some.handle) c.args.waiting.key c.in-Some.ensures.key) in
    rw (c.remove.ensures, c.in_ok-add.ensures.ok) (lined_removed (seat_in c.put.new.self) _ c.args.was (lined_same (seat_in c.self.inside.rows) (seat_in c.put.new.self) c.put.ensures.keys _ lined))

pub returns-clause-waiting : goal.returns-clause-waiting
returns-clause-waiting g c =
    let lined = lined_put (seat_in c.self.inside.rows) c.self.inside.line c.args.place c.in-Some.handle c.args.waiting.value c.self.invariant (key_some ((seat_in c.self.inside.rows) c.in-Some.handle) c.args.waiting.key c.in-Some.ensures.key) in
    let now = lined_same (seat_in c.self.inside.rows) (seat_in c.put.new.self) c.put.ensures.keys _ lined in
    rw (← c.self.view_is, c.remove.ensures, c.in_ok-add.ensures.ok)
    (named_removed (seat_in c.put.new.self) _ c.args.was now.in_line
    ∙ ap (remove_entry (is_at (nat_cmp c.args.was)))
    (same_names (seat_in c.self.inside.rows) (seat_in c.put.new.self) c.put.ensures.keys _ lined
    ∙ named_put (seat_in c.self.inside.rows) c.self.inside.line c.args.place c.in-Some.handle c.args.waiting.value c.args.waiting.key c.self.invariant.in_line c.in-Some.ensures.key))
