use Rattle.std.proofs.Common.{◌∙◌}
use Rattle.ug_adjout.specs.Seats.{seat_in}
use Rattle.ug_adjout.proofs.Handles.{nobody_waits, lined_put, named_put, same_names, lined_same, key_some}
use Rattle.ug_adjout.proofs.queue.Queue.begin.Goals as goal

pub add-requires : goal.add-requires
add-requires g c = nobody_waits (seat_in c.self.inside.rows) c.self.inside.line c.args.place c.self.invariant (rw (← c.self.view_is) at c.requires.free)

pub invariant_of-self-2 : goal.invariant_of-self-2
invariant_of-self-2 g c =
    let lined = lined_put (seat_in c.self.inside.rows) c.self.inside.line c.args.place c.in-Some.handle c.args.value c.self.invariant (key_some ((seat_in c.self.inside.rows) c.in-Some.handle) c.args.key c.in-Some.ensures.key) in
    rw c.in_ok-add.ensures.ok (lined_same (seat_in c.self.inside.rows) (seat_in c.put.new.self) c.put.ensures.keys _ lined)

pub returns-clause-waiting : goal.returns-clause-waiting
returns-clause-waiting g c =
    let lined = lined_put (seat_in c.self.inside.rows) c.self.inside.line c.args.place c.in-Some.handle c.args.value c.self.invariant (key_some ((seat_in c.self.inside.rows) c.in-Some.handle) c.args.key c.in-Some.ensures.key) in
    rw (← c.self.view_is, c.in_ok-add.ensures.ok)
    (same_names (seat_in c.self.inside.rows) (seat_in c.put.new.self) c.put.ensures.keys _ lined ∙ named_put (seat_in c.self.inside.rows) c.self.inside.line c.args.place c.in-Some.handle c.args.value c.args.key c.self.invariant.in_line c.in-Some.ensures.key)
