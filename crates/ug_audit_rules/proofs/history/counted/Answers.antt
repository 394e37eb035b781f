use Rattle.std.proofs.Common.{List, ℕ, length, map, ap, arith}
use Rattle.ug_events.specs.Grammar.{line_of}
use Rattle.ug_world.specs.World.{World}
use Rattle.ug_audit_rules.specs.Lines.{said_in}
use Rattle.ug_audit_rules.proofs.HistorySteps.{noting-begins, noting-goes-on, noting-ends, noting-last}
use Rattle.ug_audit_rules.proofs.history.counted.Goals as goal

pub loop-line-init : goal.loop-line-init
loop-line-init g c =
    let same = c.in_ok-world.ensures in
    let version = ap (λ (w : World). w.version) same in
    let zero_is = c.requires.first.version in
    record {
      noted = noting-begins c.args.first.now c.in_ok-world.world _ (said_in c.args.events.now) c.requires.first same c.new-groups.ensures.items c.in_ok-seats.ensures;
      room = omega (arith, version, zero_is);
    }

pub loop-line-preserved : goal.loop-line-preserved
loop-line-preserved g c =
    let some = c.in-Some.ensures.some in
    let count = ap (λ (ls : List (List ℕ)). length ls) some in
    let room = c.loop-line.invariant.room in
    let version = c.in_ok-note_line.ensures.version in
    record {
      noted = noting-goes-on c.args.first.now c.loop-line.world c.note_line.new.world c.loop-line.history c.note_line.new.self (line_of c.in-Some.line.now) (said_in c.loop-line.rest.now) (said_in c.in-Some.behind.now) (said_in c.args.events.now)
          (ap (λ (ls : List (List ℕ)). map line_of ls) some) c.in_ok-note_line.ensures.world c.in_ok-note_line.ensures.history c.loop-line.invariant.noted;
      room = omega (arith, room, version, count);
    }

pub returns-clause-history : goal.returns-clause-history
returns-clause-history g c =
    noting-ends c.args.first.now c.loop-line.world c.loop-line.history (said_in c.loop-line.rest.now) (said_in c.args.events.now) (ap (λ (ls : List (List ℕ)). map line_of ls) c.in_default.ensures.none) c.loop-line.invariant.noted

pub returns-clause-last : goal.returns-clause-last
returns-clause-last g c =
    noting-last c.args.first.now c.loop-line.world c.loop-line.history (said_in c.loop-line.rest.now) (said_in c.args.events.now) (ap (λ (ls : List (List ℕ)). map line_of ls) c.in_default.ensures.none) c.loop-line.invariant.noted
