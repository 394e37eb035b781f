use Rattle.std.proofs.Common.{refl, map}
use Rattle.ug_main.proofs.begin.Goals as goal

pub returns-clause-one : goal.returns-clause-one
returns-clause-one g c command is = (
  record {
    before = record { files = g.E.Source.files c.args.site.now; picks = g.E.Source.picks c.args.site.now; made = g.E.Source.made c.args.site.now; held = g.K.Sink.held c.args.report.now; faults = g.K.Sink.faults c.args.report.now };
    after = record { picks = g.E.Source.picks c.run-status.new.site; left = g.E.Source.left c.run-status.new.site; made = g.E.Source.made c.run-status.new.site; held = g.K.Sink.held c.run-status.new.report; faults = g.K.Sink.faults c.run-status.new.report };
    status = c.run-status.result.status;
    wires = map (λ wire. record { sessions = g.E.Wire.Wire.sessions wire; faults = g.E.Wire.Wire.faults wire }) c.run-status.result.wires.items;
    made_for = map g.E.Wire.Wire.made_for c.run-status.result.wires.items;
    history = c.run-status.result.history.items;
    spent = c.run-status.result.spent;
  },
  refl,
  refl,
  refl,
  (c.run-status.ensures.one command is, c.run-status.ensures.one_made command is),
)

pub returns-clause-run : goal.returns-clause-run
returns-clause-run g c command is = (
  record {
    before = record { files = g.E.Source.files c.args.site.now; picks = g.E.Source.picks c.args.site.now; made = g.E.Source.made c.args.site.now; held = g.K.Sink.held c.args.report.now; faults = g.K.Sink.faults c.args.report.now };
    after = record { picks = g.E.Source.picks c.run-status.new.site; left = g.E.Source.left c.run-status.new.site; made = g.E.Source.made c.run-status.new.site; held = g.K.Sink.held c.run-status.new.report; faults = g.K.Sink.faults c.run-status.new.report };
    status = c.run-status.result.status;
    wires = map (λ wire. record { sessions = g.E.Wire.Wire.sessions wire; faults = g.E.Wire.Wire.faults wire }) c.run-status.result.wires.items;
    made_for = map g.E.Wire.Wire.made_for c.run-status.result.wires.items;
    history = c.run-status.result.history.items;
    spent = c.run-status.result.spent;
  },
  refl,
  refl,
  refl,
  c.run-status.ensures.run command is,
)

pub returns-clause-drawn : goal.returns-clause-drawn
returns-clause-drawn g c command is = (c.run-status.result.history.items, c.run-status.result.spent, c.run-status.ensures.drawn command is)
