use Rattle.ug_audit_rules.proofs.Sourced.{halts_so, reads_so, stops_so}
use Rattle.ug_audit_rules.proofs.source.read_report.Goals as goal

pub returns-in-Err-clause-halted : goal.returns-in-Err-clause-halted
returns-in-Err-clause-halted g c =
    halts_so c.args.last.now c.read_pieces.new.context c.new-reading.result c.read_pieces.new.taker (g.E.Source.left c.args.source.now) (g.E.Source.left c.read_pieces.new.source) (c.new-reading.ensures c.args.last.now c.most_kept.ensures) c.in-Err.halt c.in-Err.ensures.halted

pub returns-in-Ok-end-clause-ok : goal.returns-in-Ok-end-clause-ok
returns-in-Ok-end-clause-ok g c =
    reads_so c.args.last.now c.read_pieces.new.context c.new-reading.result c.read_pieces.new.taker (g.E.Source.left c.args.source.now) (g.E.Source.left c.read_pieces.new.source) (c.new-reading.ensures c.args.last.now c.most_kept.ensures) c.end.new.self.told
    c.in-Ok.ensures.ok c.in-Ok-end.ensures.read

pub returns-in-Err-end-clause-halted : goal.returns-in-Err-end-clause-halted
returns-in-Err-end-clause-halted g c =
    stops_so c.args.last.now c.read_pieces.new.context c.new-reading.result c.read_pieces.new.taker (g.E.Source.left c.args.source.now) (g.E.Source.left c.read_pieces.new.source) (c.new-reading.ensures c.args.last.now c.most_kept.ensures) c.in-Err-end.stop
    c.in-Ok.ensures.ok c.in-Err-end.ensures.stopped
