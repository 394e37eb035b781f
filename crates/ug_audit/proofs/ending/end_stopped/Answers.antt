use Rattle.ug_audit.proofs.Ended.{ended_read, ended_memory, ended_limit, ended_unclear}
use Rattle.ug_edge.specs.Told.{AppendsAll, file_told}
use Rattle.ug_audit.proofs.ending.end_stopped.Goals as goal

pub returns-in-Read-clause-ended : goal.returns-in-Read-clause-ended
returns-in-Read-clause-ended g c = λ command told names names' h. ended_read command (file_told told) (AppendsAll names names') _ _ _ c.args.stop c.end.result c.in-Read.is c.end.ensures.status h c.end.ensures.report

pub returns-in-NoMemory-clause-ended : goal.returns-in-NoMemory-clause-ended
returns-in-NoMemory-clause-ended g c = λ command told names names' h.
    ended_memory command (file_told told) (AppendsAll names names') _ _ _ c.args.stop c.end-in-NoMemory.result c.in-NoMemory.is c.end-in-NoMemory.ensures.status h c.end-in-NoMemory.ensures.report

pub returns-in-TooLong-clause-ended : goal.returns-in-TooLong-clause-ended
returns-in-TooLong-clause-ended g c = λ command told names names' h.
    ended_limit command (file_told told) (AppendsAll names names') _ _ _ c.args.stop c.end-in-TooLong.result c.in-TooLong.is c.end-in-TooLong.ensures.status h c.end-in-TooLong.ensures.report

pub returns-in-Unclear-clause-ended : goal.returns-in-Unclear-clause-ended
returns-in-Unclear-clause-ended g c = λ command told names names' h.
    ended_unclear command (file_told told) (AppendsAll names names') _ _ _ c.args.stop c.end_unclear.result c.in-Unclear.line c.in-Unclear.is c.end_unclear.ensures.status c.end_unclear.ensures.unclear c.end_unclear.ensures.starved h
