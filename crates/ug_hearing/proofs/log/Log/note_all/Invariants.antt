use Rattle.std.proofs.Common.{◌≡◌, List, length, map, take}
use Rattle.ug_message.specs.Tables.{Table}
use Rattle.ug_hearing.specs.Logs.{IsLog}
use Rattle.ug_hearing.proofs.Logged.{IsNotedTo}
use Rattle.ug_hearing.proofs.log.Log.note_all.Given as goal

abbrev pub invariant-loop-i : goal.invariant-loop-i
invariant-loop-i l =
    (tables : List Table) (table : Table) → IsLog l.fn.self.changes tables → length tables ≡ l.version → l.values ≡ map table l.keys → IsNotedTo (take l.i l.keys) tables table l.fn.self.changes l.self.changes
