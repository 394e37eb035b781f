use Rattle.std.proofs.Common.{◌≡◌, take}
use Rattle.std.specs.Prelude.{◌&&◌, not}
use Rattle.ug_types.specs.declared.key.Key.{Key}
use Rattle.ug_message.specs.Tables.{among}
use Rattle.ug_hearing.proofs.naming.all_but.Given as goal

abbrev pub invariant-loop-key : goal.invariant-loop-key
invariant-loop-key l = (q : Key) → among l.left.items q ≡ (among (take l.key-index l.keys) q && not (among l.others q))
