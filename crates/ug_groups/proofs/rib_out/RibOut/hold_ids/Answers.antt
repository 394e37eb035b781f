use Rattle.std.proofs.Common.{sym, ap, ◌∙◌}
use Rattle.ug_groups.specs.FamilyRibs.{rib_of}
use Rattle.ug_groups.proofs.TableHolders.{room_left}
use Rattle.ug_groups.proofs.rib_out.RibOut.hold_ids.Goals as goal

pub hold_all-requires-in-V4-clause-room : goal.hold_all-requires-in-V4-clause-room
hold_all-requires-in-V4-clause-room c = room_left c.args.pool.now c.hold_all.new.pool _ c.args.self.now (ap rib_of (sym c.in-V4.is) ∙ c.self.view_is) c.requires.room c.hold_all.ensures.uses

pub hold_all-requires-in-V6-2-clause-room : goal.hold_all-requires-in-V6-2-clause-room
hold_all-requires-in-V6-2-clause-room c = room_left c.args.pool.now c.hold_all-in-V6.new.pool _ c.args.self.now (ap rib_of (sym c.in-V6.is) ∙ c.self.view_is) c.requires.room c.hold_all-in-V6.ensures.uses
